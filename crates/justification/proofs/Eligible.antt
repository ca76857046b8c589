-- Above and eligible: where supports stay above a priority, and which open vertices may be settled or turned.
use Prim.Native.Nat.{ℕ, ◌<◌, ◌≤◌}
use mathlib.Core.Path.{◌≡◌, sym, ◌∙◌}
use mathlib.Core.Logic.{◌≢◌}
use native.Mathlib.Nat.{le_refl, le_trans}
use Rattle.game.specs.promise.Game.{Game}
use Rattle.winning.specs.promise.Walk.{Walk, stay, step}
use Rattle.justification.specs.parts.Safe.{Support, Safe, Above, Onward, Eligible}
use Rattle.justification.specs.parts.Step.{Settled}
use Rattle.justification.proofs.Lines.{within}

module _ (g : Game) (mark move settled : ℕ → ℕ) where
  -- what holds of a bound holds of a lower one
  pub above_less : {v j k : ℕ} → j ≤ k → Above g mark move settled v k → Above g mark move settled v j
  above_less l a = record { high = λ u w f. le_trans l (a.high u w f) }

  -- a settled vertex stays above what its steps stay above
  pub above_steps : {v k : ℕ} → settled v ≡ 1 → ((w : ℕ) → Support g mark move settled v w → Above g mark move settled w k) → Above g mark move settled v k
  above_steps {v} {k} e next = record { high = λ u w f. high w f }
    where
      high : {u : ℕ} → Walk (Support g mark move settled) v u → settled u ≢ 1 → k ≤ g.priority u
      high stay f = absurd (f e)
      high {u} (step {w = y} s w) f = (next y s).high u w f

  -- from an open vertex no support step leads
  pub open_above : {v : ℕ} → settled v ≢ 1 → Above g mark move settled v (g.priority v)
  open_above {v} o = record { high = λ u w f. high w }
    where
      high : {u : ℕ} → Walk (Support g mark move settled) v u → g.priority v ≤ g.priority u
      high stay = le_refl _
      high (step s w) = absurd (o s.justified)

  -- a safe state's vertices stay above their own priorities
  pub safe_above : {v : ℕ} → Safe g mark move settled → v < g.n → Above g mark move settled v (g.priority v)
  safe_above {v} safe l = record { high = λ u w f. safe.below v u l w f }

  -- where no vertex of a priority below k is open, every vertex stays above k
  pub none_below_above : {w k : ℕ} → ((u : ℕ) → u < g.n → settled u ≢ 1 → k ≤ g.priority u) → w < g.n → Above g mark move settled w k
  none_below_above none l = record { high = λ u w f. none u (within g mark move settled l w) f }

  -- so an open vertex of least priority may get any winner and move
  pub least_eligible : {v p m : ℕ} → v < g.n → settled v ≢ 1 → ((u : ℕ) → u < g.n → settled u ≢ 1 → g.priority v ≤ g.priority u) → Eligible g mark move settled v p m
  least_eligible l f least = record { vertex = l; unsettled = f; onward = λ w e fixed. none_below_above least e.to }

-- v's new steps lead where its new line does
pub settled_onward : (g : Game) (mark move settled mark' move' settled' : ℕ → ℕ) {v p m k w : ℕ} → Settled mark move settled mark' move' settled' v p m → Onward g mark move settled v p m k → Support g mark' move' settled' v w → Above g mark move settled w k
settled_onward g mark move settled mark' move' settled' {w} here onward s = onward w s.edge (λ o. s.fixed (o ∙ sym here.marked) ∙ here.moved)
