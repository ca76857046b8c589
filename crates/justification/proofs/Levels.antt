-- What settling and turning leave of where supports stay above, and of the levels.
use Prim.Native.Nat.{ℕ, ◌<◌}
use mathlib.Core.Path.{◌≡◌, sym, ◌∙◌}
use mathlib.Core.Logic.{◌≢◌, ⊎_elim}
use native.Mathlib.Nat.{le_trans}
use native.Mathlib.Omega.{arith}
use Rattle.player.specs.promise.Player.{parity_of, opponent_of}
use Rattle.game.specs.promise.Game.{Game}
use Rattle.justification.specs.parts.Safe.{Support, Safe, Above, Onward, Eligible, Levelled}
use Rattle.justification.specs.parts.Step.{TestGives, Kept, Leaning, Turned}
use Rattle.justification.proofs.Walks.{upto}
use Rattle.justification.proofs.Cases.{at_or_else}
use Rattle.justification.proofs.Lines.{within, steady_walk, settled_step, same_step}
use Rattle.justification.proofs.Eligible.{above_steps, settled_onward}
use Rattle.justification.proofs.Outside.{leaning_downward, turned_same, outside_above, outside_level}

-- levels that change at v only
relevel : (g : Game) (mark move settled : ℕ → ℕ) {level level' : ℕ → ℕ} (v : ℕ) → Above g mark move settled v (level' v) → ((u : ℕ) → u < g.n → u ≢ v → settled u ≡ 1 → Above g mark move settled u (level u)) → ((u : ℕ) → u < g.n → u ≢ v → level' u ≡ level u) → Levelled g mark move settled level'
relevel g mark move settled {level'} v here elsewhere others =
    record {
      above =
          at_or_else v (λ u. u < g.n → settled u ≡ 1 → Above g mark move settled u (level' u)) (λ l s. here)
          (λ u d l s. rw (others u l d) (elsewhere u l d s));
    }

module _
    (g : Game) (mark move settled mark' move' settled' : ℕ → ℕ) (v m : ℕ)
    (eligible : Eligible g mark move settled v (parity_of (g.priority v)) m)
    (kept : Kept mark move settled mark' move' settled' g v m)
  where
    -- a step out of another vertex is an old one
    pub kept_step : (x y : ℕ) → x ≢ v → Support g mark' move' settled' x y → Support g mark move settled x y
    kept_step x y d s = same_step g mark move settled mark' move' settled' (kept.elsewhere x s.edge.from d) s

    -- what is open was open
    was_open : (u : ℕ) → u < g.n → settled' u ≢ 1 → settled u ≢ 1
    was_open =
        at_or_else v (λ u. u < g.n → settled' u ≢ 1 → settled u ≢ 1) (λ l f. absurd (f kept.here.flag))
        (λ u d l f e. f ((kept.elsewhere u l d).flag ∙ e))

    -- a walk to an open vertex is old, or passes v, which was open and leads on to no lower one
    pub kept_above : {x k : ℕ} → x < g.n → Above g mark move settled x k → Above g mark' move' settled' x k
    kept_above l a =
        record {
          high =
              λ u w f.
              let o : settled u ≢ 1 = was_open u (within g mark' move' settled' l w) f in
              ⊎_elim (λ w. a.high u w o) (λ w. le_trans (a.high v w.0 eligible.unsettled) w.1)
              (upto v kept_step (λ y s w. (settled_onward g mark move settled mark' move' settled' kept.here eligible.onward s).high u w o) w);
        }

    -- v stays above what it leads on to
    pub kept_here : {k : ℕ} → Onward g mark move settled v (parity_of (g.priority v)) m k → Above g mark' move' settled' v k
    kept_here onward =
        above_steps g mark' move' settled' kept.here.flag
        (λ w s. kept_above s.edge.to (settled_onward g mark move settled mark' move' settled' kept.here onward s))

    -- so v gets such a level, and the others keep theirs
    pub kept_levelled : {level level' : ℕ → ℕ} → Levelled g mark move settled level → Onward g mark move settled v (parity_of (g.priority v)) m (level' v) → ((u : ℕ) → u < g.n → u ≢ v → level' u ≡ level u) → Levelled g mark' move' settled' level'
    kept_levelled levelled onward =
        relevel g mark' move' settled' v (kept_here onward)
        (λ u l d s. kept_above l (levelled.above u l (sym (kept.elsewhere u l d).flag ∙ s)))

module _
    (g : Game) (mark move settled mark' move' settled' : ℕ → ℕ) (R : ℕ → Type 0) (v m : ℕ)
    (safe : Safe g mark move settled) (eligible : Eligible g mark move settled v (opponent_of (parity_of (g.priority v))) m)
    (tested : TestGives g mark v (opponent_of (parity_of (g.priority v))) m)
    (leaning : Leaning g mark move settled v R)
    (turned : Turned mark move settled mark' move' settled' g R v m)
  where
    -- v's new successors have the opponent's mark, and what leans on v has v's
    pub turned_out : (y : ℕ) → Support g mark' move' settled' v y → ¬ R y
    turned_out y s r =
        let a : mark v ≡ mark y = steady_walk g mark move settled safe (leaning.leads y s.edge.to r) in
        let b : mark v ≡ parity_of (g.priority v) = safe.default v eligible.vertex eligible.unsettled in
        let c : mark y ≡ opponent_of (parity_of (g.priority v)) = settled_step g mark move settled mark' move' settled' tested turned.here s in
        omega arith

    -- what does not lean on v stays above what it stayed above
    pub turned_above : {x k : ℕ} → x < g.n → ¬ R x → Above g mark move settled x k → Above g mark' move' settled' x k
    turned_above = outside_above g mark move settled mark' move' settled' R (leaning_downward leaning) (turned_same leaning turned)

    -- v stays above what it leads on to
    pub turned_here : {k : ℕ} → Onward g mark move settled v (opponent_of (parity_of (g.priority v))) m k → Above g mark' move' settled' v k
    turned_here onward =
        above_steps g mark' move' settled' turned.here.flag
        (λ w s. turned_above s.edge.to (turned_out w s) (settled_onward g mark move settled mark' move' settled' turned.here onward s))

    -- what is settled is v, which gets such a level, or outside R
    pub turned_levelled : {level level' : ℕ → ℕ} → Levelled g mark move settled level → Onward g mark move settled v (opponent_of (parity_of (g.priority v))) m (level' v) → ((u : ℕ) → u < g.n → u ≢ v → level' u ≡ level u) → Levelled g mark' move' settled' level'
    turned_levelled levelled onward =
        relevel g mark' move' settled' v (turned_here onward)
        (λ u l d s.
        outside_level g mark move settled mark' move' settled' R (leaning_downward leaning) (turned_same leaning turned) levelled l
        (λ r. (turned.reopened u l d r).0 s) s)
