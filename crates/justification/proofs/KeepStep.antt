-- Settling an eligible vertex with the mark of its own parity keeps the invariants.
use Prim.Native.Nat.{ℕ, ◌<◌, ◌≤◌}
use mathlib.Core.Path.{◌≡◌, sym, ap, ◌∙◌}
use mathlib.Core.Logic.{◌≢◌, ⊎_elim}
use native.Mathlib.Nat.{le_antisymm}
use Rattle.player.specs.promise.Player.{parity_of}
use Rattle.player.proofs.Players.{parity_player}
use Rattle.game.specs.promise.Game.{Game}
use Rattle.winning.specs.promise.Walk.{Walk, step}
use Rattle.winning.proofs.Walks.{map_walk}
use Rattle.winning.specs.parts.Low.{Low}
use Rattle.justification.specs.parts.Safe.{Support, Safe, Eligible}
use Rattle.justification.specs.parts.Step.{TestGives, Kept}
use Rattle.justification.proofs.Walks.{upto}
use Rattle.justification.proofs.Cases.{at_or_else}
use Rattle.justification.proofs.Lines.{Line, safe_of, steady, steady_walk, settled_line, settled_step, same_line}
use Rattle.justification.proofs.Eligible.{safe_above}
use Rattle.justification.proofs.Levels.{kept_step, kept_above}

module _
    (g : Game) (mark move settled mark' move' settled' : ℕ → ℕ) (v m : ℕ)
    (safe : Safe g mark move settled) (eligible : Eligible g mark move settled v (parity_of (g.priority v)) m)
    (tested : TestGives g mark v (parity_of (g.priority v)) m)
    (kept : Kept mark move settled mark' move' settled' g v m)
  where
    abbrev Old : ℕ → ℕ → Type 0
    Old = Support g mark move settled

    abbrev New : ℕ → ℕ → Type 0
    New = Support g mark' move' settled'

    line : (u : ℕ) → u < g.n → Line g mark' move' settled' u
    line =
        at_or_else v (λ u. u < g.n → Line g mark' move' settled' u)
        (λ l. settled_line g mark move settled mark' move' settled' tested kept.here (parity_player (g.priority v)))
        (λ u d l. same_line g mark move settled mark' move' settled' (kept.elsewhere u l d) safe l)

    -- no mark changes: v was open, so its mark was its own parity
    marks : (u : ℕ) → u < g.n → mark' u ≡ mark u
    marks =
        at_or_else v (λ u. u < g.n → mark' u ≡ mark u) (λ l. kept.here.marked ∙ sym (safe.default v l eligible.unsettled))
        (λ u d l. (kept.elsewhere u l d).marked)

    -- a step out of another vertex is an old one
    old : (x y : ℕ) → x ≢ v → New x y → Old x y
    old = kept_step g mark move settled mark' move' settled' v m eligible kept

    constant : (x y : ℕ) → New x y → mark' y ≡ mark' x
    constant =
        at_or_else v (λ x. (y : ℕ) → New x y → mark' y ≡ mark' x)
        (λ y s. marks y s.edge.to ∙ settled_step g mark move settled mark' move' settled' tested kept.here s ∙ sym kept.here.marked)
        (λ x d y s. marks y s.edge.to ∙ steady g mark move settled safe (old x y d s) ∙ sym (marks x s.edge.from))

    -- what a vertex was above it stays above, so its own priority
    low : (x u : ℕ) → x < g.n → Walk New x u → settled' u ≢ 1 → g.priority x ≤ g.priority u
    low x u l w f = (kept_above g mark move settled mark' move' settled' v m eligible kept l (safe_above g mark move settled safe l)).high u w f

    -- a closed walk is old, or passes v and has v's priority as its highest
    round : (x y : ℕ) → New x y → Walk (Low g New (g.priority x)) y x → mark' x ≡ parity_of (g.priority x)
    round =
        at_or_else v (λ x. (y : ℕ) → New x y → Walk (Low g New (g.priority x)) y x → mark' x ≡ parity_of (g.priority x))
        (λ y s w. kept.here.marked) around
      where
        around : (x : ℕ) → x ≢ v → (y : ℕ) → New x y → Walk (Low g New (g.priority x)) y x → mark' x ≡ parity_of (g.priority x)
        around x d y s w =
            marks x s.edge.from ∙
            ⊎_elim (safe.good x y (old x y d s))
            (λ w.
            let a : Walk Old x v = step (old x y d s) (map_walk (λ a b s. s.taken) w.0) in
            let e : g.priority x ≡ g.priority v = le_antisymm (safe.below x v s.edge.from a eligible.unsettled) w.1 in
            sym (steady_walk g mark move settled safe a) ∙ safe.default v eligible.vertex eligible.unsettled ∙ ap parity_of (sym e))
            (upto v (λ a b d s. record { taken = old a b d s.taken; low = s.low }) (λ y s w. s.low) w)

    pub keeps : Safe g mark' move' settled'
    keeps = safe_of g mark' move' settled' line constant low round
