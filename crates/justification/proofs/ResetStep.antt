-- Opening again a set that holds whatever leans on what it holds keeps the invariants, and what is known of the rest.
use Prim.Native.Nat.{ℕ, ◌<◌}
use Rattle.game.specs.promise.Game.{Game}
use Rattle.justification.specs.parts.Safe.{Safe, Above}
use Rattle.justification.specs.parts.Step.{Reset, Downward}
use Rattle.justification.proofs.Lines.{open_line}
use Rattle.justification.proofs.Outside.{outside_above, outside_safe}

module _
    (g : Game) (mark move settled mark' move' settled' : ℕ → ℕ) (R : ℕ → Type 0)
    (downward : Downward g mark move settled R)
    (reset : Reset mark move settled mark' move' settled' g R)
  where
    -- what R holds is open, so no step starts there
    pub resets : Safe g mark move settled → Safe g mark' move' settled'
    resets safe =
        outside_safe g mark move settled mark' move' settled' R downward reset.elsewhere safe
        (λ u l r. let o = reset.reopened u l r in open_line g mark' move' settled' o.0 o.1)
        (λ x y r s. absurd ((reset.reopened x s.edge.from r).0 s.justified))

    -- what R does not hold stays above what it stayed above
    pub reset_above : {x k : ℕ} → x < g.n → ¬ R x → Above g mark move settled x k → Above g mark' move' settled' x k
    reset_above = outside_above g mark move settled mark' move' settled' R downward reset.elsewhere
