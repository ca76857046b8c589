-- Turning an eligible vertex to the opponent, and reopening what leans on it, keeps the invariants.
use Prim.Native.Nat.{ℕ, ◌<◌}
use mathlib.Core.Path.{sym, ◌∙◌}
use Rattle.player.specs.promise.Player.{parity_of, opponent_of}
use Rattle.player.proofs.Players.{opponent_player}
use Rattle.game.specs.promise.Game.{Game}
use Rattle.justification.specs.parts.Safe.{Support, Safe, Eligible}
use Rattle.justification.specs.parts.Step.{TestGives, Leaning, Turned}
use Rattle.justification.proofs.Cases.{at_or_else}
use Rattle.justification.proofs.Lines.{Line, open_line, settled_line, settled_step}
use Rattle.justification.proofs.Eligible.{settled_onward}
use Rattle.justification.proofs.Outside.{leaning_downward, turned_same, Leaving, outside_safe}
use Rattle.justification.proofs.Levels.{turned_out}

module _
    (g : Game) (mark move settled mark' move' settled' : ℕ → ℕ) (R : ℕ → Type 0) (v m : ℕ)
    (safe : Safe g mark move settled) (eligible : Eligible g mark move settled v (opponent_of (parity_of (g.priority v))) m)
    (tested : TestGives g mark v (opponent_of (parity_of (g.priority v))) m)
    (leaning : Leaning g mark move settled v R)
    (turned : Turned mark move settled mark' move' settled' g R v m)
  where
    -- v has the test's line, the rest of R is open
    inside : (u : ℕ) → u < g.n → R u → Line g mark' move' settled' u
    inside =
        at_or_else v (λ u. u < g.n → R u → Line g mark' move' settled' u)
        (λ l r. settled_line g mark move settled mark' move' settled' tested turned.here (opponent_player (parity_of (g.priority v))))
        (λ u d l r. let o = turned.reopened u l d r in open_line g mark' move' settled' o.0 o.1)

    -- so only v's steps start in R
    leaves : (x y : ℕ) → R x → Support g mark' move' settled' x y → Leaving g mark move settled mark' R x y
    leaves =
        at_or_else v (λ x. (y : ℕ) → R x → Support g mark' move' settled' x y → Leaving g mark move settled mark' R x y)
        (λ y r s.
        record {
          out = turned_out g mark move settled mark' move' settled' R v m safe eligible tested leaning turned y s;
          marked = settled_step g mark move settled mark' move' settled' tested turned.here s ∙ sym turned.here.marked;
          above = settled_onward g mark move settled mark' move' settled' turned.here eligible.onward s;
        })
        (λ x d y r s. absurd ((turned.reopened x s.edge.from d r).0 s.justified))

    pub turns : Safe g mark' move' settled'
    turns = outside_safe g mark move settled mark' move' settled' R (leaning_downward leaning) (turned_same leaning turned) safe inside leaves
