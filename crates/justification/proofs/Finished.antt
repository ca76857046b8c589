-- When nothing is open, a safe state is an accepted answer.
use Prim.Native.Nat.{ℕ}
use mathlib.Core.Path.{sym}
use Rattle.refusal.specs.promise.Row.{NoPlace}
use Rattle.game.specs.promise.Game.{Game}
use Rattle.winning.proofs.Walks.{map_walk}
use Rattle.winning.specs.promise.Faults.{Recorded, Fault12, own, other, Fault13, Fault14, Accepted}
use Rattle.winning.proofs.Cycles.{round_of}
use Rattle.justification.specs.parts.Safe.{Support, Safe, Done}

module _ (g : Game) (mark move settled : ℕ → ℕ) (safe : Safe g mark move settled) (done : Done g mark move settled) where
  -- where all is settled, a recorded step is a support step
  supported : (x y : ℕ) → Recorded g mark move x y → Support g mark move settled x y
  supported x y r = record { justified = done x r.edge.from; edge = r.edge; fixed = r.fixed }

  move_right : NoPlace (Fault12 g mark move)
  move_right x (own l o wrong) = wrong (safe.own x l (done x l) o)
  move_right x (other l o wrong) = wrong (safe.form x l (done x l) o)

  no_escape : NoPlace (Fault13 g mark move)
  no_escape x f = f.differs (safe.other x f.successor (done x f.edge.from) f.loser f.edge)

  cycles_won : NoPlace (Fault14 g mark move)
  cycles_won x f =
      let r = round_of g (Recorded g mark move) x f.rest f.cycle f.own_highest in
      f.lost
      (sym (safe.good x r.0 (supported x r.0 r.1) (map_walk (λ a b s. record { taken = supported a b s.taken; low = s.low }) r.2)))

  pub finished : Accepted g mark move
  finished = record { players = safe.player; none = (move_right, (no_escape, (cycles_won, tt))) }
