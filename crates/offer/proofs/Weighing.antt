-- Weighing the vertices of a stretch: those below i are marked for the winner, and no floor is below the least so far.
use Prim.Native.Nat.{ℕ, ◌<◌, ◌≤◌}
use mathlib.Core.Path.{◌≡◌}
use mathlib.Core.List.{List}
use native.Mathlib.Omega.{arith}
use lib.ListN.{length, get_or}
use Rattle.storage.specs.promise.Answer.{mark_room, mark_of}
use Rattle.storage.proofs.Stores.{has_room}
use Rattle.space.specs.declared.desk.Desk.{Desk}
use Rattle.offer.specs.parts.Offering.{Grounds, AllSeen}

pub record Weighing (winner bound : ℕ) (stretch priorities levels winners work : List ℕ) (least i : ℕ) : Type 0 where
  pub bounded : bound ≤ least
  pub mark : (j : ℕ) → j < i → mark_of winners (get_or stretch j 0) ≡ winner
  pub grounds : (j : ℕ) → j < i → Grounds priorities levels work least (get_or stretch j 0)

-- a vertex of the stretch has a mark
pub weighing_room :
    {stretch priorities : List ℕ} {d : Desk} {winners work : List ℕ} {i t : ℕ} →
    AllSeen stretch priorities d winners work → i < length stretch → t ≡ get_or stretch i 0 → t < mark_room winners
weighing_room {stretch} {priorities} {d} {winners} {work} {i} {t} p l e = has_room p.known.stored (omega (arith, p.vertex i l))
