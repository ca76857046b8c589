-- `reach::closure::visit` meets its contract. The invariant, `VisitingIn`: what is reached and the queue have grown by starts of allowed steps to w, and the
-- predecessors at the places below i are passed.
use native.Mathlib.Omega.{arith}
use Rattle.reach.proofs.Visits.{visiting_triable}
use Rattle.reach.proofs.closure.visit.Goals as goal

pub try_step-end-requires : goal.try_step-end-requires
try_step-end-requires c = visiting_triable c.requires (omega arith) c.loop-i.invariant c.from.ensures
