-- `reach::closure::visit` meets its contract. The invariant, `VisitingIn`: what is reached and the queue have grown by starts of allowed steps to w, and the
-- predecessors at the places below i are passed.
use Rattle.reach.proofs.Visits.{VisitingIn}
use Rattle.reach.proofs.closure.visit.Given as goal

abbrev pub invariant-loop-i : goal.invariant-loop-i
invariant-loop-i l = VisitingIn l.n l.w l.preds.ins.now l.preds.froms.now l.choice l.bound l.initial.work l.tail l.work l.i l.end
