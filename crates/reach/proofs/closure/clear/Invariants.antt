-- `reach::closure::clear` meets its contract. The invariant, `ClearingIn`: the reached vertices that are left are in the queue from place i on.
use Rattle.reach.proofs.Clears.{ClearingIn}
use Rattle.reach.proofs.closure.clear.Given as goal

abbrev pub invariant-loop-i : goal.invariant-loop-i
invariant-loop-i l = ClearingIn l.n l.initial.work l.tail l.work l.i
