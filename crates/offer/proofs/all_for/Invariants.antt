-- `offer::all_for` meets its contract. The invariant, `Weighing`: the vertices passed are marked for the winner, and no floor is below the least so far.
use Rattle.offer.proofs.Weighing.{Weighing}
use Rattle.offer.proofs.all_for.Given as goal

abbrev pub invariant-loop-to : goal.invariant-loop-to
invariant-loop-to l = Weighing l.winner l.bound l.stretch l.priorities l.desk.levels l.winners l.work l.least l.to-index
