-- `reopen::reopen` meets its contract. The invariant, `Reopening`: the queue's places below i are open again, what is not reached is as it was.
use Rattle.reopen.proofs.Reopens.{Reopening}
use Rattle.reopen.proofs.reopen.Given as goal

abbrev pub invariant-loop-i : goal.invariant-loop-i
invariant-loop-i l = Reopening l.n l.priorities l.initial.desk l.initial.winners l.initial.work l.from l.desk l.winners l.work l.low l.i
