-- `sweep::gather` meets its contract. The invariant, `Gathering`: there is a pile, and x stands in the line. No line has more than n.
use Rattle.sweep.proofs.Gathers.{Gathering, Stands}
use Rattle.sweep.proofs.gather.Given as goal

abbrev pub invariant-loop : goal.invariant-loop
invariant-loop l = Gathering l.n l.initial.desk l.desk l.tail × Stands l.n l.priority l.initial.desk l.work l.x
