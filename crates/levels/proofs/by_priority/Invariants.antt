-- `levels::by_priority` meets its contract. The invariant, `Levelling`: the vertices below v have their priorities as levels.
use Rattle.levels.proofs.Floors.{Levelling}
use Rattle.levels.proofs.by_priority.Given as goal

abbrev pub invariant-loop-v : goal.invariant-loop-v
invariant-loop-v l = Levelling l.priorities l.initial.desk l.desk l.v
