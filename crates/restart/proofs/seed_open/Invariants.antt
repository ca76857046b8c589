-- `restart::seed_open` meets its contract. The invariant, `Seeding`: the open vertices below v are reached, and no others.
use Rattle.restart.proofs.Seeds.{Seeding}
use Rattle.restart.proofs.seed_open.Given as goal

abbrev pub invariant-loop-v : goal.invariant-loop-v
invariant-loop-v l = Seeding l.n l.initial.work l.work l.tail l.v
