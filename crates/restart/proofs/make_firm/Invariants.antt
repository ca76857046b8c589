-- `restart::make_firm` meets its contract. The invariant, `Firming`: the unreached vertices below v have a level above all priorities.
use Rattle.restart.proofs.Firms.{Firming}
use Rattle.restart.proofs.make_firm.Given as goal

abbrev pub invariant-loop-v : goal.invariant-loop-v
invariant-loop-v l = Firming l.n l.initial.desk l.work l.desk l.v
