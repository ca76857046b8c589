-- `zoetelkorf::zoetelkorf_solve` meets its contract. What `solve` says, as a number and a value (Telling).
use Rattle.refusal.specs.promise.Number.{tested_said}
use Rattle.solver.specs.promise.Solving.{Solves}
use mathlib.Core.Path.{refl}
use Rattle.zoetelkorf.proofs.Telling.{told}
use Rattle.zoetelkorf.proofs.zoetelkorf_solve.Goals as goal

pub returns-in-Ok : goal.returns-in-Ok
returns-in-Ok c = told _ tested_said (Solves _ _ _) c.in-Ok.is c.solve.ensures refl refl

pub returns-in-Err : goal.returns-in-Err
returns-in-Err c = told _ tested_said (Solves _ _ _) c.in-Err.is c.solve.ensures c.refused.ensures.number_is c.refused.ensures.value_is
