-- `zoetelkorf::zoetelkorf_check` meets its contract. What `check` says, as a number and a value (Telling).
use Rattle.refusal.specs.promise.Number.{tested_said}
use Rattle.checker.specs.promise.Checking.{Checks}
use mathlib.Core.Path.{refl}
use Rattle.zoetelkorf.proofs.Telling.{told}
use Rattle.zoetelkorf.proofs.zoetelkorf_check.Goals as goal

pub returns-in-Ok : goal.returns-in-Ok
returns-in-Ok c = told _ tested_said (Checks _ _ _ _) c.in-Ok.is c.check.ensures refl refl

pub returns-in-Err : goal.returns-in-Err
returns-in-Err c = told _ tested_said (Checks _ _ _ _) c.in-Err.is c.check.ensures c.refused.ensures.number_is c.refused.ensures.value_is
