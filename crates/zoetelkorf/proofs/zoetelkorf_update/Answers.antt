-- `zoetelkorf::zoetelkorf_update` meets its contract. What `update` says, as a number and a value (Telling).
use Rattle.update.specs.promise.Updating.{updated_said, Updates}
use mathlib.Core.Path.{refl}
use Rattle.zoetelkorf.proofs.Telling.{told}
use Rattle.zoetelkorf.proofs.zoetelkorf_update.Goals as goal

pub returns-in-Ok : goal.returns-in-Ok
returns-in-Ok c = told _ updated_said (Updates _ _ _) c.in-Ok.is c.update.ensures refl refl

pub returns-in-Err : goal.returns-in-Err
returns-in-Err c = told _ updated_said (Updates _ _ _) c.in-Err.is c.update.ensures c.refused.ensures.number_is c.refused.ensures.value_is
