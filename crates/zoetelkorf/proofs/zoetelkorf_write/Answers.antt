-- `zoetelkorf::zoetelkorf_write` meets its contract. What `write` says, as a number and a value (Telling).
use Rattle.writer.specs.promise.Writing.{written_said, Writes}
use mathlib.Core.Path.{refl}
use Rattle.zoetelkorf.proofs.Telling.{told}
use Rattle.zoetelkorf.proofs.zoetelkorf_write.Goals as goal

pub returns-in-Ok : goal.returns-in-Ok
returns-in-Ok c = told _ written_said (Writes _ _ _) c.in-Ok.is c.write.ensures refl refl

pub returns-in-Err : goal.returns-in-Err
returns-in-Err c = told _ written_said (Writes _ _ _) c.in-Err.is c.write.ensures c.refused.ensures.number_is c.refused.ensures.value_is
