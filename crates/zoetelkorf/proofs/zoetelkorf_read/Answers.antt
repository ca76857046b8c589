-- `zoetelkorf::zoetelkorf_read` meets its contract. What `read` says, as a number and a value (Telling).
use native.Mathlib.Omega.{arith}
use Rattle.housefile.specs.promise.Reading.{read_said, Reads}
use mathlib.Core.Path.{refl}
use Rattle.zoetelkorf.proofs.Telling.{sizes_small, told}
use Rattle.zoetelkorf.proofs.zoetelkorf_read.Goals as goal

pub sizes-requires : goal.sizes-requires
sizes-requires c = sizes_small _ _ _ (λ k. omega (arith, c.type_inv.file k)) c.in-Ok.is c.read.ensures

pub returns-in-Ok : goal.returns-in-Ok
returns-in-Ok c = told _ read_said (Reads _ _ _) c.in-Ok.is c.read.ensures refl c.sizes.ensures

pub returns-in-Err : goal.returns-in-Err
returns-in-Err c = told _ read_said (Reads _ _ _) c.in-Err.is c.read.ensures c.refused.ensures.number_is c.refused.ensures.value_is
