-- `decoding::fields::starts` meets its contract. `Running`: the sum of the counts passed; `FilledTo`: the starts up to it stand in the blank table.
use Prim.Native.Nat.{◌+◌}
use Rattle.format.specs.promise.Filed.{starts_filed}
use Rattle.decoding.proofs.Running.{Running}
use Rattle.decoding.proofs.Filling.{FilledTo}
use Rattle.decoding.proofs.fields.starts.Given as goal

abbrev pub invariant-loop-v : goal.invariant-loop-v
invariant-loop-v l = Running l.file l.sum l.v × FilledTo (starts_filed l.file) l.table (l.v + 1)
