-- `decoding::counts::total` meets its contract. `Running`: the sum of the counts passed.
use Rattle.decoding.proofs.Running.{Running}
use Rattle.decoding.proofs.counts.total.Given as goal

abbrev pub invariant-loop-v : goal.invariant-loop-v
invariant-loop-v l = Running l.file l.sum l.v
