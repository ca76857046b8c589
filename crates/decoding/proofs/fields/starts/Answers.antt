-- `decoding::fields::starts` meets its contract. `Running`: the sum of the counts passed; `FilledTo`: the starts up to it stand in the blank table.
use native.Mathlib.Omega.{arith}
use Rattle.std.proofs.lemmas.Grind.{common_steps}
use Rattle.format.proofs.Lists.{starts_long}
use Rattle.decoding.proofs.Running.{running_more, running_low, running_start}
use Rattle.decoding.proofs.Filling.{filled_all}
use Rattle.decoding.proofs.fields.starts.Goals as goal

pub overflow_add-sum : goal.overflow_add-sum
overflow_add-sum c = omega (arith, running_low c.count-sum.ensures c.loop-v.invariant.0 c.requires.0 (omega arith), c.requires.0.sized.edges)

pub loop-v-preserved : goal.loop-v-preserved
loop-v-preserved c =
    let run = running_more c.count-sum.ensures c.loop-v.invariant.0 (omega arith) in
    let start = running_start (omega arith) run in
    (run, grind (arith, common_steps))

pub returns : goal.returns
returns c = filled_all _ _ _ (omega (arith, c.requires.1.long)) (omega (arith, starts_long c.args.file.now)) c.loop-v.invariant.1
