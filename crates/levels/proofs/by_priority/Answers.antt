-- `levels::by_priority` meets its contract. The invariant, `Levelling`: the vertices below v have their priorities as levels.
use native.Mathlib.Omega.{arith}
use Rattle.levels.proofs.Floors.{levelling_more}
use Rattle.levels.proofs.by_priority.Goals as goal

pub loop-v-preserved : goal.loop-v-preserved
loop-v-preserved c = levelling_more c.loop-v.invariant c.from.ensures (omega (arith, c.loop-v-test.true, c.requires.small)) c.set_level.ensures
