-- `start::fresh::open_all` meets its contract. The invariant, `Opening`: the vertices below v are open, and not reached by a closure.
use mathlib.Core.Path.{◌∙◌}
use Rattle.start.proofs.Opening.{opening_room, opening_more}
use Rattle.start.proofs.fresh.open_all.Goals as goal

pub set_mark-requires : goal.set_mark-requires
set_mark-requires c = opening_room c.requires c.loop-v-test.true c.loop-v.invariant

pub loop-v-preserved : goal.loop-v-preserved
loop-v-preserved c = opening_more c.requires c.loop-v-test.true c.loop-v.invariant (c.from.ensures ∙ c.of_priority.ensures) c.set_mark.ensures c.set_flag.ensures c.set_reached.ensures
