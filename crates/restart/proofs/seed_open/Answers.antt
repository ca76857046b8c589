-- `restart::seed_open` meets its contract. The invariant, `Seeding`: the open vertices below v are reached, and no others.
use Rattle.restart.proofs.Seeds.{seeding_none}
use Rattle.restart.proofs.seed_open.Goals as goal

pub loop-v-init : goal.loop-v-init
loop-v-init c = seeding_none c.requires
