-- `reach::closure::seed` meets its contract: a vertex that is not reached leaves room in the queue, by counting.
use mathlib.Core.Path.{refl}
use native.Mathlib.Omega.{arith}
use Rattle.reach.proofs.Queues.{room, tail_cell, pushed_in}
use Rattle.reach.proofs.closure.seed.Goals as goal

pub set_queued-requires : goal.set_queued-requires
set_queued-requires c = tail_cell c.requires c.set_reached.ensures

pub overflow_add-result : goal.overflow_add-result
overflow_add-result c = omega (arith, room c.requires.seedable, c.requires.seedable.small)

pub returns : goal.returns
returns c = pushed_in c.requires c.set_reached.ensures refl c.set_queued.ensures
