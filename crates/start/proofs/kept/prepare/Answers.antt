-- `start::kept::prepare` meets its contract. The invariant, `Prepared`: the lines of the vertices passed are those that the engine starts with.
use native.Mathlib.Omega.{arith}
use Rattle.storage.proofs.Stores.{has_room}
use Rattle.start.proofs.kept.prepare.Goals as goal

pub start_mark-requires : goal.start_mark-requires
start_mark-requires c =
    let l = c.loop-v-test.true in
    (omega arith, has_room c.requires.old_stored l, omega arith)

pub set_mark-requires : goal.set_mark-requires
set_mark-requires c = has_room c.loop-v.invariant.stored c.loop-v-test.true
