-- `reopen::reopen` meets its contract. The invariant, `Reopening`: the queue's places below i are open again, what is not reached is as it was.
use mathlib.Core.Path.{◌∙◌}
use Rattle.reopen.proofs.Reopens.{reopening_place, reopening_room}
use Rattle.reopen.proofs.reopen.Goals as goal

pub queued-requires : goal.queued-requires
queued-requires c = reopening_place c.requires c.loop-i.invariant c.loop-i-test.true

pub set_mark-requires : goal.set_mark-requires
set_mark-requires c = reopening_room c.requires c.loop-i.invariant c.loop-i-test.true (c.from-u.ensures ∙ c.queued.ensures)
