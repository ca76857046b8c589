-- `reach::closure::clear` meets its contract. The invariant, `ClearingIn`: the reached vertices that are left are in the queue from place i on.
use Rattle.reach.proofs.Clears.{clearing_place}
use Rattle.reach.proofs.closure.clear.Goals as goal

pub queued-requires : goal.queued-requires
queued-requires c = clearing_place c.requires c.loop-i.invariant c.loop-i-test.true
