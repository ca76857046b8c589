-- `offer::all_for` meets its contract. The invariant, `Weighing`: the vertices passed are marked for the winner, and no floor is below the least so far.
use Rattle.offer.proofs.Weighing.{weighing_room}
use Rattle.offer.proofs.all_for.Goals as goal

pub mark-requires : goal.mark-requires
mark-requires c = weighing_room c.requires c.loop-to-test.true c.from-t.ensures
