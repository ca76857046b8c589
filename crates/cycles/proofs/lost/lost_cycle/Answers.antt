-- `cycles::lost::lost_cycle` meets its contract: the levels are set (Prepared); afterwards the work space is zero again.
use Rattle.cycles.proofs.Prepared.{rounding}
use Rattle.cycles.proofs.lost.lost_cycle.Goals as goal

pub lowest_lost-found-requires : goal.lowest_lost-found-requires
lowest_lost-found-requires c = rounding c.requires c.set_levels.ensures
