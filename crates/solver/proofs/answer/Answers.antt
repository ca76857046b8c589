-- `solver::answer` meets its contract: the start with nothing kept is safe, and what the engine leaves is the answer (Fresh).
use Rattle.lists.proofs.Stores.{filled_copies}
use Rattle.solver.proofs.Fresh.{startable, settleable, answered}
use Rattle.solver.proofs.answer.Goals as goal

pub open_all-requires : goal.open_all-requires
open_all-requires c = startable _ _ c.requires

pub settle-requires : goal.settle-requires
settle-requires c = rw (c.incoming.ensures.0, c.incoming.ensures.1) (settleable _ _ c.requires c.open_all.ensures c.list.ensures)

pub returns : goal.returns
returns c = answered _ _ c.requires c.open_all.ensures c.settle.ensures c.fill.ensures.len (filled_copies _ (c.fill.ensures.after (λ y e. e)))
