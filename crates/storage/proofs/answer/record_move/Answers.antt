-- `storage::answer::record_move` meets its contract: one vertex's move is changed, by the law of a store (Stores).
use Rattle.storage.proofs.Stores.{move_set}
use Rattle.storage.proofs.answer.record_move.Goals as goal

pub returns : goal.returns
returns c = move_set _ _ _ c.requires
