-- `storage::answer::set_mark` meets its contract: one vertex's mark is changed, by the law of a store (Stores).
use borrow.Author.Rules.{rules}
use Rattle.storage.proofs.Stores.{mark_set}
use Rattle.storage.specs.promise.Answer.{mark_room}
use Rattle.storage.proofs.answer.set_mark.Goals as goal

pub bounds-winners-v : goal.bounds-winners-v
unfolding mark_room
bounds-winners-v c = search rules

pub returns : goal.returns
returns c = mark_set _ _ _ c.requires
