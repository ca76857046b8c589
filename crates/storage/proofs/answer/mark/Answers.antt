-- `storage::answer::mark` meets its contract: it reads the winners' list where `mark_of` does.
use borrow.Author.Rules.{rules}
use Rattle.storage.specs.promise.Answer.{mark_room, mark_of}
use mathlib.Core.Path.{refl}
use Rattle.storage.proofs.answer.mark.Goals as goal

pub bounds-winners-v : goal.bounds-winners-v
unfolding mark_room
bounds-winners-v c = search rules

pub returns : goal.returns
unfolding mark_of
returns c = refl
