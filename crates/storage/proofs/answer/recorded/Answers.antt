-- `storage::answer::recorded` meets its contract: it reads the list of moves where `move_of` does.
use Rattle.storage.specs.promise.Answer.{move_of}
use mathlib.Core.Path.{refl}
use Rattle.storage.proofs.answer.recorded.Goals as goal

pub returns : goal.returns
unfolding move_of
returns c = refl
