-- `storage::answer::cells` meets its contract.
use mathlib.Core.Path.{refl}
use Rattle.storage.specs.promise.Answer.{winner_cells}
use Rattle.storage.proofs.answer.cells.Goals as goal

pub returns : goal.returns
unfolding winner_cells
returns c = refl
