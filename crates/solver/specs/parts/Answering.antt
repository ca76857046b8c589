-- What the part after the tests asks.
use Rattle.std.specs.Prelude.{◌*◌, ◌≡◌, length}
use Rattle.game.specs.promise.Tables.{Tables, vertices, WellFormed}
use Rattle.storage.specs.parts.Answers.{Stored}
use Rattle.storage.specs.promise.Lent.{Lent}

-- 1 to 8 do not apply
pub record Answerable (t : Tables) (lent : Lent) : Type 0 where
  pub well_formed : WellFormed t
  pub stored : Stored (vertices t) lent.answer.winners
  pub moves_long : length lent.answer.moves ≡ vertices t
  pub work_long : length lent.work ≡ 4 * vertices t
