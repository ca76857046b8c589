-- What every test of an answer asks.
use Rattle.std.specs.Prelude.{◌≡◌, length}
use Rattle.game.specs.promise.Tables.{Tables, vertices, WellFormed}
use Rattle.storage.specs.promise.Answer.{Answer}
use Rattle.storage.specs.parts.Answers.{Stored}

-- an answer to a well-formed game: a mark and a move for each vertex
pub record Answered (t : Tables) (a : Answer) : Type 0 where
  pub well_formed : WellFormed t
  pub stored : Stored (vertices t) a.winners
  pub moves_long : length a.moves ≡ vertices t
