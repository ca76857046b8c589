-- What the test of a vertex by its successors' marks asks and gives.
use Rattle.std.specs.Prelude.{ℕ, ◌<◌, List}
use Rattle.player.specs.promise.Player.{IsPlayer}
use Rattle.game.specs.promise.Tables.{game_of, WellFormed, Tables, vertices}
use Rattle.storage.specs.promise.Answer.{mark_of}
use Rattle.storage.specs.parts.Answers.{Stored}
use Rattle.justification.specs.parts.Step.{TestGives}

-- the test asks a vertex of a well-formed game, and a mark for every vertex
pub record Testable (v : ℕ) (tables : Tables) (winners : List ℕ) : Type 0 where
  pub well_formed : WellFormed tables
  pub vertex : v < vertices tables
  pub stored : Stored (vertices tables) winners
  pub player : (u : ℕ) → u < vertices tables → IsPlayer (mark_of winners u)

-- and gives who wins v by its successors' marks, and his move
pub record TestedBy (v : ℕ) (tables : Tables) (winners : List ℕ) (winner to : ℕ) : Type 0 where
  pub tested : TestGives (game_of tables) (mark_of winners) v winner to
  pub player : IsPlayer winner
