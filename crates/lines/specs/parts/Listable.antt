-- What the lists must have for the lines of n vertices.
use Rattle.std.specs.Prelude.{ℕ, ◌≤◌, List, length}
use Rattle.storage.specs.promise.Answer.{mark_room}

-- tables and an answer of at least n vertices
pub record Listable (n : ℕ) (owners priorities winners moves : List ℕ) : Type 0 where
  pub owners_long : n ≤ length owners
  pub priorities_long : n ≤ length priorities
  pub winners_long : n ≤ mark_room winners
  pub moves_long : n ≤ length moves
