-- What settling a vertex asks.
use Rattle.std.specs.Prelude.{ℕ, ◌*◌, ◌<◌, ◌≤◌, ◌≡◌, List, length}
use Rattle.space.specs.declared.desk.Desk.{Desk}
use Rattle.space.specs.parts.Desk.{Laid}

-- a move and a level for v can be written
pub record Keepable (v : ℕ) (d : Desk) (moves work : List ℕ) : Type 0 where
  pub small : length moves ≤ 2048
  pub vertex : v < length moves
  pub laid : Laid d
  pub work_long : length work ≡ 4 * length moves
