-- A step back to a reached vertex.
use Rattle.std.specs.Prelude.{ℕ, ◌*◌, ◌<◌, ◌≤◌, ◌≡◌, ◌≢◌, List, length, get_or}
use Rattle.game.specs.promise.Game.{Listed}
use Rattle.winning.specs.promise.Answer.{no_move}

-- a stretch of vertices in which the move stands, if there is one
pub record Backable (n : ℕ) (stretch : List ℕ) (m : ℕ) (work : List ℕ) : Type 0 where
  pub small : n ≤ 2048
  pub long : length work ≡ 4 * n
  pub inside : (i : ℕ) → i < length stretch → get_or stretch i 0 < n
  pub listed : m ≢ no_move → Listed m stretch

-- a step to a reached vertex: to the recorded move m if there is one, else to any successor
pub record Comes (next : List ℕ) (m : ℕ) (reached : List ℕ) : Type 0 where
  pub to : ℕ
  pub listed : Listed to next
  pub fixed : m ≢ no_move → to ≡ m
  pub is_reached : get_or reached to 0 ≡ 1
