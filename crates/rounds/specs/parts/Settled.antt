-- What the engine gives: an accepted answer that changes no line of a kept set.
use Rattle.std.specs.Prelude.{ℕ, ◌<◌, ◌≡◌, List, length, get_or}
use Rattle.game.specs.promise.Tables.{game_of, Tables, vertices}
use Rattle.storage.specs.promise.Answer.{mark_of, move_of}
use Rattle.winning.specs.promise.Faults.{Accepted}
use Rattle.step.specs.parts.State.{KeptSet}

-- no line of a set of settled vertices whose successors are all in it changes
pub record Unmoved (tables : Tables) (winners moves work winners' moves' : List ℕ) : Type 0 where
  pub mark : (kept : List ℕ) → KeptSet tables work kept → (v : ℕ) → v < vertices tables → get_or kept v 0 ≡ 1 → mark_of winners' v ≡ mark_of winners v
  pub move : (kept : List ℕ) → KeptSet tables work kept → (v : ℕ) → v < vertices tables → get_or kept v 0 ≡ 1 → move_of moves' v ≡ move_of moves v

-- an accepted answer that moves no such line
pub record SettledTo (tables : Tables) (winners moves work winners' moves' work' : List ℕ) : Type 0 where
  pub winners_long : length winners' ≡ length winners
  pub moves_long : length moves' ≡ length moves
  pub work_long : length work' ≡ length work
  pub accepted : Accepted (game_of tables) (mark_of winners') (move_of moves')
  pub unmoved : Unmoved tables winners moves work winners' moves'
