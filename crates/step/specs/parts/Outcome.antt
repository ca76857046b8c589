-- What a step gives, said of the lists alone: the vertex is settled with the mark that it has, or turned.
use Rattle.std.specs.Prelude.{ℕ, ◌≡◌, ◌≢◌, List, get_or}
use Rattle.player.specs.promise.Player.{parity_of}
use Rattle.storage.specs.parts.Answers.{MoveSet}
use Rattle.space.specs.parts.Work.{FlagSet}
use Rattle.space.specs.declared.desk.Desk.{Desk}
use Rattle.levels.specs.parts.Levels.{LevelSet, LevelsOnly}
use Rattle.turn.specs.parts.Turning.{TurnedIn}

-- v is settled with the mark that it has, the move m and the level k, and the rest is as before
pub record KeptIn (n v m k low : ℕ) (d : Desk) (winners moves work : List ℕ) (d' : Desk) (winners' moves' work' : List ℕ) (r : ℕ) : Type 0 where
  pub only : LevelsOnly d d'
  pub winners_same : winners' ≡ winners
  pub move : MoveSet moves moves' v m
  pub level : LevelSet d.levels d'.levels v k
  pub flag : FlagSet n v 0 work work'
  pub low_same : r ≡ low

-- v gets the winner p, the move m and the level k: it is settled with the mark that it has, or turned
pub record SteppedIn (n v p m k low : ℕ) (priorities ins froms : List ℕ) (d : Desk) (winners moves work : List ℕ) (d' : Desk) (winners' moves' work' : List ℕ) (r : ℕ) : Type 0 where
  pub kept : p ≡ parity_of (get_or priorities v 0) → KeptIn n v m k low d winners moves work d' winners' moves' work' r
  pub turned : p ≢ parity_of (get_or priorities v 0) → TurnedIn n v p m k low priorities ins froms d winners moves work d' winners' moves' work' r
