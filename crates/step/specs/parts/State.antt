-- The state of the engine, read from the lent lists, and sets of settled vertices that nothing reopens.
use Rattle.std.specs.Prelude.{ℕ, ◌*◌, ◌<◌, ◌≡◌, List, length, get_or}
use Rattle.game.specs.promise.Tables.{game_of, WellFormed, Tables, vertices}
use Rattle.storage.specs.promise.Answer.{mark_of, move_of}
use Rattle.storage.specs.parts.Answers.{Stored}
use Rattle.justification.specs.parts.Safe.{Safe}
use Rattle.justification.specs.parts.Start.{Closed}
use Rattle.space.specs.parts.Work.{section}
use Rattle.lists.specs.parts.Cells.{Filled}
use Rattle.levels.specs.parts.Levels.{settled_of}

module _ (tables : Tables) (winners moves work : List ℕ) where
  -- a safe state of a well-formed game in lists of the right lengths, nothing reached by a closure
  pub record State : Type 0 where
    pub well_formed : WellFormed tables
    pub stored : Stored (vertices tables) winners
    pub moves_long : length moves ≡ vertices tables
    pub work_long : length work ≡ 4 * vertices tables
    pub unreached : Filled (section 1 (vertices tables) work) 0
    pub safe : Safe (game_of tables) (mark_of winners) (move_of moves) (settled_of (vertices tables) work)

-- the flags `kept` mark a set of settled vertices whose successors are all in it
pub record KeptSet (tables : Tables) (work kept : List ℕ) : Type 0 where
  pub settled : (v : ℕ) → v < vertices tables → get_or kept v 0 ≡ 1 → settled_of (vertices tables) work v ≡ 1
  pub closed : Closed (game_of tables) (λ v. get_or kept v 0 ≡ 1)

-- every such set is one afterwards, and no line of it has changed
pub record Carried (tables : Tables) (winners moves work winners' moves' work' : List ℕ) : Type 0 where
  pub kept : (kept : List ℕ) → KeptSet tables work kept → KeptSet tables work' kept
  pub mark : (kept : List ℕ) → KeptSet tables work kept → (v : ℕ) → v < vertices tables → get_or kept v 0 ≡ 1 → mark_of winners' v ≡ mark_of winners v
  pub move : (kept : List ℕ) → KeptSet tables work kept → (v : ℕ) → v < vertices tables → get_or kept v 0 ≡ 1 → move_of moves' v ≡ move_of moves v
