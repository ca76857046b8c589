-- What an open vertex is offered through a successor. Floors say below which priority its support leads to no open vertex.
use Rattle.std.specs.Prelude.{ℕ, ◌*◌, ◌<◌, ◌≤◌, ◌≡◌, ◌≢◌, List, length, get_or, Option, Some, None}
use Rattle.player.specs.promise.Player.{IsPlayer}
use Rattle.game.specs.promise.Game.{Edge}
use Rattle.game.specs.promise.Tables.{game_of, WellFormed, Tables, vertices}
use Rattle.storage.specs.promise.Answer.{mark_of}
use Rattle.storage.specs.parts.Answers.{Stored}
use Rattle.space.specs.declared.desk.Desk.{Desk}
use Rattle.space.specs.parts.Desk.{Laid}
use Rattle.justification.specs.parts.Step.{TestGives}
use Rattle.line.specs.declared.Line.{Line}
use Rattle.levels.specs.parts.Levels.{settled_of, FloorOf}

-- every vertex has a priority, a level, a mark and a flag
pub record Known (priorities : List ℕ) (d : Desk) (winners work : List ℕ) : Type 0 where
  pub small : length priorities ≤ 2048
  pub laid : Laid d
  pub stored : Stored (length priorities) winners
  pub work_long : length work ≡ 4 * length priorities

-- the floor of w is not below k
pub record Grounds (priorities levels work : List ℕ) (k w : ℕ) : Type 0 where
  pub floor : ℕ
  pub is : FloorOf w priorities levels work floor
  pub high : k ≤ floor

-- the vertices of a stretch are seen
pub record AllSeen (stretch priorities : List ℕ) (d : Desk) (winners work : List ℕ) : Type 0 where
  pub known : Known priorities d winners work
  pub vertex : (i : ℕ) → i < length stretch → get_or stretch i 0 < length priorities

-- all vertices of a stretch are marked for the winner, and no floor is below the level, which is not below the bound
pub record Grounded (winner bound : ℕ) (stretch priorities levels winners work : List ℕ) (level : ℕ) : Type 0 where
  pub bounded : bound ≤ level
  pub mark : (i : ℕ) → i < length stretch → mark_of winners (get_or stretch i 0) ≡ winner
  pub grounds : (i : ℕ) → i < length stretch → Grounds priorities levels work level (get_or stretch i 0)

-- what the look at a stretch says; that it finds no level says nothing
abbrev pub AllFor : (winner bound : ℕ) (stretch priorities levels winners work : List ℕ) → Option ℕ → Type 0
AllFor winner bound stretch priorities levels winners work (Some l) = Grounded winner bound stretch priorities levels winners work l
AllFor winner bound stretch priorities levels winners work None = Unit {0}

-- an edge of a well-formed game whose vertices are seen
pub record Offerable (x u : ℕ) (tables : Tables) (d : Desk) (winners work : List ℕ) : Type 0 where
  pub well_formed : WellFormed tables
  pub known : Known tables.priorities d winners work
  pub player : (v : ℕ) → v < vertices tables → IsPlayer (mark_of winners v)
  pub edge : Edge (game_of tables) x u

-- x is open, the test by its successors gives the winner p and the move m, and no floor that its support would lean on is below the level, nor that below x's priority
pub record Offered (x p m level : ℕ) (tables : Tables) (levels winners work : List ℕ) : Type 0 where
  pub unsettled : settled_of (length tables.priorities) work x ≢ 1
  pub player : IsPlayer p
  pub tested : TestGives (game_of tables) (mark_of winners) x p m
  pub bounded : get_or tables.priorities x 0 ≤ level
  pub grounds : (w : ℕ) → Edge (game_of tables) x w → (get_or tables.owners x 0 ≡ p → w ≡ m) → Grounds tables.priorities levels work level w

-- what is offered; that nothing is offered says nothing
abbrev pub Offers : (x : ℕ) (tables : Tables) (levels winners work : List ℕ) → Option Line → Type 0
Offers x tables levels winners work (Some line) = Offered x line.winner line.to line.level tables levels winners work
Offers x tables levels winners work None = Unit {0}
