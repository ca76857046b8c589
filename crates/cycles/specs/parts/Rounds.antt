-- The test 14 of one vertex after another. Section 0 of the work space holds the priorities, section 1 what the closure has reached.
use Rattle.std.specs.Prelude.{ℕ, ◌*◌, ◌<◌, ◌≡◌, Bool, List, length}
use Rattle.refusal.specs.parts.Says.{Says}
use Rattle.game.specs.promise.Tables.{Tables, vertices, game_of}
use Rattle.storage.specs.promise.Answer.{Answer, mark_of, move_of}
use Rattle.winning.specs.promise.Faults.{Fault14}
use Rattle.space.specs.parts.Work.{section}
use Rattle.preds.specs.parts.Preds.{Preds}
use Rattle.reach.specs.parts.Closure.{Queued}
use Rattle.cycles.specs.parts.Lost.{PassedTo14}

-- the work space between two vertices: levels are the priorities, nothing is reached
pub record Ready (n : ℕ) (priorities work : List ℕ) : Type 0 where
  pub long : length work ≡ 4 * n
  pub levels : section 0 n work ≡ priorities
  pub queued : Queued n (section 1 n work) (section 2 n work) 0

-- what the test of x asks
pub record Rounding (x : ℕ) (t : Tables) (a : Answer) (ins froms work : List ℕ) : Type 0 where
  pub vertex : x < vertices t
  pub passed : PassedTo14 t a
  pub preds : Preds (game_of t) ins froms
  pub ready : Ready (vertices t) t.priorities work

-- what it gives: row 14 at x, and the work space as it was to be
pub record Rounds (x : ℕ) (t : Tables) (a : Answer) (work' : List ℕ) (b : Bool) : Type 0 where
  pub says : Says (Fault14 (game_of t) (mark_of a.winners) (move_of a.moves) x) b
  pub ready : Ready (vertices t) t.priorities work'
