-- What the two orders give: the engine goes on, and if the end is reached nothing is open.
use Rattle.std.specs.Prelude.{ℕ, ◌<◌, List}
use Rattle.game.specs.promise.Tables.{Tables, vertices}
use Rattle.space.specs.parts.Work.{section}
use Rattle.space.specs.declared.desk.Desk.{Desk}
use Rattle.waiting.specs.parts.Open.{AllSettled}
use Rattle.step.specs.parts.Stepping.{Moved, Falls}
use Rattle.orders.specs.declared.Ended.{Ended}
use Rattle.orders.specs.declared.Ended.TheVariants.{Done, Spent}

-- at the end nothing is open; a spent budget says nothing
abbrev pub Ends : ℕ → List ℕ → Ended → Type 0
Ends n flags Done = AllSettled n flags
Ends n flags Spent = Unit {0}

-- the engine has moved, perhaps to the end
pub record Ran (tables : Tables) (ins froms winners moves work : List ℕ) (d' : Desk) (winners' moves' work' : List ℕ) (r : Ended) : Type 0 where
  pub moved : Moved tables ins froms winners moves work d' winners' moves' work'
  pub ends : Ends (vertices tables) (section 0 (vertices tables) work') r

-- if a budget is spent, the measure has fallen
abbrev pub Fell : (budget : ℕ) (tables : Tables) (winners work winners' work' : List ℕ) → Ended → Type 0
Fell budget tables winners work winners' work' Done = Unit {0}
Fell budget tables winners work winners' work' Spent = 0 < budget → Falls tables winners work winners' work'
