-- The four tables of a game: the one place that knows how a game is stored. (docs/RULES.md, Games)
use Rattle.std.specs.Prelude.{ℕ, ◌+◌, ◌-◌, ◌≤◌, ◌<◌, ◌≡◌, List, length, get_or, take, drop}
use Rattle.game.specs.promise.Game.{Game, Sound, Moving}

-- an owner and a priority for each vertex; where each vertex's successors start in the list of all targets, and where the last end
pub record Tables : Type 0 where
  pub owners : List ℕ
  pub priorities : List ℕ
  pub starts : List ℕ
  pub targets : List ℕ

-- such tables, in this order
abbrev pub tables_of : (owners priorities starts targets : List ℕ) → Tables
tables_of owners priorities starts targets = record { owners = owners; priorities = priorities; starts = starts; targets = targets }

-- the number of vertices
abbrev pub vertices : Tables → ℕ
vertices t = length t.owners

-- v's stretch of the targets: from its own start up to the next
abbrev pub next_of : (starts targets : List ℕ) → ℕ → List ℕ
next_of starts targets v = take (get_or starts (v + 1) 0 - get_or starts v 0) (drop (get_or starts v 0) targets)

-- the game that the tables say, well formed or not
abbrev pub game_of : Tables → Game
game_of t =
    record {
      n = vertices t;
      owner = λ v. get_or t.owners v 0;
      priority = λ v. get_or t.priorities v 0;
      next = next_of t.starts t.targets;
    }

-- the stretches of n vertices follow one another and make up the targets
pub record Placed (n : ℕ) (starts targets : List ℕ) : Type 0 where
  pub bounds : length starts ≡ n + 1
  pub first : get_or starts 0 0 ≡ 0
  pub onward : (v : ℕ) → v < n → get_or starts v 0 ≤ get_or starts (v + 1) 0
  pub last : get_or starts n 0 ≡ length targets

-- tables of a well-formed game
pub record WellFormed (t : Tables) : Type 0 where
  pub level : length t.priorities ≡ vertices t
  pub edges : length t.targets ≤ 16384
  pub placed : Placed (vertices t) t.starts t.targets
  pub sound : Sound (game_of t)
  pub moving : Moving (game_of t)
