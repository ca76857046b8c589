-- A game, however it is stored, and what is asked of it. Players and priorities are numbers. (docs/RULES.md, Games)
use Rattle.std.specs.Prelude.{ℕ, ◌+◌, ◌<◌, ◌≤◌, length, get_or, List, ◌≡◌}
use Rattle.player.specs.promise.Player.{IsPlayer}

-- n vertices, 0 to n − 1, each with an owner, a priority and a list of successors
pub record Game : Type 0 where
  pub n : ℕ
  pub owner : ℕ → ℕ
  pub priority : ℕ → ℕ
  pub next : ℕ → List ℕ

-- w stands in the list l
pub record Listed (w : ℕ) (l : List ℕ) : Type 0 where
  pub at : ℕ
  pub within : at < length l
  pub is : get_or l at 0 ≡ w

-- an edge from v to w: both are vertices, and w is a successor of v
pub record Edge (g : Game) (v w : ℕ) : Type 0 where
  pub from : v < g.n
  pub to : w < g.n
  pub listed : Listed w (g.next v)

-- each number of the list is below the next
abbrev pub Ascending : List ℕ → Type 0
Ascending l = (i : ℕ) → i + 1 < length l → get_or l i 0 < get_or l (i + 1) 0

-- every vertex has a successor
abbrev pub Moving : Game → Type 0
Moving g = (v : ℕ) → v < g.n → 0 < length (g.next v)

-- between 1 and 2,048 vertices; owners are players, priorities at most 254, successors vertices that ascend
pub record Sound (g : Game) : Type 0 where
  pub some : 1 ≤ g.n
  pub few : g.n ≤ 2048
  pub owned : (v : ℕ) → v < g.n → IsPlayer (g.owner v)
  pub ranked : (v : ℕ) → v < g.n → g.priority v ≤ 254
  pub inside : (v w : ℕ) → v < g.n → Listed w (g.next v) → w < g.n
  pub ascending : (v : ℕ) → v < g.n → Ascending (g.next v)
