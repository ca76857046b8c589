-- A cycle is the list of its vertices, on which a vertex may recur. (docs/RULES.md, Winning)
use Rattle.std.specs.Prelude.{ℕ, max, List, [], ◌∷◌}
use Rattle.game.specs.promise.Game.{Game}

-- steps of S from v through the vertices of the list to u: one step more than the list is long
abbrev pub Through : (ℕ → ℕ → Type 0) → ℕ → List ℕ → ℕ → Type 0
Through S v [] u = S v u
Through S v (w ∷ l) u = S v w × Through S w l u

-- one step or more, through the list and back to its first vertex
abbrev pub Cycle : (ℕ → ℕ → Type 0) → List ℕ → Type 0
Cycle S [] = ⊥
Cycle S (v ∷ l) = Through S v l v

-- the highest priority on a list of vertices
abbrev pub highest : Game → List ℕ → ℕ
highest g [] = 0
highest g (v ∷ l) = max (g.priority v) (highest g l)
