-- The state of the method: a mark, a move and a flag for each vertex. A vertex is settled where the flag is 1, else open.
use Rattle.std.specs.Prelude.{ℕ, ◌<◌, ◌≤◌, ◌≡◌, ◌≢◌}
use Rattle.player.specs.promise.Player.{IsPlayer, parity_of}
use Rattle.game.specs.promise.Game.{Game, Edge}
use Rattle.winning.specs.promise.Walk.{Walk}
use Rattle.winning.specs.parts.Low.{Low}
use Rattle.winning.specs.promise.Answer.{no_move}

module _ (g : Game) (mark move settled : ℕ → ℕ) where
  -- a support step: from a settled vertex by its recorded move, or by any edge where its winner does not own it
  pub record Support (v w : ℕ) : Type 0 where
    pub justified : settled v ≡ 1
    pub edge : Edge g v w
    pub fixed : g.owner v ≡ mark v → w ≡ move v

  -- the five invariants of the method
  pub record Safe : Type 0 where
    -- (form) marks are 0 or 1, and a settled vertex that its loser owns has no move
    pub player : (v : ℕ) → v < g.n → IsPlayer (mark v)
    pub form : (v : ℕ) → v < g.n → settled v ≡ 1 → g.owner v ≢ mark v → move v ≡ no_move
    -- (default) an open vertex has the mark of its own priority's parity
    pub default : (v : ℕ) → v < g.n → settled v ≢ 1 → mark v ≡ parity_of (g.priority v)
    -- (backed) a settled vertex: its winner's move is a successor with the same mark; where the loser owns, all successors have its mark
    pub own : (v : ℕ) → v < g.n → settled v ≡ 1 → g.owner v ≡ mark v → Edge g v (move v) × (mark (move v) ≡ mark v)
    pub other : (v w : ℕ) → settled v ≡ 1 → g.owner v ≢ mark v → Edge g v w → mark w ≡ mark v
    -- (below) if support steps lead from a vertex to an open vertex, its priority is at most the open one's
    pub below : (v u : ℕ) → v < g.n → Walk Support v u → settled u ≢ 1 → g.priority v ≤ g.priority u
    -- (good) a vertex that is the highest on a closed walk of support steps has the mark of its own priority's parity
    pub good : (v w : ℕ) → Support v w → Walk (Low g Support (g.priority v)) w v → mark v ≡ parity_of (g.priority v)

  -- every vertex is settled
  abbrev pub Done : Type 0
  Done = (v : ℕ) → v < g.n → settled v ≡ 1

  -- support steps lead from v to no open vertex of a priority below k
  pub record Above (v k : ℕ) : Type 0 where
    pub high : (u : ℕ) → Walk Support v u → settled u ≢ 1 → k ≤ g.priority u

  -- if v gets the winner p and the move m, support steps lead from wherever it then leans on to no open vertex of a priority below k
  abbrev pub Onward : (v p m k : ℕ) → Type 0
  Onward v p m k = (w : ℕ) → Edge g v w → (g.owner v ≡ p → w ≡ m) → Above w k

  -- v is open, and may get the winner p and the move m: that leads to no open vertex of a lower priority
  pub record Eligible (v p m : ℕ) : Type 0 where
    pub vertex : v < g.n
    pub unsettled : settled v ≢ 1
    pub onward : Onward v p m (g.priority v)

  -- each settled vertex has a level: support steps lead from it to no open vertex of a priority below that
  pub record Levelled (level : ℕ → ℕ) : Type 0 where
    pub above : (v : ℕ) → v < g.n → settled v ≡ 1 → Above v (level v)
