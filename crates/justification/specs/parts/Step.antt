-- The two steps of the method, and the opening of a set again, as relations between the state before and the state after, vertex by vertex.
use Rattle.std.specs.Prelude.{ℕ, ◌<◌, ◌≡◌, ◌≢◌}
use Rattle.player.specs.promise.Player.{parity_of, opponent_of}
use Rattle.game.specs.promise.Game.{Game, Edge}
use Rattle.winning.specs.promise.Walk.{Walk}
use Rattle.winning.specs.promise.Answer.{no_move}
use Rattle.justification.specs.parts.Safe.{Support}

-- the test of v by its successors gives the player p and the move m: he owns v and m is a successor marked for him, or he does not and all are
pub record TestGives (g : Game) (mark : ℕ → ℕ) (v p m : ℕ) : Type 0 where
  pub own : g.owner v ≡ p → Edge g v m × (mark m ≡ p)
  pub other : (w : ℕ) → g.owner v ≢ p → Edge g v w → mark w ≡ p
  pub none : g.owner v ≢ p → m ≡ no_move

module _ (mark move settled mark' move' settled' : ℕ → ℕ) where
  -- v's line is (p, m) and settled
  pub record Settled (v p m : ℕ) : Type 0 where
    pub marked : mark' v ≡ p
    pub moved : move' v ≡ m
    pub flag : settled' v ≡ 1

  -- u's line is as before
  pub record Same (u : ℕ) : Type 0 where
    pub marked : mark' u ≡ mark u
    pub moved : move' u ≡ move u
    pub flag : settled' u ≡ settled u

  -- settling v with the mark that it has: nothing else changes
  pub record Kept (g : Game) (v m : ℕ) : Type 0 where
    pub here : Settled v (parity_of (g.priority v)) m
    pub elsewhere : (u : ℕ) → u < g.n → u ≢ v → Same u

  -- turning v: what R holds is open again with its own parity's mark, v is settled for the opponent, the rest is as before
  pub record Turned (g : Game) (R : ℕ → Type 0) (v m : ℕ) : Type 0 where
    pub here : Settled v (opponent_of (parity_of (g.priority v))) m
    pub reopened : (u : ℕ) → u < g.n → u ≢ v → R u → (settled' u ≢ 1) × (mark' u ≡ parity_of (g.priority u))
    pub elsewhere : (u : ℕ) → u < g.n → u ≢ v → ¬ R u → Same u

  -- opening a set again: what R holds is open with its own parity's mark, the rest is as before
  pub record Reset (g : Game) (R : ℕ → Type 0) : Type 0 where
    pub reopened : (u : ℕ) → u < g.n → R u → (settled' u ≢ 1) × (mark' u ≡ parity_of (g.priority u))
    pub elsewhere : (u : ℕ) → u < g.n → ¬ R u → Same u

-- R holds whatever leans on what it holds
pub record Downward (g : Game) (mark move settled : ℕ → ℕ) (R : ℕ → Type 0) : Type 0 where
  pub decided : (u : ℕ) → u < g.n → Dec (R u)
  pub closed : (u w : ℕ) → Support g mark move settled u w → R w → R u

-- R is the set of vertices from which support steps lead to v, v included
pub record Leaning (g : Game) (mark move settled : ℕ → ℕ) (v : ℕ) (R : ℕ → Type 0) : Type 0 where
  pub decided : (u : ℕ) → u < g.n → Dec (R u)
  pub leads : (u : ℕ) → u < g.n → R u → Walk (Support g mark move settled) u v
  pub itself : R v
  pub closed : (u w : ℕ) → Support g mark move settled u w → R w → R u
