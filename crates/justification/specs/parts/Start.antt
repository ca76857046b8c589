-- Where the method may start: a kept part, closed under edges, with the lines of an accepted answer; the rest open.
use Rattle.std.specs.Prelude.{ℕ, ◌<◌, ◌≡◌, ◌≢◌}
use Rattle.player.specs.promise.Player.{parity_of}
use Rattle.game.specs.promise.Game.{Game, Edge}

-- two games agree at v: owner, priority and successors
pub record SameAt (g h : Game) (v : ℕ) : Type 0 where
  pub owner : g.owner v ≡ h.owner v
  pub priority : g.priority v ≡ h.priority v
  pub next : g.next v ≡ h.next v

-- a set of vertices that no edge leaves
abbrev pub Closed : Game → (ℕ → Type 0) → Type 0
Closed g K = (v w : ℕ) → K v → Edge g v w → K w

-- the start: a kept vertex is settled with its old line, any other is open with its own parity's mark
pub record Start (g : Game) (K : ℕ → Type 0) (old_mark old_move mark move settled : ℕ → ℕ) : Type 0 where
  pub kept_mark : (v : ℕ) → v < g.n → K v → mark v ≡ old_mark v
  pub kept_move : (v : ℕ) → v < g.n → K v → move v ≡ old_move v
  pub kept_settled : (v : ℕ) → v < g.n → K v → settled v ≡ 1
  pub open_mark : (v : ℕ) → v < g.n → ¬ K v → mark v ≡ parity_of (g.priority v)
  pub open_settled : (v : ℕ) → v < g.n → ¬ K v → settled v ≢ 1
