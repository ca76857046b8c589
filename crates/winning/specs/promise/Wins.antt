-- What it is to win a vertex. (docs/RULES.md, Winning)
use Rattle.std.specs.Prelude.{ℕ, ◌<◌, ◌≡◌, List, ◌∷◌}
use Rattle.player.specs.promise.Player.{parity_of}
use Rattle.game.specs.promise.Game.{Game, Edge}
use Rattle.winning.specs.promise.Walk.{Walk}
use Rattle.winning.specs.promise.Cycle.{Cycle, highest}

-- a step of the play in which p moves by σ where he owns, and his opponent moves freely
pub record By (g : Game) (p : ℕ) (σ : ℕ → ℕ) (v w : ℕ) : Type 0 where
  pub edge : Edge g v w
  pub fixed : g.owner v ≡ p → w ≡ σ v

-- σ fixes a successor at each vertex that p owns
abbrev pub Legal : Game → ℕ → (ℕ → ℕ) → Type 0
Legal g p σ = (v : ℕ) → v < g.n → g.owner v ≡ p → Edge g v (σ v)

-- if p moves by σ, every cycle to which a walk leads from v has a highest priority of his parity
abbrev pub WinsBy : Game → ℕ → (ℕ → ℕ) → ℕ → Type 0
WinsBy g p σ v =
    (u : ℕ) (l : List ℕ) → Walk (By g p σ) v u → Cycle (By g p σ) (u ∷ l) → parity_of (highest g (u ∷ l)) ≡ p

-- p wins v: he can fix moves by which he does
pub record Wins (g : Game) (p v : ℕ) : Type 0 where
  pub move : ℕ → ℕ
  pub legal : Legal g p move
  pub wins : WinsBy g p move v
