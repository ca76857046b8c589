-- What a solution of a game is, and what a right answer is. (docs/RULES.md, Answers)
use Rattle.std.specs.Prelude.{ℕ, ◌<◌, ◌≡◌, ◌≢◌, List, ◌∷◌}
use Rattle.player.specs.promise.Player.{IsPlayer, parity_of}
use Rattle.game.specs.promise.Game.{Game, Edge}
use Rattle.winning.specs.promise.Cycle.{Cycle, highest}
use Rattle.winning.specs.promise.Wins.{By, Legal, WinsBy, Wins}

-- what stands for the move where the winner does not own the vertex
abbrev pub no_move : ℕ
no_move = 65535

module _ (g : Game) (mark move : ℕ → ℕ) where
  -- each vertex is marked for a player; its move is a successor where that player owns it, and none elsewhere
  pub record Form : Type 0 where
    pub winner : (v : ℕ) → v < g.n → IsPlayer (mark v)
    pub successor : (v : ℕ) → v < g.n → g.owner v ≡ mark v → Edge g v (move v)
    pub elsewhere : (v : ℕ) → v < g.n → g.owner v ≢ mark v → move v ≡ no_move

  -- σ completes p's recorded moves: it is legal, and the recorded move wherever p owns and is marked
  pub record Completes (p : ℕ) (σ : ℕ → ℕ) : Type 0 where
    pub legal : Legal g p σ
    pub recorded : (v : ℕ) → v < g.n → g.owner v ≡ p → mark v ≡ p → σ v ≡ move v

  -- a solution: each vertex is won by its mark, and by the recorded moves, in whatever way they are completed
  pub record Solution : Type 0 where
    pub form : Form
    pub won : (v : ℕ) → v < g.n → Wins g (mark v) v
    pub by_moves : (p v : ℕ) (σ : ℕ → ℕ) → v < g.n → mark v ≡ p → Completes p σ → WinsBy g p σ v

  -- a right answer: by the recorded moves each winner stays among his vertices and wins every cycle there
  pub record Right : Type 0 where
    pub form : Form
    pub stays : (p v w : ℕ) → IsPlayer p → mark v ≡ p → By g p move v w → mark w ≡ p
    pub wins : (p v : ℕ) (l : List ℕ) → IsPlayer p → mark v ≡ p → Cycle (By g p move) (v ∷ l) → parity_of (highest g (v ∷ l)) ≡ p
