-- Steps among priorities that are not higher than a bound.
use Rattle.std.specs.Prelude.{ℕ, ◌≤◌}
use Rattle.game.specs.promise.Game.{Game}

-- a step of S from a vertex whose priority is at most k
pub record Low (g : Game) (S : ℕ → ℕ → Type 0) (k v w : ℕ) : Type 0 where
  pub taken : S v w
  pub low : g.priority v ≤ k
