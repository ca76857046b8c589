-- Which vertices an amendment reaches. (docs/RULES.md, The update)
use Rattle.std.specs.Prelude.{ℕ, suc, ◌<◌, ◌≢◌}
use Rattle.game.specs.promise.Game.{Game, Edge}
use Rattle.winning.specs.promise.Walk.{Walk}

-- v is not in the second game what it is in the first
pub data Differs (g h : Game) (v : ℕ) : Type 0 where
  owner : g.owner v ≢ h.owner v → Differs g h v
  priority : g.priority v ≢ h.priority v → Differs g h v
  successors : g.next v ≢ h.next v → Differs g h v

-- v has a path in the second game, perhaps of no steps, to a vertex that differs
pub record Reaches (g h : Game) (v : ℕ) : Type 0 where
  pub to : ℕ
  pub vertex : to < h.n
  pub differs : Differs g h to
  pub path : Walk (Edge h) v to

-- c is how many numbers below n have P
pub data CountOf (P : ℕ → Type 0) : (n c : ℕ) → Type 0 where
  none : CountOf P 0 0
  one : {n c : ℕ} → P n → CountOf P n c → CountOf P (suc n) (suc c)
  skip : {n c : ℕ} → ¬ P n → CountOf P n c → CountOf P (suc n) c
