-- A walk: any number of steps of a relation between vertices. (docs/RULES.md, Winning)
use Rattle.std.specs.Prelude.{ℕ}

-- zero or more steps of S from v to u
pub data Walk (S : ℕ → ℕ → Type 0) : ℕ → ℕ → Type 0 where
  stay : {v : ℕ} → Walk S v v
  step : {v w u : ℕ} → S v w → Walk S w u → Walk S v u
