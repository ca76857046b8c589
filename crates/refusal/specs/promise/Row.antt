-- The first refusal that applies is given, and none otherwise: over a list of rows, for every entry point. (docs/RULES.md, Refusals)
use Rattle.std.specs.Prelude.{ℕ, ◌<◌, ◌≡◌, ◌⊎◌, List, [], ◌∷◌}

-- a row: a refusal's number, and the places at which it applies
pub record Row : Type 1 where
  pub number : ℕ
  pub applies : ℕ → Type 0

-- such a row, in this order
abbrev pub row : ℕ → (ℕ → Type 0) → Row
row number applies = record { number = number; applies = applies }

-- what an entry point says in numbers: its values, or a refusal's number and place
pub data Said : Type 0 where
  success : (values : List ℕ) → Said
  refused : (number place : ℕ) → Said

-- x is the lowest place at which P holds
pub record Lowest (P : ℕ → Type 0) (x : ℕ) : Type 0 where
  pub holds : P x
  pub lower : (y : ℕ) → y < x → P y → ⊥

-- P holds at no place
abbrev pub NoPlace : (ℕ → Type 0) → Type 0
NoPlace P = (x : ℕ) → P x → ⊥

-- no row applies anywhere
abbrev pub None : List Row → Type 0
None [] = Unit {0}
None (r ∷ rows) = NoPlace r.applies × None rows

-- the first row that applies has number k, and x is its lowest place
abbrev pub First : List Row → ℕ → ℕ → Type 0
First [] k x = ⊥
First (r ∷ rows) k x = ((k ≡ r.number) × Lowest r.applies x) ⊎ (NoPlace r.applies × First rows k x)

-- what is said of the rows: the first that applies, or a success where none does
abbrev pub Gives : List Row → Said → Type 0
Gives rows (success values) = None rows
Gives rows (refused k x) = First rows k x
