-- What stands in a list of cells.
use Rattle.std.specs.Prelude.{ℕ, zero, suc, min, ◌+◌, ◌<◌, ◌≡◌, List, length, get_or}

-- all cells hold the value
pub record Filled (cells : List ℕ) (value : ℕ) : Type 0 where
  pub all : (i : ℕ) → i < length cells → get_or cells i 0 ≡ value

-- how many of the first n cells are not 0
abbrev pub count : ℕ → List ℕ → ℕ
count zero cells = 0
count (suc n) cells = min 1 (get_or cells n 0) + count n cells
