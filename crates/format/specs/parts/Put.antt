-- Bytes put into a list from the front on: what one call puts, and how far the list is as it should be.
use Rattle.std.specs.Prelude.{ℕ, ◌-◌, ◌<◌, ◌≤◌, ◌≡◌, List, length, get_or}
use Rattle.format.specs.promise.Format.{low_high}

-- the cells from `from` up to `upto` are as `value` says, all others as they were
pub record Put (from upto : ℕ) (value : ℕ → ℕ) (before after : List ℕ) : Type 0 where
  pub long : length after ≡ length before
  pub is : (i : ℕ) → from ≤ i → i < upto → get_or after i 0 ≡ value i
  pub below : (i : ℕ) → i < from → get_or after i 0 ≡ get_or before i 0
  pub above : (i : ℕ) → upto ≤ i → get_or after i 0 ≡ get_or before i 0

-- of so many cells the first k are as `value` says
pub record Begun (size : ℕ) (value : ℕ → ℕ) (k : ℕ) (cells : List ℕ) : Type 0 where
  pub long : length cells ≡ size
  pub is : (i : ℕ) → i < k → get_or cells i 0 ≡ value i

-- what stands at i if the two-byte number x stands at `at`
abbrev pub word_byte : (x at i : ℕ) → ℕ
word_byte x at i = low_high x (i - at)
