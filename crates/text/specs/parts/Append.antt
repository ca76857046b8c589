-- What it is to append bytes to a text that stands in a lent slice.
use Rattle.std.specs.Prelude.{ℕ, ◌+◌, ◌≤◌, ◌≡◌, List, ◌++◌, length, take, drop}

-- the slice has room for the bytes from the place on
pub record Room (text : List ℕ) (at : ℕ) (bytes : List ℕ) : Type 0 where
  pub room : at + length bytes ≤ length text

-- the text up to the next place is the text up to the old place followed by the bytes; past it the slice is as it was, and as long
pub record Appended (before after : List ℕ) (at : ℕ) (bytes : List ℕ) (next : ℕ) : Type 0 where
  pub long : length after ≡ length before
  pub ends : next ≡ at + length bytes
  pub is : take next after ≡ take at before ++ bytes
  pub past : drop next after ≡ drop next before
