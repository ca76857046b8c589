-- Numbers and lines as text, a list of ASCII codes. (docs/RULES.md, The listing)
use Rattle.std.specs.Prelude.{ℕ, suc, ◌+◌, ◌^◌, cond, List, [], ◌∷◌, ◌++◌, leb}
use Rattle.io.specs.Digits.{last_digits}
use Rattle.lists.specs.promise.Sequence.{sum_to}

-- 1 if n is k or more
abbrev pub reaches : (k n : ℕ) → ℕ
reaches k n = cond (leb k n) 1 0

-- how many decimal digits a number has: one, and one more for each of 10, 100, … 10^19 that it reaches (every u64 is below 10^20)
unfoldable pub width_of : ℕ → ℕ
width_of n = 1 + sum_to 19 (λ k. reaches (10 ^ suc k) n)

-- a number in decimal, with no leading zeros
unfoldable pub decimal_of : ℕ → List ℕ
decimal_of n = last_digits 10 (width_of n) n

-- fields with a space between them, and a line feed at the end
abbrev pub line_of : List (List ℕ) → List ℕ
line_of [] = 10 ∷ []
line_of (f ∷ []) = f ++ (10 ∷ [])
line_of (f ∷ g ∷ fs) = f ++ (32 ∷ line_of (g ∷ fs))
