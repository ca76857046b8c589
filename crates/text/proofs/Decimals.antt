-- A number's text: what the library spells, and how long it is.
use Prim.Native.Nat.{ℕ, zero, suc, ◌/◌, ◌%◌, ◌^◌, ◌<◌, ◌≤◌}
use mathlib.Core.Path.{◌≡◌, refl, ap, ◌∙◌}
use mathlib.Core.List.{List, [], ◌∷◌}
use native.Mathlib.Omega.{arith}
use lib.ListN.{length, length-append}
use Rattle.io.specs.Digits.{hex_digit_ascii, last_digits, IsDigitCount}
use Rattle.text.specs.promise.Text.{width_of, decimal_of}
use Rattle.text.proofs.Widths.{width_20, width_most, width_fewest}

pub spelled : {n r : ℕ} {x : List ℕ} → n < 10 ^ 20 → IsDigitCount 10 1 n r → x ≡ last_digits 10 r n → x ≡ decimal_of n
unfolding decimal_of
spelled {n} m f e = e ∙ ap (λ (k : ℕ). last_digits 10 k n) (width_fewest n _ m f)

pub digits_long : (b k n : ℕ) → length (last_digits b k n) ≡ k
digits_long b zero n = refl
digits_long b (suc k) n = length-append (last_digits b k (n / b)) (hex_digit_ascii (n % b) ∷ []) ∙ (let e = digits_long b k (n / b) in omega arith)

decimal_long : (n : ℕ) → length (decimal_of n) ≡ width_of n
unfolding decimal_of
decimal_long n = digits_long 10 (width_of n) n

-- how long a number's text is at most: of any number, and of one below 10 ^ suc j

pub decimal_20 : (n : ℕ) → length (decimal_of n) ≤ 20
decimal_20 n = omega (arith, decimal_long n, width_20 n)

pub decimal_most : (j n : ℕ) → n < 10 ^ suc j → length (decimal_of n) ≤ suc j
decimal_most j n l = omega (arith, decimal_long n, width_most j n l)
