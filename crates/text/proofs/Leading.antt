-- No zero leads a number's text, unless the number is 0.
use Prim.Native.Nat.{ℕ, zero, suc, ◌+◌, ◌-◌, ◌/◌, ◌%◌, ◌^◌, ◌<◌, ◌≤◌}
use mathlib.Core.Path.{◌≡◌, refl, sym, ap, subst, ◌∙◌}
use mathlib.Core.Logic.{◌≢◌}
use mathlib.Core.Bool.{Bool, cond}
use mathlib.Core.List.{List, [], ◌∷◌}
use native.Mathlib.Omega.{arith}
use native.Mathlib.Decide.{dec_le, dec_lt}
use borrow.Author.Tests.{lt-ltb, le-ltb}
use lib.ListN.{get_or, get_or-append}
use Rattle.io.specs.Digits.{hex_digit_ascii, last_digits}
use Rattle.text.specs.promise.Text.{decimal_of}
use Rattle.text.proofs.Decimals.{digits_long, spelled}

-- the digit that is spelled 0 is 0
glyph_zero : (d : ℕ) → hex_digit_ascii d ≡ 48 → d ≡ 0
glyph_zero d e =
    elim (dec_lt d 10) [
      | yes l ↦ (let q : hex_digit_ascii d ≡ 48 + d = ap (λ (b : Bool). cond b (48 + d) (87 + d)) (lt-ltb d 10 l) in omega (arith, sym q ∙ e))
      | no l ↦ (let q : hex_digit_ascii d ≡ 87 + d = ap (λ (b : Bool). cond b (48 + d) (87 + d)) (le-ltb d 10 (omega arith)) in absurd (let z : ⊥ = omega (arith, sym q ∙ e) in z))
    ]

-- of as many digits as a number takes, the first is not 0
first_digit : (j n : ℕ) → 10 ^ j ≤ n → n < 10 ^ suc j → get_or (last_digits 10 (suc j) n) 0 0 ≢ 48
first_digit zero n a b e = absurd (let z : ⊥ = omega (arith, glyph_zero (n % 10) e) in z)
first_digit (suc j) n a b e =
    first_digit j (n / 10) (omega arith) (omega arith)
    (sym (get_or-append (last_digits 10 (suc j) (n / 10)) (hex_digit_ascii (n % 10) ∷ []) 0 0 (omega (arith, digits_long 10 (suc j) (n / 10)))) ∙ e)

-- a number past 0 lies between two powers of ten
record Between (n : ℕ) : Type 0 where
  j : ℕ
  least : 10 ^ j ≤ n
  most : n < 10 ^ suc j

between : (k n : ℕ) → 0 < n → n < 10 ^ suc k → Between n
between zero n p l = record { j = 0; least = p; most = l }
between (suc k) n p l = at (dec_le (10 ^ suc k) n) (between k n p)
  where
    at : Dec (10 ^ suc k ≤ n) → (n < 10 ^ suc k → Between n) → Between n
    at (yes m) below = record { j = suc k; least = m; most = l }
    at (no m) below = below (omega arith)

-- of every number below 10^20, so of every u64
pub no_leading_zero : (n : ℕ) → 0 < n → n < 10 ^ 20 → get_or (decimal_of n) 0 0 ≢ 48
no_leading_zero n p l =
    let b = between 19 n p l in
    let least : 10 ^ (suc b.j - 1) ≤ n = subst (λ (i : ℕ). 10 ^ i ≤ n) (let q : b.j ≡ suc b.j - 1 = omega arith in q) b.least in
    let e : last_digits 10 (suc b.j) n ≡ decimal_of n = spelled l (omega arith, b.most, λ m. least) refl in
    subst (λ (x : List ℕ). get_or x 0 0 ≢ 48) e (first_digit b.j n b.least b.most)
