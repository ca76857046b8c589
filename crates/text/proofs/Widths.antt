-- How many digits a number has: no more than what it stays below allows, and no fewer than what it reaches asks.
use Prim.Native.Nat.{ℕ, zero, suc, ◌+◌, ◌-◌, ◌^◌, ◌<◌, ◌≤◌}
use mathlib.Core.Path.{◌≡◌, refl, ap, subst}
use mathlib.Core.Bool.{Bool, cond}
use native.Mathlib.Omega.{arith}
use native.Mathlib.Nat.{pow-le-pow_right}
use native.Mathlib.Decide.{dec_le, dec_lt}
use borrow.Author.Tests.{le-leb, lt-leb}
use Rattle.io.specs.Digits.{IsDigitCount}
use Rattle.lists.specs.promise.Sequence.{sum_to}
use Rattle.lists.proofs.Sums.{sum_upto}
use Rattle.text.specs.promise.Text.{reaches, width_of}

reaches_yes : (k n : ℕ) → k ≤ n → reaches k n ≡ 1
reaches_yes k n l = ap (λ (b : Bool). cond b 1 0) (le-leb k n l)

reaches_no : (k n : ℕ) → n < k → reaches k n ≡ 0
reaches_no k n l = ap (λ (b : Bool). cond b 1 0) (lt-leb k n l)

reaches_most : (k n : ℕ) → reaches k n ≤ 1
reaches_most k n = elim (dec_le k n) [ yes l ↦ omega (arith, reaches_yes k n l) | no h ↦ omega (arith, reaches_no k n (omega arith)) ]

powers : (i j : ℕ) → i ≤ j → 10 ^ i ≤ 10 ^ j
powers i j l = pow-le-pow_right (let z : 0 < 10 = omega arith in z) l

-- of 10, 100, … 10^k, how many a number reaches
reached : (k n : ℕ) → ℕ
reached k n = sum_to k (λ i. reaches (10 ^ suc i) n)

reached_few : (k n : ℕ) → reached k n ≤ k
unfolding reached
reached_few zero n = omega arith
reached_few (suc k) n = let h = reached_few k n in omega (arith, reaches_most (10 ^ suc k) n)

reached_most : (k j n : ℕ) → n < 10 ^ suc j → reached k n ≤ j
unfolding reached
reached_most zero j n l = omega arith
reached_most (suc k) j n l =
    elim (dec_lt k j) [
      | yes m ↦ omega (arith, reached_few (suc k) n)
      | no m ↦
          let h = reached_most k j n l in
          let p : 10 ^ suc j ≤ 10 ^ suc k = powers (suc j) (suc k) (omega arith) in
          omega (arith, reaches_no (10 ^ suc k) n (omega arith))
    ]

reached_all : (j n : ℕ) → (0 < j → 10 ^ j ≤ n) → j ≤ reached j n
unfolding reached
reached_all zero n l = omega arith
reached_all (suc j) n l =
    let here : 10 ^ suc j ≤ n = l (omega arith) in
    let p : 10 ^ j ≤ 10 ^ suc j = powers j (suc j) (omega arith) in
    let h = reached_all j n (λ m. omega arith) in
    omega (arith, reaches_yes (10 ^ suc j) n here)

reached_more : (j k n : ℕ) → j ≤ k → reached j n ≤ reached k n
unfolding reached
reached_more j k n l = sum_upto j k _ l

width_is : (n : ℕ) → width_of n ≡ 1 + reached 19 n
unfolding width_of reached
width_is n = refl

-- every number is given 20 digits at most, and one below 10 ^ suc j at most suc j
pub width_20 : (n : ℕ) → width_of n ≤ 20
width_20 n = omega (arith, width_is n, reached_few 19 n)

pub width_most : (j n : ℕ) → n < 10 ^ suc j → width_of n ≤ suc j
width_most j n l = omega (arith, width_is n, reached_most 19 j n l)

-- the fewest digits that hold a number below 10^20 are its digits
pub width_fewest : (n r : ℕ) → n < 10 ^ 20 → IsDigitCount 10 1 n r → r ≡ width_of n
width_fewest n zero m f = absurd (let z : ⊥ = omega (arith, f.0) in z)
width_fewest n (suc j) m f = omega (arith, width_is n, reached_most 19 j n f.1, reached_all j n least, reached_more j 19 n few)
  where
    least : 0 < j → 10 ^ j ≤ n
    least l = subst (λ (i : ℕ). 10 ^ i ≤ n) (let q : suc j - 1 ≡ j = omega arith in q) (f.2 (omega arith))

    few : j ≤ 19
    few =
        elim (dec_le j 19) [
          | yes l ↦ l
          | no l ↦ absurd (let a : 10 ^ j ≤ n = least (omega arith) in let b : 10 ^ 20 ≤ 10 ^ j = powers 20 j (omega arith) in let z : ⊥ = omega arith in z)
        ]
