-- A Bool test and the statement that it tests.
use Prim.Native.Nat.{ℕ, ◌<◌, ◌≤◌}
use mathlib.Core.Path.{◌≡◌, refl}
use mathlib.Core.Bool.{Bool, true, false, not, ◌&&◌, ◌||◌}
use mathlib.Core.Logic.{◌⊎◌, inl, inr, ⊎_elim}
use native.Mathlib.Nat.{not-le_of_lt}
use lib.Dec.{eqb, leb, ltb}
use borrow.Author.Tests.{eqb-true, eqb-false, leb-true, leb-false, ltb-true, ltb-false}

-- the test b is true exactly where P holds
pub data Tests (P : Type 0) : Bool → Type 0 where
  holds : P → Tests P true
  fails : ¬ P → Tests P false

pub tests_dec : {P : Type 0} {b : Bool} → Tests P b → Dec P
tests_dec (holds p) = yes p
tests_dec (fails h) = no h

-- the same test for an equivalent statement
pub tests_map : {P Q : Type 0} {b : Bool} → (P → Q) → (Q → P) → Tests P b → Tests Q b
tests_map f g (holds p) = holds (f p)
tests_map f g (fails h) = fails (λ q. h (g q))

pub tests_not : {P : Type 0} {b : Bool} → Tests P b → Tests (¬ P) (not b)
tests_not (holds p) = fails (λ h. h p)
tests_not (fails h) = holds h

pub tests_and : {P Q : Type 0} {a b : Bool} → Tests P a → Tests Q b → Tests (P × Q) (a && b)
tests_and (holds p) (holds q) = holds (p, q)
tests_and (holds p) (fails h) = fails (λ t. h t.1)
tests_and (fails h) t = fails (λ t. h t.0)

pub tests_or : {P Q : Type 0} {a b : Bool} → Tests P a → Tests Q b → Tests (P ⊎ Q) (a || b)
tests_or (holds p) t = holds (inl p)
tests_or (fails h) (holds q) = holds (inr q)
tests_or (fails h) (fails k) = fails (⊎_elim h k)

pub tests_implies : {P Q : Type 0} {a b : Bool} → Tests P a → Tests Q b → Tests (P → Q) (not a || b)
tests_implies (holds p) (holds q) = holds (λ p. q)
tests_implies (holds p) (fails h) = fails (λ f. h (f p))
tests_implies (fails h) t = holds (λ p. absurd (h p))

-- the tests of numbers

tests_of : {P : Type 0} (b : Bool) → (b ≡ true → P) → (b ≡ false → ¬ P) → Tests P b
tests_of true f g = holds (f refl)
tests_of false f g = fails (g refl)

pub tests_eq : (a b : ℕ) → Tests (a ≡ b) (eqb a b)
tests_eq a b = tests_of (eqb a b) (eqb-true a b) (eqb-false a b)

pub tests_le : (a b : ℕ) → Tests (a ≤ b) (leb a b)
tests_le a b = tests_of (leb a b) (leb-true a b) (λ e. not-le_of_lt (leb-false a b e))

pub tests_lt : (a b : ℕ) → Tests (a < b) (ltb a b)
tests_lt a b = tests_of (ltb a b) (ltb-true a b) (λ e l. not-le_of_lt l (ltb-false a b e))
