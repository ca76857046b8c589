-- Tests that compute: equality of lists and of what is said; and how a test that antt has computed is put to use.
use Prim.Native.Nat.{ℕ}
use mathlib.Core.Path.{◌≡◌, refl, ap, ap₂}
use mathlib.Core.Bool.{Bool, true, false, ◌&&◌}
use mathlib.Core.List.{List, [], ◌∷◌}
use native.Mathlib.Omega.{arith}
use lib.Dec.{T, eqb}
use lib.ListN.{length}
use Rattle.refusal.specs.promise.Row.{Said, success, refused}
use Rattle.winning.proofs.Reflect.{Tests, holds, fails, tests_map, tests_and, tests_eq}

-- what a passed test says
pub by_test : {P : Type 0} {b : Bool} → Tests P b → T b → P
by_test (holds p) t = p
by_test (fails h) t = absurd t

-- a test tests itself
pub tests_itself : (b : Bool) → Tests (T b) b
tests_itself true = holds tt
tests_itself false = fails (λ t. t)

pub both_tests : (a b : Bool) → T (a && b) → T a × T b
both_tests a b t = by_test (tests_and (tests_itself a) (tests_itself b)) t

abbrev pub is_same : List ℕ → List ℕ → Bool
is_same [] [] = true
is_same [] (y ∷ m) = false
is_same (x ∷ l) [] = false
is_same (x ∷ l) (y ∷ m) = eqb x y && is_same l m

pub tests_same : (l m : List ℕ) → Tests (l ≡ m) (is_same l m)
tests_same [] [] = holds refl
tests_same [] (y ∷ m) = fails (λ e. let n : length {A = ℕ} [] ≡ length (y ∷ m) = ap length e in omega arith)
tests_same (x ∷ l) [] = fails (λ e. let n : length (x ∷ l) ≡ length {A = ℕ} [] = ap length e in omega arith)
tests_same (x ∷ l) (y ∷ m) =
    tests_map (λ t. ap₂ {C = List ℕ} (λ (a : ℕ) (s : List ℕ). a ∷ s) t.0 t.1) (λ e. (cc, cc)) (tests_and (tests_eq x y) (tests_same l m))

abbrev pub is_said : Said → Said → Bool
is_said (success a) (success b) = is_same a b
is_said (success a) (refused l y) = false
is_said (refused k x) (success b) = false
is_said (refused k x) (refused l y) = eqb k l && eqb x y

pub same_said : (a b : Said) → T (is_said a b) → a ≡ b
same_said (success a) (success b) t = ap success (by_test (tests_same a b) t)
same_said (success a) (refused l y) t = absurd t
same_said (refused k x) (success b) t = absurd t
same_said (refused k x) (refused l y) t =
    let e = by_test (tests_and (tests_eq k l) (tests_eq x y)) t in
    ap₂ refused e.0 e.1
