-- A test at every list that takes one number from each of given lists: how all moves of a small game are gone over.
use Prim.Native.Nat.{ℕ, zero, suc, ◌<◌, suc-le-suc}
use mathlib.Core.Path.{◌≡◌, sym, subst}
use mathlib.Core.Bool.{Bool, true, ◌&&◌}
use mathlib.Core.Logic.{⊎_elim}
use mathlib.Core.List.{List, [], ◌∷◌}
use native.Mathlib.Nat.{not-suc-le-zero, zero-lt-suc, le_of_suc-le-suc, eq-or-lt_of_le}
use native.Mathlib.Omega.{arith}
use lib.Dec.{T}
use lib.ListN.{length, get_or}
use Rattle.game.specs.promise.Game.{Listed}
use Rattle.cases.proofs.Equal.{both_tests}

-- whether all numbers of the list pass
abbrev every_of : (ℕ → Bool) → List ℕ → Bool
every_of t [] = true
every_of t (x ∷ l) = t x && every_of t l

at_listed : (t : ℕ → Bool) (l : List ℕ) → T (every_of t l) → (w : ℕ) → Listed w l → T (t w)
at_listed t l h w m = at l h m.at m.within m.is
  where
    at : (l : List ℕ) → T (every_of t l) → (i : ℕ) → i < length l → get_or l i 0 ≡ w → T (t w)
    at [] h i m e = absurd (not-suc-le-zero m)
    at (x ∷ l) h zero m e = subst (λ y. T (t y)) e (both_tests (t x) (every_of t l) h).0
    at (x ∷ l) h (suc i) m e = at l (both_tests (t x) (every_of t l) h).1 i (le_of_suc-le-suc m) e

-- whether all lists pass that take a number from the first n of the lists `from`, one from each
abbrev pub every_choice : (from : ℕ → List ℕ) (n : ℕ) → (List ℕ → Bool) → Bool
every_choice from zero t = t []
every_choice from (suc n) t = every_of (λ x. every_choice (λ i. from (suc i)) n (λ l. t (x ∷ l))) (from zero)

pub at_choice :
    (from : ℕ → List ℕ) (n : ℕ) (t : List ℕ → Bool) → T (every_choice from n t) →
    (l : List ℕ) → length l ≡ n → ((i : ℕ) → i < n → Listed (get_or l i 0) (from i)) → T (t l)
at_choice from zero t h [] e c = h
at_choice from zero t h (x ∷ l) e c = absurd (not-suc-le-zero {n = length l} (omega arith))
at_choice from (suc n) t h [] e c = absurd (not-suc-le-zero {n = n} (omega arith))
at_choice from (suc n) t h (x ∷ l) e c =
    at_choice (λ i. from (suc i)) n (λ l. t (x ∷ l))
    (at_listed (λ y. every_choice (λ i. from (suc i)) n (λ l. t (y ∷ l))) (from zero) h x (c zero (zero-lt-suc n)))
    l (omega arith) (λ i m. c (suc i) (suc-le-suc m))

-- whether all numbers below n pass
abbrev pub every_below : (ℕ → Bool) → ℕ → Bool
every_below t zero = true
every_below t (suc n) = t n && every_below t n

pub at_below : (t : ℕ → Bool) (n : ℕ) → T (every_below t n) → (v : ℕ) → v < n → T (t v)
at_below t zero h v l = absurd (not-suc-le-zero l)
at_below t (suc n) h v l =
    let s = both_tests (t n) (every_below t n) h in
    ⊎_elim (λ e. subst (λ u. T (t u)) (sym e) s.0) (λ m. at_below t n s.1 v m) (eq-or-lt_of_le (le_of_suc-le-suc l))
