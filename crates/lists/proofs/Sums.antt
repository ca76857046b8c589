-- Sums f 0 + … + f (n−1).
use Prim.Native.Nat.{ℕ, zero, suc, ◌+◌, ◌-◌, ◌<◌, ◌≤◌}
use mathlib.Core.Path.{◌≡◌, refl, ap, ap₂, subst}
use native.Mathlib.Omega.{arith}
use native.Mathlib.Nat.{le_refl, add-zero, add-suc, add-sub_of_le}
use native.Mathlib.Numerals.{add-one}
use Rattle.lists.specs.promise.Sequence.{sum_to}

pub sum_more : (v : ℕ) (f : ℕ → ℕ) → sum_to (v + 1) f ≡ f v + sum_to v f
sum_more v f = ap (λ (k : ℕ). sum_to k f) (add-one v)

up : (d v : ℕ) (f : ℕ → ℕ) → sum_to v f ≤ sum_to (v + d) f
up zero v f = rw add-zero (le_refl _)
up (suc d) v f =
    let a : sum_to v f ≤ sum_to (v + d) f = up d v f in
    rw add-suc (omega arith)

pub sum_upto : (v w : ℕ) (f : ℕ → ℕ) → v ≤ w → sum_to v f ≤ sum_to w f
sum_upto v w f l = subst (λ (k : ℕ). sum_to v f ≤ sum_to k f) (add-sub_of_le l) (up (w - v) v f)

-- terms that agree below n have the same sum
pub sum_same : (n : ℕ) (f g : ℕ → ℕ) → ((i : ℕ) → i < n → f i ≡ g i) → sum_to n f ≡ sum_to n g
sum_same zero f g same = refl
sum_same (suc n) f g same = ap₂ ◌+◌ (same n (le_refl _)) (sum_same n f g (λ i l. same i (omega arith)))
