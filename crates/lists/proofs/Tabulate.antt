-- A list given by a function: its length, what stands in it and past it.
use Prim.Native.Nat.{ℕ, zero, suc, ◌<◌, ◌≤◌}
use mathlib.Core.Path.{◌≡◌, refl, ap}
use native.Mathlib.Nat.{le_of_suc-le-suc, not-suc-le-zero}
use lib.ListN.{length, get_or}
use Rattle.lists.specs.promise.Sequence.{tabulate}

pub length_tabulate : (n : ℕ) (f : ℕ → ℕ) → length (tabulate n f) ≡ n
length_tabulate zero f = refl
length_tabulate (suc n) f = ap suc (length_tabulate n (λ i. f (suc i)))

pub tabulate_at : (n : ℕ) (f : ℕ → ℕ) (i : ℕ) → i < n → get_or (tabulate n f) i 0 ≡ f i
tabulate_at zero f i l = absurd (not-suc-le-zero l)
tabulate_at (suc n) f zero l = refl
tabulate_at (suc n) f (suc i) l = tabulate_at n (λ i. f (suc i)) i (le_of_suc-le-suc l)

pub tabulate_past : (n : ℕ) (f : ℕ → ℕ) (i : ℕ) → n ≤ i → get_or (tabulate n f) i 0 ≡ 0
tabulate_past zero f i l = refl
tabulate_past (suc n) f zero l = absurd (not-suc-le-zero l)
tabulate_past (suc n) f (suc i) l = tabulate_past n (λ i. f (suc i)) i (le_of_suc-le-suc l)
