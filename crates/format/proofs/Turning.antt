-- The highest priority, and the priorities turned by it.
use Prim.Native.Nat.{ℕ, zero, suc, ◌-◌, ◌<◌, ◌≤◌}
use mathlib.Core.Path.{◌≡◌, refl}
use mathlib.Core.List.{List, [], ◌∷◌, map}
use native.Mathlib.Omega.{arith}
use native.Mathlib.Nat.{le_of_suc-le-suc, not-suc-le-zero}
use lib.ListN.{length, get_or, length-map, get_or-eq_default}
use Rattle.format.specs.promise.Format.{highest_of, turned_of}

pub highest_above : (l : List ℕ) (k : ℕ) → get_or l k 0 ≤ highest_of l
highest_above [] k = omega arith
highest_above (p ∷ l) zero = omega arith
highest_above (p ∷ l) (suc k) = let h : get_or l k 0 ≤ highest_of l = highest_above l k in omega arith

pub highest_below : (l : List ℕ) (b : ℕ) → ((k : ℕ) → k < length l → get_or l k 0 ≤ b) → highest_of l ≤ b
highest_below [] b all = omega arith
highest_below (p ∷ l) b all =
    let x : p ≤ b = all 0 (omega arith) in
    let y : highest_of l ≤ b = highest_below l b (λ k m. all (suc k) (omega arith)) in
    omega arith

-- the turning, place by place

map_at : (f : ℕ → ℕ) (l : List ℕ) (v : ℕ) → v < length l → get_or (map f l) v 0 ≡ f (get_or l v 0)
map_at f [] v m = absurd (not-suc-le-zero m)
map_at f (x ∷ l) zero m = refl
map_at f (x ∷ l) (suc v) m = map_at f l v (le_of_suc-le-suc m)

pub turned_long : (rule : ℕ) (l : List ℕ) → length (turned_of rule l) ≡ length l
turned_long zero l = refl
turned_long (suc rule) l = length-map l (λ p. highest_of l - p)

pub turned_plain : (rule : ℕ) (l : List ℕ) (v : ℕ) → rule ≡ 0 → get_or (turned_of rule l) v 0 ≡ get_or l v 0
turned_plain zero l v e = refl
turned_plain (suc rule) l v e = absurd (let z : ⊥ = omega arith in z)

pub turned_over : (rule : ℕ) (l : List ℕ) (v : ℕ) → ¬ (rule ≡ 0) → v < length l → get_or (turned_of rule l) v 0 ≡ highest_of l - get_or l v 0
turned_over zero l v h m = absurd (h refl)
turned_over (suc rule) l v h m = map_at (λ p. highest_of l - p) l v m

pub turned_past : (rule : ℕ) (l : List ℕ) (v : ℕ) → length l ≤ v → get_or (turned_of rule l) v 0 ≡ 0
turned_past rule l v m = let h : length (turned_of rule l) ≤ v = omega (arith, turned_long rule l) in get_or-eq_default (turned_of rule l) 0 h
