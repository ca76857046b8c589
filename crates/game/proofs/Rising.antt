-- Numbers that do not fall from one place of a list to the next, and so not over several.
use Prim.Native.Nat.{ℕ, zero, suc, ◌+◌, ◌-◌, ◌<◌, ◌≤◌}
use mathlib.Core.Path.{◌≡◌, sym, subst}
use mathlib.Core.List.{List}
use native.Mathlib.Omega.{arith}
use native.Mathlib.Decide.{ℕ_discrete}
use native.Mathlib.Nat.{le_refl, le_trans, not-suc-le-zero, add-zero, add-sub_of_le}
use lib.ListN.{length, get_or}
use Rattle.game.specs.promise.Game.{Ascending}

-- the numbers below place v do not fall
pub record Rising (l : List ℕ) (v : ℕ) : Type 0 where
  pub rising : (i : ℕ) → i + 1 < v → get_or l i 0 ≤ get_or l (i + 1) 0

pub rising_one : {l : List ℕ} → Rising l 1
rising_one = record { rising = λ i h. absurd (not-suc-le-zero {n = i} (omega arith)) }

pub rising_more : (l : List ℕ) (v : ℕ) → 1 ≤ v → get_or l (v - 1) 0 ≤ get_or l v 0 → Rising l v → Rising l (v + 1)
rising_more l v some here r = record { rising = λ i h. elim (ℕ_discrete (i + 1) v) [ yes e ↦ at i e | no ne ↦ r.rising i (omega arith) ] }
  where
    at : (i : ℕ) → i + 1 ≡ v → get_or l i 0 ≤ get_or l (i + 1) 0
    at i e =
        let d : i ≡ v - 1 = omega arith in
        subst (λ (k : ℕ). get_or l k 0 ≤ get_or l (i + 1) 0) (sym d) (subst (λ (k : ℕ). get_or l (v - 1) 0 ≤ get_or l k 0) (sym e) here)

pub rising_to : {l : List ℕ} {v w : ℕ} → v ≡ w → Rising l v → Rising l w
rising_to {l} e r = subst (Rising l) e r

rising_over : {l : List ℕ} {m : ℕ} → Rising l m → (d v : ℕ) → v + d < m → get_or l v 0 ≤ get_or l (v + d) 0
rising_over r zero v h = rw add-zero (le_refl _)
rising_over {l} r (suc d) v h =
    let e : v + d + 1 ≡ v + suc d = omega arith in
    subst (λ (k : ℕ). get_or l v 0 ≤ get_or l k 0) e (le_trans (rising_over r d v (omega arith)) (r.rising (v + d) (omega arith)))

-- one is at most any later one
pub rising_from : {l : List ℕ} {m : ℕ} → Rising l m → (v w : ℕ) → v ≤ w → w < m → get_or l v 0 ≤ get_or l w 0
rising_from {l} r v w a b = subst (λ (k : ℕ). get_or l v 0 ≤ get_or l k 0) (add-sub_of_le a) (rising_over r (w - v) v (omega arith))

-- so also where numbers ascend
pub ascending_from : (l : List ℕ) → Ascending l → (v w : ℕ) → v ≤ w → w < length l → get_or l v 0 ≤ get_or l w 0
ascending_from l up = rising_from {l = l} (record { rising = λ i h. omega (arith, up i h) })
