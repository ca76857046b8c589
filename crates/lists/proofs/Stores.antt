-- A store into a list, and a list that is filled cell by cell.
use Prim.Native.Nat.{ℕ, ◌+◌, ◌<◌, ◌≤◌}
use mathlib.Core.Path.{◌≡◌, refl, sym, subst, ap, ◌∙◌}
use mathlib.Core.Logic.{◌≢◌}
use mathlib.Core.List.{List}
use native.Mathlib.Omega.{arith}
use native.Mathlib.Decide.{ℕ_discrete}
use native.Mathlib.Nat.{not-suc-le-zero}
use lib.ListN.{length, get_or, set, replicate, length-set, length-replicate, get_or-replicate}
use lib.Seq.{get_or-set_same, get_or-set_other}
use Rattle.lists.specs.parts.Cells.{Filled}

-- copies of a value fill a list
pub filled_copies : {value : ℕ} {cells : List ℕ} (n : ℕ) → cells ≡ replicate n value → Filled cells value
filled_copies {value} {cells} n e =
    record { all = λ i l. subst (λ (c : List ℕ). get_or c i 0 ≡ value) (sym e) (get_or-replicate n i value 0 (omega (arith, ap length e, length-replicate n value))) }

-- what holds of the new value at its place, and of the old values elsewhere, holds after the store
pub at_set : (P : ℕ → ℕ → Type 0) (l : List ℕ) (i v : ℕ) → i < length l → P i v → (k : ℕ) → (k ≢ i → P k (get_or l k 0)) → P k (get_or (set l i v) k 0)
at_set P l i v h here k other =
    elim (ℕ_discrete k i) [ yes e ↦ subst (λ (j : ℕ). P j (get_or (set l i v) j 0)) (sym e) (subst (P i) (sym (get_or-set_same l i v 0 h)) here) | no ne ↦ subst (P k) (sym (get_or-set_other l i k v 0 ne)) (other ne) ]

-- the cells below i hold the value, and there are as many as before
pub record Filling (cells₀ : List ℕ) (value : ℕ) (cells : List ℕ) (i : ℕ) : Type 0 where
  pub within : i ≤ length cells₀
  pub long : length cells ≡ length cells₀
  pub below : (k : ℕ) → k < i → get_or cells k 0 ≡ value

pub filling_none : {cells : List ℕ} {value : ℕ} → Filling cells value cells 0
filling_none = record { within = omega arith; long = refl; below = λ k l. absurd (not-suc-le-zero l) }

pub filling_more : {cells₀ cells : List ℕ} {value i : ℕ} → Filling cells₀ value cells i → i < length cells → Filling cells₀ value (set cells i value) (i + 1)
filling_more {cells₀} {cells} {value} {i} f l =
    record {
      within = omega (arith, f.long);
      long = length-set cells i value ∙ f.long;
      below = λ k m. at_set (λ j x. x ≡ value) cells i value l refl k (λ ne. f.below k (omega arith));
    }

pub filling_all : {cells₀ cells : List ℕ} {value i : ℕ} → Filling cells₀ value cells i → length cells ≤ i → Filled cells value
filling_all f l = record { all = λ k m. f.below k (omega arith) }
