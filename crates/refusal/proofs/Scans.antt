-- Laws of a scan, and what a caller that has looked at the answer knows.
use Prim.Native.Nat.{ℕ, ◌+◌, ◌<◌}
use native.Mathlib.Nat.{not-suc-le-zero}
use borrow.Author.Count.{below_more}
use mathlib.Core.Path.{◌≡◌, subst}
use Rattle.refusal.specs.promise.Row.{Lowest, NoPlace}
use Rattle.refusal.specs.parts.Found.{Finds, Scanned}
use Rattle.std.specs.Prelude.{Option, Some, None}

-- nothing is passed at the start
pub scan_none : {P : ℕ → Type 0} → Scanned P 0
scan_none = record { clear = λ x l p. not-suc-le-zero l }

-- one place more at which P does not hold
pub scan_more : {P : ℕ → Type 0} {i : ℕ} → Scanned P i → (P i → ⊥) → Scanned P (i + 1)
scan_more {P} {i} s here = record { clear = below_more (λ x. P x → ⊥) i s.clear here }

-- the first place at which P holds
pub scan_found : {P : ℕ → Type 0} {i : ℕ} → Scanned P i → P i → Lowest P i
scan_found s p = record { holds = p; lower = s.clear }

-- at the end: P holds only below n, and all that is passed
pub scan_all : {P : ℕ → Type 0} {i : ℕ} → Scanned P i → ((x : ℕ) → P x → x < i) → NoPlace P
scan_all s within x p = s.clear x (within x p) p

-- a place was found
pub found_at : (P : ℕ → Type 0) {f : Option ℕ} {x : ℕ} → f ≡ Some x → Finds P f → Lowest P x
found_at P e h = subst (Finds P) e h

-- none was found
pub found_nowhere : (P : ℕ → Type 0) {f : Option ℕ} → f ≡ None → Finds P f → NoPlace P
found_nowhere P e h = subst (Finds P) e h
