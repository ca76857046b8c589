-- Distinctions of cases that several proofs make.
use Prim.Native.Nat.{ℕ, suc, ◌<◌}
use mathlib.Core.Path.{sym, subst}
use mathlib.Core.Logic.{◌≢◌, ⊎_elim}
use native.Mathlib.Decide.{ℕ_discrete}
use native.Mathlib.Nat.{eq-or-lt_of_le, le_of_suc-le-suc}

-- what holds at v and at all others holds at all
pub at_or_else : (v : ℕ) (P : ℕ → Type 0) → P v → ((u : ℕ) → u ≢ v → P u) → (u : ℕ) → P u
at_or_else v P here other u = elim (ℕ_discrete u v) [ yes e ↦ subst P (sym e) here | no d ↦ other u d ]

-- what holds below n and at n holds below n+1
pub widen : {n : ℕ} (P : ℕ → Type 0) → ((u : ℕ) → u < n → P u) → P n → (u : ℕ) → u < suc n → P u
widen P before last u l = ⊎_elim (λ e. subst P (sym e) last) (before u) (eq-or-lt_of_le (le_of_suc-le-suc l))
