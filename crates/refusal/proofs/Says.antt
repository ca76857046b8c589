-- Laws of a test's answer.
use Prim.Native.Nat.{ℕ}
use mathlib.Core.Path.{◌≡◌, sym, subst}
use mathlib.Core.Bool.{Bool, true, false, not}
use lib.Dec.{eqb}
use borrow.Author.Tests.{eqb-true, eqb-false, not-true, not-false}
use Rattle.refusal.specs.parts.Says.{Says}

abbrev Bit : Bool → Type 0
Bit true = Unit {0}
Bit false = ⊥

pub says_yes : {P : Type 0} → P → Says P true
says_yes p = record { holds = λ e. p; fails = λ e. absurd (subst Bit e tt) }

pub says_no : {P : Type 0} → ¬ P → Says P false
says_no h = record { holds = λ e. absurd (subst Bit (sym e) tt); fails = λ e. h }

-- the answer of another test, of its negation, of a comparison

pub says_iff : {P Q : Type 0} {b : Bool} → (P → Q) → (Q → P) → Says P b → Says Q b
says_iff f g s = record { holds = λ e. f (s.holds e); fails = λ e q. s.fails e (g q) }

pub says_not : {P Q : Type 0} {b : Bool} → (P → ¬ Q) → (¬ P → Q) → Says P b → Says Q (not b)
says_not {b} f g s = record { holds = λ e. g (s.fails (not-true b e)); fails = λ e. f (s.holds (not-false b e)) }

pub says_eqb : {P : Type 0} {x y : ℕ} → (x ≡ y → P) → (P → x ≡ y) → Says P (eqb x y)
says_eqb {x} {y} f g = record { holds = λ e. f (eqb-true x y e); fails = λ e p. eqb-false x y e (g p) }
