-- The rows of one block: what each test has seen, and the row's answer.
use Prim.Native.Nat.{ℕ, ◌+◌, ◌*◌, ◌≤◌}
use mathlib.Core.Path.{◌≡◌, refl, sym, subst, ◌∙◌}
use mathlib.Core.Bool.{Bool, true, false, not}
use mathlib.Core.List.{List}
use native.Mathlib.Omega.{arith}
use borrow.Author.Tests.{eqb-true, eqb-false}
use lib.Dec.{eqb}
use Rattle.std.specs.Prelude.{Option, Some, None}
use Rattle.std.specs.Option.{option_and}
use Rattle.std.specs.Bool.{then_some}
use Rattle.refusal.specs.promise.Row.{Lowest, NoPlace}
use Rattle.refusal.specs.parts.Found.{Finds}
use Rattle.format.specs.promise.Format.{check_of, used_of}
use Rattle.format.specs.promise.Filed.{byte_at, word_at, vertices_filed, edges_filed, rule_filed}
use Rattle.format.specs.promise.Faults.{Fault42, Fault44, byte3, used, unused, rule}
use Rattle.block.specs.parts.Bytes.{Stain}

-- a row that applies at one place alone
only_at : {P : ℕ → Type 0} {b : ℕ} → ((y : ℕ) → P y → y ≡ b) → P b → Lowest P b
only_at {b} own p = record { holds = p; lower = λ y l q. let e : y ≡ b = own y q in omega arith }

-- 42: whether the check that the bytes give is the stored one
pub check_decides : (file : List ℕ) (b w s : ℕ) (r : Option ℕ) → w ≡ check_of (λ i. byte_at file (512 * b + i)) → s ≡ word_at file (512 * b + 510) → r ≡ then_some (not (eqb w s)) b → Finds (Fault42 file b) r
check_decides file b w s r made stored q = subst (Finds (Fault42 file b)) (sym q) (at (eqb w s) refl)
  where
    at : (t : Bool) → eqb w s ≡ t → Finds (Fault42 file b) (then_some (not t) b)
    at true e = λ x f. f.wrong (sym stored ∙ sym (eqb-true w s e) ∙ made)
    at false e = only_at (λ y f. f.place) (record { place = refl; wrong = λ h. eqb-false w s e (made ∙ sym h ∙ sym stored) })

-- 44

place44 : (file : List ℕ) (b x : ℕ) → Fault44 file b x → x ≡ b
place44 file b x (byte3 e h) = e
place44 file b x (used e h) = e
place44 file b x (unused e k l m h) = e
place44 file b x (rule e z h) = e

-- byte 3, the used count u and the rule are right: what is found of the unused bytes decides
pub stain_decides : (file : List ℕ) (b u : ℕ) (f r : Option ℕ) → byte_at file (512 * b + 3) ≡ 0 → word_at file (512 * b + 4) ≡ u → u ≡ used_of (vertices_filed file) (edges_filed file) b → (b ≡ 0 → rule_filed file ≤ 1) → Finds (Stain file (512 * b) u) f → r ≡ option_and f (Some b) → Finds (Fault44 file b) r
stain_decides file b u f r z w is low s q = subst (Finds (Fault44 file b)) (sym q) (at f s)
  where
    clean : NoPlace (Stain file (512 * b) u) → NoPlace (Fault44 file b)
    clean s x (byte3 _ g) = g z
    clean s x (used _ g) = g (w ∙ is)
    clean s x (unused _ k l m g) = s k (record { unused = omega arith; payload = m; set = g })
    clean s x (rule _ e g) = let l : rule_filed file ≤ 1 = low e in omega arith

    at : (f : Option ℕ) → Finds (Stain file (512 * b) u) f → Finds (Fault44 file b) (option_and f (Some b))
    at (Some k) s = only_at (place44 file b) (unused refl k (omega (arith, s.holds.unused)) s.holds.payload s.holds.set)
    at None s = clean s
