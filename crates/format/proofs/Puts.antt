-- Bytes put from the front on: one, then more, until all are there.
use Prim.Native.Nat.{ℕ, ◌+◌, ◌<◌, ◌≤◌}
use mathlib.Core.Path.{◌≡◌, refl, subst, ◌∙◌}
use mathlib.Core.List.{List}
use native.Mathlib.Omega.{arith}
use native.Mathlib.Decide.{dec_lt}
use native.Mathlib.Nat.{not-suc-le-zero}
use lib.ListN.{length, set, length-set}
use lib.Seq.{get_or-set_other}
use Rattle.lists.proofs.Stores.{at_set}
use Rattle.format.specs.parts.Put.{Put, Begun}

-- nothing is put
pub put_none : (a : ℕ) (value : ℕ → ℕ) (l : List ℕ) → Put a a value l l
put_none a value l = record { long = refl; is = λ i m n. absurd (let z : ⊥ = omega arith in z); below = λ i m. refl; above = λ i m. refl }

-- one byte is stored
pub put_one : (l : List ℕ) (at v : ℕ) (value : ℕ → ℕ) → at < length l → v ≡ value at → Put at (at + 1) value l (set l at v)
put_one l at v value w e =
    record {
      long = length-set l at v;
      is = λ i m n. at_set (λ j x. x ≡ value j) l at v w e i (λ ne. absurd (ne (let q : i ≡ at = omega arith in q)));
      below = λ i m. get_or-set_other l at i v 0 (λ q. let z : ⊥ = omega arith in z);
      above = λ i m. get_or-set_other l at i v 0 (λ q. let z : ⊥ = omega arith in z);
    }

-- more is put behind what was put
pub put_then : {a b c : ℕ} {value : ℕ → ℕ} {x y z : List ℕ} → a ≤ b → b ≤ c → Put a b value x y → Put b c value y z → Put a c value x z
put_then {a} {b} {c} {value} {x} {y} {z} ab bc p q =
    record {
      long = q.long ∙ p.long;
      is = λ i m n. elim (dec_lt i b) [ yes l ↦ q.below i l ∙ p.is i m l | no h ↦ q.is i (let k : b ≤ i = omega arith in k) n ];
      below = λ i m. q.below i (let k : i < b = omega arith in k) ∙ p.below i m;
      above = λ i m. q.above i m ∙ p.above i (let k : b ≤ i = omega arith in k);
    }

-- the same bytes, said by another function
pub put_as : {a b : ℕ} {f g : ℕ → ℕ} {x y : List ℕ} → Put a b f x y → ((i : ℕ) → a ≤ i → i < b → f i ≡ g i) → Put a b g x y
put_as p same = record { long = p.long; is = λ i m n. p.is i m n ∙ same i m n; below = p.below; above = p.above }

-- the same end, said otherwise
pub put_upto : {a b c : ℕ} {value : ℕ → ℕ} {x y : List ℕ} → b ≡ c → Put a b value x y → Put a c value x y
put_upto {a} {value} {x} {y} e p = subst (λ (k : ℕ). Put a k value x y) e p

pub begun_none : {size : ℕ} {value : ℕ → ℕ} {l : List ℕ} → length l ≡ size → Begun size value 0 l
begun_none e = record { long = e; is = λ i m. absurd (not-suc-le-zero m) }

-- what is put goes on where the list has been begun
pub begun_more : {size k e : ℕ} {value : ℕ → ℕ} {x y : List ℕ} → Begun size value k x → Put k e value x y → Begun size value e y
begun_more {size} {k} {e} {value} {x} {y} b p =
    record {
      long = p.long ∙ b.long;
      is = λ i m. elim (dec_lt i k) [ yes l ↦ p.below i l ∙ b.is i l | no h ↦ p.is i (let n : k ≤ i = omega arith in n) m ];
    }
