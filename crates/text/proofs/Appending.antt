-- Appending one thing after another.
use Prim.Native.Nat.{ℕ, ◌+◌, ◌-◌, ◌≤◌}
use mathlib.Core.Path.{◌≡◌, refl, sym, ap, subst, ◌∙◌}
use mathlib.Core.List.{List, [], ◌++◌, append_assoc, append-nil}
use native.Mathlib.Omega.{arith}
use lib.ListN.{length, take, drop, length-append}
use lib.Seq.{drop-drop}
use Rattle.text.specs.parts.Append.{Room, Appended}

-- what is as it was past a place is so past a later one
past_later : (a b : List ℕ) (i j : ℕ) → i ≤ j → drop i a ≡ drop i b → drop j a ≡ drop j b
past_later a b i j l e =
    subst (λ (k : ℕ). drop k a ≡ drop k b) (let q : i + (j - i) ≡ j = omega arith in q)
    (sym (drop-drop (j - i) i a) ∙ ap (λ (l : List ℕ). drop (j - i) l) e ∙ drop-drop (j - i) i b)

-- one append after another
pub appended_both : {a b c : List ℕ} {i j k : ℕ} (x y : List ℕ) → Appended a b i x j → Appended b c j y k → Appended a c i (x ++ y) k
appended_both {a} {b} {i} {j} {k} x y p q =
    record {
      long = q.long ∙ p.long;
      ends = omega (arith, length-append x y, p.ends, q.ends);
      is = q.is ∙ ap (λ (l : List ℕ). l ++ y) p.is ∙ append_assoc (take i a) x y;
      past = q.past ∙ past_later b a j k (omega (arith, q.ends)) p.past;
    }

-- what is appended where there is room ends within the slice
pub appended_within : {a b : List ℕ} {i j : ℕ} (x : List ℕ) → Room a i x → Appended a b i x j → j ≤ length b
appended_within x r p = omega (arith, r.room, p.long, p.ends)

pub appended_none : (text : List ℕ) (at : ℕ) → Appended text text at [] at
appended_none text at = record { long = refl; ends = omega arith; is = sym (append-nil (take at text)); past = refl }

-- the same bytes, said in another way

pub room_as : {text x y : List ℕ} {at : ℕ} → x ≡ y → Room text at x → Room text at y
room_as {text} {at} e r = subst (λ (z : List ℕ). Room text at z) e r

pub appended_as : {before after x y : List ℕ} {at next : ℕ} → x ≡ y → Appended before after at x next → Appended before after at y next
appended_as {before} {after} {at} {next} e p = subst (λ (z : List ℕ). Appended before after at z next) e p
