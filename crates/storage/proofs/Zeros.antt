-- What is left in a work space: zeros where it is filled with 0 and over two calls, and that each refusal leaves one thing.
use mathlib.Core.Path.{◌≡◌, sym, subst, ◌∙◌}
use mathlib.Core.List.{List}
use Prim.Native.Nat.{ℕ}
use native.Mathlib.Decide.{dec_le}
use native.Mathlib.Omega.{arith}
use lib.ListN.{length}
use lib.Seq.{ext_get_or}
use Rattle.lists.specs.parts.Cells.{Filled}
use Rattle.storage.specs.promise.Lent.{Zeroed, Judging, Leaves}

pub filled_zeroed : {work work' : List ℕ} → length work' ≡ length work → Filled work' 0 → Zeroed work work'
filled_zeroed e f = record { long = e; zero = f.all }

pub zeroed_more : {a b c : List ℕ} → Zeroed a b → Zeroed b c → Zeroed a c
zeroed_more x y = record { long = y.long ∙ x.long; zero = y.zero }

pub zeroed_unique : {work a b : List ℕ} → Zeroed work a → Zeroed work b → a ≡ b
zeroed_unique {work} {a} {b} x y =
    let e : length a ≡ length b = x.long ∙ sym y.long in
    ext_get_or 0 a b e (λ i l. x.zero i l ∙ sym (y.zero i (omega arith)))

-- whether a number is one of 11 to 14 is decided
judging_or_not : (k : ℕ) → Dec (Judging k)
judging_or_not k = elim (dec_le 11 k) [
  | yes l ↦ elim (dec_le k 14) [ yes m ↦ yes (record { least = l; most = m }) | no h ↦ no (λ j. h j.most) ]
  | no h ↦ no (λ j. h j.least)
]

pub leaves_unique : {k l : ℕ} {work a b : List ℕ} → k ≡ l → Leaves k work a → Leaves l work b → a ≡ b
leaves_unique {k} {l} {work} {a} {b} e x z = elim (judging_or_not k) [
  | yes j ↦ zeroed_unique (x.zeroed j) (y.zeroed j)
  | no h ↦ x.same h ∙ sym (y.same h)
]
  where
    y : Leaves k work b
    y = subst (λ (m : ℕ). Leaves m work b) (sym e) z
