-- The field of a move: a dash, or the number.
use Prim.Native.Nat.{ℕ}
use mathlib.Core.Path.{◌≡◌, ap}
use mathlib.Core.Bool.{Bool, cond}
use borrow.Author.Tests.{eq-eqb, ne_eqb}
use Rattle.text.specs.promise.Text.{decimal_of}
use Rattle.lines.specs.promise.Lines.{dash, move_field}

pub move_none : (to : ℕ) → to ≡ 65535 → move_field to ≡ dash
move_none to e = ap (λ (b : Bool). cond b dash (decimal_of to)) (eq-eqb to 65535 e)

pub move_some : (to : ℕ) → (to ≡ 65535 → ⊥) → move_field to ≡ decimal_of to
move_some to e = ap (λ (b : Bool). cond b dash (decimal_of to)) (ne_eqb to 65535 e)
