-- A choice by a test whose outcome is known.
use Prim.Native.Nat.{ℕ}
use mathlib.Core.Path.{◌≡◌, ap}
use mathlib.Core.Bool.{Bool, true, false}
use Rattle.format.specs.promise.Format.{pick}

pub pick_true : {t : Bool} (a b : ℕ) → t ≡ true → pick t a b ≡ a
pick_true a b e = ap (λ (t : Bool). pick t a b) e

pub pick_false : {t : Bool} (a b : ℕ) → t ≡ false → pick t a b ≡ b
pick_false a b e = ap (λ (t : Bool). pick t a b) e
