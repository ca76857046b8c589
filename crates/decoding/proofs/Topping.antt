-- The highest priority, found in one pass.
use Prim.Native.Nat.{ℕ, max}
use mathlib.Core.Path.{◌≡◌, ◌∙◌}
use mathlib.Core.List.{List, [], ◌∷◌}
use native.Mathlib.Omega.{arith}
use Rattle.std.specs.List.{fold}
use Rattle.format.specs.promise.Format.{highest_of}

pub fold_highest : (top : ℕ) (list : List ℕ) → fold (λ t p. max t p) top list ≡ max top (highest_of list)
fold_highest top [] = omega arith
fold_highest top (p ∷ list) = fold_highest (max top p) list ∙ omega arith
