-- A pile of none.
use Prim.Native.Nat.{ℕ}
use mathlib.Core.List.{List}
use native.Mathlib.Omega.{arith}
use Rattle.pile.specs.parts.Pile.{Piled}

pub piled_none : {n : ℕ} {pile : List ℕ} → Piled n pile 0
piled_none = record { within = omega arith; vertex = λ i l. absurd (omega arith) }
