-- Settled is flag 0.
use Prim.Native.Nat.{ℕ}
use mathlib.Core.Path.{◌≡◌}
use mathlib.Core.List.{List}
use native.Mathlib.Omega.{arith}
use lib.ListN.{get_or}
use Rattle.space.specs.parts.Work.{section}
use Rattle.levels.specs.parts.Levels.{settled_of}

pub flag_settled : (n : ℕ) (work : List ℕ) (u : ℕ) → get_or (section 0 n work) u 0 ≡ 0 → settled_of n work u ≡ 1
unfolding settled_of
flag_settled n work u e = omega arith

pub settled_flag : (n : ℕ) (work : List ℕ) (u : ℕ) → settled_of n work u ≡ 1 → get_or (section 0 n work) u 0 ≡ 0
unfolding settled_of
settled_flag n work u e = omega arith

pub same_settled : (n : ℕ) (work work' : List ℕ) (u : ℕ) → get_or (section 0 n work') u 0 ≡ get_or (section 0 n work) u 0 → settled_of n work' u ≡ settled_of n work u
unfolding settled_of
same_settled n work work' u e = omega arith
