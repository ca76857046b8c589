-- The kind of a block as a byte, and how much of its payload is used, by where the block stands.
use Prim.Native.Nat.{ℕ, zero, suc, ◌+◌, ◌-◌, ◌*◌, ◌<◌, ◌≤◌, min}
use mathlib.Core.Path.{◌≡◌, refl, ap, sym, subst, ◌∙◌}
use mathlib.Core.Bool.{Bool}
use native.Mathlib.Omega.{arith}
use native.Mathlib.Decide.{ℕ_discrete, dec_le}
use borrow.Author.Tests.{lt-ltb, le-ltb}
use denote.Enum.Declared.{tag_of}
use Rattle.format.specs.declared.extent.BlockKind.{BlockKind}
use Rattle.format.specs.declared.extent.BlockKind.TheVariants as kind
use Rattle.format.specs.contracts.extent.BlockKind.{the_type}
use Rattle.format.specs.promise.Format.{pick, used_of, vertex_blocks}
use Rattle.format.specs.parts.Kinds.{kind_number}

pub kind_byte : (k : BlockKind) → tag_of the_type k + 1 ≡ kind_number k
kind_byte kind.Header = refl
kind_byte kind.Vertices = refl
kind_byte kind.Targets = refl

pub used_vertex : (n m b : ℕ) → ¬ (b ≡ 0) → b ≤ vertex_blocks n → used_of n m b ≡ min 504 (4 * n - 504 * (b - 1))
used_vertex n m zero some l = absurd (some refl)
used_vertex n m (suc b) some l =
    let e : b ≡ suc b - 1 = omega arith in
    ap (λ (t : Bool). pick t (min 504 (4 * n - 504 * b)) (min 504 (2 * m - 504 * (b - vertex_blocks n)))) (lt-ltb b (vertex_blocks n) l) ∙
    ap (λ (k : ℕ). min 504 (4 * n - 504 * k)) e

pub used_target : (n m b : ℕ) → vertex_blocks n < b → used_of n m b ≡ min 504 (2 * m - 504 * (b - 1 - vertex_blocks n))
used_target n m zero l = absurd (let z : ⊥ = omega arith in z)
used_target n m (suc b) l =
    let e : b ≡ suc b - 1 = omega arith in
    let k : vertex_blocks n ≤ b = omega arith in
    ap (λ (t : Bool). pick t (min 504 (4 * n - 504 * b)) (min 504 (2 * m - 504 * (b - vertex_blocks n)))) (le-ltb b (vertex_blocks n) k) ∙
    ap (λ (k : ℕ). min 504 (2 * m - 504 * (k - vertex_blocks n))) e

-- never more than the payload
pub used_most : (n m b : ℕ) → used_of n m b ≤ 504
used_most n m b = at (ℕ_discrete b 0) (dec_le b (vertex_blocks n))
  where
    at : Dec (b ≡ 0) → Dec (b ≤ vertex_blocks n) → used_of n m b ≤ 504
    at (yes z) d = subst (λ (k : ℕ). used_of n m k ≤ 504) (sym z) (omega arith)
    at (no some) (yes l) = omega (arith, used_vertex n m b some l)
    at (no some) (no h) = let l : vertex_blocks n < b = omega arith in omega (arith, used_target n m b l)
