-- What a block holds, by place: before its payload its name, behind it zeros.
use Prim.Native.Nat.{ℕ, zero, suc, ◌+◌, ◌-◌, ◌<◌, ◌≤◌}
use mathlib.Core.Path.{◌≡◌, refl, ap, sym, ◌∙◌}
use native.Mathlib.Omega.{arith}
use borrow.Author.Tests.{le-ltb}
use lib.ListN.{length}
use Rattle.game.specs.promise.Tables.{vertices}
use Rattle.format.specs.promise.Format.{Filing, kind_of, used_of, payload_byte, body_byte}
use Rattle.format.proofs.Picks.{pick_false}
use Rattle.pieces.specs.parts.Pieces.{name_byte, zero_byte}

module _ (f : Filing) where
  abbrev n : ℕ
  n = vertices f.tables

  abbrev m : ℕ
  m = length f.tables.targets

  pub body_name : (b i : ℕ) → i < 6 → name_byte b (kind_of n b) (used_of n m b) i ≡ body_byte f b i
  body_name b zero l = refl
  body_name b (suc zero) l = refl
  body_name b (suc (suc zero)) l = refl
  body_name b (suc (suc (suc zero))) l = refl
  body_name b (suc (suc (suc (suc zero)))) l = refl
  body_name b (suc (suc (suc (suc (suc zero))))) l = refl
  body_name b (suc (suc (suc (suc (suc (suc k)))))) l = absurd (let z : ⊥ = omega arith in z)

  -- byte k of the payload stands at 6 + k
  behind : (b i k : ℕ) → i ≡ 6 + k → body_byte f b i ≡ body_byte f b (suc (suc (suc (suc (suc (suc k))))))
  behind b i k e = ap (body_byte f b) (let q : i ≡ suc (suc (suc (suc (suc (suc k))))) = omega arith in q)

  pub body_unused : (b i : ℕ) → 6 + used_of n m b ≤ i → zero_byte i ≡ body_byte f b i
  body_unused b i u =
      let k : used_of n m b ≤ i - 6 = omega arith in
      sym (behind b i (i - 6) (let q : i ≡ 6 + (i - 6) = omega arith in q) ∙ pick_false (payload_byte f b (i - 6)) 0 (le-ltb (i - 6) _ k))
