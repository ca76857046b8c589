-- A whole block: name, payload and zeros make its body, the check the block.
use Prim.Native.Nat.{ℕ, ◌+◌, ◌-◌, ◌*◌, ◌%◌, ◌<◌, ◌≤◌}
use mathlib.Core.Path.{◌≡◌, ap, ap₂, sym, subst, ◌∙◌}
use mathlib.Core.List.{List}
use native.Mathlib.Omega.{arith}
use native.Mathlib.Decide.{dec_lt}
use borrow.Author.Tests.{lt-ltb, le-ltb}
use lib.ListN.{length, get_or}
use Rattle.lists.proofs.Sums.{sum_same}
use Rattle.game.specs.promise.Tables.{vertices}
use Rattle.format.specs.promise.Format.{Filing, low_high, check_of, kind_of, used_of, body_byte, block_byte}
use Rattle.format.specs.promise.Filed.{byte_at}
use Rattle.format.specs.parts.Put.{Put, Begun, word_byte}
use Rattle.format.proofs.Picks.{pick_true, pick_false}
use Rattle.format.proofs.Puts.{put_as, begun_none, begun_more}
use Rattle.pieces.specs.parts.Pieces.{name_byte, zero_byte}
use Rattle.encoding.proofs.Bodies.{body_name, body_unused}

module _ (f : Filing) (b : ℕ) where
  module _ (kind used : ℕ) (kind_is : kind ≡ kind_of (vertices f.tables) b) (used_is : used ≡ used_of (vertices f.tables) (length f.tables.targets) b) where
    pub body_put : {v w x y : List ℕ} → length v ≡ 512 → Put 0 6 (name_byte b kind used) v w → Put 6 (6 + used_of (vertices f.tables) (length f.tables.targets) b) (body_byte f b) w x → Put (6 + used) 510 zero_byte x y → Begun 512 (body_byte f b) 510 y
    body_put {x} {y} long name load rest =
        let named = begun_more (begun_none long) (put_as name (λ i l h. ap₂ (λ (k u : ℕ). name_byte b k u i) kind_is used_is ∙ body_name f b i h)) in
        begun_more (begun_more named load) (put_as (subst (λ (u : ℕ). Put (6 + u) 510 zero_byte x y) used_is rest) (λ i l h. body_unused f b i l))

  pub block_put : {y z : List ℕ} → Begun 512 (body_byte f b) 510 y → Put 510 512 (word_byte (check_of (byte_at y)) 510) y z → Begun 512 (block_byte f b) 512 z
  block_put {y} {z} body check = record { long = check.long ∙ body.long; is = λ i l. at i l (dec_lt i 510) }
    where
      same : check_of (byte_at y) ≡ check_of (body_byte f b)
      same = ap (λ (s : ℕ). s % 65521) (sum_same 510 _ _ (λ i h. ap (λ (j : ℕ). (i + 1) * j) (body.is i h)))

      at : (i : ℕ) → i < 512 → Dec (i < 510) → get_or z i 0 ≡ block_byte f b i
      at i l (yes h) = check.below i h ∙ body.is i h ∙ sym (pick_true _ _ (lt-ltb i 510 h))
      at i l (no h) =
          let g : 510 ≤ i = omega arith in
          check.is i g l ∙ ap (λ (s : ℕ). low_high s (i - 510)) same ∙ sym (pick_false _ _ (le-ltb i 510 g))
