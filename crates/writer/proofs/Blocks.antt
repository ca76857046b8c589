-- An output into which block after block is put, each as a part of it.
use Prim.Native.Nat.{ℕ, ◌+◌, ◌-◌, ◌*◌, ◌/◌, ◌%◌, ◌<◌, ◌≤◌}
use mathlib.Core.Path.{◌≡◌, ap, ap₂, sym, subst, subst₂, ◌∙◌}
use mathlib.Core.List.{List, ◌++◌}
use native.Mathlib.Omega.{arith}
use native.Mathlib.Decide.{dec_lt}
use lib.ListN.{length, get_or, take, drop, length-append, length-drop, get_or-append}
use lib.Seq.{length-take-le, get_or-take, get_or-append-add, ext_get_or}
use Rattle.game.specs.promise.Tables.{vertices}
use Rattle.format.specs.promise.Format.{Filing, blocks_of, block_byte, file_of}
use Rattle.format.specs.parts.Put.{Begun}
use Rattle.format.proofs.FileOf.{file_long, file_at}

-- a part is put back behind what has been begun
module _ (v : ℕ → ℕ) (size a k : ℕ) (xs ys : List ℕ) (room : a + k ≤ size) (part : length ys ≡ k) (begun : Begun size v a xs) (same : (j : ℕ) → j < k → get_or ys j 0 ≡ v (a + j)) where
  front : length (take a xs) ≡ a
  front = length-take-le a xs (omega (arith, begun.long))

  back_at : (i : ℕ) → i < a + k → Dec (i < a) → get_or (take a xs ++ (ys ++ drop k (drop a xs))) i 0 ≡ v i
  back_at i l (yes h) =
      get_or-append (take a xs) _ 0 i (subst (λ (n : ℕ). i < n) (sym front) h) ∙ get_or-take a xs i 0 h ∙ begun.is i h
  back_at i l (no h) =
      let q : length (take a xs) + (i - a) ≡ i = omega (arith, front) in
      let j : i - a < k = omega arith in
      let e : a + (i - a) ≡ i = omega arith in
      ap (λ (n : ℕ). get_or (take a xs ++ (ys ++ drop k (drop a xs))) n 0) (sym q) ∙
      get_or-append-add (take a xs) _ (i - a) 0 ∙
      get_or-append ys _ 0 (i - a) (subst (λ (n : ℕ). i - a < n) (sym part) j) ∙
      same (i - a) j ∙
      ap v e

  pub part_back : Begun size v (a + k) (take a xs ++ (ys ++ drop k (drop a xs)))
  part_back =
      record {
        long = omega (arith, length-append (take a xs) (ys ++ drop k (drop a xs)), length-append ys (drop k (drop a xs)), length-drop k (drop a xs), length-drop a xs, front, part, begun.long);
        is = λ i l. back_at i l (dec_lt i a);
      }

module _ (f : Filing) where
  -- how many bytes, and byte i of them all
  abbrev pub file_size : ℕ
  file_size = 512 * blocks_of (vertices f.tables) (length f.tables.targets)

  abbrev pub file_byte : ℕ → ℕ
  file_byte i = block_byte f (i / 512) (i % 512)

  -- the first b blocks stand in the output
  pub record Blocks (output : List ℕ) (b : ℕ) : Type 0 where
    pub begun : Begun file_size file_byte (512 * b) output

  pub blocks_more : (output part : List ℕ) (b : ℕ) → b < blocks_of (vertices f.tables) (length f.tables.targets) → Blocks output b → Begun 512 (block_byte f b) 512 part → Blocks (take (512 * b) output ++ (part ++ drop (512 * b + 512 - 512 * b) (drop (512 * b) output))) (b + 1)
  blocks_more output part b l o p =
      let k : 512 * b + 512 - 512 * b ≡ 512 = omega arith in
      let end : 512 * b + 512 ≡ 512 * (b + 1) = omega arith in
      let back = part_back file_byte file_size (512 * b) 512 output part (omega arith) p.long o.begun here in
      record { begun = subst₂ (λ (x y : ℕ). Begun file_size file_byte x (take (512 * b) output ++ (part ++ drop y (drop (512 * b) output)))) end (sym k) back }
    where
      here : (j : ℕ) → j < 512 → get_or part j 0 ≡ file_byte (512 * b + j)
      here j l =
          let q : b ≡ (512 * b + j) / 512 = omega arith in
          let r : j ≡ (512 * b + j) % 512 = omega arith in
          p.is j l ∙ ap₂ (block_byte f) q r

  -- all of them: the file
  pub blocks_all : (output : List ℕ) (b : ℕ) → blocks_of (vertices f.tables) (length f.tables.targets) ≤ b → Blocks output b → output ≡ file_of f
  blocks_all output b l o =
      ext_get_or 0 output (file_of f) (o.begun.long ∙ sym (file_long f)) (λ i m.
      let s : i < file_size = subst (λ (n : ℕ). i < n) o.begun.long m in
      o.begun.is i (let h : i < 512 * b = omega arith in h) ∙ sym (file_at f i s))
