-- A file that no row refuses is, byte by byte, the file of what is filed in it.
use Prim.Native.Nat.{ℕ, zero, suc, ◌+◌, ◌-◌, ◌*◌, ◌/◌, ◌%◌, ◌<◌, ◌≤◌, min}
use mathlib.Core.Path.{◌≡◌, refl, ap, ap₂, sym, subst, ◌∙◌}
use mathlib.Core.List.{List}
use native.Mathlib.Omega.{arith}
use native.Mathlib.Decide.{dec_lt}
use borrow.Author.Tests.{lt-ltb, le-ltb}
use lib.Dec.{ltb}
use lib.ListN.{length, get_or}
use lib.Seq.{ext_get_or}
use Rattle.refusal.specs.promise.Row.{None}
use Rattle.format.specs.promise.Format.{pick, low_high, check_of, vertex_blocks, target_blocks, blocks_of, kind_of, used_of, head_byte, vertex_byte, payload_byte, body_byte, block_byte, file_of}
use Rattle.format.specs.promise.Filed.{byte_at, word_at, vertices_filed, edges_filed, vertex_place, target_place, owners_filed, targets_filed, filed}
use Rattle.format.specs.promise.Faults.{judged_rows}
use Rattle.format.specs.parts.Tests.{FileSized, Summed}
use Rattle.lists.proofs.Sums.{sum_same}
use Rattle.format.proofs.FileOf.{file_long, file_at}
use Rattle.format.proofs.Lists.{owners_long, targets_long, owner_at, priority_at, target_at_lem, count_is}
use Rattle.format.proofs.HeadTests.{head_first_block}
use Rattle.format.proofs.InTurn.{turn_each}
use Rattle.format.proofs.AllRows.{all_head, all_turn, all_sized, all_summed}
use Rattle.format.proofs.Picks.{pick_true, pick_false}
use Rattle.format.proofs.BlockKinds.{used_vertex, used_target}
use Rattle.filing.proofs.RightBlock.{Right, right_of}

module _ (file : List ℕ) (bytes : (i : ℕ) → get_or file i 0 < 256) where
  -- where a two-byte number stands, its bytes stand
  word_byte_lem : (i x j : ℕ) → word_at file i ≡ x → j < 2 → byte_at file (i + j) ≡ low_high x j
  word_byte_lem i x zero e l =
      let z : byte_at file (i + 0) ≡ byte_at file i = ap (byte_at file) (let q : i + 0 ≡ i = omega arith in q) in
      omega (arith, bytes i)
  word_byte_lem i x (suc zero) e l = omega (arith, bytes i)
  word_byte_lem i x (suc (suc j)) e l = absurd (let z : ⊥ = omega arith in z)

  target_byte : (e j : ℕ) → e < edges_filed file → j < 2 → byte_at file (target_place file e + j) ≡ low_high (get_or (targets_filed file) e 0) j
  target_byte e j l m = word_byte_lem (target_place file e) (get_or (targets_filed file) e 0) j (sym (target_at_lem file e l)) m

  head_byte_lem : (k : ℕ) → k < 5 → byte_at file (6 + k) ≡ head_byte (filed file) k
  head_byte_lem zero l = omega (arith, owners_long file, bytes 6)
  head_byte_lem (suc zero) l = omega (arith, owners_long file, bytes 6)
  head_byte_lem (suc (suc zero)) l = omega (arith, targets_long file, bytes 8)
  head_byte_lem (suc (suc (suc zero))) l = omega (arith, targets_long file, bytes 8)
  head_byte_lem (suc (suc (suc (suc zero)))) l = refl
  head_byte_lem (suc (suc (suc (suc (suc k))))) l = absurd (let z : ⊥ = omega arith in z)

  module _ (s : Summed file) where
    vertex_byte_lem : (v j : ℕ) → v < vertices_filed file → j < 4 → byte_at file (vertex_place file v + j) ≡ vertex_byte (filed file).tables v j
    vertex_byte_lem v zero l m = ap (byte_at file) (let q : vertex_place file v + 0 ≡ vertex_place file v = omega arith in q) ∙ sym (owner_at file v l)
    vertex_byte_lem v (suc zero) l m = sym (priority_at file v l)
    vertex_byte_lem v (suc (suc j)) l m =
        let q : vertex_place file v + suc (suc j) ≡ vertex_place file v + 2 + j = omega arith in
        ap (byte_at file) q ∙ word_byte_lem (vertex_place file v + 2) _ j (sym (count_is file s v l)) (omega arith)

    -- the used payload of block b
    payload : (b k : ℕ) → b < blocks_of (vertices_filed file) (edges_filed file) → k < 504 → k < used_of (vertices_filed file) (edges_filed file) b → byte_at file (512 * b + 6 + k) ≡ payload_byte (filed file) b k
    payload zero k l m u = head_byte_lem k u
    payload (suc b) k l m u = at (dec_lt b (vertex_blocks (vertices_filed file)))
      where
        at : Dec (b < vertex_blocks (vertices_filed file)) → byte_at file (512 * suc b + 6 + k) ≡ payload_byte (filed file) (suc b) k
        at (yes h) =
            let own = owners_long file in
            let o : b < vertex_blocks (length (owners_filed file)) = omega arith in
            let w : k < min 504 (4 * vertices_filed file - 504 * (suc b - 1)) = subst (λ (x : ℕ). k < x) (used_vertex (vertices_filed file) (edges_filed file) (suc b) (λ e. omega arith) h) u in
            let q : 512 * suc b + 6 + k ≡ vertex_place file (126 * b + k / 4) + k % 4 = omega arith in
            ap (byte_at file) q ∙
            vertex_byte_lem (126 * b + k / 4) (k % 4) (omega arith) (omega arith) ∙
            sym (pick_true _ _ (lt-ltb b _ o))
        at (no h) =
            let own = owners_long file in
            let o : vertex_blocks (length (owners_filed file)) ≤ b = omega arith in
            let n : vertex_blocks (vertices_filed file) < suc b = omega arith in
            let w : k < min 504 (2 * edges_filed file - 504 * (suc b - 1 - vertex_blocks (vertices_filed file))) = subst (λ (x : ℕ). k < x) (used_target (vertices_filed file) (edges_filed file) (suc b) n) u in
            let q : 512 * suc b + 6 + k ≡ target_place file (252 * (b - vertex_blocks (length (owners_filed file))) + k / 2) + k % 2 = omega arith in
            ap (byte_at file) q ∙
            target_byte (252 * (b - vertex_blocks (length (owners_filed file))) + k / 2) (k % 2) (omega arith) (omega arith) ∙
            sym (pick_false _ _ (le-ltb b _ o))

    -- what a block uses, by the lengths of the lists
    used_long : (b : ℕ) → used_of (vertices_filed file) (edges_filed file) b ≡ used_of (length (owners_filed file)) (length (targets_filed file)) b
    used_long b = ap₂ (λ (n m : ℕ). used_of n m b) (sym (owners_long file)) (sym (targets_long file))

    -- the payload of block b, unused part zero
    filled : (b k : ℕ) → Right file b → b < blocks_of (vertices_filed file) (edges_filed file) → k < 504 → byte_at file (512 * b + 6 + k) ≡ pick (ltb k (used_of (length (owners_filed file)) (length (targets_filed file)) b)) (payload_byte (filed file) b k) 0
    filled b k r l m = at (dec_lt k (used_of (vertices_filed file) (edges_filed file) b))
      where
        at : Dec (k < used_of (vertices_filed file) (edges_filed file) b) → byte_at file (512 * b + 6 + k) ≡ pick (ltb k (used_of (length (owners_filed file)) (length (targets_filed file)) b)) (payload_byte (filed file) b k) 0
        at (yes h) = payload b k l m h ∙ sym (pick_true _ _ (lt-ltb k _ (subst (λ (x : ℕ). k < x) (used_long b) h)))
        at (no h) =
            let g : used_of (vertices_filed file) (edges_filed file) b ≤ k = omega arith in
            r.is_clean k g m ∙ sym (pick_false (payload_byte (filed file) b k) 0 (le-ltb k _ (subst (λ (x : ℕ). x ≤ k) (used_long b) g)))

    -- every byte of block b but the check's
    body : (b i : ℕ) → Right file b → b < blocks_of (vertices_filed file) (edges_filed file) → i < 510 → byte_at file (512 * b + i) ≡ body_byte (filed file) b i
    body b zero r l m = word_byte_lem (512 * b) b 0 r.is_number (omega arith)
    body b (suc zero) r l m = word_byte_lem (512 * b) b 1 r.is_number (omega arith)
    body b (suc (suc zero)) r l m = r.is_kind ∙ ap (λ (n : ℕ). kind_of n b) (sym (owners_long file))
    body b (suc (suc (suc zero))) r l m = r.is_zero
    body b (suc (suc (suc (suc zero)))) r l m =
        let q : 512 * b + 4 ≡ 512 * b + 4 + 0 = omega arith in
        ap (byte_at file) q ∙ word_byte_lem (512 * b + 4) _ 0 (r.is_used ∙ used_long b) (omega arith)
    body b (suc (suc (suc (suc (suc zero))))) r l m =
        let q : 512 * b + 5 ≡ 512 * b + 4 + 1 = omega arith in
        ap (byte_at file) q ∙ word_byte_lem (512 * b + 4) _ 1 (r.is_used ∙ used_long b) (omega arith)
    body b (suc (suc (suc (suc (suc (suc k)))))) r l m =
        let q : 512 * b + suc (suc (suc (suc (suc (suc k))))) ≡ 512 * b + 6 + k = omega arith in
        ap (byte_at file) q ∙ filled b k r l (omega arith)

    -- every byte of block b
    block_byte_lem : (b i : ℕ) → Right file b → b < blocks_of (vertices_filed file) (edges_filed file) → i < 512 → byte_at file (512 * b + i) ≡ block_byte (filed file) b i
    block_byte_lem b i r l m = at (dec_lt i 510)
      where
        check : check_of (λ j. byte_at file (512 * b + j)) ≡ check_of (body_byte (filed file) b)
        check = ap (λ (x : ℕ). x % 65521) (sum_same 510 _ _ (λ j h. ap (λ (x : ℕ). (j + 1) * x) (body b j r l h)))

        at : Dec (i < 510) → byte_at file (512 * b + i) ≡ block_byte (filed file) b i
        at (yes h) = body b i r l h ∙ sym (pick_true _ _ (lt-ltb i 510 h))
        at (no h) =
            let q : 512 * b + i ≡ 512 * b + 510 + (i - 510) = omega arith in
            ap (byte_at file) q ∙ word_byte_lem (512 * b + 510) _ (i - 510) (r.is_check ∙ check) (omega arith) ∙ sym (pick_false _ _ (le-ltb i 510 (omega arith)))

module _ (file : List ℕ) (bytes : (i : ℕ) → get_or file i 0 < 256) (none : None (judged_rows file)) where
  head : FileSized file
  head = all_sized file none

  right : (b : ℕ) → b < blocks_of (vertices_filed file) (edges_filed file) → Right file b
  right zero l = right_of file 0 (head_first_block file (all_head file none))
  right (suc b) l =
      let e : 1 + b ≡ suc b = omega arith in
      let m : b < vertex_blocks (vertices_filed file) + target_blocks (edges_filed file) = omega arith in
      subst (Right file) e (right_of file (1 + b) (turn_each file 1 _ (all_turn file none) b m))

  pub taken_is_file : file ≡ file_of (filed file)
  taken_is_file = ext_get_or 0 file (file_of (filed file)) long same
    where
      long : length file ≡ length (file_of (filed file))
      long = omega (arith, head.long, file_long (filed file), owners_long file, targets_long file)

      same : (i : ℕ) → i < length file → get_or file i 0 ≡ get_or (file_of (filed file)) i 0
      same i l =
          let b : i / 512 < blocks_of (vertices_filed file) (edges_filed file) = omega (arith, head.long) in
          let q : i ≡ 512 * (i / 512) + i % 512 = omega arith in
          let m : i % 512 < 512 = omega arith in
          let u : i < 512 * blocks_of (length (owners_filed file)) (length (targets_filed file)) = omega (arith, head.long, owners_long file, targets_long file) in
          ap (λ (j : ℕ). get_or file j 0) q ∙
          block_byte_lem file bytes (all_summed file none) (i / 512) (i % 512) (right (i / 512) b) b m ∙
          sym (file_at (filed file) i u)
