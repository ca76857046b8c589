-- What stands in the file of a filing: its header, its blocks, its values.
use Prim.Native.Nat.{ℕ, zero, suc, ◌+◌, ◌-◌, ◌*◌, ◌/◌, ◌%◌, ◌<◌, ◌≤◌, min}
use mathlib.Core.Path.{◌≡◌, ap, ap₂, sym, subst, ◌∙◌}
use native.Mathlib.Omega.{arith}
use borrow.Author.Tests.{lt-ltb, le-ltb}
use lib.Dec.{ltb}
use lib.ListN.{length, get_or}
use lib.Seq.{ext_get_or}
use Rattle.game.specs.promise.Tables.{vertices, Placed}
use Rattle.format.specs.promise.Format.{Filing, pick, low_high, check_of, vertex_blocks, blocks_of, kind_of, used_of, vertex_byte, payload_byte, body_byte, file_of}
use Rattle.lists.specs.promise.Sequence.{sum_to}
use Rattle.format.specs.promise.Filed.{byte_at, vertices_filed, edges_filed, rule_filed, vertex_place, target_place, count_filed, owners_filed, priorities_filed, starts_filed, targets_filed}
use Rattle.lists.proofs.Sums.{sum_same}
use Rattle.format.proofs.Lists.{owners_long, priorities_long, starts_long, targets_long, owner_at, priority_at, start_at, target_at_lem}
use Rattle.format.proofs.FileOf.{file_byte}
use Rattle.format.proofs.Picks.{pick_true, pick_false}
use Rattle.format.proofs.BlockKinds.{used_vertex, used_target}
use Rattle.filing.proofs.RightBlock.{Right}

-- a number from its two bytes
both : (x lo hi : ℕ) → lo ≡ low_high x 0 → hi ≡ low_high x 1 → lo + 256 * hi ≡ x
both x lo hi a b = omega arith

module _ (f : Filing) where
  -- the bytes of a block before its check
  body_at : (b i : ℕ) → b < blocks_of (vertices f.tables) (length f.tables.targets) → i < 510 → byte_at (file_of f) (512 * b + i) ≡ body_byte f b i
  body_at b i l m = file_byte f b i l (omega arith) ∙ pick_true _ _ (lt-ltb i 510 m)

  payload_at : (b k : ℕ) → b < blocks_of (vertices f.tables) (length f.tables.targets) → k < 504 → byte_at (file_of f) (512 * b + 6 + k) ≡ pick (ltb k (used_of (vertices f.tables) (length f.tables.targets) b)) (payload_byte f b k) 0
  payload_at b k l m =
      let q : 512 * b + 6 + k ≡ 512 * b + suc (suc (suc (suc (suc (suc k))))) = omega arith in
      ap (byte_at (file_of f)) q ∙ body_at b (suc (suc (suc (suc (suc (suc k)))))) l (omega arith)

  used_at : (b k : ℕ) → b < blocks_of (vertices f.tables) (length f.tables.targets) → k < 504 → k < used_of (vertices f.tables) (length f.tables.targets) b → byte_at (file_of f) (512 * b + 6 + k) ≡ payload_byte f b k
  used_at b k l m u = payload_at b k l m ∙ pick_true _ _ (lt-ltb k _ u)

  check_at : (b j : ℕ) → b < blocks_of (vertices f.tables) (length f.tables.targets) → j < 2 → byte_at (file_of f) (512 * b + 510 + j) ≡ low_high (check_of (body_byte f b)) j
  check_at b j l m =
      let q : 512 * b + 510 + j ≡ 512 * b + (510 + j) = omega arith in
      let r : 510 + j - 510 ≡ j = omega arith in
      ap (byte_at (file_of f)) q ∙ file_byte f b (510 + j) l (omega arith) ∙ pick_false _ _ (le-ltb (510 + j) 510 (omega arith)) ∙ ap (low_high (check_of (body_byte f b))) r

  -- the header
  first_block : 0 < blocks_of (vertices f.tables) (length f.tables.targets)
  first_block = omega arith

  pub vertices_are : vertices_filed (file_of f) ≡ vertices f.tables
  vertices_are = both (vertices f.tables) _ _ (used_at 0 0 first_block (omega arith) (omega arith)) (used_at 0 1 first_block (omega arith) (omega arith))

  pub edges_are : edges_filed (file_of f) ≡ length f.tables.targets
  edges_are = both (length f.tables.targets) _ _ (used_at 0 2 first_block (omega arith) (omega arith)) (used_at 0 3 first_block (omega arith) (omega arith))

  pub rule_is : rule_filed (file_of f) ≡ f.rule
  rule_is = used_at 0 4 first_block (omega arith) (omega arith)

  -- what the block's own laws speak of, by the lengths of the lists
  kind_same : (b : ℕ) → kind_of (vertices f.tables) b ≡ kind_of (vertices_filed (file_of f)) b
  kind_same b = ap (λ (n : ℕ). kind_of n b) (sym vertices_are)

  used_same : (b : ℕ) → used_of (vertices f.tables) (length f.tables.targets) b ≡ used_of (vertices_filed (file_of f)) (edges_filed (file_of f)) b
  used_same b = ap₂ (λ (n m : ℕ). used_of n m b) (sym vertices_are) (sym edges_are)

  -- every block is right
  pub right_written : f.rule ≤ 1 → (b : ℕ) → b < blocks_of (vertices f.tables) (length f.tables.targets) → Right (file_of f) b
  right_written low b l =
      record {
        is_number = both b _ _ (ap (byte_at (file_of f)) (let q : 512 * b ≡ 512 * b + 0 = omega arith in q) ∙ body_at b 0 l (omega arith)) (body_at b 1 l (omega arith));
        is_kind = body_at b 2 l (omega arith) ∙ kind_same b;
        is_zero = body_at b 3 l (omega arith);
        is_used =
            both (used_of (vertices f.tables) (length f.tables.targets) b) _ _ (body_at b 4 l (omega arith)) (ap (byte_at (file_of f)) (let q : 512 * b + 4 + 1 ≡ 512 * b + 5 = omega arith in q) ∙ body_at b 5 l (omega arith)) ∙
            used_same b;
        is_clean = λ k u m. payload_at b k l m ∙ pick_false (payload_byte f b k) 0 (le-ltb k _ (subst (λ (x : ℕ). x ≤ k) (sym (used_same b)) u));
        is_rule = λ z. omega (arith, rule_is);
        is_check =
            both (check_of (body_byte f b)) _ _ (ap (byte_at (file_of f)) (let q : 512 * b + 510 ≡ 512 * b + 510 + 0 = omega arith in q) ∙ check_at b 0 l (omega arith)) (check_at b 1 l (omega arith)) ∙
            ap (λ (x : ℕ). x % 65521) (sum_same 510 _ _ (λ i h. ap (λ (x : ℕ). (i + 1) * x) (sym (body_at b i l h))));
      }

  -- the bytes of a vertex and of an edge
  vertex_at_lem : (v j : ℕ) → v < vertices f.tables → j < 4 → byte_at (file_of f) (vertex_place (file_of f) v + j) ≡ vertex_byte f.tables v j
  vertex_at_lem v j l m =
      let q : vertex_place (file_of f) v + j ≡ 512 * suc (v / 126) + 6 + (4 * (v % 126) + j) = omega arith in
      let b : v / 126 < vertex_blocks (vertices f.tables) = omega arith in
      let w = used_vertex (vertices f.tables) (length f.tables.targets) (suc (v / 126)) (λ e. omega arith) b in
      let u : 4 * (v % 126) + j < min 504 (4 * vertices f.tables - 504 * (suc (v / 126) - 1)) = omega arith in
      let x : 126 * (v / 126) + (4 * (v % 126) + j) / 4 ≡ v = omega arith in
      let y : (4 * (v % 126) + j) % 4 ≡ j = omega arith in
      ap (byte_at (file_of f)) q ∙
      used_at (suc (v / 126)) (4 * (v % 126) + j) (omega arith) (omega arith) (subst (λ (k : ℕ). 4 * (v % 126) + j < k) (sym w) u) ∙
      pick_true _ _ (lt-ltb (v / 126) _ b) ∙
      ap₂ (vertex_byte f.tables) x y

  target_at_byte : (e j : ℕ) → e < length f.tables.targets → j < 2 → byte_at (file_of f) (target_place (file_of f) e + j) ≡ low_high (get_or f.tables.targets e 0) j
  target_at_byte e j l m =
      let n = vertices_are in
      let q : target_place (file_of f) e + j ≡ 512 * suc (vertex_blocks (vertices f.tables) + e / 252) + 6 + (2 * (e % 252) + j) = omega arith in
      let b : vertex_blocks (vertices f.tables) < suc (vertex_blocks (vertices f.tables) + e / 252) = omega arith in
      let w = used_target (vertices f.tables) (length f.tables.targets) (suc (vertex_blocks (vertices f.tables) + e / 252)) b in
      let u : 2 * (e % 252) + j < min 504 (2 * length f.tables.targets - 504 * (suc (vertex_blocks (vertices f.tables) + e / 252) - 1 - vertex_blocks (vertices f.tables))) = omega arith in
      let x : 252 * (vertex_blocks (vertices f.tables) + e / 252 - vertex_blocks (vertices f.tables)) + (2 * (e % 252) + j) / 2 ≡ e = omega arith in
      let y : (2 * (e % 252) + j) % 2 ≡ j = omega arith in
      ap (byte_at (file_of f)) q ∙
      used_at (suc (vertex_blocks (vertices f.tables) + e / 252)) (2 * (e % 252) + j) (omega arith) (omega arith) (subst (λ (k : ℕ). 2 * (e % 252) + j < k) (sym w) u) ∙
      pick_false _ _ (le-ltb (vertex_blocks (vertices f.tables) + e / 252) _ (omega arith)) ∙
      ap₂ (λ (k i : ℕ). low_high (get_or f.tables.targets k 0) i) x y

  -- the lists that are filed are those of the filing

  pub owners_are : owners_filed (file_of f) ≡ f.tables.owners
  owners_are = ext_get_or 0 (owners_filed (file_of f)) f.tables.owners (owners_long (file_of f) ∙ vertices_are) same
    where
      same : (v : ℕ) → v < length (owners_filed (file_of f)) → get_or (owners_filed (file_of f)) v 0 ≡ get_or f.tables.owners v 0
      same v l =
          let m : v < vertices_filed (file_of f) = subst (λ (k : ℕ). v < k) (owners_long (file_of f)) l in
          let q : vertex_place (file_of f) v ≡ vertex_place (file_of f) v + 0 = omega arith in
          owner_at (file_of f) v m ∙ ap (byte_at (file_of f)) q ∙ vertex_at_lem v 0 (subst (λ (k : ℕ). v < k) vertices_are m) (omega arith)

  pub priorities_are : length f.tables.priorities ≡ vertices f.tables → priorities_filed (file_of f) ≡ f.tables.priorities
  priorities_are level = ext_get_or 0 (priorities_filed (file_of f)) f.tables.priorities (priorities_long (file_of f) ∙ vertices_are ∙ sym level) same
    where
      same : (v : ℕ) → v < length (priorities_filed (file_of f)) → get_or (priorities_filed (file_of f)) v 0 ≡ get_or f.tables.priorities v 0
      same v l =
          let m : v < vertices_filed (file_of f) = subst (λ (k : ℕ). v < k) (priorities_long (file_of f)) l in
          priority_at (file_of f) v m ∙ vertex_at_lem v 1 (subst (λ (k : ℕ). v < k) vertices_are m) (omega arith)

  pub targets_are : targets_filed (file_of f) ≡ f.tables.targets
  targets_are = ext_get_or 0 (targets_filed (file_of f)) f.tables.targets (targets_long (file_of f) ∙ edges_are) same
    where
      same : (e : ℕ) → e < length (targets_filed (file_of f)) → get_or (targets_filed (file_of f)) e 0 ≡ get_or f.tables.targets e 0
      same e l =
          let m : e < edges_filed (file_of f) = subst (λ (k : ℕ). e < k) (targets_long (file_of f)) l in
          let k : e < length f.tables.targets = subst (λ (k : ℕ). e < k) edges_are m in
          let q : target_place (file_of f) e ≡ target_place (file_of f) e + 0 = omega arith in
          target_at_lem (file_of f) e m ∙ both (get_or f.tables.targets e 0) _ _ (ap (byte_at (file_of f)) q ∙ target_at_byte e 0 k (omega arith)) (target_at_byte e 1 k (omega arith))

  module _ (p : Placed (vertices f.tables) f.tables.starts f.tables.targets) where
    count_at : (v : ℕ) → v < vertices f.tables → count_filed (file_of f) v ≡ get_or f.tables.starts (v + 1) 0 - get_or f.tables.starts v 0
    count_at v l =
        let q : vertex_place (file_of f) v + 2 + 1 ≡ vertex_place (file_of f) v + 3 = omega arith in
        both (get_or f.tables.starts (v + 1) 0 - get_or f.tables.starts v 0) _ _ (vertex_at_lem v 2 l (omega arith)) (ap (byte_at (file_of f)) q ∙ vertex_at_lem v 3 l (omega arith))

    pub sum_is : (v : ℕ) → v ≤ vertices f.tables → sum_to v (count_filed (file_of f)) ≡ get_or f.tables.starts v 0
    sum_is zero l = sym p.first
    sum_is (suc v) l =
        let e : v + 1 ≡ suc v = omega arith in
        let a : sum_to v (count_filed (file_of f)) ≡ get_or f.tables.starts v 0 = sum_is v (omega arith) in
        let b : count_filed (file_of f) v ≡ get_or f.tables.starts (v + 1) 0 - get_or f.tables.starts v 0 = count_at v l in
        let c : get_or f.tables.starts v 0 ≤ get_or f.tables.starts (v + 1) 0 = p.onward v l in
        let d : count_filed (file_of f) v + sum_to v (count_filed (file_of f)) ≡ get_or f.tables.starts (v + 1) 0 = omega arith in
        d ∙ ap (λ (k : ℕ). get_or f.tables.starts k 0) e

    pub starts_are : starts_filed (file_of f) ≡ f.tables.starts
    starts_are =
        let n = vertices_are in
        ext_get_or 0 (starts_filed (file_of f)) f.tables.starts (starts_long (file_of f) ∙ ap (λ (k : ℕ). k + 1) vertices_are ∙ sym p.bounds) same
      where
        same : (v : ℕ) → v < length (starts_filed (file_of f)) → get_or (starts_filed (file_of f)) v 0 ≡ get_or f.tables.starts v 0
        same v l =
            let m : v < vertices_filed (file_of f) + 1 = subst (λ (k : ℕ). v < k) (starts_long (file_of f)) l in
            let k : v ≤ vertices_filed (file_of f) = omega arith in
            start_at (file_of f) v k ∙ sum_is v (subst (λ (x : ℕ). v ≤ x) vertices_are k)
