-- The rows that judge a file, in their order. (docs/RULES.md, Order of the tests)
use Rattle.std.specs.Prelude.{ℕ, zero, suc, ◌+◌, ◌*◌, ◌/◌, ◌<◌, ◌≤◌, ◌≡◌, ◌≢◌, List, [], ◌∷◌, ◌++◌, length}
use Rattle.refusal.specs.promise.Row.{Row, row}
use Rattle.game.specs.promise.Faults.{Fault2, Fault3, Fault5, Fault6, Fault7}
use Rattle.format.specs.promise.Format.{check_of, kind_of, used_of, blocks_of, vertex_blocks, target_blocks}
use Rattle.lists.specs.promise.Sequence.{sum_to}
use Rattle.format.specs.promise.Filed.{
  byte_at,
  word_at,
  vertices_filed,
  edges_filed,
  rule_filed,
  count_filed,
  owners_filed,
  priorities_filed,
  starts_filed,
  targets_filed,
}

-- 41, at the number of whole blocks: there is not one
pub record Fault41Short (file : List ℕ) (x : ℕ) : Type 0 where
  pub place : x ≡ length file / 512
  pub short : length file < 512

-- 42, at the block: its check is not that of its bytes
pub record Fault42 (file : List ℕ) (b x : ℕ) : Type 0 where
  pub place : x ≡ b
  pub wrong : word_at file (512 * b + 510) ≢ check_of (λ i. byte_at file (512 * b + i))

-- 43, at the block: its number or its kind is another
pub data Fault43 (file : List ℕ) (b x : ℕ) : Type 0 where
  number : x ≡ b → word_at file (512 * b) ≢ b → Fault43 file b x
  kind : x ≡ b → byte_at file (512 * b + 2) ≢ kind_of (vertices_filed file) b → Fault43 file b x

-- 44, at the block: byte 3 or an unused byte is not zero, the used count is another, or the rule is none
pub data Fault44 (file : List ℕ) (b x : ℕ) : Type 0 where
  byte3 : x ≡ b → byte_at file (512 * b + 3) ≢ 0 → Fault44 file b x
  used : x ≡ b → word_at file (512 * b + 4) ≢ used_of (vertices_filed file) (edges_filed file) b → Fault44 file b x
  unused : x ≡ b → (k : ℕ) → used_of (vertices_filed file) (edges_filed file) b ≤ k → k < 504 → byte_at file (512 * b + 6 + k) ≢ 0 → Fault44 file b x
  rule : x ≡ b → b ≡ 0 → 1 < rule_filed file → Fault44 file b x

-- 1, at 0: the number of vertices or of edges is out of bounds
pub data FaultSizes (file : List ℕ) (x : ℕ) : Type 0 where
  no_vertex : x ≡ 0 → vertices_filed file ≡ 0 → FaultSizes file x
  over_2048 : x ≡ 0 → 2048 < vertices_filed file → FaultSizes file x
  over_16384 : x ≡ 0 → 16384 < edges_filed file → FaultSizes file x

-- 41, at the number of whole blocks: the length is not that of the blocks that the header announces
pub record Fault41Length (file : List ℕ) (x : ℕ) : Type 0 where
  pub place : x ≡ length file / 512
  pub wrong : length file ≢ 512 * blocks_of (vertices_filed file) (edges_filed file)

-- 45, at 0: all vertices together do not have as many successors as there are edges
pub record Fault45 (file : List ℕ) (x : ℕ) : Type 0 where
  pub place : x ≡ 0
  pub wrong : sum_to (vertices_filed file) (count_filed file) ≢ edges_filed file

-- a block's own rows
abbrev pub block_rows : List ℕ → ℕ → List Row
block_rows file b = row 42 (Fault42 file b) ∷ row 43 (Fault43 file b) ∷ row 44 (Fault44 file b) ∷ []

-- those of k blocks from b on, block by block
abbrev pub blocks_rows : List ℕ → (b k : ℕ) → List Row
blocks_rows file b zero = []
blocks_rows file b (suc k) = block_rows file b ++ blocks_rows file (suc b) k

-- the length, the header, the sizes, the exact length
abbrev pub head_rows : List ℕ → List Row
head_rows file =
    row 41 (Fault41Short file) ∷
    block_rows file 0 ++
    row 1 (FaultSizes file) ∷
    row 41 (Fault41Length file) ∷ []

-- the blocks behind the header
abbrev pub turn_rows : List ℕ → List Row
turn_rows file = blocks_rows file 1 (vertex_blocks (vertices_filed file) + target_blocks (edges_filed file))

-- the values as filed. 4 is not among them: starts that are running sums begin at 0 and never fall, and by 45 they end at the number of edges.
abbrev pub filed_rows : List ℕ → List Row
filed_rows file =
    row 45 (Fault45 file) ∷
    row 2 (Fault2 (owners_filed file)) ∷
    row 3 (Fault3 (priorities_filed file)) ∷
    row 5 (Fault5 (vertices_filed file) (starts_filed file) (targets_filed file)) ∷
    row 6 (Fault6 (vertices_filed file) (targets_filed file)) ∷
    row 7 (Fault7 (vertices_filed file) (starts_filed file) (targets_filed file)) ∷ []

-- all rows that judge the file itself
abbrev pub judged_rows : List ℕ → List Row
judged_rows file = head_rows file ++ turn_rows file ++ filed_rows file
