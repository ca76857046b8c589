-- The house game file as a function from tables and rule to bytes. (docs/RULES.md, The house game file)
use Rattle.std.specs.Prelude.{ℕ, zero, suc, ◌+◌, ◌-◌, ◌*◌, ◌/◌, ◌%◌, min, max, Bool, true, false, List, [], ◌∷◌, map, length, get_or, ltb}
use Rattle.lists.specs.promise.Sequence.{tabulate, sum_to}
use Rattle.game.specs.promise.Tables.{Tables, vertices}

-- a if the test is true, else b
abbrev pub pick : Bool → ℕ → ℕ → ℕ
pick true a b = a
pick false a b = b

-- byte 0 and byte 1 of x, the low one first
abbrev pub low_high : ℕ → ℕ → ℕ
low_high x zero = x % 256
low_high x (suc k) = x / 256

-- the check of a block: its first 510 bytes, each weighted by its place from 1 on, summed and reduced
abbrev pub check_of : (ℕ → ℕ) → ℕ
check_of byte = sum_to 510 (λ i. (i + 1) * byte i) % 65521

-- how many blocks n vertices take, 126 to a block
abbrev pub vertex_blocks : ℕ → ℕ
vertex_blocks n = (n + 125) / 126

-- how many blocks m targets take, 252 to a block
abbrev pub target_blocks : ℕ → ℕ
target_blocks m = (m + 251) / 252

-- all blocks: the header, the vertices', the targets'
abbrev pub blocks_of : (n m : ℕ) → ℕ
blocks_of n m = 1 + vertex_blocks n + target_blocks m

-- the kind of a block: 1 of the header; of the block that has b others behind the header before it, 2 or 3
abbrev pub kind_of : (n block : ℕ) → ℕ
kind_of n zero = 1
kind_of n (suc b) = pick (ltb b (vertex_blocks n)) 2 3

-- how many payload bytes a block uses: 5 of the header; else 504, or what the b blocks of its kind before it leave of 4 × n or 2 × m
abbrev pub used_of : (n m block : ℕ) → ℕ
used_of n m zero = 5
used_of n m (suc b) =
    pick (ltb b (vertex_blocks n)) (min 504 (4 * n - 504 * b)) (min 504 (2 * m - 504 * (b - vertex_blocks n)))

-- what a file says: the tables, and the rule: 0, the highest priority counts, or 1, the lowest
pub record Filing : Type 0 where
  pub tables : Tables
  pub rule : ℕ

-- tables filed as they are, by rule 0
abbrev pub plain : Tables → Filing
plain t = record { tables = t; rule = 0 }

-- byte k of the header's payload: n, the number of edges, the rule
abbrev pub head_byte : Filing → ℕ → ℕ
head_byte f zero = vertices f.tables % 256
head_byte f (suc zero) = vertices f.tables / 256
head_byte f (suc (suc zero)) = length f.tables.targets % 256
head_byte f (suc (suc (suc zero))) = length f.tables.targets / 256
head_byte f (suc (suc (suc (suc k)))) = f.rule

-- byte k of vertex v: owner, priority, and two of the number of its successors
abbrev pub vertex_byte : Tables → ℕ → ℕ → ℕ
vertex_byte t v zero = get_or t.owners v 0
vertex_byte t v (suc zero) = get_or t.priorities v 0
vertex_byte t v (suc (suc k)) = low_high (get_or t.starts (v + 1) 0 - get_or t.starts v 0) k

-- byte k of the used payload of a block
abbrev pub payload_byte : Filing → ℕ → ℕ → ℕ
payload_byte f zero k = head_byte f k
payload_byte f (suc b) k =
    let blocks = vertex_blocks (vertices f.tables) in
    pick (ltb b blocks)
    (vertex_byte f.tables (126 * b + k / 4) (k % 4))
    (low_high (get_or f.tables.targets (252 * (b - blocks) + k / 2) 0) (k % 2))

-- byte i of block b but for its check: number, kind, zero, used count, payload, zeros
abbrev pub body_byte : Filing → ℕ → ℕ → ℕ
body_byte f b zero = b % 256
body_byte f b (suc zero) = b / 256
body_byte f b (suc (suc zero)) = kind_of (vertices f.tables) b
body_byte f b (suc (suc (suc zero))) = 0
body_byte f b (suc (suc (suc (suc zero)))) = used_of (vertices f.tables) (length f.tables.targets) b % 256
body_byte f b (suc (suc (suc (suc (suc zero))))) = used_of (vertices f.tables) (length f.tables.targets) b / 256
body_byte f b (suc (suc (suc (suc (suc (suc k)))))) =
    pick (ltb k (used_of (vertices f.tables) (length f.tables.targets) b)) (payload_byte f b k) 0

-- byte i of block b: the check stands at its end
abbrev pub block_byte : Filing → ℕ → ℕ → ℕ
block_byte f b i = pick (ltb i 510) (body_byte f b i) (low_high (check_of (body_byte f b)) (i - 510))

-- the file: blocks of 512 bytes
unfoldable pub file_of : Filing → List ℕ
file_of f = tabulate (512 * blocks_of (vertices f.tables) (length f.tables.targets)) (λ i. block_byte f (i / 512) (i % 512))

-- the highest of the priorities
abbrev pub highest_of : List ℕ → ℕ
highest_of [] = 0
highest_of (p ∷ l) = max p (highest_of l)

-- the priorities of the game that is filed: under rule 1 each is turned, the highest becoming 0
abbrev pub turned_of : (rule : ℕ) → List ℕ → List ℕ
turned_of zero priorities = priorities
turned_of (suc rule) priorities = map (λ p. highest_of priorities - p) priorities
