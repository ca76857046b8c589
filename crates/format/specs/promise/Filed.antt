-- What stands in a file, read by offset, whatever the bytes are. (docs/RULES.md, The house game file)
use Rattle.std.specs.Prelude.{ℕ, ◌+◌, ◌*◌, ◌/◌, ◌%◌, List, get_or}
use Rattle.game.specs.promise.Tables.{Tables, tables_of}
use Rattle.format.specs.promise.Format.{vertex_blocks, turned_of, Filing}
use Rattle.lists.specs.promise.Sequence.{tabulate, sum_to}

module _ (file : List ℕ) where
  -- a byte
  abbrev pub byte_at : ℕ → ℕ
  byte_at i = get_or file i 0

  -- a two-byte number, the low byte first
  abbrev pub word_at : ℕ → ℕ
  word_at i = byte_at i + 256 * byte_at (i + 1)

  -- the header's payload: n, the number of edges, the rule
  abbrev pub vertices_filed : ℕ
  vertices_filed = word_at 6

  abbrev pub edges_filed : ℕ
  edges_filed = word_at 8

  abbrev pub rule_filed : ℕ
  rule_filed = byte_at 10

  -- where the four bytes of vertex v stand
  abbrev pub vertex_place : ℕ → ℕ
  vertex_place v = 512 * (1 + v / 126) + 6 + 4 * (v % 126)

  -- where the two bytes of target e stand
  abbrev pub target_place : ℕ → ℕ
  target_place e = 512 * (1 + vertex_blocks vertices_filed + e / 252) + 6 + 2 * (e % 252)

  -- the number of successors of v
  abbrev pub count_filed : ℕ → ℕ
  count_filed v = word_at (vertex_place v + 2)

  -- the four tables; the starts are the running sums of those numbers
  abbrev pub owners_filed : List ℕ
  owners_filed = tabulate vertices_filed (λ v. byte_at (vertex_place v))

  abbrev pub priorities_filed : List ℕ
  priorities_filed = tabulate vertices_filed (λ v. byte_at (vertex_place v + 1))

  abbrev pub starts_filed : List ℕ
  starts_filed = tabulate (vertices_filed + 1) (λ v. sum_to v count_filed)

  abbrev pub targets_filed : List ℕ
  targets_filed = tabulate edges_filed (λ e. word_at (target_place e))

  -- what the file says
  abbrev pub filed : Filing
  filed = record { tables = tables_of owners_filed priorities_filed starts_filed targets_filed; rule = rule_filed }

  -- the tables of its game: priorities are turned by the rule
  abbrev pub tables_filed : Tables
  tables_filed = tables_of owners_filed (turned_of rule_filed priorities_filed) starts_filed targets_filed
