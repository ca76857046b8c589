-- The rows of the writer: the tables' own, and last 46 on the lent output. (docs/RULES.md, Order of the tests)
use Rattle.std.specs.Prelude.{ℕ, ◌≡◌, ◌≢◌, List, [], ◌∷◌, ◌++◌, length}
use Rattle.refusal.specs.promise.Row.{Row, row}
use Rattle.game.specs.promise.Tables.{Tables}
use Rattle.game.specs.promise.Faults.{table_rows}
use Rattle.format.specs.promise.Format.{file_of, plain}

-- 46, at 0: the output is not as long as the file of the tables
pub record Fault46 (t : Tables) (output : List ℕ) (x : ℕ) : Type 0 where
  pub place : x ≡ 0
  pub wrong : length output ≢ length (file_of (plain t))

-- all rows of the writer
abbrev pub write_rows : Tables → (output : List ℕ) → List Row
write_rows t output = table_rows t ++ (row 46 (Fault46 t output) ∷ [])
