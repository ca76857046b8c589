-- All rows of the reader: those that judge the file, and last its own, on the lent tables. (docs/RULES.md, Order of the tests)
use Rattle.std.specs.Prelude.{ℕ, List, [], ◌∷◌, ◌++◌, length}
use Rattle.refusal.specs.promise.Row.{Row, row}
use Rattle.game.specs.promise.Tables.{Tables}
use Rattle.game.specs.promise.Lent.{Sized, sized, Fault8}
use Rattle.format.specs.promise.Faults.{head_rows, turn_rows, filed_rows}

-- how long the lent tables are, and their fixed lengths
abbrev pub lent_lengths : (owners priorities starts targets : ℕ) → List Sized
lent_lengths owners priorities starts targets = sized owners 2048 ∷ sized priorities 2048 ∷ sized starts 2049 ∷ sized targets 16384 ∷ []

abbrev pub table_sizes : Tables → List Sized
table_sizes t = lent_lengths (length t.owners) (length t.priorities) (length t.starts) (length t.targets)

-- all rows of the reader: last, 8 on the lent tables
abbrev pub file_rows : (file : List ℕ) → Tables → List Row
file_rows file lent = head_rows file ++ turn_rows file ++ filed_rows file ++ (row 8 (Fault8 (table_sizes lent)) ∷ [])
