-- The steps of the reader: what is judged before the tables are decoded, and the tables into which they are.
use Rattle.std.specs.Prelude.{ℕ, List, [], ◌∷◌, ◌++◌, Result}
use Rattle.refusal.specs.promise.Row.{Row, row, None, Gives}
use Rattle.refusal.specs.promise.Number.{tested_said}
use Rattle.refusal.specs.declared.Refusal.{Refusal}
use Rattle.game.specs.promise.Tables.{Tables}
use Rattle.format.specs.promise.Filed.{tables_filed}
use Rattle.format.specs.promise.Faults.{Fault45, head_rows, turn_rows}
use Rattle.decoding.specs.promise.Holding.{Holding}

-- the rows up to 45: header, blocks, successor counts
abbrev pub frame_rows : List ℕ → List Row
frame_rows file = head_rows file ++ turn_rows file ++ (row 45 (Fault45 file) ∷ [])

-- what is said of the rows; and where none applies, the tables hold those of the file's game
pub record Loads (rows : List Row) (file : List ℕ) (t : Tables) (r : Result Unit Refusal) : Type 0 where
  pub said : Gives rows (tested_said r)
  pub holds : None rows → Holding (tables_filed file) t
