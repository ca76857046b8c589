-- P1 to P10: one test that antt computes goes over the table, and one lemma turns a row's test into its statement.
use mathlib.Core.Bool.{Bool, true, ◌&&◌}
use mathlib.Core.List.{List, [], ◌∷◌}
use lib.Dec.{T}
use Rattle.cases.specs.promise.Table.{Case, solved, unsolved, checked, updated, table, RowHolds, Every, TableHolds}
use Rattle.cases.proofs.Equal.{both_tests}
use Rattle.cases.proofs.Checked.{is_checked, checked_holds}
use Rattle.cases.proofs.Solved.{is_solved, solved_holds, is_unsolved, unsolved_holds}
use Rattle.cases.proofs.Updated.{is_updated, updated_holds}

-- the test of a row
abbrev pub passes : Case → Bool
passes (solved g a) = is_solved g a
passes (unsolved g number place) = is_unsolved g number place
passes (checked g a said) = is_checked g a said
passes (updated g h old new count) = is_updated g h old new count

pub row_holds : (row : Case) → T (passes row) → RowHolds row
row_holds (solved g a) t = solved_holds g a t
row_holds (unsolved g number place) t = unsolved_holds g number place t
row_holds (checked g a said) t = checked_holds g a said t
row_holds (updated g h old new count) t = updated_holds g h old new count t

abbrev all_pass : List Case → Bool
all_pass [] = true
all_pass (row ∷ rows) = passes row && all_pass rows

rows_hold : (rows : List Case) → T (all_pass rows) → Every RowHolds rows
rows_hold [] t = tt
rows_hold (row ∷ rows) t =
    let s = both_tests (passes row) (all_pass rows) t in
    (row_holds row s.0, rows_hold rows s.1)

pub table_holds : TableHolds
table_holds = rows_hold table tt
