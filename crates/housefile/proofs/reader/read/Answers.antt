-- `housefile::reader::read` meets its contract. The entry point: what is said of the file and of the lengths; where nothing is refused, the reader's own tables are stored in the lent ones.
use Prim.Native.Nat.{ℕ}
use borrow.Author.Rules.{rules}
use mathlib.Core.Path.{refl, ap₂}
use mathlib.Core.List.{[], ◌∷◌}
use Rattle.refusal.specs.promise.Row.{row}
use Rattle.refusal.proofs.Rows.{none_append, passed_front, refused_front, row_first, row_passed}
use Rattle.game.specs.promise.Tables.{tables_of}
use Rattle.game.specs.promise.Lent.{Fault8}
use Rattle.format.specs.promise.Faults.{judged_rows}
use Rattle.housefile.specs.promise.Faults.{table_sizes}
use Rattle.housefile.proofs.LentRows.{reads_refused}
use Rattle.housefile.proofs.reader.read.Goals as goal

pub returns-in_err-judge : goal.returns-in_err-judge
returns-in_err-judge c =
    let a = c.args in
    let file = a.file.now in
    let lent = tables_of a.owners.now a.priorities.now a.starts.now a.targets.now in
    reads_refused file lent (refused_front (judged_rows file) (row 8 (Fault8 (table_sizes lent)) ∷ []) c.judge.ensures.said c.in_err-judge.was refl) (search rules)

pub returns-in_err-refuse : goal.returns-in_err-refuse
returns-in_err-refuse c =
    let a = c.args in
    let file = a.file.now in
    let lent = tables_of a.owners.now a.priorities.now a.starts.now a.targets.now in
    let judged = passed_front (judged_rows file) c.judge.ensures.said c.in_ok-judge.was in
    reads_refused file lent (row_first (judged_rows file) (Fault8 (table_sizes lent)) [] judged c.refuse.ensures c.lengths.ensures c.in_err-refuse.was refl) (search rules)

pub returns : goal.returns
returns c =
    let a = c.args in
    let file = a.file.now in
    let lent = tables_of a.owners.now a.priorities.now a.starts.now a.targets.now in
    let judged = passed_front (judged_rows file) c.judge.ensures.said c.in_ok-judge.was in
    let lengths = row_passed (Fault8 (table_sizes lent)) c.refuse.ensures c.lengths.ensures c.in_ok-refuse.was in
    record {
      none = none_append (judged_rows file) (row 8 (Fault8 (table_sizes lent)) ∷ []) judged (lengths, tt);
      values_are = ap₂ (λ (a b : ℕ). a ∷ b ∷ []) c.header.ensures.0 c.header.ensures.1;
      holds = c.store.ensures.passes _ (c.judge.ensures.holds judged);
    }
