-- `loading::judge::frame` meets its contract: each part's rows come after those that have passed.
use borrow.Author.Rules.{rules}
use mathlib.Core.List.{[], ◌∷◌, ◌++◌}
use Rattle.refusal.specs.promise.Row.{row}
use Rattle.refusal.proofs.Rows.{later, none_append, passed_front, refused_front, row_last}
use Rattle.format.specs.promise.Faults.{Fault45, head_rows, turn_rows}
use Rattle.format.proofs.HeadTests.{head_sized}
use Rattle.loading.proofs.judge.frame.Goals as goal

pub blocks-requires : goal.blocks-requires
blocks-requires c = head_sized _ (passed_front (head_rows _) c.head.ensures c.in_ok-head.was)

pub returns-in_err-blocks : goal.returns-in_err-blocks
returns-in_err-blocks c =
    let file = c.args.file.now in
    let head = passed_front (head_rows file) c.head.ensures c.in_ok-head.was in
    later (head_rows file) (turn_rows file ++ (row 45 (Fault45 file) ∷ [])) _ head (refused_front (turn_rows file) (row 45 (Fault45 file) ∷ []) c.blocks-2.ensures c.in_err-blocks.was (search rules))

pub counts-requires : goal.counts-requires
counts-requires c = head_sized _ (passed_front (head_rows _) c.head.ensures c.in_ok-head.was)

pub returns : goal.returns
returns c =
    let file = c.args.file.now in
    let head = passed_front (head_rows file) c.head.ensures c.in_ok-head.was in
    let blocks = passed_front (turn_rows file) c.blocks-2.ensures c.in_ok-blocks.was in
    row_last (head_rows file ++ turn_rows file) (Fault45 file) (none_append (head_rows file) (turn_rows file) head blocks) c.refuse.ensures c.counts.ensures
