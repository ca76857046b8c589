-- `inputs::test_input` meets its contract. The first game's rows, the second's, the sizes, the lengths: each comes after those that have passed (Rows).
use mathlib.Core.List.{[], ◌∷◌}
use Rattle.refusal.specs.promise.Row.{row}
use Rattle.refusal.proofs.Rows.{later, row_passed, row_last, none_append}
use Rattle.game.specs.promise.Faults.{table_rows}
use Rattle.game.specs.promise.Lent.{Fault8}
use Rattle.storage.specs.promise.Lent.{Lent, claim}
use Rattle.inputs.specs.promise.Inputs.{asked_input, Fault9, second_rows}
use Rattle.inputs.proofs.Rows.{games, sizes}
use Rattle.inputs.proofs.test_input.Goals as goal

pub returns-clause-gives : goal.returns-clause-gives
returns-clause-gives c =
    let a = c.args in
    let i = asked_input a.input in
    let l : Lent = record { answer = claim a.new; work = a.work.now } in
    let passed = none_append (table_rows i.first) (second_rows (table_rows i.second)) c.in_ok-test_tables.ensures.gives c.in_ok-test_second.ensures.gives in
    let nine = row_passed (Fault9 _ _) c.refuse.ensures (rw (c.vertices-n.ensures, c.vertices.ensures) at c.same_size.ensures) c.in_ok-refuse.was in
    let found = c.compare.ensures.joins _ (c.compare-moved.ensures.joins _ c.lengths-lent.ensures) in
    later (games i l) (sizes i l) _ passed (row_last (row 9 (Fault9 _ _) ∷ []) (Fault8 _) (nine, tt) c.refuse-2.ensures (rw (c.cells.ensures, c.vertices-n.ensures) at found))
