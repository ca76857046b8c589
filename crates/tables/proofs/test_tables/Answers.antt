-- `tables::test_tables` meets its contract: each test's row comes after those that have passed.
use mathlib.Core.List.{[], ◌∷◌}
use borrow.Author.Rules.{rules}
use native.Mathlib.Omega.{arith}
use Rattle.refusal.specs.promise.Row.{row, NoPlace, None}
use Rattle.refusal.proofs.Rows.{row_passed, row_first, row_last, later}
use Rattle.game.specs.promise.Tables.{Tables}
use Rattle.game.specs.promise.Faults.{Fault1, Fault2, Fault3, Fault4, Fault5, Fault6, Fault7, entry_rows, stretch_rows}
use Rattle.game.specs.promise.Lent.{asked}
use Rattle.game.proofs.Starts.{placed_of}
use Rattle.game.proofs.Sizes.{fitting_of_none}
use Rattle.tables.proofs.Formed.{formed}
use Rattle.tables.proofs.test_tables.Goals as goal

pub start-requires : goal.start-requires
start-requires c = omega (arith, (fitting_of_none _ (row_passed (Fault1 _) c.refuse.ensures c.sizes.ensures c.in_ok-refuse.was)).bounds)

pub stuck-requires : goal.stuck-requires
stuck-requires c =
    placed_of _ _ _ (fitting_of_none _ (row_passed (Fault1 _) c.refuse.ensures c.sizes.ensures c.in_ok-refuse.was)).bounds (row_passed (Fault4 _ _) c.refuse-4.ensures c.start.ensures c.in_ok-refuse-4.was)

pub order-requires : goal.order-requires
order-requires c =
    placed_of _ _ _ (fitting_of_none _ (row_passed (Fault1 _) c.refuse.ensures c.sizes.ensures c.in_ok-refuse.was)).bounds (row_passed (Fault4 _ _) c.refuse-4.ensures c.start.ensures c.in_ok-refuse-4.was)

-- rows 1 to 4 have passed
passed_entry : {t : Tables} → NoPlace (Fault1 t) → NoPlace (Fault2 t.owners) → NoPlace (Fault3 t.priorities) → NoPlace (Fault4 t.starts t.targets) → None (entry_rows t)
passed_entry one two three four = (one, (two, (three, (four, tt))))

pub returns-in_err-refuse-5-clause-gives : goal.returns-in_err-refuse-5-clause-gives
returns-in_err-refuse-5-clause-gives c =
    let entry = passed_entry (row_passed (Fault1 _) c.refuse.ensures c.sizes.ensures c.in_ok-refuse.was) (row_passed (Fault2 _) c.refuse-2.ensures c.owner.ensures c.in_ok-refuse-2.was) (row_passed (Fault3 _) c.refuse-3.ensures c.priority.ensures.finds c.in_ok-refuse-3.was) (row_passed (Fault4 _ _) c.refuse-4.ensures c.start.ensures c.in_ok-refuse-4.was) in
    row_first (entry_rows _) (Fault5 _ _ _) (row 6 (Fault6 _ _) ∷ row 7 (Fault7 _ _ _) ∷ []) entry c.refuse-5.ensures c.stuck.ensures c.in_err-refuse-5.was (search rules)

pub returns-clause-gives : goal.returns-clause-gives
returns-clause-gives c =
    let entry = passed_entry (row_passed (Fault1 _) c.refuse.ensures c.sizes.ensures c.in_ok-refuse.was) (row_passed (Fault2 _) c.refuse-2.ensures c.owner.ensures c.in_ok-refuse-2.was) (row_passed (Fault3 _) c.refuse-3.ensures c.priority.ensures.finds c.in_ok-refuse-3.was) (row_passed (Fault4 _ _) c.refuse-4.ensures c.start.ensures c.in_ok-refuse-4.was) in
    let five = row_passed (Fault5 _ _ _) c.refuse-5.ensures c.stuck.ensures c.in_ok-refuse-5.was in
    let six = row_passed (Fault6 _ _) c.refuse-6.ensures c.target.ensures c.in_ok-refuse-6.was in
    later (entry_rows _) (stretch_rows (asked c.args.tables)) _ entry (row_last (row 5 (Fault5 _ _ _) ∷ row 6 (Fault6 _ _) ∷ []) (Fault7 _ _ _) (five, (six, tt)) c.refuse-7.ensures c.order.ensures)

pub returns-clause-formed : goal.returns-clause-formed
returns-clause-formed c = formed _ _ c.priority.ensures.bytes (returns-clause-gives c)
