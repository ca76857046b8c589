-- `block::block` meets its contract: each test's row comes after those that have passed.
use mathlib.Core.List.{[], ◌∷◌}
use borrow.Author.Rules.{rules}
use Rattle.refusal.specs.promise.Row.{row}
use Rattle.refusal.proofs.Rows.{row_passed, row_first, row_last}
use Rattle.format.specs.promise.Faults.{Fault42, Fault43, Fault44}
use Rattle.block.proofs.block.Goals as goal

pub returns-in_err-refuse-2 : goal.returns-in_err-refuse-2
returns-in_err-refuse-2 c =
    let one = row_passed (Fault42 _ _) c.refuse.ensures c.check.ensures c.in_ok-refuse.was in
    row_first (row 42 (Fault42 _ _) ∷ []) (Fault43 _ _) (row 44 (Fault44 _ _) ∷ []) (one, tt) c.refuse-2.ensures c.kind.ensures c.in_err-refuse-2.was (search rules)

pub returns : goal.returns
returns c =
    let one = row_passed (Fault42 _ _) c.refuse.ensures c.check.ensures c.in_ok-refuse.was in
    let two = row_passed (Fault43 _ _) c.refuse-2.ensures c.kind.ensures c.in_ok-refuse-2.was in
    row_last (row 42 (Fault42 _ _) ∷ row 43 (Fault43 _ _) ∷ []) (Fault44 _ _) (one, (two, tt)) c.refuse-3.ensures c.others.ensures
