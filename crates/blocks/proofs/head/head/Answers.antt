-- `blocks::head::head` meets its contract: each test's row comes after those that have passed.
use Prim.Native.Nat.{ℕ}
use mathlib.Core.List.{List, [], ◌∷◌, ◌++◌}
use native.Mathlib.Omega.{arith}
use borrow.Author.Rules.{rules}
use Rattle.refusal.specs.promise.Row.{Row, row}
use Rattle.refusal.proofs.Rows.{row_passed, row_first, row_last, later, passed_front, refused_front}
use Rattle.format.specs.promise.Faults.{Fault41Short, FaultSizes, Fault41Length, block_rows}
use Rattle.format.proofs.HeadTests.{headed}
use Rattle.blocks.proofs.head.head.Goals as goal

pub block-requires : goal.block-requires
block-requires c = record { room = omega (arith, headed _ (row_passed (Fault41Short _) c.refuse.ensures c.short.ensures c.in_ok-refuse.was)); counted = omega arith }

pub sizes-requires : goal.sizes-requires
sizes-requires c = headed _ (row_passed (Fault41Short _) c.refuse.ensures c.short.ensures c.in_ok-refuse.was)

pub extent-requires : goal.extent-requires
extent-requires c = headed _ (row_passed (Fault41Short _) c.refuse.ensures c.short.ensures c.in_ok-refuse.was)

-- the rows after block 0's
abbrev size_rows : List ℕ → List Row
size_rows file = row 1 (FaultSizes file) ∷ row 41 (Fault41Length file) ∷ []

pub returns-in_err-block : goal.returns-in_err-block
returns-in_err-block c =
    let file = c.args.file.now in
    let short = row_passed (Fault41Short file) c.refuse.ensures c.short.ensures c.in_ok-refuse.was in
    later (row 41 (Fault41Short file) ∷ []) (block_rows file 0 ++ size_rows file) _ (short, tt) (refused_front (block_rows file 0) (size_rows file) c.block.ensures c.in_err-block.was (search rules))

pub returns-in_err-refuse-2 : goal.returns-in_err-refuse-2
returns-in_err-refuse-2 c =
    let file = c.args.file.now in
    let short = row_passed (Fault41Short file) c.refuse.ensures c.short.ensures c.in_ok-refuse.was in
    let block = passed_front (block_rows file 0) c.block.ensures c.in_ok-block.was in
    row_first (row 41 (Fault41Short file) ∷ block_rows file 0) (FaultSizes file) (row 41 (Fault41Length file) ∷ []) (short, block) c.refuse-2.ensures c.sizes.ensures c.in_err-refuse-2.was (search rules)

pub returns : goal.returns
returns c =
    let file = c.args.file.now in
    let short = row_passed (Fault41Short file) c.refuse.ensures c.short.ensures c.in_ok-refuse.was in
    let block = passed_front (block_rows file 0) c.block.ensures c.in_ok-block.was in
    let sizes = row_passed (FaultSizes file) c.refuse-2.ensures c.sizes.ensures c.in_ok-refuse-2.was in
    later (row 41 (Fault41Short file) ∷ block_rows file 0) (size_rows file) _ (short, block) (row_last (row 1 (FaultSizes file) ∷ []) (Fault41Length file) (sizes, tt) c.refuse-3.ensures c.extent.ensures)
