-- `tables::lent::test_lent` meets its contract: the rows of the tables have passed, so that n is small.
use Rattle.refusal.proofs.Rows.{row_last}
use Rattle.game.specs.promise.Faults.{table_rows}
use Rattle.game.specs.promise.Lent.{Fault8}
use Rattle.tables.proofs.lent.test_lent.Goals as goal

pub lengths-requires : goal.lengths-requires
lengths-requires c = rw c.vertices.ensures c.in_ok-test_tables.ensures.formed.sound.few

pub returns-clause-gives : goal.returns-clause-gives
returns-clause-gives c = row_last (table_rows _) (Fault8 _) c.in_ok-test_tables.ensures.gives c.refuse.ensures (rw c.vertices.ensures at c.lengths.ensures)
