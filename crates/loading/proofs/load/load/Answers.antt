-- `loading::load::load` meets its contract. The tables are decoded, tested and turned.
use borrow.Author.Rules.{rules}
use Rattle.format.specs.promise.Faults.{filed_rows}
use Rattle.loading.proofs.FrameRows.{loads_refused}
use Rattle.loading.proofs.load.load.Goals as goal

pub returns-in_err-values : goal.returns-in_err-values
returns-in_err-values c = loads_refused (filed_rows _) _ _ c.values.ensures c.in_err-values.was (search rules)
