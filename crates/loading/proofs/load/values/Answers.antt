-- `loading::load::values` meets its contract. 2 to 7, as `test_tables` says them of the tables as filed.
use mathlib.Core.Path.{◌∙◌, subst}
use Rattle.refusal.specs.promise.Row.{Gives}
use Rattle.refusal.specs.promise.Number.{tested_said}
use Rattle.game.specs.promise.Tables.{Tables}
use Rattle.game.specs.promise.Faults.{table_rows}
use Rattle.decoding.proofs.Padding.{holding_take}
use Rattle.loading.proofs.TableRows.{filed_said}
use Rattle.loading.proofs.load.values.Goals as goal

pub returns : goal.returns
returns c =
    let same = c.cut.ensures ∙ holding_take c.requires.0.sized c.vertices.ensures.is c.edges.ensures.is c.requires.1 in
    filed_said _ c.requires.0 c.test_tables.result (subst (λ (t : Tables). Gives (table_rows t) (tested_said c.test_tables.result)) same c.test_tables.ensures.gives)
