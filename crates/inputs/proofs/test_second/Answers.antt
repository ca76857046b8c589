-- `inputs::test_second` meets its contract: each refusal is shifted (Rows).
use borrow.Author.Rules.{rules}
use Rattle.inputs.proofs.Rows.{second_said}
use Rattle.inputs.proofs.test_second.Goals as goal

pub returns-clause-gives : goal.returns-clause-gives
returns-clause-gives c = second_said _ _ _ _ (λ q r p. record { kind = search rules; place = search rules }) c.test_tables.ensures.gives c.map_err.ensures.cases
