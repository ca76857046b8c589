-- `update::update` meets its contract: the tests before the checker's refuse, or what follows them gives the outcome (Outcomes).
use borrow.Author.Rules.{rules}
use Rattle.update.proofs.Outcomes.{refused_early}
use Rattle.update.proofs.update.Goals as goal

pub returns-in_err-test_input : goal.returns-in_err-test_input
returns-in_err-test_input c = refused_early _ _ c.in_err-test_input.was (search rules) c.test_input.ensures.gives

pub amend-requires : goal.amend-requires
amend-requires c = record { free = c.in_ok-test_input.ensures.gives; formed = c.in_ok-test_input.ensures.formed }
