-- `block::check` meets its contract: row 42.
use Rattle.block.proofs.BlockTests.{check_decides}
use Rattle.block.proofs.check.Goals as goal

pub returns : goal.returns
returns c = check_decides _ _ _ _ _ c.check_of.ensures c.word.ensures c.then_some.ensures
