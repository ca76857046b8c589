-- `faults::start` meets its contract. Row 4: the starts passed do not fall (Rising), and the last is looked at by itself.
use borrow.Author.Rules.{rules}
use Rattle.game.proofs.Starts.{below_found}
use Rattle.faults.proofs.start.Goals as goal

pub returns-then-starts-v : goal.returns-then-starts-v
returns-then-starts-v c =
    below_found _ _ _ c.if-starts-ne0.false (search rules) (search rules) c.loop-v.invariant c.if-starts-v.true
