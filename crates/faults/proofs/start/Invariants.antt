-- `faults::start` meets its contract. Row 4: the starts passed do not fall (Rising), and the last is looked at by itself.
use Rattle.game.proofs.Rising.{Rising}
use Rattle.faults.proofs.start.Given as goal

abbrev pub invariant-loop-v : goal.invariant-loop-v
invariant-loop-v l = Rising l.starts l.v
