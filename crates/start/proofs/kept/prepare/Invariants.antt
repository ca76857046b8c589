-- `start::kept::prepare` meets its contract. The invariant, `Prepared`: the lines of the vertices passed are those that the engine starts with.
use Rattle.start.specs.parts.Preparing.{Prepared}
use Rattle.start.proofs.kept.prepare.Given as goal

abbrev pub invariant-loop-v : goal.invariant-loop-v
invariant-loop-v l = Prepared l.n l.priorities l.old.winners.now l.old.moves.now l.reached l.winners l.moves l.work l.v
