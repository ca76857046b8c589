-- `blocks::blocks` meets its contract. Each block in turn. Invariant `Passing`: no row applies to the blocks passed.
use Rattle.format.proofs.InTurn.{Passing}
use Rattle.blocks.proofs.blocks.Given as goal

abbrev pub invariant-loop-b : goal.invariant-loop-b
invariant-loop-b l = Passing l.file l.b
