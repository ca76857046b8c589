-- `amend::marking::copy_reached` meets its contract. The invariant, `Copied`: the cells of the vertices passed are copied. A cell is 0 or 1, so it is a byte.
use Rattle.amend.specs.parts.Marking.{Copied}
use Rattle.amend.proofs.marking.copy_reached.Given as goal

abbrev pub invariant-loop-v : goal.invariant-loop-v
invariant-loop-v l = Copied l.n l.work l.bytes l.v
