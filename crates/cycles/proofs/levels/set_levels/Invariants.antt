-- `cycles::levels::set_levels` meets its contract. The invariant, `Levelling`: the priorities below v are in place.
use Rattle.cycles.proofs.Levelling.{Levelling}
use Rattle.cycles.proofs.levels.set_levels.Given as goal

abbrev pub invariant-loop-v : goal.invariant-loop-v
invariant-loop-v l = Levelling l.priorities l.initial.work l.work l.v
