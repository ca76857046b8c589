-- `cycles::levels::set_levels` meets its contract. The invariant, `Levelling`: the priorities below v are in place.
use borrow.Author.Rules.{rules}
use Rattle.cycles.proofs.Levelling.{levels_all}
use Rattle.cycles.proofs.levels.set_levels.Goals as goal

pub returns : goal.returns
returns c = levels_all c.requires c.loop-v.invariant (search rules)
