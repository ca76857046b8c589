-- `attract::drain` meets its contract. The invariant: the engine has moved, and there is a pile.
use mathlib.Core.Path.{◌∙◌}
use Rattle.draw.proofs.Visits.{drawn_more}
use Rattle.attract.proofs.Drains.{drain_visitable}
use Rattle.attract.proofs.drain.Goals as goal

pub visit-pile-requires : goal.visit-pile-requires
visit-pile-requires c = drain_visitable c.loop-left.invariant c.if-end-eq0.false (c.from.ensures ∙ c.piled.ensures)

pub loop-left-preserved : goal.loop-left-preserved
loop-left-preserved c = drawn_more c.loop-left.invariant c.visit-pile.ensures
