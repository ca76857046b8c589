-- `sweep::gather` meets its contract. The invariant, `Gathering`: there is a pile, and x stands in the line. No line has more than n.
use Rattle.sweep.proofs.Gathers.{gathering_lookable, gathering_cell, gathering_more, stands_behind, gathering_all}
use Rattle.sweep.proofs.gather.Goals as goal

pub look-tail-requires : goal.look-tail-requires
look-tail-requires c = gathering_lookable c.requires c.front.ensures.dropped c.loop.invariant.1 c.loop.invariant.0

pub behind-next-requires : goal.behind-next-requires
behind-next-requires c = gathering_cell c.requires c.front.ensures.dropped c.loop.invariant.1

pub returns-then-next : goal.returns-then-next
returns-then-next c = gathering_all c.requires c.front.ensures.dropped (gathering_more c.requires c.front.ensures.dropped c.loop.invariant.1 c.loop.invariant.0 c.look-tail.ensures)

pub loop-preserved : goal.loop-preserved
loop-preserved c = (gathering_more c.requires c.front.ensures.dropped c.loop.invariant.1 c.loop.invariant.0 c.look-tail.ensures, stands_behind c.requires c.front.ensures.dropped c.loop.invariant.1 c.behind-next.ensures c.if-next.false c.from-x.ensures)

pub returns : goal.returns
returns c = gathering_all c.requires c.front.ensures.dropped c.loop.invariant.0
