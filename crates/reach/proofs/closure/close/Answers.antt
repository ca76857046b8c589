-- `reach::closure::close` meets its contract. The invariant, `ClosingIn`: whatever is reached has its reason, and all allowed steps to the first h
-- vertices of the queue start at reached vertices. The measure is n - h, since the queue never has more than n vertices.
use mathlib.Core.Path.{◌∙◌}
use native.Mathlib.Omega.{arith}
use Rattle.reach.proofs.Closing.{closing_in_none, closing_place, closing_in_more, closing_in_all}
use Rattle.reach.proofs.closure.close.Goals as goal

pub loop-h-init : goal.loop-h-init
loop-h-init c = closing_in_none c.requires

pub queued-requires : goal.queued-requires
queued-requires c = closing_place c.requires c.loop-h.invariant c.loop-h-test.true

pub loop-h-smaller : goal.loop-h-smaller
loop-h-smaller c = omega (arith, (closing_place c.requires c.loop-h.invariant c.loop-h-test.true).within)

pub loop-h-preserved : goal.loop-h-preserved
loop-h-preserved c = closing_in_more c.requires c.loop-h.invariant c.loop-h-test.true (c.from-w.ensures ∙ c.queued.ensures) c.visit-end.ensures

pub returns : goal.returns
returns c = closing_in_all c.requires c.loop-h.invariant c.loop-h-test.false
