-- `faults::order` meets its contract. Row 7 is a scan of the vertices; a place in a stretch becomes a place in the targets (Ordered).
use borrow.Author.Rules.{rules}
use Rattle.faults.proofs.Ordered.{order_found, order_more, order_none}
use Rattle.game.proofs.Starts.{stretch_of}
use Rattle.faults.proofs.order.Goals as goal

pub successors-requires : goal.successors-requires
successors-requires c = stretch_of _ _ _ c.requires _ (search rules)

pub returns-in-Some : goal.returns-in-Some
returns-in-Some c =
    order_found _ _ _ c.requires _ _ _ _ _ (search rules) c.successors.ensures c.in-Some.is c.descent.ensures c.from.ensures c.loop-v.invariant

pub loop-v-preserved : goal.loop-v-preserved
loop-v-preserved c =
    order_more _ _ _ _ _ c.successors.ensures c.in_default.is c.descent.ensures c.loop-v.invariant

pub returns : goal.returns
returns c = order_none _ _ _ _ (search rules) c.loop-v.invariant
