-- `offer::offer` meets its contract: the owner's move to u, or all of x's successors (Offers).
use mathlib.Core.Path.{◌∙◌}
use native.Mathlib.Omega.{arith}
use Rattle.offer.proofs.Offers.{room, stretch, all_seen, offered_own, offered_other}
use Rattle.offer.proofs.offer.Goals as goal

pub mark-winner-requires : goal.mark-winner-requires
mark-winner-requires c = room c.requires

pub returns-then-tables-x : goal.returns-then-tables-x
returns-then-tables-x c = offered_own c.requires (λ z. c.if-flag-eq0.false (c.flag.ensures ∙ z)) c.mark-winner.ensures c.if-tables-x.true c.floor-high.ensures c.if-high-bound.false (omega arith)

pub successors-requires : goal.successors-requires
successors-requires c = stretch c.requires

pub all_for-requires : goal.all_for-requires
all_for-requires c = all_seen c.requires _ c.successors.ensures

pub returns : goal.returns
returns c = offered_other c.requires (λ z. c.if-flag-eq0.false (c.flag.ensures ∙ z)) c.mark-winner.ensures c.if-tables-x.false c.successors.ensures c.in_ok-level.ensures (omega arith)
