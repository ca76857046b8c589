-- `step::step` meets its contract: its two branches (Settling).
use mathlib.Core.Path.{sym, ◌∙◌}
use Rattle.step.proofs.Settling.{settlable, by_keeping, by_turning}
use Rattle.step.proofs.step.Goals as goal

pub keep-requires : goal.keep-requires
keep-requires c = settlable c.requires

pub returns-then-line-from : goal.returns-then-line-from
returns-then-line-from c = let k = c.keep.ensures in by_keeping c.requires (c.if-line-from.true ∙ c.from.ensures ∙ c.of_priority.ensures) k.moved k.levelled k.only k.flagged

pub turn-requires : goal.turn-requires
turn-requires c = c.requires

pub returns : goal.returns
returns c = by_turning (λ e. c.if-line-from.false (e ∙ sym (c.from.ensures ∙ c.of_priority.ensures))) c.turn.ensures
