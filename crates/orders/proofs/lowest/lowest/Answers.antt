-- `orders::lowest::lowest` meets its contract. The invariant, `Lowering`: the engine has moved, and nothing below the cursor is open.
use mathlib.Core.Path.{sym, ◌∙◌}
use Rattle.step.proofs.Steps.{turnable}
use Rattle.step.proofs.Settling.{by_keeping, by_turning}
use Rattle.step.proofs.Least.{fitting, least_stepped}
use Rattle.orders.proofs.Running.{lowering_step, lowering_all, picked_steppable}
use Rattle.orders.proofs.lowest.lowest.Goals as goal
use Rattle.orders.proofs.lowest.lowest.Goals.{then-line-from, else-line-from}

pub returns-in_default-clause-ran : goal.returns-in_default-clause-ran
returns-in_default-clause-ran c = lowering_all c.loop.invariant c.pick.ensures c.in_default.is

pub turn-low-requires : goal.turn-low-requires
turn-low-requires c =
    let s = picked_steppable c.loop.invariant.moved.engine c.loop.invariant.none_below c.pick.ensures c.in-Some.is in
    turnable _ _ _ _ _ _ _ _ _ _ _ s.engine (fitting _ _ _ _ _ _ _ _ s c.test-line.ensures.tested c.test-line.ensures.level)

pub loop-preserved : goal.loop-preserved
loop-preserved c =
    let i = c.loop.invariant in
    let s = picked_steppable i.moved.engine i.none_below c.pick.ensures c.in-Some.is in
    let x = c.test-line.ensures in
    let t = turnable _ _ _ _ _ _ _ _ _ _ _ s.engine (fitting _ _ _ _ _ _ _ _ s x.tested x.level) in
    elim c.if-line-from.branch [
      | then-line-from w ↦
          let k = w.keep.ensures in
          rw (w.desk-is, w.winners-is, w.moves-is, w.work-is, w.low-is, w.from-low.ensures)
          (lowering_step i (least_stepped _ _ _ _ _ _ _ _ s x.tested x.level (by_keeping t (w.if-line-from.true ∙ c.from.ensures ∙ c.of_priority.ensures) k.moved k.levelled k.only k.flagged)))
      | else-line-from w ↦
          rw (w.desk-is, w.winners-is, w.moves-is, w.work-is, w.low-is)
          (lowering_step i (least_stepped _ _ _ _ _ _ _ _ s x.tested x.level (by_turning (λ e. w.if-line-from.false (e ∙ sym (c.from.ensures ∙ c.of_priority.ensures))) (rw w.from-else-line-from.ensures at w.turn-low.ensures))))
    ]
