-- `sweep::sweep` meets its contract. The invariant, `Going`, line by line downwards.
use native.Mathlib.Omega.{arith}
use Rattle.sweep.proofs.Sweeps.{sweep_more}
use Rattle.sweep.proofs.sweep.Goals as goal

pub loop-k-preserved : goal.loop-k-preserved
loop-k-preserved c = (omega (arith, c.loop-k.invariant.0, c.in-Some.ensures), record { at_most = omega (arith, c.loop-k.invariant.1.at_most, c.drain-drained.ensures.left); drawn = sweep_more c.loop-k.invariant.1.drawn c.gather-tail.ensures c.drain-drained.ensures.moved })
