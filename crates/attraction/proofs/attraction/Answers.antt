-- `attraction::attraction` meets its contract. The invariant, `Going`: the engine has moved, and no more is left of the budget than there was.
use native.Mathlib.Omega.{arith}
use Rattle.draw.proofs.Visits.{drawn_more}
use Rattle.attraction.proofs.Attracting.{picked_probable, attracted_all}
use Rattle.attraction.proofs.attraction.Goals as goal

pub returns-in_default : goal.returns-in_default
returns-in_default c = attracted_all (drawn_more c.loop-left.invariant.drawn c.sweep-swept.ensures.moved) c.pick.ensures c.in_default.is

pub probe-drained-requires : goal.probe-drained-requires
probe-drained-requires c = picked_probable c.sweep-swept.ensures.moved c.pick.ensures c.in-Some.is

pub loop-left-preserved : goal.loop-left-preserved
loop-left-preserved c =
    let x = c.probe-drained.ensures in
    record {
      at_most = omega (arith, c.loop-left.invariant.at_most, c.sweep-swept.ensures.left, x.left.0);
      drawn = drawn_more (drawn_more c.loop-left.invariant.drawn c.sweep-swept.ensures.moved) x.moved;
    }
