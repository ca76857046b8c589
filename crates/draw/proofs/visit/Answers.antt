-- `draw::visit` meets its contract. The invariant: the engine has moved, and there is a pile.
use native.Mathlib.Omega.{arith}
use Rattle.draw.proofs.Visits.{drawn_more, visiting_drawable}
use Rattle.draw.proofs.visit.Goals as goal

pub draw-drawn-requires : goal.draw-drawn-requires
draw-drawn-requires c = visiting_drawable c.requires (omega arith) (omega arith) c.from.ensures c.loop-i.invariant

pub loop-i-preserved : goal.loop-i-preserved
loop-i-preserved c = drawn_more c.loop-i.invariant c.draw-drawn.ensures
