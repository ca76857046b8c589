-- `draw::draw` meets its contract: nothing is offered, or the step to what is offered is one of the method (Draws).
use Rattle.draw.proofs.Draws.{drawn_one}
use Rattle.draw.proofs.draw.Goals as goal

pub returns : goal.returns
returns c = drawn_one c.requires c.in-Some.ensures c.step-above.ensures c.push.ensures
