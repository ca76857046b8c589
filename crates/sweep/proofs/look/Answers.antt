-- `sweep::look` meets its contract: who is not new stays, and who is goes on the pile if he is open (Looking).
use Rattle.sweep.proofs.Looking.{looked_open}
use Rattle.sweep.proofs.look.Goals as goal

pub returns : goal.returns
returns c = looked_open c.requires c.waits.ensures c.if-waits-ne2.false c.set_waits.ensures c.push.ensures
