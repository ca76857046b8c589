-- `restart::restart` meets its contract: the seeds, the closure, the reopening and the stores one after the other (Restarts).
use Rattle.restart.proofs.Restarts.{restarted}
use Rattle.restart.proofs.restart.Goals as goal

pub returns : goal.returns
returns c = restarted c.requires c.seed_open-tail.ensures c.close-end.ensures c.reopen.ensures c.clear.ensures c.make_firm.ensures
