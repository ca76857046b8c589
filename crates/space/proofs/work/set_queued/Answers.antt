-- `space::work::set_queued` meets its contract: the store is one into section 2 (Sections).
use native.Mathlib.Omega.{arith}
use Rattle.space.proofs.Sections.{stored}
use Rattle.space.proofs.work.set_queued.Goals as goal

pub returns : goal.returns
returns c = stored 2 _ (omega arith) c.requires.within
