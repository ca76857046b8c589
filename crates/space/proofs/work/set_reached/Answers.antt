-- `space::work::set_reached` meets its contract: the store is one into section 1 (Sections).
use native.Mathlib.Omega.{arith}
use Rattle.space.proofs.Sections.{stored}
use Rattle.space.proofs.work.set_reached.Goals as goal

pub returns : goal.returns
returns c = stored 1 _ (omega arith) c.requires.within
