-- `space::work::set_behind` meets its contract: the store is one into section 3 (Sections).
use native.Mathlib.Omega.{arith}
use Rattle.space.proofs.Sections.{stored}
use Rattle.space.proofs.work.set_behind.Goals as goal

pub returns : goal.returns
returns c = stored 3 _ (omega arith) c.requires.within
