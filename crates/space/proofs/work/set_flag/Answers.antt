-- `space::work::set_flag` meets its contract: the store is one into section 0 (Sections).
use native.Mathlib.Omega.{arith}
use Rattle.space.proofs.Sections.{stored}
use Rattle.space.proofs.work.set_flag.Goals as goal

pub returns : goal.returns
returns c = stored 0 _ (omega arith) c.requires.within
