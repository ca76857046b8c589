-- `space::work::reached` meets its contract: the cell is one of section 1 (Sections).
use native.Mathlib.Omega.{arith}
use Rattle.space.proofs.Sections.{section_read}
use Rattle.space.proofs.work.reached.Goals as goal

pub returns : goal.returns
returns c = let w = c.requires in section_read _ _ w.long 1 _ (omega arith) w.within
