-- `space::work::queued` meets its contract: the cell is one of section 2 (Sections).
use native.Mathlib.Omega.{arith}
use Rattle.space.proofs.Sections.{section_read}
use Rattle.space.proofs.work.queued.Goals as goal

pub returns : goal.returns
returns c = let w = c.requires in section_read _ _ w.long 2 _ (omega arith) w.within
