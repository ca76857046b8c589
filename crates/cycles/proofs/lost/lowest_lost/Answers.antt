-- `cycles::lost::lowest_lost` meets its contract. Row 14 is a scan; the work space is ready between two vertices.
use Rattle.cycles.proofs.Rounds.{fault14_vertex}
use Rattle.refusal.proofs.Scans.{scan_more, scan_all}
use native.Mathlib.Omega.{arith}
use Rattle.cycles.proofs.lost.lowest_lost.Goals as goal

pub loop-x-preserved : goal.loop-x-preserved
loop-x-preserved c = record {
  ready = c.is_lost.ensures.ready;
  scanned = scan_more c.loop-x.invariant.scanned (c.is_lost.ensures.says.fails c.if-is_lost.false);
}

pub returns : goal.returns
returns c = scan_all c.loop-x.invariant.scanned (λ x f. omega (arith, fault14_vertex _ _ _ _ f))
