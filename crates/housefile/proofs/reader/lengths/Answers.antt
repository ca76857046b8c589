-- `housefile::reader::lengths` meets its contract. Row 8: the four lengths are compared in turn.
use Rattle.game.proofs.Sizes.{no_lists}
use Rattle.housefile.proofs.reader.lengths.Goals as goal

pub returns : goal.returns
returns c = c.compare.ensures.joins _ (c.compare-ranks.ensures.joins _ (c.compare-bounds.ensures.joins _ (c.compare-edges.ensures.joins _ no_lists)))
