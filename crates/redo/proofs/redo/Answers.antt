-- `redo::redo` meets its contract: the second game's predecessor lists, then what the amendment reaches is marked and decided anew (Redoings).
use mathlib.Core.Path.{refl}
use Rattle.redo.proofs.Redoings.{marking_asks, deciding_asks, redone}
use Rattle.redo.proofs.redo.Goals as goal

pub find_reached-count-requires : goal.find_reached-count-requires
find_reached-count-requires c = rw (c.incoming.ensures.0, c.incoming.ensures.1) (marking_asks _ _ c.requires c.list.ensures.preds refl)

pub decide-requires : goal.decide-requires
decide-requires c =
    rw (c.incoming-2.ensures.0, c.incoming-2.ensures.1)
    (deciding_asks _ _ c.requires c.find_reached-count.ensures c.list.ensures.preds c.find_reached-count.auto.reached)

pub returns : goal.returns
returns c = redone _ _ c.requires c.find_reached-count.ensures c.decide.ensures
