-- `turn::turn` meets its contract: the closure, the reopening and the stores one after the other (Turns).
use Rattle.turn.proofs.Turns.{seedable, closable, reopenable, clearable, mark_room_lem, keepable, long_kept, turned}
use Rattle.turn.proofs.turn.Goals as goal

pub seed-one-requires : goal.seed-one-requires
seed-one-requires c = seedable c.requires

pub close-tail-requires : goal.close-tail-requires
close-tail-requires c = closable c.requires c.seed-one.ensures

pub reopen-least-requires : goal.reopen-least-requires
reopen-least-requires c = reopenable c.requires c.seed-one.ensures c.close-tail.ensures

pub clear-requires : goal.clear-requires
clear-requires c = clearable c.requires c.seed-one.ensures c.close-tail.ensures c.reopen-least.ensures

pub set_mark-requires : goal.set_mark-requires
set_mark-requires c = mark_room_lem c.requires c.seed-one.ensures c.close-tail.ensures c.reopen-least.ensures

pub keep-requires : goal.keep-requires
keep-requires c = keepable c.requires c.seed-one.ensures c.close-tail.ensures c.reopen-least.ensures c.clear.ensures

pub shape_of-work : goal.shape_of-work
shape_of-work c = long_kept c.requires c.seed-one.ensures c.close-tail.ensures c.reopen-least.ensures c.clear.ensures c.keep.ensures.flagged

pub returns : goal.returns
returns c =
    let k = c.keep.ensures in
    turned c.requires c.seed-one.ensures c.close-tail.ensures c.reopen-least.ensures c.clear.ensures k.flagged c.set_mark.ensures k.moved k.levelled k.only
