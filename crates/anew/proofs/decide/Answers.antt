-- `anew::decide` meets its contract: preparing, settling and clearing in turn (Anew).
use Rattle.anew.proofs.Anew.{settling_asks, decided_anew}
use Rattle.lists.proofs.Stores.{filled_copies}
use Rattle.anew.proofs.decide.Goals as goal

pub settle-requires : goal.settle-requires
settle-requires c = settling_asks c.requires c.prepare.ensures

pub returns : goal.returns
returns c = decided_anew c.requires c.prepare.ensures c.prepare.auto.winners c.settle.ensures c.fill.ensures.len (filled_copies _ (c.fill.ensures.after (λ y e. e)))
