-- `amend::marking::find_reached` meets its contract: seeding, closing, copying and clearing in turn (Marks).
use mathlib.Core.Path.{refl}
use Rattle.amend.proofs.Marks.{marked}
use Rattle.lists.proofs.Stores.{filled_copies}
use Rattle.amend.proofs.marking.find_reached.Goals as goal

pub returns : goal.returns
returns c =
    marked c.requires c.seed_differing-seeds.ensures c.close-count.ensures refl c.copy_reached.ensures c.fill.ensures.len (filled_copies _ (c.fill.ensures.after (λ y e. e)))
