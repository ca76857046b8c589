-- `listing::list::list` meets its contract. The file as it was read, and its listing (Filing).
use native.Mathlib.Omega.{arith}
use Rattle.game.specs.promise.Tables.{tables_of}
use Rattle.decoding.specs.parts.Rooms.{whole}
use Rattle.listing.proofs.Filing.{tellable, told_set_down}
use Rattle.listing.proofs.list.list.Goals as goal

pub told-requires : goal.told-requires
told-requires c =
    tellable _ (whole c.blank-room.result) (tables_of c.read-taken.new.owners c.read-taken.new.priorities c.read-taken.new.starts c.read-taken.new.targets) (λ i. omega (arith, c.type_inv.file i)) c.read-taken.result c.read-taken.ensures

pub returns : goal.returns
returns c =
    let h = c.blank-room.ensures in
    told_set_down _ (whole c.blank-room.result) (tables_of c.read-taken.new.owners c.read-taken.new.priorities c.read-taken.new.starts c.read-taken.new.targets) (λ i. omega (arith, c.type_inv.file i)) c.read-taken.result c.read-taken.ensures (h.owners.long, (h.priorities.long, (h.starts.long, (h.targets.long, tt)))) c.told-text c.told.ensures
