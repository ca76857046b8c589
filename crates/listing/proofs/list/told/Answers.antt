-- `listing::list::told` meets its contract. The line of a refusal fits (Filing).
use Rattle.listing.proofs.Filing.{refused_room}
use Rattle.listing.proofs.list.told.Goals as goal

pub refused_line-requires : goal.refused_line-requires
refused_line-requires c = refused_room _ _ _ c.told-text
