-- `decoding::room::Room::blank` meets its contract: tables of zeros hold those that say nothing.
use Rattle.decoding.proofs.Padding.{padded_blank}
use Rattle.decoding.proofs.room.Room.blank.Goals as goal

pub returns : goal.returns
returns c = record { owners = padded_blank _; priorities = padded_blank _; starts = padded_blank _; targets = padded_blank _ }
