-- `writer::write` meets its contract. Where nothing is refused, the output can be filled.
use Rattle.std.proofs.Common.{rules}
use Rattle.writer.proofs.Lengths.{fits, refused_46}
use Rattle.writer.proofs.write.Goals as goal

pub returns-in_err-refuse : goal.returns-in_err-refuse
returns-in_err-refuse c = refused_46 _ _ c.in_ok-test_tables.ensures.gives c.refuse.ensures (search rules) c.in_err-refuse.was (search rules)

pub fill-requires : goal.fill-requires
fill-requires c = record { well = c.in_ok-test_tables.ensures.formed; long = fits _ _ c.refuse.ensures (search rules) c.in_ok-refuse.was }
