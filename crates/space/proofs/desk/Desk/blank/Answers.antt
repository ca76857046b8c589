-- `space::desk::Desk::blank` meets its contract: its lists are repeated zeros.
use mathlib.Core.Path.{refl}
use Rattle.std.proofs.lemmas.List.{get_or-replicate}
use Rattle.space.proofs.desk.Desk.blank.Goals as goal

pub returns : goal.returns
returns c =
    record {
      laid = record { firsts_long = refl; lasts_long = refl; waiting_long = refl; levels_long = refl; pile_long = refl };
      nobody = record { all = λ i l. get_or-replicate 2048 i 0 0 l };
    }
