-- `engine::no_lines` meets its contract: copies fill the list of the firsts, and the lengths are those of the desk's arrays.
use mathlib.Core.Path.{refl}
use Rattle.std.proofs.Common.{rules}
use Rattle.lists.proofs.Stores.{filled_copies}
use Rattle.engine.proofs.no_lines.Goals as goal

pub returns : goal.returns
returns c =
    record {
      laid = search rules;
      empty = filled_copies _ (c.fill.ensures.after (λ y e. e));
      waiting = refl;
    }
