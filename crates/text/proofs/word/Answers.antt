-- `text::word` meets its contract. The word is copied into the part of the slice that begins at the place.
use mathlib.Core.Path.{refl}
use Rattle.std.proofs.Common.{rules}
use Rattle.std.proofs.lemmas.Slice.{overwrites}
use Rattle.text.proofs.word.Goals as goal

pub returns : goal.returns
returns c =
    record {
      long = search (rules, overwrites);
      ends = refl;
      is = search (rules, overwrites);
      past = search (rules, overwrites);
    }
