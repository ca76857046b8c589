-- `decoding::places::target` meets its contract. The target that stands at an edge's place.
use Rattle.format.proofs.Lists.{target_at_lem}
use Rattle.format.specs.promise.Filed.{word_at}
use Prim.Native.Nat.{ℕ, ◌+◌, ◌*◌, ◌/◌, ◌%◌}
use mathlib.Core.Path.{sym, ap, ◌∙◌}
use Rattle.decoding.proofs.places.target.Goals as goal

pub returns : goal.returns
returns c =
    c.word.ensures ∙ ap (λ (k : ℕ). word_at c.args.file.now (512 * (k + c.args.e / 252) + 6 + 2 * (c.args.e % 252))) c.requires.begins ∙ sym (target_at_lem c.args.file.now _ c.requires.below)
