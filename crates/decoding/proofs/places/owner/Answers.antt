-- `decoding::places::owner` meets its contract. The owner that stands at a vertex's place.
use Rattle.format.proofs.Lists.{owner_at}
use lib.ListN.{get_or}
use Prim.Native.Nat.{ℕ}
use mathlib.Core.Path.{sym, ap, ◌∙◌}
use Rattle.decoding.proofs.places.owner.Goals as goal

pub returns : goal.returns
returns c =
    let f = c.args.file.now in
    ap (λ (k : ℕ). get_or f k 0) c.vertex_place.ensures ∙ sym (owner_at f _ c.requires.below)
