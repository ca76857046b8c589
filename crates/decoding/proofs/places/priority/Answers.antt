-- `decoding::places::priority` meets its contract. The priority that stands at a vertex's place.
use Rattle.format.proofs.Lists.{priority_at}
use lib.ListN.{get_or}
use Prim.Native.Nat.{ℕ, ◌+◌}
use mathlib.Core.Path.{sym, ap, ◌∙◌}
use Rattle.decoding.proofs.places.priority.Goals as goal

pub returns : goal.returns
returns c =
    let f = c.args.file.now in
    ap (λ (k : ℕ). get_or f (k + 1) 0) c.vertex_place.ensures ∙ sym (priority_at f _ c.requires.below)
