-- `storage::lent::lengths` meets its contract: the three lengths are compared in turn (Sizes).
use Prim.Native.Nat.{ℕ, ◌*◌}
use mathlib.Core.Path.{subst}
use mathlib.Core.List.{[], ◌∷◌}
use Rattle.refusal.specs.parts.Found.{Finds}
use Rattle.game.specs.promise.Lent.{Fault8, sized}
use Rattle.game.proofs.Sizes.{no_lists}
use Rattle.storage.proofs.lent.lengths.Goals as goal

pub returns : goal.returns
returns c =
    let a = c.args in
    let found = c.compare.ensures.joins _ (c.compare-moved.ensures.joins _ (c.compare-space.ensures.joins _ no_lists)) in
    subst (λ (k : ℕ). Finds (Fault8 (sized a.winners k ∷ sized a.moves a.n ∷ sized a.work (4 * a.n) ∷ [])) c.compare.result) c.cells.ensures found
