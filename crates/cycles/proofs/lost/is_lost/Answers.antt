-- `cycles::lost::is_lost` meets its contract, call by call: seed, close, look for a step back, clear (Turns).
use Rattle.cycles.proofs.Turns.{seedable, backable, says14, ready_again}
use Rattle.game.proofs.Starts.{stretch_of}
use Rattle.storage.proofs.Stores.{has_room}
use mathlib.Core.Path.{sym, ◌∙◌}
use Rattle.cycles.proofs.lost.is_lost.Goals as goal

pub mark-requires : goal.mark-requires
mark-requires c = let p = c.requires in has_room p.passed.answered.stored p.vertex

pub seed-one-requires : goal.seed-one-requires
seed-one-requires c = rw c.vertices-n.ensures (seedable c.requires)

pub successors-requires : goal.successors-requires
successors-requires c = let p = c.requires in stretch_of _ _ _ p.passed.answered.well_formed.placed _ p.vertex

pub comes_back-back-requires : goal.comes_back-back-requires
comes_back-back-requires c =
    let seeded = rw c.vertices-n.ensures at c.seed-one.ensures in
    let closed = rw c.vertices-n.ensures at c.close-tail.ensures in
    rw c.vertices-n.ensures (backable c.requires seeded c.from-bound.ensures closed c.successors.ensures c.recorded.ensures)

pub returns : goal.returns
returns c =
    let seeded = rw c.vertices-n.ensures at c.seed-one.ensures in
    let closed = rw c.vertices-n.ensures at c.close-tail.ensures in
    record {
      says =
          says14 c.requires seeded c.from-bound.ensures closed c.successors.ensures c.recorded.ensures
          (λ same. c.if-from-mark.false (c.from.ensures ∙ c.of_priority.ensures ∙ same ∙ sym c.mark.ensures)) (rw c.vertices-n.ensures at c.comes_back-back.ensures);
      ready = ready_again c.requires seeded c.from-bound.ensures closed (rw c.vertices-n.ensures at c.clear.ensures);
    }
