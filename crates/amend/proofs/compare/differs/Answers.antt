-- `amend::compare::differs` meets its contract: in each of the two games v has a stretch.
use Prim.Native.Nat.{ℕ, ◌<◌}
use mathlib.Core.Path.{subst}
use Rattle.game.proofs.Starts.{stretch_of}
use Rattle.amend.proofs.compare.differs.Goals as goal

pub successors-next-requires : goal.successors-next-requires
successors-next-requires c = stretch_of _ _ _ c.requires.1.first.placed _ c.requires.0

pub successors-next2-requires : goal.successors-next2-requires
successors-next2-requires c = stretch_of _ _ _ c.requires.1.second.placed _ (subst (λ (n : ℕ). c.args.v < n) c.requires.1.size c.requires.0)
