-- `faults::stuck` meets its contract. Row 5 is a scan; the invariant: no vertex passed is stuck.
use borrow.Author.Rules.{rules}
use borrow.Author.Tests.{eqb-false}
use mathlib.Core.Path.{ap, sym, ◌∙◌}
use Rattle.game.proofs.Starts.{stretch_of}
use Rattle.refusal.proofs.Scans.{scan_more}
use lib.ListN.{length}
use Rattle.faults.proofs.stuck.Goals as goal

pub successors-requires : goal.successors-requires
successors-requires c = stretch_of _ _ _ c.requires _ (search rules)

pub loop-v-preserved : goal.loop-v-preserved
loop-v-preserved c =
    scan_more c.loop-v.invariant (λ f. eqb-false _ _ (sym c.is_empty.ensures ∙ c.if-is_empty.false) (ap length c.successors.ensures ∙ f.stuck))
