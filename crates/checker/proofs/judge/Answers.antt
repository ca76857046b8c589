-- `checker::judge` meets its contract: 14 is looked for only if none of 11 to 13 applies.
use mathlib.Core.Path.{◌∙◌}
use Rattle.refusal.proofs.Rows.{row_passed}
use Rattle.storage.specs.promise.Faults.{Fault11}
use Rattle.winning.specs.promise.Faults.{Fault12, Fault13}
use Rattle.lists.proofs.Stores.{filled_copies}
use Rattle.checker.proofs.judge.Goals as goal

pub lost_cycle-requires : goal.lost_cycle-requires
lost_cycle-requires c =
    let p = c.requires in
    record {
      passed =
          record {
            answered = p.passed.answered;
            no11 = row_passed (Fault11 _ _) c.refuse.ensures c.strange_mark.ensures c.in_ok-refuse.was;
            no12 = row_passed (Fault12 _ _ _) c.refuse-2.ensures c.wrong_move.ensures c.in_ok-refuse-2.was;
            no13 = row_passed (Fault13 _ _ _) c.refuse-3.ensures c.open_escape.ensures c.in_ok-refuse-3.was;
          };
      preds = p.preds;
      work_long = c.fill.ensures.len ∙ p.passed.work_long;
      zero = filled_copies _ (c.fill.ensures.after (λ y e. e));
    }
