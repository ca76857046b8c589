-- `checker::check` meets its contract: 1 to 8, and then what is judged (Verdicts).
use borrow.Author.Rules.{rules}
use Rattle.storage.proofs.Passed.{lent_fit}
use Rattle.checker.proofs.Verdicts.{checked_before, checked_judged}
use Rattle.checker.proofs.check.Goals as goal

pub returns-in_err-test_lent : goal.returns-in_err-test_lent
returns-in_err-test_lent c = checked_before _ _ _ c.test_lent.ensures.gives c.in_err-test_lent.was (search rules)

pub judge_in-requires : goal.judge_in-requires
judge_in-requires c =
    let passed = c.in_ok-test_lent.ensures in
    let f = lent_fit _ _ _ _ passed.gives in
    record {
      passed =
          record {
            answered = record { well_formed = passed.formed; stored = record { cells = f.0 }; moves_long = f.1.0 };
            work_long = f.1.1.0;
          };
      ins_long = c.blank-preds.ensures.ins_long;
      froms_long = c.blank-preds.ensures.froms_long;
    }

pub returns : goal.returns
returns c = checked_judged _ _ _ _ c.judge_in.result c.in_ok-test_lent.ensures.gives c.judge_in.ensures.judged
