-- `solver::solve` meets its contract: 1 to 8, and then the answer.
use Rattle.storage.proofs.Passed.{lent_fit}
use Rattle.solver.proofs.solve.Goals as goal

pub answer-requires : goal.answer-requires
answer-requires c =
    let p = c.in_ok-test_lent.ensures in
    let f = lent_fit _ _ _ _ p.gives in
    record {
      well_formed = p.formed;
      stored = record { cells = f.0 };
      moves_long = f.1.0;
      work_long = f.1.1.0;
    }
