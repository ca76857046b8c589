-- `update::amend` meets its contract: the checker's verdict on the old answer, and the part after acceptance (Outcomes).
use borrow.Author.Rules.{rules}
use Rattle.update.proofs.Outcomes.{judging_asks, redoing_asks, done}
use Rattle.update.proofs.amend.Goals as goal

pub judge_in-requires : goal.judge_in-requires
judge_in-requires c = judging_asks _ _ c.requires.free c.requires.formed c.blank-preds.ensures.ins_long c.blank-preds.ensures.froms_long

pub redo-count-requires : goal.redo-count-requires
redo-count-requires c = redoing_asks _ _ c.requires.free c.requires.formed c.judge_in.ensures.judged (search rules) c.judge_in.ensures.room.ins_long c.judge_in.ensures.room.froms_long

pub returns : goal.returns
returns c = done _ _ c.requires.free c.requires.formed c.judge_in.ensures.judged (search rules) c.redo-count.ensures
