-- `loading::judge::judge` meets its contract. The rows before the tables, then the tables.
use borrow.Author.Rules.{rules}
use Rattle.refusal.proofs.Rows.{passed_front}
use Rattle.format.specs.promise.Faults.{judged_rows}
use Rattle.format.proofs.AllRows.{all_filed}
use Rattle.loading.specs.parts.Loading.{frame_rows}
use Rattle.loading.proofs.FrameRows.{loads_refused, frame_first, frame_summed, frame_said}
use Rattle.loading.proofs.judge.judge.Goals as goal

pub returns-in_err-frame : goal.returns-in_err-frame
returns-in_err-frame c =
    let file = c.args.file.now in
    loads_refused (judged_rows file) file _ (frame_first file c.frame.ensures c.in_err-frame.was) c.in_err-frame.was (search rules)

pub load-requires : goal.load-requires
load-requires c = (frame_summed _ (passed_front (frame_rows _) c.frame.ensures c.in_ok-frame.was), c.requires)

pub returns : goal.returns
returns c =
    let file = c.args.file.now in
    record { said = frame_said file (passed_front (frame_rows file) c.frame.ensures c.in_ok-frame.was) _ c.load.ensures.said; holds = λ none. c.load.ensures.holds (all_filed file none) }
