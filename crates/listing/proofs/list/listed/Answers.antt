-- `listing::list::listed` meets its contract. Solved in the arrays' beginnings (Answers), the game's lines fit and are its listing (Whole).
use mathlib.Core.Path.{refl, sym}
use lib.ListN.{length, replicate}
use lib.Seq.{length-take-le, length_front}
use Rattle.storage.specs.promise.Lent.{Lent}
use Rattle.storage.specs.parts.Answers.{cells_most}
use Rattle.listing.proofs.Answers.{Roomy, cells_few, solvable, answered}
use Rattle.listing.proofs.Whole.{listable, whole_room, answer_listed}
use Rattle.listing.proofs.list.listed.Goals as goal

-- what is lent to the solver
abbrev blank : Lent
blank = record { answer = record { winners = replicate cells_most 0; moves = replicate 2048 0 }; work = replicate 8192 0 }

roomy : Roomy blank
roomy = record { winners = refl; moves = refl; work = refl }

pub slice_bounds-winners-end : goal.slice_bounds-winners-end
slice_bounds-winners-end c = cells_few _ c.requires blank roomy _ c.cells-marks.ensures

pub slice_bounds-answer-end : goal.slice_bounds-answer-end
slice_bounds-answer-end c = sym (length-take-le _ _ (cells_few _ c.requires blank roomy _ c.cells-marks.ensures))

pub answer-requires : goal.answer-requires
answer-requires c = solvable _ c.requires blank roomy _ c.cells-marks.ensures

pub slice_bounds-game_lines-end : goal.slice_bounds-game_lines-end
slice_bounds-game_lines-end c =
    sym (length_front blank.answer.winners c.answer.new.winners c.cells-marks.result c.answer.auto.winners)

pub slice_bounds-game_lines-end-2 : goal.slice_bounds-game_lines-end-2
slice_bounds-game_lines-end-2 c =
    sym (length_front blank.answer.moves c.answer.new.moves (length c.args.tables.owners.now) c.answer.auto.moves)

pub game_lines-requires : goal.game_lines-requires
game_lines-requires c =
    let p = c.requires in
    let a = answered _ p blank roomy _ c.cells-marks.ensures (record { winners = c.answer.new.winners; moves = c.answer.new.moves }) c.answer.auto.winners c.answer.auto.moves c.answer.ensures in
    (listable _ p _ a, whole_room _ p _ a c.told-text)

pub returns : goal.returns
returns c =
    let p = c.requires in
    let a = answered _ p blank roomy _ c.cells-marks.ensures (record { winners = c.answer.new.winners; moves = c.answer.new.moves }) c.answer.auto.winners c.answer.auto.moves c.answer.ensures in
    answer_listed _ p _ a c.told-text c.game_lines.ensures
