-- `listing::list::answer` meets its contract. The solver does not refuse the game (Answers).
use Rattle.listing.proofs.Answers.{accepted, solution}
use Rattle.listing.proofs.list.answer.Goals as goal

pub unwrap-requires : goal.unwrap-requires
unwrap-requires c =
    accepted _ _ c.requires (record { answer = record { winners = c.solve.new.winners; moves = c.solve.new.moves }; work = c.solve.new.work }) c.solve.result c.solve.ensures

pub returns : goal.returns
returns c =
    solution _ _ c.requires (record { answer = record { winners = c.solve.new.winners; moves = c.solve.new.moves }; work = c.solve.new.work }) c.solve.result c.solve.ensures
