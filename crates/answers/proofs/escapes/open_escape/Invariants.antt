-- `answers::escapes::open_escape` meets its contract. Row 13 is a scan; at each vertex the test by its stretch is the row (Stretches.says13).
use Rattle.winning.specs.promise.Faults.{Fault13}
use Rattle.game.specs.promise.Tables.{game_of}
use Rattle.game.specs.promise.Lent.{asked}
use Rattle.storage.specs.promise.Answer.{mark_of, move_of}
use Rattle.refusal.specs.parts.Found.{Scanned}
use Rattle.answers.proofs.escapes.open_escape.Given as goal

abbrev pub invariant-loop-v : goal.invariant-loop-v
invariant-loop-v l = Scanned (Fault13 (game_of (asked l.tables)) (mark_of l.answer.winners.now) (move_of l.answer.moves.now)) l.v
