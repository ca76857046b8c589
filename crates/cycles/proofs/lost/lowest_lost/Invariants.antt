-- `cycles::lost::lowest_lost` meets its contract. Row 14 is a scan; the work space is ready between two vertices.
use Rattle.cycles.specs.parts.Rounds.{Ready}
use Rattle.winning.specs.promise.Faults.{Fault14}
use Rattle.storage.specs.promise.Answer.{mark_of, move_of}
use Rattle.game.specs.promise.Tables.{game_of, vertices}
use Rattle.game.specs.promise.Lent.{asked}
use Rattle.refusal.specs.parts.Found.{Scanned}
use Rattle.cycles.proofs.lost.lowest_lost.Given as goal

abbrev pub invariant-loop-x : goal.invariant-loop-x
invariant-loop-x l = record {
  ready : Ready (vertices (asked l.tables)) l.tables.priorities.now l.work;
  scanned : Scanned (Fault14 (game_of (asked l.tables)) (mark_of l.answer.winners.now) (move_of l.answer.moves.now)) l.x;
}
