-- `lines::vertex_lines` meets its contract. The lines of the vertices below this one are appended.
use Rattle.text.specs.parts.Append.{Appended}
use Rattle.lines.specs.promise.Lines.{vertex_lines}
use Rattle.lines.proofs.vertex_lines.Given as goal

abbrev pub invariant-loop-v : goal.invariant-loop-v
invariant-loop-v l = Appended l.initial.text l.text l.at (vertex_lines l.owners l.priorities l.answer.winners.now l.answer.moves.now l.v) l.next
