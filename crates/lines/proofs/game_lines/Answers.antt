-- `lines::game_lines` meets its contract. The first line, then those of the vertices.
use Rattle.text.proofs.Appending.{appended_both}
use Rattle.lines.specs.promise.Lines.{game_line, vertex_lines}
use Rattle.lines.proofs.game_lines.Goals as goal

pub returns : goal.returns
returns c =
    let a = c.args in
    appended_both (game_line a.n a.m) (vertex_lines a.owners.now a.priorities.now a.answer.winners.now a.answer.moves.now a.n) c.game_line-at.ensures c.vertex_lines.ensures
