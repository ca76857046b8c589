-- `lines::vertex_lines` meets its contract. Line by line (Lined).
use Rattle.lines.proofs.Lined.{lined_none, lined_room, lined_more}
use Rattle.lines.proofs.vertex_lines.Goals as goal

pub loop-v-init : goal.loop-v-init
loop-v-init c = lined_none _ _ _ _ _ _

pub vertex_line-next-requires : goal.vertex_line-next-requires
vertex_line-next-requires c =
    lined_room _ _ _ _ _ c.loop-v.invariant c.mark-winner.ensures c.recorded-to.ensures c.loop-v-test.true c.requires.1

pub loop-v-preserved : goal.loop-v-preserved
loop-v-preserved c =
    lined_more _ _ _ _ _ c.loop-v.invariant c.mark-winner.ensures c.recorded-to.ensures c.vertex_line-next.ensures
