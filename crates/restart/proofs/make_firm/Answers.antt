-- `restart::make_firm` meets its contract. The invariant, `Firming`: the unreached vertices below v have a level above all priorities.
use Rattle.restart.proofs.Firms.{firming_skip, firming_more}
use Rattle.restart.proofs.make_firm.Goals as goal
use Rattle.restart.proofs.make_firm.Goals.{then-reached-eq0, else-reached-eq0}

pub loop-v-preserved : goal.loop-v-preserved
loop-v-preserved c =
    let i = c.loop-v.invariant in
    elim c.if-reached-eq0.branch [
      | then-reached-eq0 w ↦ rw w.desk-is (firming_more c.requires i c.loop-v-test.true w.set_level.ensures)
      | else-reached-eq0 w ↦ rw w.desk-is (firming_skip i c.reached.ensures w.if-reached-eq0.false)
    ]
