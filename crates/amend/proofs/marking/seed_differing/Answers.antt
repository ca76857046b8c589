-- `amend::marking::seed_differing` meets its contract. The invariant, `Seeding`: of the vertices passed those that differ are seeds.
use native.Mathlib.Omega.{arith}
use Rattle.amend.proofs.Seeds.{seeding_none, seeding_one, seeding_skip, seeding_asks, seeding_all}
use Rattle.amend.proofs.marking.seed_differing.Goals as goal
use Rattle.amend.proofs.marking.seed_differing.Goals.{then-differs, else-differs}

pub loop-v-init : goal.loop-v-init
loop-v-init c = seeding_none c.requires.long c.requires.blank

pub seed-tail-requires : goal.seed-tail-requires
seed-tail-requires c = seeding_asks c.requires.long c.loop-v.invariant c.requires.paired.second.sound.few c.loop-v-test.true

pub loop-v-preserved : goal.loop-v-preserved
loop-v-preserved c =
    let long = c.requires.long in
    let now = c.loop-v.invariant in
    let tells = c.differs.ensures in
    elim c.if-differs.branch [
      | then-differs w ↦ seeding_one long now w.work-is w.tail-is (tells.holds w.if-differs.true) w.seed-tail.ensures
      | else-differs w ↦ seeding_skip long now w.work-is w.tail-is (tells.fails w.if-differs.false)
    ]

pub returns : goal.returns
returns c = seeding_all (omega arith) c.loop-v.invariant
