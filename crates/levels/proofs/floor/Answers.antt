-- `levels::floor` meets its contract: a settled vertex and an open one (Floors).
use Rattle.levels.proofs.Floors.{floor_settled, floor_open}
use Rattle.levels.proofs.floor.Goals as goal

pub returns-then-flag-eq0 : goal.returns-then-flag-eq0
returns-then-flag-eq0 c = floor_settled c.flag.ensures c.if-flag-eq0.true c.level.ensures

pub returns : goal.returns
returns c = rw c.from.ensures (floor_open c.flag.ensures c.if-flag-eq0.false)
