-- `probe::probe` meets its contract: the test, and the drain from the vertex (Probes).
use Rattle.probe.proofs.Probes.{probe_drainable, probed}
use Rattle.probe.proofs.probe.Goals as goal

pub drain-drained-requires : goal.drain-drained-requires
drain-drained-requires c = probe_drainable c.requires c.test-line.ensures.tested c.test-line.ensures.level (rw c.from-own.ensures at c.step.ensures) c.push-tail.ensures

pub returns-clause-moved : goal.returns-clause-moved
returns-clause-moved c = probed c.requires c.test-line.ensures.tested c.test-line.ensures.level (rw c.from-own.ensures at c.step.ensures) c.drain-drained.ensures.moved
