-- `line::test` meets its contract: the two answers of the one-vertex test, read of the game (Tests).
use mathlib.Core.Path.{◌∙◌}
use Rattle.line.proofs.Tests.{stretch, stretch_marks, chosen, nobody}
use Rattle.line.proofs.test.Goals as goal

pub owner-owner-requires : goal.owner-owner-requires
owner-owner-requires c = (c.requires.vertex, c.requires.well_formed.sound.owned _ c.requires.vertex)

pub successors-requires : goal.successors-requires
successors-requires c = stretch c.requires

pub test_vertex-requires : goal.test_vertex-requires
test_vertex-requires c = stretch_marks c.requires _ c.successors.ensures

pub returns-in-Some-clause-tested : goal.returns-in-Some-clause-tested
returns-in-Some-clause-tested c = chosen c.requires c.owner-owner.ensures c.successors.ensures c.in-Some.is c.from.ensures c.test_vertex.ensures

pub returns-in-None-clause-tested : goal.returns-in-None-clause-tested
returns-in-None-clause-tested c = nobody c.requires c.owner-owner.ensures c.successors.ensures c.in-None.is (c.from-in-None.ensures ∙ c.opponent.ensures) c.test_vertex.ensures
