-- `amend::marking::seed_differing` meets its contract. The invariant, `Seeding`: of the vertices passed those that differ are seeds.
use Rattle.game.specs.promise.Lent.{asked}
use Rattle.game.specs.promise.Tables.{game_of}
use Rattle.amend.specs.promise.Amended.{Differs}
use Rattle.amend.specs.parts.Marking.{Seeding}
use Rattle.amend.proofs.marking.seed_differing.Given as goal

abbrev pub invariant-loop-v : goal.invariant-loop-v
invariant-loop-v l =
    Seeding (Differs (game_of (asked l.first)) (game_of (asked l.second))) l.n l.initial.work l.work l.tail l.v
