-- The work space when the vertices are gone through: zero before, levels in place.
use Prim.Native.Nat.{ℕ, ◌<◌}
use mathlib.Core.Path.{◌≡◌, subst, ◌∙◌}
use mathlib.Core.Logic.{◌≢◌}
use mathlib.Core.List.{List}
use native.Mathlib.Omega.{arith}
use lib.ListN.{length}
use Rattle.game.specs.promise.Tables.{Tables, vertices}
use Rattle.storage.specs.promise.Answer.{Answer}
use Rattle.space.specs.parts.Work.{section}
use Rattle.reach.proofs.Queues.{filled_queued}
use Rattle.cycles.specs.parts.Levels.{PrioritiesSet}
use Rattle.cycles.specs.parts.Lost.{LostAsked}
use Rattle.cycles.specs.parts.Rounds.{Rounding}

module _ {tables : Tables} {answer : Answer} {ins froms work : List ℕ} (a : LostAsked tables answer ins froms work) where
  abbrev n : ℕ
  n = vertices tables

  level : length tables.priorities ≡ n
  level = a.passed.answered.well_formed.level

  -- the levels are set
  pub rounding : {work' : List ℕ} → PrioritiesSet tables.priorities work work' → Rounding 0 tables answer ins froms work'
  rounding {work'} l =
      record {
        vertex = a.passed.answered.well_formed.sound.some;
        passed = a.passed;
        preds = a.preds;
        ready =
            record {
              long = l.long ∙ a.work_long;
              levels = subst (λ (k : ℕ). section 0 k work' ≡ tables.priorities) level l.levels;
              queued = rw (same 1 (omega arith) (omega arith), same 2 (omega arith) (omega arith)) (filled_queued a.work_long a.zero);
            };
      }
    where
      same : (j : ℕ) → j < 4 → j ≢ 0 → section j n work' ≡ section j n work
      same j h ne = subst (λ (k : ℕ). section j k work' ≡ section j k work) level (l.other j h ne)
