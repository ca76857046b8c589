-- The two branches of a step, as the lists have it afterwards.
use Prim.Native.Nat.{ℕ}
use mathlib.Core.Path.{◌≡◌, refl, subst}
use mathlib.Core.Logic.{◌≢◌}
use mathlib.Core.List.{List}
use native.Mathlib.Omega.{arith}
use lib.ListN.{length, get_or}
use Rattle.player.specs.promise.Player.{parity_of}
use Rattle.storage.specs.parts.Answers.{MoveSet}
use Rattle.space.specs.declared.desk.Desk.{Desk}
use Rattle.levels.specs.parts.Levels.{LevelSet, LevelsOnly}
use Rattle.turn.specs.parts.Keeping.{Keepable}
use Rattle.space.specs.parts.Work.{FlagSet}
use Rattle.turn.specs.parts.Turning.{Turnable, TurnedIn}
use Rattle.step.specs.parts.Outcome.{SteppedIn}

module _ {n v : ℕ} {priorities ins froms : List ℕ} {d : Desk} {winners moves work : List ℕ} (p : Turnable n v priorities ins froms d winners moves work) where
  pub settlable : Keepable v d moves work
  settlable =
      record {
        small = omega (arith, p.standing.small, p.moves_long);
        vertex = omega (arith, p.vertex, p.moves_long);
        laid = p.standing.laid;
        work_long = rw p.moves_long p.standing.work_long;
      }

  pub by_keeping :
      {q m k low : ℕ} {d' : Desk} {moves' work' : List ℕ} →
      q ≡ parity_of (get_or priorities v 0) →
      MoveSet moves moves' v m →
      LevelSet d.levels d'.levels v k →
      LevelsOnly d d' →
      FlagSet (length moves) v 0 work work' →
      SteppedIn n v q m k low priorities ins froms d winners moves work d' winners moves' work' low
  by_keeping {work' = work'} e move level only flag =
      record {
        kept =
            λ h.
            record {
              only = only;
              winners_same = refl;
              move = move;
              level = level;
              flag = subst (λ (x : ℕ). FlagSet x v 0 work work') p.moves_long flag;
              low_same = refl;
            };
        turned = λ ne. absurd (ne e);
      }

pub by_turning :
    {n v q m k low r : ℕ} {priorities ins froms : List ℕ} {d : Desk} {winners moves work : List ℕ} {d' : Desk} {winners' moves' work' : List ℕ} →
    q ≢ parity_of (get_or priorities v 0) →
    TurnedIn n v q m k low priorities ins froms d winners moves work d' winners' moves' work' r →
    SteppedIn n v q m k low priorities ins froms d winners moves work d' winners' moves' work' r
by_turning ne t = record { kept = λ e. absurd (ne e); turned = λ h. t }
