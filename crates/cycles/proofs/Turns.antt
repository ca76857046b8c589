-- The test of one vertex for row 14, call by call: seed it, close, look for a step back, clear.
use Prim.Native.Nat.{ℕ, ◌*◌, ◌<◌}
use mathlib.Core.Path.{◌≡◌, sym, subst, ◌∙◌}
use mathlib.Core.Logic.{◌≢◌}
use mathlib.Core.Bool.{Bool}
use mathlib.Core.List.{List}
use native.Mathlib.Omega.{arith}
use native.Mathlib.Decide.{ℕ_discrete}
use native.Mathlib.Nat.{not-suc-le-zero}
use lib.ListN.{length, get_or}
use Rattle.player.specs.promise.Player.{parity_of}
use Rattle.game.specs.promise.Game.{Game, Listed}
use Rattle.game.specs.promise.Tables.{next_of, game_of, Tables, vertices}
use Rattle.storage.specs.promise.Answer.{Answer, mark_of, move_of}
use Rattle.storage.proofs.Stores.{marks_players}
use Rattle.winning.specs.promise.Answer.{no_move}
use Rattle.winning.specs.promise.Faults.{Fault14}
use Rattle.winning.proofs.Backed.{Backed, backed}
use Rattle.space.specs.parts.Work.{section}
use Rattle.reach.specs.parts.Closure.{ClosedFrom, Queued}
use Rattle.reach.specs.parts.Queue.{SeedableIn, PushedIn, ClosedIn, ClearedIn}
use Rattle.reach.proofs.Queues.{cleared_queued}
use Rattle.refusal.specs.parts.Says.{Says}
use Rattle.cycles.specs.parts.Back.{Backable, Comes}
use Rattle.cycles.specs.parts.Rounds.{Rounding, Ready}
use Rattle.refusal.proofs.Says.{says_iff}
use Rattle.answers.proofs.Stretches.{stretch_inside}
use Rattle.cycles.proofs.Rounds.{Single, fault14, fault14_only}

-- where nothing is queued nothing is reached
none_reached : {n : ℕ} {reached queue : List ℕ} → Queued n reached queue 0 → (v : ℕ) → v < n → get_or reached v 0 ≡ 0
none_reached {n} {reached} q v l =
    elim (ℕ_discrete (get_or reached v 0) 1) [ yes e ↦ absurd (not-suc-le-zero (q.place v l e).1) | no ne ↦ omega (arith, q.flag v l) ]

module _ {x : ℕ} {tables : Tables} {answer : Answer} {ins froms work : List ℕ} (r : Rounding x tables answer ins froms work) where
  abbrev n : ℕ
  n = vertices tables

  abbrev g : Game
  g = game_of tables

  b : Backed g (mark_of answer.winners) (move_of answer.moves)
  b = backed g (mark_of answer.winners) (move_of answer.moves) (marks_players r.passed.no11) r.passed.no12 r.passed.no13

  pub seedable : SeedableIn n x work 0
  seedable =
      record {
        long = r.ready.long;
        seedable =
            record {
              queued = r.ready.queued;
              vertex = r.vertex;
              unreached = none_reached r.ready.queued x r.vertex;
              small = r.passed.answered.well_formed.sound.few;
            };
      }

  module _ {work1 : List ℕ} {one : ℕ} (p : PushedIn n x work 0 work1 one) where
    long1 : length work1 ≡ 4 * n
    long1 = p.beside.long ∙ r.ready.long

    levels1 : section 0 n work1 ≡ tables.priorities
    levels1 = p.beside.levels ∙ r.ready.levels

    single : Single n (section 1 n work1) x
    single =
        record {
          here = p.pushed.seeded.here;
          only = λ u l e. elim (ℕ_discrete u x) [ yes q ↦ q | no ne ↦ absurd (apart (sym e ∙ (p.pushed.seeded.other u ne ∙ none_reached r.ready.queued u l))) ];
        }
      where
        apart : ◌≡◌ {A = ℕ} 1 0 → ⊥
        apart e = omega arith

    module _ {work2 : List ℕ} {bound tail : ℕ} (is_bound : bound ≡ get_or tables.priorities x 0) (c : ClosedIn n ins froms answer.moves bound work1 work2 tail) where
      long2 : length work2 ≡ 4 * n
      long2 = c.beside.long ∙ long1

      closed2 : ClosedFrom n ins froms tables.priorities answer.moves (get_or tables.priorities x 0) (section 1 n work1) (section 1 n work2)
      closed2 = rw (is_bound, levels1) at c.closed.closed

      pub backable : {stretch : List ℕ} {m : ℕ} → stretch ≡ next_of tables.starts tables.targets x → m ≡ move_of answer.moves x → Backable n stretch m work2
      backable {stretch} {m} e em =
          record {
            small = r.passed.answered.well_formed.sound.few;
            long = long2;
            inside = stretch_inside r.passed.answered r.vertex e;
            listed = λ ne. subst (Listed m) (sym e) (subst (λ (k : ℕ). Listed k (next_of tables.starts tables.targets x)) (sym em) (own ne));
          }
        where
          own : m ≢ no_move → Listed (move_of answer.moves x) (next_of tables.starts tables.targets x)
          own ne = elim (ℕ_discrete (get_or tables.owners x 0) (mark_of answer.winners x)) [ yes o ↦ (b.owned x r.vertex o).0.listed | no o ↦ absurd (ne (em ∙ b.elsewhere x r.vertex o)) ]

      pub says14 : {stretch : List ℕ} {m : ℕ} {back : Bool} → stretch ≡ next_of tables.starts tables.targets x → m ≡ move_of answer.moves x → parity_of (get_or tables.priorities x 0) ≢ mark_of answer.winners x → Says (Comes stretch m (section 1 n work2)) back → Says (Fault14 g (mark_of answer.winners) (move_of answer.moves) x) back
      says14 e em lost s =
          says_iff
          (fault14 tables answer ins froms r.passed.answered r.preds b x lost r.vertex _ _ single closed2)
          (fault14_only tables answer ins froms r.passed.answered r.preds b x lost r.vertex _ _ single closed2)
          (rw (e, em) at s)

      pub ready_again : {work3 : List ℕ} → ClearedIn n work2 work3 → Ready n tables.priorities work3
      ready_again d =
          record {
            long = d.beside.long ∙ long2;
            levels = d.beside.levels ∙ (c.beside.levels ∙ levels1);
            queued = cleared_queued long2 d;
          }
