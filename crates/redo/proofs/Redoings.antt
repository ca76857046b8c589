-- After acceptance: what marking and deciding ask is at hand, and what they give together is the update's result.
use Prim.Native.Nat.{ℕ, ◌*◌, ◌<◌}
use mathlib.Core.Path.{◌≡◌, sym, ap, subst, ◌∙◌}
use mathlib.Core.List.{List}
use native.Mathlib.Decide.{ℕ_discrete}
use native.Mathlib.Omega.{arith}
use lib.ListN.{length, get_or}
use Rattle.game.specs.promise.Tables.{Tables, vertices, game_of}
use Rattle.storage.specs.promise.Lent.{Lent}
use Rattle.storage.specs.promise.Answer.{winner_cells}
use Rattle.storage.proofs.Zeros.{zeroed_more}
use Rattle.winning.proofs.Won.{accepted_solution}
use Rattle.preds.specs.parts.Preds.{Preds}
use Rattle.amend.specs.promise.Amended.{CountOf}
use Rattle.redo.specs.promise.Redone.{Redone}
use Rattle.inputs.specs.promise.Inputs.{Input}
use Rattle.amend.specs.parts.Marking.{Findable, FoundReached}
use Rattle.anew.specs.parts.Deciding.{OldKept, Decidable, DecidedAnew}
use Rattle.redo.specs.parts.Redoing.{Redoable, RedoneTo}
use Rattle.amend.proofs.Reaching.{kept_agree, kept_closed}

module _ (i : Input) (lent : Lent) {ins₀ froms₀ : List ℕ} (a : Redoable i lent ins₀ froms₀) where
  abbrev t : Tables
  t = i.second

  abbrev size : vertices i.first ≡ vertices t
  size = a.paired.size

  pub marking_asks : {ins froms reached : List ℕ} → Preds (game_of t) ins froms → length reached ≡ 2048 → Findable i.first t ins froms reached lent.work
  marking_asks p room =
      record {
        seedable = record { paired = a.paired; long = a.fit.1.1.1.1.0 ∙ ap (λ (n : ℕ). 4 * n) size; blank = a.blank };
        preds = p;
        reached_room = omega (arith, a.paired.second.sound.few);
      }

  -- what is reached has its flag
  module _ {reached work : List ℕ} {count : ℕ} (m : FoundReached i.first t lent.work reached work count) where
    not_redone : (v : ℕ) → v < vertices t → get_or reached v 0 ≡ 0 → ¬ Redone i v
    not_redone v l e r = let one = m.flags.marked v l r in omega arith

    not_reached : (v : ℕ) → v < vertices t → ¬ Redone i v → get_or reached v 0 ≡ 0
    not_reached v l h =
        let flag = m.flags.flag v l in
        elim (ℕ_discrete (get_or reached v 0) 1) [ yes e ↦ absurd (h (m.flags.holds v l e)) | no ne ↦ omega arith ]

    kept : OldKept t i.old.winners i.old.moves reached
    kept =
        record {
          first = game_of i.first;
          size = size;
          accepted = a.accepted;
          agree = λ v l e. kept_agree (game_of i.first) (game_of t) size v l (not_redone v l e);
          closed = λ v w e s. not_reached w s.to (kept_closed (game_of i.first) (game_of t) size v w (not_redone v s.from e) s);
        }

    pub deciding_asks : {ins froms : List ℕ} → Preds (game_of t) ins froms → length reached ≡ 2048 → Decidable t i.old.winners i.old.moves reached ins froms lent.answer.winners lent.answer.moves work
    deciding_asks p room =
        record {
          well_formed = a.paired.second;
          preds = p;
          preparable =
              record {
                priorities_long = a.paired.second.level;
                small = a.paired.second.sound.few;
                old_stored = record { cells = a.fit.0 ∙ ap winner_cells size };
                old_moves_long = a.fit.1.0 ∙ size;
                reached_room = omega (arith, a.paired.second.sound.few);
                stored = record { cells = a.fit.1.1.0 ∙ ap winner_cells size };
                moves_long = a.fit.1.1.1.0 ∙ size;
                work_long = m.zeroed.long ∙ a.fit.1.1.1.1.0 ∙ ap (λ (n : ℕ). 4 * n) size;
                blank = record { all = m.zeroed.zero };
              };
          kept = kept;
        }

    pub redone :
        {winners' moves' work' : List ℕ} → DecidedAnew t i.old.winners i.old.moves reached lent.answer.winners lent.answer.moves work winners' moves' work' →
        RedoneTo i lent (record { answer = record { winners = winners'; moves = moves' }; work = work' }) count
    redone d =
        let sound = a.paired.second.sound in
        record {
          counted = subst (λ (n : ℕ). CountOf (Redone i) n count) (sym size) m.number;
          written =
              record {
                winners_long = d.winners_long;
                moves_long = d.moves_long;
                solution = accepted_solution (game_of t) _ _ sound a.paired.second.moving d.accepted;
                zeroed = zeroed_more m.zeroed d.zeroed;
              };
          kept = λ v l h. let k = subst (λ (n : ℕ). v < n) size l in record { mark = d.kept_mark v k (not_reached v k h); move = d.kept_move v k (not_reached v k h) };
        }
