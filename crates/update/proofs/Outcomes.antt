-- The update's outcomes: refused by a test before the checker's, refused by the checker, or done.
use Prim.Native.Nat.{ℕ}
use mathlib.Core.Path.{◌≡◌, refl, sym, subst, ◌∙◌}
use mathlib.Core.List.{List}
use lib.ListN.{length}
use Rattle.refusal.specs.promise.Row.{None, Gives}
use Rattle.refusal.specs.promise.Number.{number_of}
use Rattle.refusal.specs.promise.Number.{tested_said}
use Rattle.refusal.specs.declared.Refusal.{Refusal}
use Rattle.std.specs.Prelude.{Result, Ok, Err}
use Rattle.refusal.proofs.Rows.{first_left, first_right}
use Rattle.game.specs.promise.Tables.{game_of, WellFormed}
use Rattle.storage.specs.promise.Answer.{mark_of, move_of}
use Rattle.storage.specs.promise.Lent.{Lent}
use Rattle.storage.proofs.Stores.{marks_players}
use Rattle.storage.proofs.Zeros.{zeroed_more}
use Rattle.winning.specs.promise.Faults.{Accepted}
use Rattle.winning.proofs.Accepted.{accepted_right}
use Rattle.checker.specs.parts.Judging.{JudgeableIn, Judged}
use Rattle.checker.specs.promise.Checking.{judge_rows}
use Rattle.checker.proofs.Verdicts.{high}
use Rattle.update.specs.promise.Updating.{Updates, updated_said}
use Rattle.inputs.specs.promise.Inputs.{Input, test_rows}
use Rattle.redo.specs.parts.Redoing.{Redoable, RedoneTo}
use Rattle.inputs.proofs.Rows.{Free, free_of_none, not_judging}

-- what is lent with another work space
abbrev pub with_work : Lent → List ℕ → Lent
with_work l work = record { answer = l.answer; work = work }

module _ (i : Input) (l : Lent) where
  -- a refusal before the checker's leaves everything as it was
  pub refused_early : {t : Result Unit Refusal} {r : Refusal} {u : Result ℕ Refusal} → t ≡ Err r → u ≡ Err r → Gives (test_rows i l) (tested_said t) → Updates i l l (updated_said u)
  refused_early {t} {r} e given g =
      let f = subst (λ (t : Result Unit Refusal). Gives (test_rows i l) (tested_said t)) e g in
      subst (λ (u : Result ℕ Refusal). Updates i l l (updated_said u)) (sym given)
      (record {
        first = first_left (test_rows i l) (judge_rows i.first i.old) (number_of r.kind) r.place f;
        same = refl;
        leaves = record { zeroed = λ j. absurd (not_judging i l f j); same = λ _. refl };
      })

  module _ (n : None (test_rows i l)) (formed : WellFormed i.first × WellFormed i.second) where
    free : Free i l
    free = free_of_none i l n

    pub judging_asks : {ins froms : List ℕ} → length ins ≡ 2049 → length froms ≡ 16384 → JudgeableIn i.first i.old ins froms l.work
    judging_asks x y =
        record {
          passed =
              record {
                answered = record { well_formed = formed.0; stored = record { cells = free.fit.0 }; moves_long = free.fit.1.0 };
                work_long = free.fit.1.1.1.1.0;
              };
          ins_long = x;
          froms_long = y;
        }

    module _ {v : Result Unit Refusal} {work₁ : List ℕ} (j : Judged i.first i.old l.work work₁ (tested_said v)) where
      -- a refusal by the checker leaves the work space all zero
      pub refused_judged : {q : Refusal} {u : Result ℕ Refusal} → v ≡ Err q → u ≡ Err q → Updates i l (with_work l work₁) (updated_said u)
      refused_judged {q} {u} e given =
          let f = subst (λ (v : Result Unit Refusal). Gives (judge_rows i.first i.old) (tested_said v)) e j.gives in
          subst (λ (u : Result ℕ Refusal). Updates i l (with_work l work₁) (updated_said u)) (sym given)
          (record {
            first = first_right (test_rows i l) (judge_rows i.first i.old) (number_of q.kind) q.place n f;
            same = refl;
            leaves = record { zeroed = λ _. j.zeroed; same = λ h. absurd (h (high i.first i.old l.work (number_of q.kind) q.place f)) };
          })

      accepted : v ≡ Ok tt → Accepted (game_of i.first) (mark_of i.old.winners) (move_of i.old.moves)
      accepted e =
          let n = subst (λ (v : Result Unit Refusal). Gives (judge_rows i.first i.old) (tested_said v)) e j.gives in
          record { players = marks_players n.0; none = n.1 }

      pub redoing_asks : {ins froms : List ℕ} → v ≡ Ok tt → length ins ≡ 2049 → length froms ≡ 16384 → Redoable i (with_work l work₁) ins froms
      redoing_asks e x y =
          let f = free.fit in
          record {
            paired = record { first = formed.0; second = formed.1; size = free.size };
            fit = (f.0, (f.1.0, (f.1.1.0, (f.1.1.1.0, (j.zeroed.long ∙ f.1.1.1.1.0, tt)))));
            accepted = accepted e;
            blank = record { all = j.zeroed.zero };
            ins_long = x;
            froms_long = y;
          }

      pub done : {after : Lent} {count : ℕ} → v ≡ Ok tt → RedoneTo i (with_work l work₁) after count → Updates i l after (updated_said (Ok count))
      done {after} {count} e r =
          record {
            none = n;
            right = accepted_right (game_of i.first) (mark_of i.old.winners) (move_of i.old.moves) (accepted e);
            count = count;
            value = refl;
            counted = r.counted;
            written =
                record {
                  winners_long = r.written.winners_long;
                  moves_long = r.written.moves_long;
                  solution = r.written.solution;
                  zeroed = zeroed_more j.zeroed r.written.zeroed;
                };
            kept = r.kept;
          }
