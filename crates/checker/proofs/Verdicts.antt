-- From what the tests say to the promises of `judge` and `check`.
use Prim.Native.Nat.{ℕ, ◌<◌}
use mathlib.Core.Path.{◌≡◌, refl, sym, subst}
use mathlib.Core.List.{List}
use native.Mathlib.Omega.{arith}
use Rattle.std.specs.Prelude.{Result, Ok, Err}
use Rattle.refusal.specs.promise.Row.{First, None, Gives}
use Rattle.refusal.specs.promise.Number.{number_of, said_of, tested_said}
use Rattle.refusal.specs.declared.Refusal.{Refusal}
use Rattle.refusal.proofs.Rows.{first_left, first_right, first_not_none, first_number}
use Rattle.game.specs.promise.Tables.{Tables, game_of}
use Rattle.storage.specs.promise.Answer.{Answer, mark_of, move_of}
use Rattle.storage.specs.promise.Lent.{Judging}
use Rattle.storage.proofs.Stores.{marks_players, players_marks}
use Rattle.winning.proofs.Accepted.{accepted_right, right_accepted}
use Rattle.checker.specs.promise.Checking.{IsRight, judge_rows, before_rows, Checks}
use Rattle.checker.specs.parts.Judging.{Judged}

module _ (t : Tables) (a : Answer) where
  -- none of 11 to 14 applies exactly if the answer is right
  pub right_of_none : None (judge_rows t a) → IsRight t a
  right_of_none n = accepted_right (game_of t) (mark_of a.winners) (move_of a.moves) (record { players = marks_players n.0; none = n.1 })

  pub none_of_right : IsRight t a → None (judge_rows t a)
  none_of_right r = let c = right_accepted (game_of t) (mark_of a.winners) (move_of a.moves) r in (players_marks c.players, c.none)

module _ (t : Tables) (a : Answer) (work : List ℕ) where
  -- 1 to 8 do not judge the answer, 11 to 14 do
  low : (k x : ℕ) → First (before_rows t a work) k x → k < 11
  low k x f = first_number (λ (m : ℕ). m < 11) (before_rows t a work) k x (omega arith) f

  pub high : (k x : ℕ) → First (judge_rows t a) k x → Judging k
  high k x f = first_number Judging (judge_rows t a) k x (omega arith) f

  -- a refusal before the answer is judged
  pub checked_before : {said q : Result Unit Refusal} {r : Refusal} → Gives (before_rows t a work) (tested_said said) → said ≡ Err r → q ≡ Err r → Checks t a work work (tested_said q)
  checked_before {r = r} g e d =
      let f : First (before_rows t a work) (number_of r.kind) r.place = subst (λ (s : Result Unit Refusal). Gives (before_rows t a work) (tested_said s)) e g in
      let l = low (number_of r.kind) r.place f in
      let refused_early : Checks t a work work (said_of r) = record {
        first = first_left (before_rows t a work) (judge_rows t a) (number_of r.kind) r.place f;
        wrong = λ j. absurd (no l j);
        leaves = record { zeroed = λ j. absurd (no l j); same = λ _. refl };
      } in
      subst (λ (s : Result Unit Refusal). Checks t a work work (tested_said s)) (sym d) refused_early
    where
      no : {k : ℕ} → k < 11 → Judging k → ⊥
      no l j = omega (arith, l, j.least)

  -- what `judge` says
  pub checked_judged : (work' : List ℕ) (v : Result Unit Refusal) → None (before_rows t a work) → Judged t a work work' (tested_said v) → Checks t a work work' (tested_said v)
  checked_judged work' (Ok u) n j =
      record { none = n; right = right_of_none t a j.gives; no_value = refl; zeroed = j.zeroed }
  checked_judged work' (Err r) n j =
      let k = number_of r.kind in
      record {
        first = first_right (before_rows t a work) (judge_rows t a) k r.place n j.gives;
        wrong = λ _ right. first_not_none (judge_rows t a) k r.place j.gives (none_of_right t a right);
        leaves = record { zeroed = λ _. j.zeroed; same = λ h. absurd (h (high k r.place j.gives)) };
      }
