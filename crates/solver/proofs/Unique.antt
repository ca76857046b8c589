-- The solver's promise has no second outcome but for moves where the winner owns; every well-formed game is solved, and rightly.
use Prim.Native.Nat.{ℕ, ◌<◌}
use mathlib.Core.Path.{◌≡◌, refl, sym, ap, ◌∙◌}
use mathlib.Core.Logic.{◌≢◌}
use mathlib.Core.List.{[]}
use native.Mathlib.Omega.{arith}
use lib.ListN.{length, get_or}
use Rattle.std.specs.Prelude.{Result, Ok, Err}
use Rattle.refusal.specs.declared.Refusal.{Refusal}
use Rattle.refusal.specs.promise.Row.{Said, success, refused}
use Rattle.refusal.specs.promise.Number.{number_of, tested_said}
use Rattle.refusal.proofs.Rows.{first_not_none, first_unique}
use Rattle.refusal.proofs.Numbers.{result_unique}
use Rattle.game.specs.promise.Tables.{Tables, vertices, game_of, WellFormed}
use Rattle.storage.specs.promise.Answer.{Answer, mark_of, move_of}
use Rattle.game.specs.promise.Lent.{Fit}
use Rattle.storage.specs.promise.Lent.{Lent, lent_sizes}
use Rattle.storage.specs.parts.Answers.{Stored}
use Rattle.storage.proofs.Stores.{same_marks}
use Rattle.storage.proofs.Zeros.{zeroed_unique}
use Rattle.storage.proofs.Passed.{lent_formed, lent_fit, lent_fits}
use Rattle.winning.specs.promise.Answer.{Right}
use Rattle.winning.proofs.Solutions.{solution_right, solutions_same}
use Rattle.solver.specs.promise.Solving.{solve_rows, IsSolution, Solves}

-- the same winners, and the same moves but where the winner owns
pub record SameLines (t : Tables) (a b : Answer) : Type 0 where
  pub winners : a.winners ≡ b.winners
  pub elsewhere : (v : ℕ) → v < vertices t → get_or t.owners v 0 ≢ mark_of a.winners v → move_of a.moves v ≡ move_of b.moves v

-- two outcomes on the same input: moves may differ only where the winner owns, after success
pub record Same (t : Tables) (x y : Lent) (a b : Said) : Type 0 where
  pub said : a ≡ b
  pub lines : SameLines t x.answer y.answer
  pub work : x.work ≡ y.work
  pub refused_same : (k p : ℕ) → a ≡ refused k p → x ≡ y

-- two solutions of a well-formed game, in lists of its length
pub solutions_lines :
    (t : Tables) (a b : Answer) → WellFormed t → Stored (vertices t) a.winners → Stored (vertices t) b.winners →
    IsSolution t a → IsSolution t b → SameLines t a b
solutions_lines t a b w la lb x y =
    let marks = solutions_same (game_of t) w.sound w.moving (mark_of a.winners) (move_of a.moves) (mark_of b.winners) (move_of b.moves) x y in
    record {
      winners = same_marks la lb marks;
      elsewhere = λ v h ne. x.form.elsewhere v h ne ∙ sym (y.form.elsewhere v h (λ e. ne (e ∙ sym (marks v h))));
    }

module _ (t : Tables) (before : Lent) (bytes : (v : ℕ) → get_or t.priorities v 0 < 256) where
  pub solves_unique : (x y : Lent) (a b : Said) → Solves t before x a → Solves t before y b → Same t x y a b
  solves_unique x y (success p) (success q) r s =
      let w = lent_formed t _ _ _ bytes r.none in
      let f = lent_fit t _ _ _ r.none in
      record {
        said = ap success (r.no_value ∙ sym s.no_value);
        lines = solutions_lines t x.answer y.answer w (record { cells = r.written.winners_long ∙ f.0 }) (record { cells = s.written.winners_long ∙ f.0 }) r.written.solution s.written.solution;
        work = zeroed_unique r.written.zeroed s.written.zeroed;
        refused_same = λ k z e. let o : ◌≡◌ {A = ℕ} 0 1 = cc in absurd (omega arith);
      }
  solves_unique x y (success p) (refused l z) r s = absurd (first_not_none (solve_rows t before) l z s.first r.none)
  solves_unique x y (refused k z) (success q) r s = absurd (first_not_none (solve_rows t before) k z r.first s.none)
  solves_unique x y (refused k z) (refused l u) r s =
      let e = r.same ∙ sym s.same in
      record {
        said = first_unique (solve_rows t before) k l z u r.first s.first;
        lines = record { winners = ap (λ (q : Lent). q.answer.winners) e; elsewhere = λ v h ne. ap (λ (q : Lent). move_of q.answer.moves v) e };
        work = ap (λ (q : Lent). q.work) e;
        refused_same = λ i j h. e;
      }

  -- so no second answer satisfies the promise
  pub answer_unique : (x y : Lent) (a b : Result Unit Refusal) → Solves t before x (tested_said a) → Solves t before y (tested_said b) → a ≡ b
  answer_unique x y a b r s = result_unique a b (solves_unique x y (tested_said a) (tested_said b) r s).said

  -- what is written is right, as the checker has it
  pub solved_right : (x : Lent) → Solves t before x (success []) → Right (game_of t) (mark_of x.answer.winners) (move_of x.answer.moves)
  solved_right x r =
      let w = lent_formed t _ _ _ bytes r.none in
      solution_right (game_of t) w.sound w.moving (mark_of x.answer.winners) (move_of x.answer.moves) r.written.solution

  -- each well-formed game with buffers that fit is solved
  pub well_formed_solved :
      (x : Lent) (a : Result Unit Refusal) → WellFormed t → Fit (lent_sizes (vertices t) (length before.answer.winners) (length before.answer.moves) (length before.work)) →
      Solves t before x (tested_said a) → a ≡ Ok tt
  well_formed_solved x (Ok u) w f r = refl
  well_formed_solved x (Err q) w f r =
      absurd (first_not_none (solve_rows t before) (number_of q.kind) q.place r.first (lent_fits t _ _ _ w f))
