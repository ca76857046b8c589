-- The solver's rows of the table.
use Prim.Native.Nat.{ℕ}
use mathlib.Core.Path.{◌≡◌, refl, sym, subst}
use mathlib.Core.Bool.{Bool, true, ◌&&◌}
use mathlib.Core.List.{[], ◌∷◌}
use lib.Dec.{T}
use lib.ListN.{length}
use Rattle.refusal.specs.promise.Row.{Said, success, refused, row, Gives}
use Rattle.refusal.proofs.Rows.{first_left}
use Rattle.game.specs.promise.Tables.{Tables, vertices}
use Rattle.storage.specs.promise.Answer.{Answer}
use Rattle.game.specs.promise.Faults.{table_rows}
use Rattle.game.specs.promise.Lent.{Fault8}
use Rattle.storage.specs.promise.Lent.{Lent, lent_sizes}
use Rattle.storage.proofs.Passed.{lent_fits}
use Rattle.winning.proofs.Reflect.{holds, tests_and}
use Rattle.solver.specs.promise.Solving.{Solves, Answers}
use Rattle.solver.proofs.Unique.{solves_unique}
use Rattle.cases.specs.promise.Table.{solved, unsolved, Fits, Outcome, outcome, Solving, zeros, RowHolds}
use Rattle.cases.proofs.Equal.{by_test, tests_itself, both_tests, is_said, same_said}
use Rattle.cases.proofs.TableTests.{table_verdict, table_gives}
use Rattle.cases.proofs.Verdicts.{are_bytes, tests_bytes}
use Rattle.cases.proofs.Answers.{is_answer, Answered, answered, written, only_moves, only_answer}

-- the solver may give any right answer
pub answer_allowed :
    (t : Tables) (a : Answer) → Answered t a → (lent : Lent) → Fits (vertices t) lent → Solving t lent (outcome (success []) a (zeros lent.work))
answer_allowed t a p lent f = record { none = lent_fits t _ _ _ p.formed f; no_value = refl; written = written t a p lent f }

-- the solver decides every line
abbrev everywhere : ℕ → Bool
everywhere v = true

-- whether this is the only right answer
abbrev pub is_solved : Tables → Answer → Bool
is_solved t a = is_answer t a && only_moves t a everywhere

pub solved_holds : (t : Tables) (a : Answer) → T (is_solved t a) → RowHolds (solved t a)
solved_holds t a h lent f = record { allowed = ok; no_other = other }
  where
    s : T (is_answer t a) × T (only_moves t a everywhere)
    s = both_tests (is_answer t a) (only_moves t a everywhere) h

    p : Answered t a
    p = answered t a s.0

    ok : Solving t lent (outcome (success []) a (zeros lent.work))
    ok = answer_allowed t a p lent f

    other : (o : Outcome) → Solving t lent o → o ≡ outcome (success []) a (zeros lent.work)
    other o q =
        let e = solves_unique t lent p.bytes _ o.left (success []) o.said ok q in
        let q' : Answers t lent o.left [] = subst (λ (said : Said). Solves t lent o.left said) (sym e.said) q in
        let same = only_answer t a everywhere {Anew = λ v. Unit {0}} (λ v. holds tt) s.1 p lent o.left f q'.written e.lines (λ v l n. absurd (n tt)) in
        sym (λ i. outcome (e.said i) (same i) (e.work i))

-- whether the tables are refused so
abbrev pub is_unsolved : Tables → (number place : ℕ) → Bool
is_unsolved t number place = are_bytes t.priorities && is_said (table_verdict t) (refused number place)

pub unsolved_holds : (t : Tables) (number place : ℕ) → T (is_unsolved t number place) → RowHolds (unsolved t number place)
unsolved_holds t k x h lent =
    let p = by_test (tests_and (tests_bytes t.priorities) (tests_itself (is_said (table_verdict t) (refused k x)))) h in
    let row8 = row 8 (Fault8 (lent_sizes (vertices t) (length lent.answer.winners) (length lent.answer.moves) (length lent.work))) in
    let gives = subst (Gives (table_rows t)) (same_said (table_verdict t) (refused k x) p.1) (table_gives t) in
    let ok : Solving t lent (record { said = refused k x; left = lent }) = record { first = first_left (table_rows t) (row8 ∷ []) k x gives; same = refl } in
    record {
      allowed = ok;
      no_other = λ o q.
          let e = solves_unique t lent p.0 lent o.left (refused k x) o.said ok q in
          let same = e.refused_same k x refl in
          sym (λ i. record { said = e.said i; left = same i });
    }
