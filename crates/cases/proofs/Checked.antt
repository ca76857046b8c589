-- The checker's rows of the table.
use Prim.Native.Nat.{ℕ, ◌*◌, ◌<◌}
use mathlib.Core.Path.{◌≡◌, refl, subst, ap₂}
use mathlib.Core.Bool.{Bool, true, cond, ◌&&◌}
use mathlib.Core.List.{List, [], ◌∷◌}
use native.Mathlib.Omega.{arith}
use lib.Dec.{T}
use lib.ListN.{length, length-replicate, get_or-replicate}
use Rattle.refusal.specs.promise.Row.{Said, success, refused, row, Gives, First}
use Rattle.refusal.proofs.Rows.{none_left, none_right, first_front, first_number}
use Rattle.game.specs.promise.Tables.{Tables, vertices}
use Rattle.storage.specs.promise.Answer.{Answer, winner_cells}
use Rattle.game.specs.promise.Faults.{table_rows}
use Rattle.game.specs.promise.Lent.{Fault8}
use Rattle.storage.specs.promise.Lent.{lent_sizes, Zeroed, Judging, Leaves}
use Rattle.game.proofs.Sizes.{none_of_fit}
use Rattle.winning.proofs.Reflect.{Tests, holds, fails, tests_map, tests_and, tests_le}
use Rattle.checker.specs.promise.Checking.{IsRight, judge_rows, before_rows, check_rows}
use Rattle.checker.proofs.Verdicts.{right_of_none, none_of_right}
use Rattle.checker.proofs.Unique.{checks_unique}
use Rattle.cases.specs.promise.Table.{checked, judgement, Checking, zeros, work_after, RowHolds}
use Rattle.cases.proofs.Equal.{by_test, tests_itself, is_same, tests_same, is_said, same_said}
use Rattle.cases.proofs.TableTests.{table_verdict, table_gives}
use Rattle.cases.proofs.Verdicts.{then_said, gives_then, is_long, tests_long, judged, judged_gives}

pub zeros_zeroed : (work : List ℕ) → Zeroed work (zeros work)
zeros_zeroed work =
    let e : length (zeros work) ≡ length work = length-replicate (length work) 0 in
    record { long = e; zero = λ i l. get_or-replicate (length work) i 0 0 (omega arith) }

-- the work space after a refusal is what its number leaves
refusal_leaves : (k x : ℕ) (work : List ℕ) → Leaves k work (work_after (refused k x) work)
refusal_leaves k x work =
    by (tests_map (λ t. record { least = t.0; most = t.1 }) (λ j. (j.least, j.most)) (tests_and (tests_le 11 k) (tests_le k 14)))
  where
    by : {b : Bool} → Tests (Judging k) b → Leaves k work (cond b (zeros work) work)
    by (holds j) = record { zeroed = λ _. zeros_zeroed work; same = λ h. absurd (h j) }
    by (fails h) = record { zeroed = λ j. absurd (h j); same = λ _. refl }

-- the checker's success hands nothing back
abbrev no_values : Said → Bool
no_values (success values) = is_same values []
no_values (refused k x) = true

module _ (t : Tables) (a : Answer) where
  -- what the checker says, computed
  abbrev check_said : Said
  check_said = then_said (table_verdict t) (judged t a)

  -- whether it says this
  abbrev pub is_checked : Said → Bool
  is_checked said = is_long t a && (is_said check_said said && no_values said)

  module _ (work : List ℕ) where
    said_gives : length a.winners ≡ winner_cells (vertices t) → length a.moves ≡ vertices t → length work ≡ 4 * vertices t → Gives (check_rows t a work) check_said
    said_gives p q r =
        let sizes = lent_sizes (vertices t) (length a.winners) (length a.moves) (length work) in
        let fit = none_of_fit sizes (p, (q, (r, tt))) in
        gives_then (table_rows t) (row 8 (Fault8 sizes) ∷ judge_rows t a) (table_verdict t) (judged t a) (table_gives t)
        (gives_then (row 8 (Fault8 sizes) ∷ []) (judge_rows t a) (success []) (judged t a) (fit, tt) (judged_gives t a))

    -- 11 to 14 are given to answers that are not right
    wrong : (k x : ℕ) → First (check_rows t a work) k x → Judging k → ¬ IsRight t a
    wrong k x f j r =
        let before = first_front (before_rows t a work) (judge_rows t a) k x (none_of_right t a r) f in
        let low : k < 11 = first_number (λ (m : ℕ). m < 11) (before_rows t a work) k x (omega arith) before in
        omega (arith, j.least)

    allowed : (said : Said) → Gives (check_rows t a work) said → T (no_values said) → Checking t a work (judgement said (work_after said work))
    allowed (success values) n v =
        record {
          none = none_left (before_rows t a work) (judge_rows t a) n;
          right = right_of_none t a (none_right (before_rows t a work) (judge_rows t a) n);
          no_value = by_test (tests_same values []) v;
          zeroed = zeros_zeroed work;
        }
    allowed (refused k x) f v = record { first = f; wrong = wrong k x f; leaves = refusal_leaves k x work }

  pub checked_holds : (said : Said) → T (is_checked said) → RowHolds (checked t a said)
  checked_holds said c work e =
      let p = by_test (tests_and (tests_long t a) (tests_and (tests_itself (is_said check_said said)) (tests_itself (no_values said)))) c in
      let gives = subst (Gives (check_rows t a work)) (same_said check_said said p.1.0) (said_gives work p.0.0 p.0.1 e) in
      let ok = allowed work said gives p.1.1 in
      record {
        allowed = ok;
        no_other = λ j q.
            let same = checks_unique t a work j.work (work_after said work) j.said said q ok in
            ap₂ judgement same.0 same.1;
      }
