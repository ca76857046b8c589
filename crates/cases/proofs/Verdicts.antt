-- Verdicts that compute, on a game's tables and on an answer to it, and what they give.
use Prim.Native.Nat.{ℕ, zero, suc, ◌<◌}
use mathlib.Core.Path.{◌≡◌}
use mathlib.Core.Bool.{Bool, true, false, ◌&&◌}
use mathlib.Core.List.{List, [], ◌∷◌, ◌++◌}
use native.Mathlib.Omega.{arith}
use lib.Dec.{eqb, ltb}
use lib.ListN.{length, get_or}
use Rattle.refusal.specs.promise.Row.{Row, Said, success, refused, None, Gives}
use Rattle.refusal.proofs.Rows.{none_append, first_left, first_right, first_not_none}
use Rattle.game.specs.promise.Tables.{Tables, vertices, game_of}
use Rattle.storage.specs.promise.Answer.{Answer, winner_cells, mark_of, move_of}
use Rattle.storage.specs.promise.Faults.{Fault11}
use Rattle.game.specs.promise.Faults.{table_rows}
use Rattle.winning.specs.parts.Verdict.{verdict_of}
use Rattle.winning.proofs.Reflect.{Tests, holds, fails, tests_map, tests_and, tests_eq, tests_lt}
use Rattle.winning.proofs.Verdict.{verdict_gives}
use Rattle.checker.specs.promise.Checking.{IsRight, judge_rows}
use Rattle.checker.proofs.Verdicts.{right_of_none, none_of_right}
use Rattle.cases.proofs.TableTests.{table_verdict, table_gives}

-- whether nothing is refused
abbrev is_success : Said → Bool
is_success (success values) = true
is_success (refused k x) = false

tests_none : (rows : List Row) (s : Said) → Gives rows s → Tests (None rows) (is_success s)
tests_none rows (success values) n = holds n
tests_none rows (refused k x) f = fails (λ n. first_not_none rows k x f n)

-- what is said where earlier rows come first
abbrev pub then_said : Said → Said → Said
then_said (success values) s = s
then_said (refused k x) s = refused k x

pub gives_then : (rows more : List Row) (a b : Said) → Gives rows a → Gives more b → Gives (rows ++ more) (then_said a b)
gives_then rows more (success values) (success others) n m = none_append rows more n m
gives_then rows more (success values) (refused k x) n f = first_right rows more k x n f
gives_then rows more (refused k x) b f g = first_left rows more k x f

-- whether all numbers are bytes
abbrev pub are_bytes : List ℕ → Bool
are_bytes [] = true
are_bytes (x ∷ l) = ltb x 256 && are_bytes l

pub tests_bytes : (l : List ℕ) → Tests ((i : ℕ) → get_or l i 0 < 256) (are_bytes l)
tests_bytes [] = holds (λ i. omega arith)
tests_bytes (x ∷ l) = tests_map all (λ h. (h zero, λ i. h (suc i))) (tests_and (tests_lt x 256) (tests_bytes l))
  where
    all : (x < 256) × ((i : ℕ) → get_or l i 0 < 256) → (i : ℕ) → get_or (x ∷ l) i 0 < 256
    all t zero = t.0
    all t (suc i) = t.1 i

-- whether tables of bytes pass 1 to 7
abbrev pub is_formed : Tables → Bool
is_formed t = are_bytes t.priorities && is_success (table_verdict t)

pub tests_formed : (t : Tables) → Tests (((v : ℕ) → get_or t.priorities v 0 < 256) × None (table_rows t)) (is_formed t)
tests_formed t = tests_and (tests_bytes t.priorities) (tests_none (table_rows t) (table_verdict t) (table_gives t))

module _ (t : Tables) (a : Answer) where
  -- whether there is a line for each vertex
  abbrev pub is_long : Bool
  is_long = eqb (length a.winners) (vertices t) && eqb (length a.moves) (vertices t)

  pub tests_long : Tests ((length a.winners ≡ winner_cells (vertices t)) × (length a.moves ≡ vertices t)) is_long
  unfolding winner_cells
  tests_long = tests_and (tests_eq (length a.winners) (vertices t)) (tests_eq (length a.moves) (vertices t))

  -- what 11 to 14 say of the answer
  abbrev pub judged : Said
  judged = verdict_of (game_of t) (λ v. get_or a.winners v 0) (λ v. get_or a.moves v 0)

  pub judged_gives : Gives (judge_rows t a) judged
  unfolding mark_of move_of
  judged_gives =
      verdict_gives (game_of t) (mark_of a.winners) (move_of a.moves) (Fault11 (vertices t) a.winners)
      (λ x. ((λ f. (f.vertex, f.strange)), (λ p. record { vertex = p.0; strange = p.1 })))

  -- whether the answer is right
  abbrev pub is_right : Bool
  is_right = is_success judged

  pub tests_right : Tests (IsRight t a) is_right
  tests_right = tests_map (right_of_none t a) (none_of_right t a) (tests_none (judge_rows t a) judged judged_gives)
