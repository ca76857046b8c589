-- No such program keeps its promise: on its small game the promise allows one outcome, and the program's is another.
use Prim.Native.Nat.{ℕ}
use mathlib.Core.Path.{◌≡◌, refl, subst, sym, ap}
use mathlib.Core.List.{List, [], ◌∷◌}
use native.Mathlib.Omega.{arith}
use lib.ListN.{get_or}
use Rattle.refusal.specs.promise.Row.{success, refused}
use Rattle.winning.specs.promise.Answer.{no_move}
use Rattle.cases.specs.promise.Games.{A, B, game8, game9, A2, chain, chain1, free, free1}
use Rattle.cases.specs.promise.Table.{solved, checked, updated, line, answer_a, answer_b, Only, RowHolds}
use Rattle.cases.specs.promise.ShutOut.{ShutOut, WrongPrograms}
use Rattle.cases.proofs.Answers.{answered}
use Rattle.cases.proofs.Solved.{answer_allowed}
use Rattle.cases.proofs.Table.{row_holds}
use Rattle.cases.proofs.Refused.{read_255}
use Rattle.cases.proofs.Written.{write_A, write_A_46}

-- what is not so of the one outcome that P allows is shut out
shut : {X : Type 0} {P : X → Type 0} {a : X} (Q : X → Type 0) → Only P a → ¬ Q a → ShutOut P Q
shut Q only h x p q = h (subst Q (only.no_other x p) q)

pub wrong_programs : WrongPrograms
wrong_programs =
    record {
      always_refuses = λ lent f. shut _ (solved_a lent f) (λ q. q);
      always_even = λ lent f. shut _ (row_holds (solved B answer_b) tt lent f) (λ q. let e : 1 ≡ 0 = q 0 in omega arith);
      writes_nothing = λ lent f h. shut _ (solved_a lent f) (λ q. h (sym q));
      accepts_all = λ work e. shut _ (row_holds (checked A (line answer_a.winners (1 ∷ no_move ∷ 0 ∷ 3 ∷ [])) (refused 14 1)) tt work e) (λ q. q);
      rejects_all = λ work e. shut _ (row_holds (checked A answer_a (success [])) tt work e) (λ q. q);
      thirteen_first = λ work e.
          shut _ (row_holds (checked game8 (line (0 ∷ 1 ∷ []) (no_move ∷ no_move ∷ [])) (refused 12 1)) tt work e)
          (λ q. let z : ◌≡◌ {A = ℕ} 12 13 = cc in omega arith);
      highest_place = λ work e.
          shut _ (row_holds (checked A (line answer_a.winners (no_move ∷ no_move ∷ no_move ∷ no_move ∷ [])) (refused 12 0)) tt work e)
          (λ q. let z : ◌≡◌ {A = ℕ} 0 3 = cc in omega arith);
      returns_old = λ lent f. shut _ (AtoB lent f) (λ q. let e : 1 ≡ 0 = ap (λ (l : List ℕ). get_or l 0 0) q in omega arith);
      invents_count = λ lent f count h. shut _ (AtoB lent f) (λ q. h (cc));
      invents_change = λ lent f count h. shut _ (row_holds (updated A A answer_a answer_a 0) tt lent f) (λ q. h (cc));
      solves_afresh = λ lent f. (
        answer_allowed free1 _ (answered free1 _ tt) lent f,
        shut _ (row_holds (updated free free1 (line (0 ∷ 0 ∷ 0 ∷ []) (1 ∷ 1 ∷ 2 ∷ [])) (line (0 ∷ 0 ∷ 1 ∷ []) (1 ∷ 1 ∷ no_move ∷ [])) 1) tt lent f)
            (λ q. let e : 1 ≡ 0 = ap (λ (l : List ℕ). get_or l 0 0) q in omega arith),
      );
      any_successor = λ lent f. shut _ (row_holds (solved game9 (line (0 ∷ 0 ∷ []) (1 ∷ 1 ∷ []))) tt lent f) (λ q. omega arith);
      any_move_accepted = λ work e. shut _ (row_holds (checked game9 (line (0 ∷ 0 ∷ []) (0 ∷ 1 ∷ [])) (refused 14 0)) tt work e) (λ q. q);
      direct_predecessors = λ lent f.
          shut _ (row_holds (updated chain chain1 (line (0 ∷ 0 ∷ 0 ∷ []) (1 ∷ 2 ∷ 2 ∷ [])) (line (1 ∷ 1 ∷ 1 ∷ []) (no_move ∷ no_move ∷ no_move ∷ [])) 3) tt lent f)
          (λ q. omega arith);
      carries_move = λ lent f.
          shut _ (row_holds (updated A2 A (line answer_a.winners (1 ∷ no_move ∷ 0 ∷ 3 ∷ [])) answer_a 3) tt lent f) (λ q. omega arith);
      follows_a_choice = λ lent f. shut _ (row_holds (updated A2 A answer_a answer_a 3) tt lent f) (λ q. let z : ◌≡◌ {A = ℕ} 3 1 = cc in omega arith);
      tests_turned = λ lent. shut _ (read_255 lent) (λ q. q);
      writes_refused = λ lent. shut _ (read_255 lent) (λ q. q refl);
      never_writes = λ output e. shut _ (write_A output e) (λ q. q);
      leaves_the_output = λ output e h. shut _ (write_A output e) (λ q. h (sym q));
      writes_at_46 = λ output h. shut _ (write_A_46 output h) (λ q. q refl);
    }
  where
    solved_a : RowHolds (solved A answer_a)
    solved_a = row_holds (solved A answer_a) tt

    AtoB : RowHolds (updated A B answer_a answer_b 3)
    AtoB = row_holds (updated A B answer_a answer_b 3) tt
