-- No second result satisfies the update's promise; moves may differ only where the vertex is decided anew and its owner is its winner.
-- Two well-formed games of as many vertices, a right answer to the first and lists that fit: the update succeeds.
use Prim.Native.Nat.{ℕ, ◌<◌}
use mathlib.Core.Path.{◌≡◌, refl, sym, ap, ◌∙◌}
use mathlib.Core.List.{List, [], ◌∷◌}
use native.Mathlib.Omega.{arith}
use lib.ListN.{get_or}
use Rattle.std.specs.Prelude.{Result, Ok, Err}
use Rattle.refusal.specs.declared.Refusal.{Refusal}
use Rattle.refusal.specs.promise.Row.{Said, success, refused, None}
use Rattle.refusal.specs.promise.Number.{number_of}
use Rattle.refusal.proofs.Rows.{first_not_none, first_unique, none_append}
use Rattle.refusal.proofs.Numbers.{refusal_unique}
use Rattle.game.specs.promise.Tables.{vertices, WellFormed}
use Rattle.storage.specs.promise.Answer.{move_of, winner_cells}
use Rattle.game.specs.promise.Lent.{Fit}
use Rattle.storage.specs.promise.Lent.{Lent}
use Rattle.storage.proofs.Zeros.{zeroed_unique, leaves_unique}
use Rattle.game.proofs.WellFormed.{well_formed, none_applies}
use Rattle.checker.proofs.Verdicts as verdicts
use Rattle.checker.specs.promise.Checking.{IsRight, judge_rows}
use Rattle.solver.proofs.Unique.{SameLines, solutions_lines}
use Rattle.update.specs.promise.Updating.{update_rows, updated_said, Decided, Undecided, Updates}
use Rattle.redo.specs.promise.Redone.{Redone}
use Rattle.inputs.specs.promise.Inputs.{Input, update_sizes, test_rows}
use Rattle.amend.proofs.Counts.{count_unique}
use Rattle.inputs.proofs.Rows.{free_of_none, none_of_free}

-- what is said determines the answer
said_unique : (a b : Result ℕ Refusal) → updated_said a ≡ updated_said b → a ≡ b
said_unique (Ok c) (Ok d) e = let same : c ≡ d = cc in ap Ok same
said_unique (Ok c) (Err r) e = let z : ◌≡◌ {A = ℕ} 0 1 = cc in absurd (omega arith)
said_unique (Err q) (Ok d) e = let z : ◌≡◌ {A = ℕ} 0 1 = cc in absurd (omega arith)
said_unique (Err q) (Err r) e = ap Err (refusal_unique q r e)

module _ (i : Input) (before : Lent) where
  -- two outcomes on the same input
  pub record Alike (x y : Lent) (a b : Said) : Type 0 where
    pub said : a ≡ b
    pub lines : SameLines i.second x.answer y.answer
    pub kept_moves : (v : ℕ) → v < vertices i.first → ¬ Redone i v → move_of x.answer.moves v ≡ move_of y.answer.moves v
    pub work : x.work ≡ y.work
    pub refused_same : (k p : ℕ) → a ≡ refused k p → x.answer ≡ y.answer

  -- none of the rows applies to an input that passes the tests and whose old answer is right
  none_of_right : None (test_rows i before) → IsRight i.first i.old → None (update_rows i before)
  none_of_right n r = none_append (test_rows i before) (judge_rows i.first i.old) n (verdicts.none_of_right i.first i.old r)

  refuses_alike : (x y : Lent) (k z l u : ℕ) → Undecided i before x k z → Undecided i before y l u → Alike x y (refused k z) (refused l u)
  refuses_alike x y k z l u r s =
      record {
        said = same;
        lines = record { winners = ap (λ (q : _). q.winners) unmoved; elsewhere = λ v h ne. ap (λ (q : _). move_of q.moves v) unmoved };
        kept_moves = λ v h ne. ap (λ (q : _). move_of q.moves v) unmoved;
        work = leaves_unique number r.leaves s.leaves;
        refused_same = λ j p e. unmoved;
      }
    where
      same : refused k z ≡ refused l u
      same = first_unique (update_rows i before) k l z u r.first s.first

      number : k ≡ l
      number = cc same

      unmoved : x.answer ≡ y.answer
      unmoved = r.same ∙ sym s.same

  module _ (bytes : (v : ℕ) → get_or i.second.priorities v 0 < 256) where
    decided_alike : (x y : Lent) (a b : List ℕ) → Decided i before x a → Decided i before y b → Alike x y (success a) (success b)
    decided_alike x y a b d e =
        let free = free_of_none i before d.none in
        let formed = well_formed i.second bytes free.second in
        let long = free.fit.1.1.0 ∙ ap winner_cells free.size in
        record {
          said = ap success (d.value ∙ ap (λ (c : ℕ). c ∷ []) (count_unique d.counted e.counted) ∙ sym e.value);
          lines = solutions_lines i.second x.answer y.answer formed (record { cells = d.written.winners_long ∙ long }) (record { cells = e.written.winners_long ∙ long }) d.written.solution e.written.solution;
          kept_moves = λ v l k. (d.kept v l k).move ∙ sym (e.kept v l k).move;
          work = zeroed_unique d.written.zeroed e.written.zeroed;
          refused_same = λ k p h. let z : ◌≡◌ {A = ℕ} 0 1 = cc in absurd (omega arith);
        }

    pub updates_unique : (x y : Lent) (a b : Said) → Updates i before x a → Updates i before y b → Alike x y a b
    updates_unique x y (success a) (success b) d e = decided_alike x y a b d e
    updates_unique x y (success a) (refused l u) d r = absurd (first_not_none (update_rows i before) l u r.first (none_of_right d.none d.right))
    updates_unique x y (refused k z) (success b) r d = absurd (first_not_none (update_rows i before) k z r.first (none_of_right d.none d.right))
    updates_unique x y (refused k z) (refused l u) r s = refuses_alike x y k z l u r s

    -- so no second answer satisfies the promise
    pub answer_unique : (x y : Lent) (a b : Result ℕ Refusal) → Updates i before x (updated_said a) → Updates i before y (updated_said b) → a ≡ b
    answer_unique x y a b r s = said_unique a b (updates_unique x y (updated_said a) (updated_said b) r s).said

  -- two well-formed games of as many vertices, an answer that the checker accepts for the first, and lists that fit: success
  pub well_formed_updated :
      (x : Lent) (a : Result ℕ Refusal) → WellFormed i.first → WellFormed i.second → vertices i.first ≡ vertices i.second → IsRight i.first i.old →
      Fit (update_sizes i before) → Updates i before x (updated_said a) → (count : ℕ) × (a ≡ Ok count)
  well_formed_updated x (Ok count) w1 w2 size r f u = (count, refl)
  well_formed_updated x (Err q) w1 w2 size r f u =
      absurd (first_not_none (update_rows i before) (number_of q.kind) q.place u.first
      (none_of_right (none_of_free i before (record { first = none_applies i.first w1; second = none_applies i.second w2; size = size; fit = f })) r))
