-- All rows that judge a file, part by part, and what is known once they have passed.
use Prim.Native.Nat.{ℕ}
use mathlib.Core.Path.{refl}
use mathlib.Core.List.{List, ◌++◌}
use native.Mathlib.Decide.{ℕ_discrete}
use Rattle.refusal.specs.promise.Row.{NoPlace, None}
use Rattle.refusal.proofs.Rows.{none_append, none_left, none_right, none_of}
use Rattle.lists.specs.promise.Sequence.{sum_to}
use Rattle.format.specs.promise.Filed.{vertices_filed, edges_filed, count_filed}
use Rattle.format.specs.promise.Faults.{Fault45, head_rows, turn_rows, filed_rows, judged_rows}
use Rattle.format.specs.parts.Tests.{FileSized, Summed}
use Rattle.format.proofs.HeadTests.{head_sized}

-- 45 passed: the counts add up
pub summed : (file : List ℕ) → FileSized file → NoPlace (Fault45 file) → Summed file
summed file s none =
    record {
      sized = s;
      sum = elim (ℕ_discrete (sum_to (vertices_filed file) (count_filed file)) (edges_filed file)) [ yes e ↦ e | no h ↦ absurd (none 0 (record { place = refl; wrong = h })) ];
    }

module _ (file : List ℕ) where
  -- a file that passes: each part does, all that is filed lies in it, and its counts add up
  module _ (none : None (judged_rows file)) where
    before_values : None (head_rows file ++ turn_rows file)
    before_values = none_left (head_rows file ++ turn_rows file) (filed_rows file) none

    pub all_head : None (head_rows file)
    all_head = none_left (head_rows file) (turn_rows file) before_values

    pub all_turn : None (turn_rows file)
    all_turn = none_right (head_rows file) (turn_rows file) before_values

    pub all_filed : None (filed_rows file)
    all_filed = none_right (head_rows file ++ turn_rows file) (filed_rows file) none

    pub all_sized : FileSized file
    all_sized = head_sized file all_head

    pub all_summed : Summed file
    all_summed = summed file all_sized (none_of 45 (filed_rows file) all_filed)

  -- and a file whose parts pass
  pub judged_none : None (head_rows file) → None (turn_rows file) → None (filed_rows file) → None (judged_rows file)
  judged_none head turn filed = none_append (head_rows file ++ turn_rows file) (filed_rows file) (none_append (head_rows file) (turn_rows file) head turn) filed
