-- The sizes and the lengths that block 0 announces.
use Prim.Native.Nat.{ℕ, ◌*◌, ◌≤◌}
use mathlib.Core.Path.{◌≡◌, refl, ◌∙◌}
use mathlib.Core.List.{List, [], ◌∷◌, ◌++◌}
use native.Mathlib.Omega.{arith}
use native.Mathlib.Decide.{ℕ_discrete, dec_lt}
use lib.ListN.{length}
use Rattle.refusal.specs.promise.Row.{Row, row, NoPlace, None}
use Rattle.refusal.proofs.Rows.{none_append, none_left, none_of}
use Rattle.format.specs.promise.Format.{blocks_of}
use Rattle.format.specs.promise.Filed.{vertices_filed, edges_filed}
use Rattle.format.specs.promise.Faults.{Fault41Short, FaultSizes, no_vertex, over_2048, over_16384, Fault41Length, block_rows, head_rows}
use Rattle.format.specs.parts.Tests.{FileSized}

pub sizes_right : (file : List ℕ) (n m : ℕ) → n ≡ vertices_filed file → m ≡ edges_filed file → ¬ (n ≡ 0) → n ≤ 2048 → m ≤ 16384 → NoPlace (FaultSizes file)
sizes_right file n m vertices edges some few all x (no_vertex _ h) = some (vertices ∙ h)
sizes_right file n m vertices edges some few all x (over_2048 _ h) = omega arith
sizes_right file n m vertices edges some few all x (over_16384 _ h) = omega arith

-- a file that is not under one block has its header
pub headed : (file : List ℕ) → NoPlace (Fault41Short file) → 512 ≤ length file
headed file none = elim (dec_lt (length file) 512) [ yes l ↦ absurd (none _ (record { place = refl; short = l })) | no h ↦ omega arith ]

-- 1 and 41 passed: all that is filed lies in the file
file_sized : (file : List ℕ) → NoPlace (FaultSizes file) → NoPlace (Fault41Length file) → FileSized file
file_sized file sizes long =
    record {
      some = elim (ℕ_discrete (vertices_filed file) 0) [ yes e ↦ absurd (sizes 0 (no_vertex refl e)) | no h ↦ omega arith ];
      few = elim (dec_lt 2048 (vertices_filed file)) [ yes l ↦ absurd (sizes 0 (over_2048 refl l)) | no h ↦ omega arith ];
      edges = elim (dec_lt 16384 (edges_filed file)) [ yes l ↦ absurd (sizes 0 (over_16384 refl l)) | no h ↦ omega arith ];
      long = elim (ℕ_discrete (length file) (512 * blocks_of (vertices_filed file) (edges_filed file))) [ yes e ↦ e | no h ↦ absurd (long _ (record { place = refl; wrong = h })) ];
    }

-- the rows of the header after block 0's own
abbrev size_rows : List ℕ → List Row
size_rows file = row 1 (FaultSizes file) ∷ row 41 (Fault41Length file) ∷ []

pub head_none : (file : List ℕ) → NoPlace (Fault41Short file) → None (block_rows file 0) → NoPlace (FaultSizes file) → NoPlace (Fault41Length file) → None (head_rows file)
head_none file long block sizes extent = (long, none_append (block_rows file 0) (size_rows file) block (sizes, (extent, tt)))

-- a header that passes: what its rows say, one by one; the exact length is the second 41
module _ (file : List ℕ) (none : None (head_rows file)) where
  pub head_first_block : None (block_rows file 0)
  head_first_block = none_left (block_rows file 0) (size_rows file) none.1

  pub head_sized : FileSized file
  head_sized = file_sized file (none_of 1 (head_rows file) none) (none_of 41 (block_rows file 0 ++ size_rows file) none.1)
