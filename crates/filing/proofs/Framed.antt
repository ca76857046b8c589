-- The file of tables of the right sizes, whatever their values: header and blocks pass, and the counts add up where the starts are in place.
use Prim.Native.Nat.{ℕ, ◌+◌, ◌≤◌}
use mathlib.Core.Path.{◌≡◌, sym, subst, ◌∙◌}
use native.Mathlib.Omega.{arith}
use native.Mathlib.Nat.{le_refl}
use lib.ListN.{length}
use Rattle.refusal.specs.promise.Row.{NoPlace, None}
use Rattle.game.specs.promise.Tables.{vertices, Placed}
use Rattle.format.specs.promise.Format.{Filing, vertex_blocks, target_blocks, file_of}
use Rattle.lists.specs.promise.Sequence.{sum_to}
use Rattle.format.specs.promise.Filed.{vertices_filed, edges_filed, count_filed}
use Rattle.format.specs.promise.Faults.{FaultSizes, head_rows, turn_rows}
use Rattle.format.proofs.HeadTests.{sizes_right, head_none}
use Rattle.format.proofs.InTurn.{turn_none}
use Rattle.filing.proofs.RightBlock.{none_of_right}
use Rattle.format.proofs.FileOf.{file_long}
use Rattle.filing.proofs.Written.{vertices_are, edges_are, right_written, sum_is}

-- the sizes that a file may say, and a rule
pub record Framed (f : Filing) : Type 0 where
  pub some : 1 ≤ vertices f.tables
  pub few : vertices f.tables ≤ 2048
  pub edges : length f.tables.targets ≤ 16384
  pub rule_low : f.rule ≤ 1

module _ (f : Filing) (fine : Framed f) where
  pub framed_head : None (head_rows (file_of f))
  framed_head =
      let n = vertices_are f in
      let m = edges_are f in
      let long = file_long f in
      head_none (file_of f) (λ x h. omega (arith, h.short)) (none_of_right (file_of f) 0 (right_written f fine.rule_low 0 (omega arith))) sizes
      (λ x h. h.wrong (omega arith))
    where
      sizes : NoPlace (FaultSizes (file_of f))
      sizes = sizes_right (file_of f) _ _ (sym (vertices_are f)) (sym (edges_are f)) (λ z. omega (arith, fine.some)) fine.few fine.edges

  pub framed_turn : None (turn_rows (file_of f))
  framed_turn =
      let n = vertices_are f in
      let m = edges_are f in
      turn_none (file_of f) 1 (vertex_blocks (vertices_filed (file_of f)) + target_blocks (edges_filed (file_of f))) (λ i l. none_of_right (file_of f) (1 + i) (right_written f fine.rule_low (1 + i) (omega arith)))

pub counts_add : (f : Filing) → Placed (vertices f.tables) f.tables.starts f.tables.targets → sum_to (vertices_filed (file_of f)) (count_filed (file_of f)) ≡ edges_filed (file_of f)
counts_add f placed =
    subst (λ (k : ℕ). sum_to k (count_filed (file_of f)) ≡ length f.tables.targets) (sym (vertices_are f)) (sum_is f placed (vertices f.tables) (le_refl _) ∙ placed.last) ∙
    sym (edges_are f)
