-- The lists that a file's bytes say: their lengths and what stands in them.
use Prim.Native.Nat.{ℕ, ◌+◌, ◌-◌, ◌<◌, ◌≤◌}
use mathlib.Core.Path.{◌≡◌, sym, ◌∙◌}
use mathlib.Core.List.{List}
use native.Mathlib.Omega.{arith}
use native.Mathlib.Nat.{le_refl}
use lib.ListN.{length, get_or}
use Rattle.game.specs.promise.Tables.{Placed}
use Rattle.lists.specs.promise.Sequence.{sum_to}
use Rattle.format.specs.promise.Filed.{byte_at, word_at, vertices_filed, edges_filed, vertex_place, target_place, count_filed, owners_filed, priorities_filed, starts_filed, targets_filed}
use Rattle.format.specs.parts.Tests.{Summed}
use Rattle.lists.proofs.Tabulate.{length_tabulate, tabulate_at}
use Rattle.lists.proofs.Sums.{sum_more, sum_upto}

module _ (file : List ℕ) where
  pub owners_long : length (owners_filed file) ≡ vertices_filed file
  owners_long = length_tabulate _ _

  pub priorities_long : length (priorities_filed file) ≡ vertices_filed file
  priorities_long = length_tabulate _ _

  pub starts_long : length (starts_filed file) ≡ vertices_filed file + 1
  starts_long = length_tabulate _ _

  pub targets_long : length (targets_filed file) ≡ edges_filed file
  targets_long = length_tabulate _ _

  pub owner_at : (v : ℕ) → v < vertices_filed file → get_or (owners_filed file) v 0 ≡ byte_at file (vertex_place file v)
  owner_at v l = tabulate_at (vertices_filed file) (λ v. byte_at file (vertex_place file v)) v l

  pub priority_at : (v : ℕ) → v < vertices_filed file → get_or (priorities_filed file) v 0 ≡ byte_at file (vertex_place file v + 1)
  priority_at v l = tabulate_at (vertices_filed file) (λ v. byte_at file (vertex_place file v + 1)) v l

  pub start_at : (v : ℕ) → v ≤ vertices_filed file → get_or (starts_filed file) v 0 ≡ sum_to v (count_filed file)
  start_at v l = tabulate_at (vertices_filed file + 1) (λ v. sum_to v (count_filed file)) v (omega arith)

  pub target_at_lem : (e : ℕ) → e < edges_filed file → get_or (targets_filed file) e 0 ≡ word_at file (target_place file e)
  target_at_lem e l = tabulate_at (edges_filed file) (λ e. word_at file (target_place file e)) e l

  -- the running sums cut the targets into stretches, each as long as its count
  module _ (s : Summed file) where
    pub placed_filed : Placed (vertices_filed file) (starts_filed file) (targets_filed file)
    placed_filed =
        record {
          bounds = starts_long;
          first = start_at 0 (omega arith);
          onward = λ v l. onward v l;
          last = start_at (vertices_filed file) (le_refl _) ∙ s.sum ∙ sym targets_long;
        }
      where
        onward : (v : ℕ) → v < vertices_filed file → get_or (starts_filed file) v 0 ≤ get_or (starts_filed file) (v + 1) 0
        onward v l = rw (start_at v (omega arith), start_at (v + 1) (omega arith)) (sum_upto v (v + 1) (count_filed file) (omega arith))

    pub count_is : (v : ℕ) → v < vertices_filed file → get_or (starts_filed file) (v + 1) 0 - get_or (starts_filed file) v 0 ≡ count_filed file v
    count_is v l =
        let a = start_at v (omega arith) in
        let b = start_at (v + 1) (omega arith) in
        let d = sum_more v (count_filed file) in
        omega arith

    -- a vertex's targets lie within all
    pub span_within : (v : ℕ) → v < vertices_filed file → sum_to v (count_filed file) + count_filed file v ≤ edges_filed file
    span_within v l =
        let d = sum_more v (count_filed file) in
        let u = sum_upto (v + 1) (vertices_filed file) (count_filed file) (omega arith) in
        omega (arith, s.sum)
