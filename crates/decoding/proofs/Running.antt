-- The running sum of the successor counts: of any file, and of one whose counts add up, where it never passes the number of edges.
use Prim.Native.Nat.{ℕ, ◌+◌, ◌*◌, ◌<◌, ◌≤◌}
use mathlib.Core.Path.{◌≡◌, sym, ◌∙◌}
use mathlib.Core.List.{List}
use native.Mathlib.Omega.{arith}
use lib.ListN.{get_or}
use Rattle.lists.specs.promise.Sequence.{sum_to}
use Rattle.lists.proofs.Sums.{sum_more}
use Rattle.format.specs.promise.Filed.{vertices_filed, edges_filed, count_filed, starts_filed}
use Rattle.format.specs.parts.Tests.{Summed}
use Rattle.format.proofs.Lists.{start_at, span_within}

-- the sum of the first v counts, of which none takes more than two bytes
pub record Running (file : List ℕ) (sum v : ℕ) : Type 0 where
  pub small : sum ≤ 65535 * v
  pub is : sum ≡ sum_to v (count_filed file)

module _ {file : List ℕ} {sum v r : ℕ} (e : r ≡ count_filed file v) (run : Running file sum v) where
  pub running_more : r < 65536 → Running file (sum + r) (v + 1)
  running_more small =
      let d = sum_more v (count_filed file) in
      record { small = omega (arith, run.small); is = omega (arith, run.is) }

  pub running_low : Summed file → v < vertices_filed file → sum + r ≤ edges_filed file
  running_low s l = omega (arith, span_within file s v l, run.is)

-- what stands in the starts at v
pub running_start : {file : List ℕ} {sum v : ℕ} → v ≤ vertices_filed file → Running file sum v → sum ≡ get_or (starts_filed file) v 0
running_start {file} {sum} {v} l run = run.is ∙ sym (start_at file v l)
