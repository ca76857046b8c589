-- Where a vertex and an edge are filed, and the sum of the successor counts.
use Rattle.std.specs.Prelude.{ℕ, ◌+◌, ◌<◌, ◌≡◌, List}
use Rattle.lists.specs.promise.Sequence.{sum_to}
use Rattle.format.specs.promise.Format.{vertex_blocks}
use Rattle.format.specs.promise.Filed.{vertices_filed, edges_filed, count_filed}
use Rattle.format.specs.parts.Tests.{FileSized}

-- v is a vertex of the file
pub record VertexPlace (file : List ℕ) (v : ℕ) : Type 0 where
  pub sized : FileSized file
  pub below : v < vertices_filed file

-- the first block of targets
abbrev pub first_target : List ℕ → ℕ
first_target file = 1 + vertex_blocks (vertices_filed file)

-- e is the place of an edge, and first the block in which the targets begin
pub record EdgePlace (file : List ℕ) (first e : ℕ) : Type 0 where
  pub sized : FileSized file
  pub begins : first ≡ first_target file
  pub below : e < edges_filed file

-- r is the sum of the successor counts
pub record Totals (file : List ℕ) (r : ℕ) : Type 0 where
  pub is : r ≡ sum_to (vertices_filed file) (count_filed file)
