-- What the leaves and the tests of header and blocks ask, and what is known of a file that has passed them.
use Rattle.std.specs.Prelude.{ℕ, ◌+◌, ◌*◌, ◌<◌, ◌≤◌, ◌≡◌, List, length}
use Rattle.lists.specs.promise.Sequence.{sum_to}
use Rattle.format.specs.promise.Format.{blocks_of}
use Rattle.format.specs.promise.Filed.{byte_at, vertices_filed, edges_filed, count_filed}

-- r is the two-byte number x
pub record Small (x r : ℕ) : Type 0 where
  pub is : r ≡ x
  pub small : r < 65536

-- b is a block of a file of n vertices and m edges
pub record Used (n m b : ℕ) : Type 0 where
  pub vertices : n < 65536
  pub edges : m < 65536
  pub counted : b < blocks_of n m

-- r is the 510 bytes from the offset on, weighted by their places and summed
pub record Weighed (file : List ℕ) (from r : ℕ) : Type 0 where
  pub is : r ≡ sum_to 510 (λ i. (i + 1) * byte_at file (from + i))

-- block b lies in the file, and the file is to have it
pub record Present (file : List ℕ) (b : ℕ) : Type 0 where
  pub room : 512 * b + 512 ≤ length file
  pub counted : b < blocks_of (vertices_filed file) (edges_filed file)

-- the sizes and the length are as they must be: all that is filed lies in the file
pub record FileSized (file : List ℕ) : Type 0 where
  pub some : 1 ≤ vertices_filed file
  pub few : vertices_filed file ≤ 2048
  pub edges : edges_filed file ≤ 16384
  pub long : length file ≡ 512 * blocks_of (vertices_filed file) (edges_filed file)

-- the successor counts add up to the number of edges
pub record Summed (file : List ℕ) : Type 0 where
  pub sized : FileSized file
  pub sum : sum_to (vertices_filed file) (count_filed file) ≡ edges_filed file
