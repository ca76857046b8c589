-- What the tests of one block promise one another.
use Rattle.std.specs.Prelude.{ℕ, ◌+◌, ◌<◌, ◌≤◌, ◌≢◌, List}
use Rattle.format.specs.promise.Filed.{byte_at}

-- a payload byte past those used is not zero
pub record Stain (file : List ℕ) (from used k : ℕ) : Type 0 where
  pub unused : used ≤ k
  pub payload : k < 504
  pub set : byte_at file (from + 6 + k) ≢ 0
