-- What the parts of the writer ask of one another.
use Rattle.std.specs.Prelude.{ℕ, ◌*◌, ◌≡◌, ◌≢◌, List, length}
use Rattle.game.specs.promise.Tables.{Tables, WellFormed, vertices}
use Rattle.format.specs.promise.Format.{blocks_of}

-- at 0: so many bytes are not those of n vertices' and m targets' blocks
pub record OtherLength (n m long x : ℕ) : Type 0 where
  pub place : x ≡ 0
  pub wrong : long ≢ 512 * blocks_of n m

-- the output has room for the file of these tables, and for no more
pub record Fillable (t : Tables) (output : List ℕ) : Type 0 where
  pub well : WellFormed t
  pub long : length output ≡ 512 * blocks_of (vertices t) (length t.targets)
