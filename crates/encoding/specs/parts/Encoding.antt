-- What putting a block asks.
use Rattle.std.specs.Prelude.{ℕ, ◌<◌, ◌≡◌, List, length}
use Rattle.game.specs.promise.Tables.{Tables, WellFormed, vertices}
use Rattle.format.specs.promise.Format.{blocks_of}

-- block b of the file of these tables is to be put into the part
pub record Encodes (t : Tables) (b : ℕ) (part : List ℕ) : Type 0 where
  pub well : WellFormed t
  pub counted : b < blocks_of (vertices t) (length t.targets)
  pub long : length part ≡ 512
