-- The start with nothing kept.
use Rattle.std.specs.Prelude.{ℕ, ◌*◌, ◌<◌, ◌≤◌, ◌≡◌, List, length, get_or}
use Rattle.player.specs.promise.Player.{parity_of}
use Rattle.storage.specs.promise.Answer.{mark_of}
use Rattle.storage.specs.parts.Answers.{Stored}
use Rattle.space.specs.parts.Work.{section}
use Rattle.lists.specs.parts.Cells.{Filled}

-- lists of the right lengths
pub record Startable (priorities winners work : List ℕ) : Type 0 where
  pub small : length priorities ≤ 2048
  pub stored : Stored (length priorities) winners
  pub work_long : length work ≡ 4 * length priorities

-- every vertex is open, with the mark of its own priority's parity, and none is reached by a closure
pub record AllOpen (priorities winners work winners' work' : List ℕ) : Type 0 where
  pub winners_long : length winners' ≡ length winners
  pub long : length work' ≡ length work
  pub mark : (v : ℕ) → v < length priorities → mark_of winners' v ≡ parity_of (get_or priorities v 0)
  pub flag : (v : ℕ) → v < length priorities → get_or (section 0 (length priorities) work') v 0 ≡ 1
  pub unreached : Filled (section 1 (length priorities) work') 0
