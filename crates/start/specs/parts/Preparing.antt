-- The start that keeps the lines of an old answer where nothing is reached; `reached` has 1 where a vertex is decided anew, else 0.
use Rattle.std.specs.Prelude.{ℕ, ◌*◌, ◌<◌, ◌≤◌, ◌≡◌, ◌≢◌, List, length, get_or}
use Rattle.player.specs.promise.Player.{parity_of}
use Rattle.storage.specs.promise.Answer.{mark_of, move_of}
use Rattle.storage.specs.parts.Answers.{Stored}
use Rattle.space.specs.parts.Work.{section}
use Rattle.lists.specs.parts.Cells.{Filled}

-- r is the old value where nothing is reached, else the fresh one
pub record Chosen (reached old fresh r : ℕ) : Type 0 where
  pub kept : reached ≡ 0 → r ≡ old
  pub anew : reached ≢ 0 → r ≡ fresh

-- lists of n vertices' lines, old and new, with a flag for each that tells whether it is reached, and a work space all zero
pub record Preparable (n : ℕ) (priorities old_winners old_moves reached winners moves work : List ℕ) : Type 0 where
  pub priorities_long : length priorities ≡ n
  pub small : n ≤ 2048
  pub old_stored : Stored n old_winners
  pub old_moves_long : length old_moves ≡ n
  pub reached_room : n ≤ length reached
  pub stored : Stored n winners
  pub moves_long : length moves ≡ n
  pub work_long : length work ≡ 4 * n
  pub blank : Filled work 0

-- the lines below v: the old winner where the vertex is not reached, else its own parity; the old move; the engine's flags, in section 0 of the work space, open what is reached
pub record Prepared (n : ℕ) (priorities old_winners old_moves reached winners moves work : List ℕ) (v : ℕ) : Type 0 where
  pub winner : (u : ℕ) → u < v → Chosen (get_or reached u 0) (mark_of old_winners u) (parity_of (get_or priorities u 0)) (mark_of winners u)
  pub move : (u : ℕ) → u < v → move_of moves u ≡ move_of old_moves u
  pub flag : (u : ℕ) → u < v → get_or (section 0 n work) u 0 ≡ get_or reached u 0
  pub unreached : Filled (section 1 n work) 0
  pub stored : Stored n winners
  pub moves_long : length moves ≡ n
  pub work_long : length work ≡ 4 * n
