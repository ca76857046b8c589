-- What a fresh start asks and gives, said of the lists alone.
use Rattle.std.specs.Prelude.{ℕ, ◌*◌, ◌<◌, ◌≤◌, ◌≡◌, ◌≢◌, List, length, get_or}
use Rattle.lists.specs.parts.Cells.{Filled}
use Rattle.storage.specs.promise.Answer.{mark_of}
use Rattle.storage.specs.parts.Answers.{Stored}
use Rattle.winning.specs.promise.Walk.{Walk}
use Rattle.space.specs.parts.Work.{section, Beside}
use Rattle.space.specs.declared.desk.Desk.{Desk}
use Rattle.space.specs.parts.Desk.{Laid}
use Rattle.preds.specs.parts.Preds.{Backward}
use Rattle.reach.specs.parts.Closure.{Allowed, Queued}
use Rattle.waiting.specs.parts.Lines.{Covered}
use Rattle.waiting.specs.parts.Moves.{LinesOf, Standing}
use Rattle.levels.specs.parts.Levels.{level_of, LevelsOnly}
use Rattle.reopen.specs.parts.Reopening.{Opened}

-- nothing is reached by a closure
pub record OpenSeedable (n : ℕ) (work : List ℕ) : Type 0 where
  pub small : n ≤ 2048
  pub long : length work ≡ 4 * n
  pub unreached : Filled (section 1 n work) 0

-- the reached vertices are the open ones
pub record SeededAll (n : ℕ) (work work' : List ℕ) (tail : ℕ) : Type 0 where
  pub queued : Queued n (section 1 n work') (section 2 n work') tail
  pub is_reached : (v : ℕ) → v < n → get_or (section 0 n work) v 0 ≢ 0 → get_or (section 1 n work') v 0 ≡ 1
  pub only : (v : ℕ) → v < n → get_or (section 1 n work') v 0 ≡ 1 → get_or (section 0 n work) v 0 ≢ 0
  pub beside : Beside n work work'

-- room for the levels, and the work space
pub record Firmable (n : ℕ) (d : Desk) (work : List ℕ) : Type 0 where
  pub small : n ≤ 2048
  pub laid : Laid d
  pub long : length work ≡ 4 * n

-- what is not reached has a level above all priorities, and only levels have changed
pub record Firmed (n : ℕ) (d : Desk) (work : List ℕ) (d' : Desk) : Type 0 where
  pub levels_only : LevelsOnly d d'
  pub firm : (v : ℕ) → v < n → get_or (section 1 n work) v 0 ≡ 0 → level_of d'.levels v ≡ 256

-- the lines, in which every open vertex waits, and room for everything
pub record Restartable (n : ℕ) (priorities ins froms : List ℕ) (d : Desk) (winners work : List ℕ) : Type 0 where
  pub standing : Standing n priorities d work
  pub covered : Covered n (section 0 n work) d.waiting
  pub stored : Stored n winners
  pub unreached : Filled (section 1 n work) 0
  pub back : Backward n ins froms

-- `reached` marks the vertices from which steps out of settled vertices, to their moves if they have one, lead to an open one
pub record OpenReached (n : ℕ) (ins froms flags moves reached : List ℕ) : Type 0 where
  pub itself : (u : ℕ) → u < n → get_or flags u 0 ≢ 0 → get_or reached u 0 ≡ 1
  pub closed : (u w : ℕ) → Allowed n ins froms flags moves 0 u w → get_or reached w 0 ≡ 1 → get_or reached u 0 ≡ 1
  pub leads : (u : ℕ) → u < n → get_or reached u 0 ≡ 1 → (w : ℕ) × (get_or flags w 0 ≢ 0) × Walk (Allowed n ins froms flags moves 0) u w

-- those are open, and the rest is as before, with levels above all priorities
pub record RestartedIn (n : ℕ) (priorities ins froms moves winners work : List ℕ) (d' : Desk) (winners' work' : List ℕ) : Type 0 where
  pub reached : List ℕ
  pub open_reached : OpenReached n ins froms (section 0 n work) moves reached
  pub winners_long : length winners' ≡ length winners
  pub long : length work' ≡ length work
  pub laid : Laid d'
  pub reopened : (u : ℕ) → u < n → get_or reached u 0 ≡ 1 → Opened priorities winners' (section 0 n work') u
  pub same_flag : (u : ℕ) → u < n → get_or reached u 0 ≢ 1 → get_or (section 0 n work') u 0 ≡ get_or (section 0 n work) u 0
  pub same_mark : (u : ℕ) → u < n → get_or reached u 0 ≢ 1 → mark_of winners' u ≡ mark_of winners u
  pub firm : (u : ℕ) → u < n → get_or reached u 0 ≢ 1 → level_of d'.levels u ≡ 256
  pub unreached : Filled (section 1 n work') 0
  pub lines : LinesOf n priorities d' work'
  pub covered : Covered n (section 0 n work') d'.waiting
