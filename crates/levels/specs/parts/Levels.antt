-- Levels and floors, as they are stored. The levels stand on the desk, the flags in section 0 of the work space.
use Rattle.std.specs.Prelude.{ℕ, ◌-◌, ◌*◌, ◌<◌, ◌≤◌, ◌≡◌, ◌≢◌, List, length, get_or}
use Rattle.space.specs.parts.Work.{section}
use Rattle.space.specs.declared.desk.Desk.{Desk}
use Rattle.space.specs.parts.Desk.{Laid}

-- a vertex is settled where its flag is 0
unfoldable pub settled_of : ℕ → List ℕ → ℕ → ℕ
settled_of n work v = 1 - get_or (section 0 n work) v 0

-- the level of a vertex
unfoldable pub level_of : List ℕ → ℕ → ℕ
level_of levels v = get_or levels v 0

-- v has the level x, and all else is as before
pub record LevelSet (before after : List ℕ) (v x : ℕ) : Type 0 where
  pub here : level_of after v ≡ x
  pub other : (u : ℕ) → u ≢ v → level_of after u ≡ level_of before u

-- the desk after a change of the levels alone
pub record LevelsOnly (d d' : Desk) : Type 0 where
  pub laid : Laid d'
  pub firsts : d'.firsts ≡ d.firsts
  pub lasts : d'.lasts ≡ d.lasts
  pub waiting : d'.waiting ≡ d.waiting
  pub pile : d'.pile ≡ d.pile

-- t is a vertex with a priority, a level and a flag
pub record Seen (t : ℕ) (priorities : List ℕ) (d : Desk) (work : List ℕ) : Type 0 where
  pub vertex : t < length priorities
  pub small : length priorities ≤ 2048
  pub laid : Laid d
  pub work_long : length work ≡ 4 * length priorities

-- r is the floor of t: the priority of an open vertex, the level of a settled one
pub record FloorOf (t : ℕ) (priorities levels work : List ℕ) (r : ℕ) : Type 0 where
  pub settled : settled_of (length priorities) work t ≡ 1 → r ≡ level_of levels t
  pub unsettled : settled_of (length priorities) work t ≢ 1 → r ≡ get_or priorities t 0

-- room for every vertex's level
pub record LevelRoom (priorities : List ℕ) (d : Desk) : Type 0 where
  pub small : length priorities ≤ 2048
  pub laid : Laid d

-- each level is the vertex's priority, and nothing else has changed
pub record ByPriority (priorities : List ℕ) (d d' : Desk) : Type 0 where
  pub only : LevelsOnly d d'
  pub level : (v : ℕ) → v < length priorities → level_of d'.levels v ≡ get_or priorities v 0
