-- What turning a vertex asks and gives, said of the lists alone.
use Rattle.std.specs.Prelude.{ℕ, ◌<◌, ◌≡◌, ◌≢◌, List, length, get_or}
use Rattle.lists.specs.parts.Cells.{Filled}
use Rattle.storage.specs.promise.Answer.{mark_of}
use Rattle.storage.specs.parts.Answers.{Stored, MoveSet}
use Rattle.winning.specs.promise.Walk.{Walk}
use Rattle.space.specs.parts.Work.{section}
use Rattle.space.specs.declared.desk.Desk.{Desk}
use Rattle.space.specs.parts.Desk.{Laid}
use Rattle.preds.specs.parts.Preds.{Backward}
use Rattle.reach.specs.parts.Closure.{Allowed}
use Rattle.waiting.specs.parts.Open.{NoneBelow}
use Rattle.waiting.specs.parts.Lines.{Covered}
use Rattle.waiting.specs.parts.Moves.{LinesOf, Standing}
use Rattle.levels.specs.parts.Levels.{LevelSet}
use Rattle.reopen.specs.parts.Reopening.{Opened}

-- a vertex, and room for everything; every open vertex waits, and nothing is reached by a closure
pub record Turnable (n v : ℕ) (priorities ins froms : List ℕ) (d : Desk) (winners moves work : List ℕ) : Type 0 where
  pub vertex : v < n
  pub standing : Standing n priorities d work
  pub covered : Covered n (section 0 n work) d.waiting
  pub stored : Stored n winners
  pub moves_long : length moves ≡ n
  pub unreached : Filled (section 1 n work) 0
  pub back : Backward n ins froms

-- `reached` marks the vertices from which steps out of settled vertices, to their moves if they have one, lead to v
pub record Reached (n : ℕ) (ins froms flags moves : List ℕ) (v : ℕ) (reached : List ℕ) : Type 0 where
  pub itself : get_or reached v 0 ≡ 1
  pub leads : (u : ℕ) → u < n → get_or reached u 0 ≡ 1 → Walk (Allowed n ins froms flags moves 0) u v
  pub closed : (u w : ℕ) → Allowed n ins froms flags moves 0 u w → get_or reached w 0 ≡ 1 → get_or reached u 0 ≡ 1

-- v is settled with the winner p, the move m and the level k, what leads to it is open again, and the rest is as before
pub record TurnedIn (n v p m k low : ℕ) (priorities ins froms : List ℕ) (d : Desk) (winners moves work : List ℕ) (d' : Desk) (winners' moves' work' : List ℕ) (r : ℕ) : Type 0 where
  pub reached : List ℕ
  pub leaning : Reached n ins froms (section 0 n work) moves v reached
  pub winners_long : length winners' ≡ length winners
  pub long : length work' ≡ length work
  pub laid : Laid d'
  pub pile : d'.pile ≡ d.pile
  pub mark : mark_of winners' v ≡ p
  pub move : MoveSet moves moves' v m
  pub level : LevelSet d.levels d'.levels v k
  pub flag : get_or (section 0 n work') v 0 ≡ 0
  pub reopened : (u : ℕ) → u < n → u ≢ v → get_or reached u 0 ≡ 1 → Opened priorities winners' (section 0 n work') u
  pub same_mark : (u : ℕ) → u < n → u ≢ v → get_or reached u 0 ≢ 1 → mark_of winners' u ≡ mark_of winners u
  pub same_flag : (u : ℕ) → u < n → u ≢ v → get_or reached u 0 ≢ 1 → get_or (section 0 n work') u 0 ≡ get_or (section 0 n work) u 0
  pub unreached : Filled (section 1 n work') 0
  pub lines : LinesOf n priorities d' work'
  pub covered : Covered n (section 0 n work') d'.waiting
  pub none_below : NoneBelow n priorities (section 0 n work) low → NoneBelow n priorities (section 0 n work') r
