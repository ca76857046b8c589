-- What opening again asks and gives. Section 0 of the work space holds the flags, section 1 what the closure has reached, section 2 its queue.
use Rattle.std.specs.Prelude.{ℕ, ◌<◌, ◌≤◌, ◌≡◌, ◌≢◌, List, length, get_or}
use Rattle.player.specs.promise.Player.{parity_of}
use Rattle.storage.specs.promise.Answer.{mark_of}
use Rattle.storage.specs.parts.Answers.{Stored}
use Rattle.space.specs.parts.Work.{section}
use Rattle.reach.specs.parts.Closure.{Queued}
use Rattle.space.specs.declared.desk.Desk.{Desk}
use Rattle.waiting.specs.parts.Lines.{Covered}
use Rattle.waiting.specs.parts.Moves.{LinesOnly, LinesOf, Standing}

-- u is open with the mark of its own priority's parity
pub record Opened (priorities winners flags : List ℕ) (u : ℕ) : Type 0 where
  pub flag : get_or flags u 0 ≢ 0
  pub mark : mark_of winners u ≡ parity_of (get_or priorities u 0)

-- u is open and waits in its line, and all others are as before
pub record OpenedIn (n u : ℕ) (priorities : List ℕ) (d : Desk) (work : List ℕ) (d' : Desk) (work' : List ℕ) : Type 0 where
  pub long : length work' ≡ length work
  pub lines : LinesOf n priorities d' work'
  pub lines_only : LinesOnly d d'
  pub here : get_or (section 0 n work') u 0 ≢ 0
  pub other : (w : ℕ) → w ≢ u → get_or (section 0 n work') w 0 ≡ get_or (section 0 n work) w 0
  pub waits : get_or d'.waiting u 0 ≢ 0
  pub waits_other : (w : ℕ) → w ≢ u → get_or d'.waiting w 0 ≡ get_or d.waiting w 0
  pub reached : section 1 n work' ≡ section 1 n work
  pub queue : section 2 n work' ≡ section 2 n work

-- the queue's vertices can be reopened
pub record Reopenable (n : ℕ) (priorities : List ℕ) (d : Desk) (winners work : List ℕ) (tail : ℕ) : Type 0 where
  pub standing : Standing n priorities d work
  pub covered : Covered n (section 0 n work) d.waiting
  pub stored : Stored n winners
  pub queued : Queued n (section 1 n work) (section 2 n work) tail

-- the reached vertices are open again, the others are as before, every open vertex waits, and low is at most `from` and the priorities of what is open again
pub record Reopened (n : ℕ) (priorities : List ℕ) (d : Desk) (winners work : List ℕ) (from : ℕ) (d' : Desk) (winners' work' : List ℕ) (low : ℕ) : Type 0 where
  pub most : low ≤ from
  pub winners_long : length winners' ≡ length winners
  pub long : length work' ≡ length work
  pub reopened : (u : ℕ) → u < n → get_or (section 1 n work) u 0 ≡ 1 → Opened priorities winners' (section 0 n work') u
  pub below : (u : ℕ) → u < n → get_or (section 1 n work) u 0 ≡ 1 → low ≤ get_or priorities u 0
  pub flag : (u : ℕ) → u < n → get_or (section 1 n work) u 0 ≢ 1 → get_or (section 0 n work') u 0 ≡ get_or (section 0 n work) u 0
  pub mark : (u : ℕ) → u < n → get_or (section 1 n work) u 0 ≢ 1 → mark_of winners' u ≡ mark_of winners u
  pub reached : section 1 n work' ≡ section 1 n work
  pub queue : section 2 n work' ≡ section 2 n work
  pub lines : LinesOf n priorities d' work'
  pub lines_only : LinesOnly d d'
  pub covered : Covered n (section 0 n work') d'.waiting
