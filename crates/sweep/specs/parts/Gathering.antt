-- What gathering the new ones of a line asks and gives: nobody who is open leaves his line.
use Rattle.std.specs.Prelude.{ℕ, ◌<◌, ◌≡◌, ◌≢◌, List, get_or}
use Rattle.space.specs.parts.Work.{section, Cell}
use Rattle.space.specs.declared.desk.Desk.{Desk}
use Rattle.space.specs.parts.Desk.{Laid}
use Rattle.waiting.specs.parts.Moves.{LinesOf}
use Rattle.pile.specs.parts.Pile.{Piled, Pushable}

-- somebody who stands in a line, and room for a pile
pub record Lookable (n x : ℕ) (d : Desk) (work : List ℕ) (tail : ℕ) : Type 0 where
  pub pushable : Pushable x d tail
  pub cell : Cell n x work

-- who waits waits on, and nobody else does
pub record SameWait (waiting waiting' : List ℕ) : Type 0 where
  pub on : (w : ℕ) → get_or waiting w 0 ≢ 0 → get_or waiting' w 0 ≢ 0
  pub back : (w : ℕ) → get_or waiting' w 0 ≢ 0 → get_or waiting w 0 ≢ 0

-- the same wait, and x may have gone on the pile
pub record Looked (x : ℕ) (d : Desk) (tail : ℕ) (d' : Desk) (tail' : ℕ) : Type 0 where
  pub same : SameWait d.waiting d'.waiting
  pub piled : (n : ℕ) → x < n → Piled n d.pile tail → Piled n d'.pile tail'
  pub laid : Laid d'
  pub firsts : d'.firsts ≡ d.firsts
  pub lasts : d'.lasts ≡ d.lasts
  pub levels : d'.levels ≡ d.levels

-- some settled vertices may have left their lines, and there is a pile
pub record Gathered (n : ℕ) (d : Desk) (work : List ℕ) (d' : Desk) (tail : ℕ) : Type 0 where
  pub lines : (priorities : List ℕ) → LinesOf n priorities d work → LinesOf n priorities d' work
  pub laid : Laid d'
  pub levels : d'.levels ≡ d.levels
  pub kept : (u : ℕ) → u < n → get_or (section 0 n work) u 0 ≢ 0 → get_or d.waiting u 0 ≢ 0 → get_or d'.waiting u 0 ≢ 0
  pub piled : Piled n d'.pile tail
