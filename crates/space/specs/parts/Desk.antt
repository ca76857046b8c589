-- The engine's desk: the ends of the waiting lines, who waits, the levels and the pile.
use Rattle.std.specs.Prelude.{ℕ, ◌≡◌, length, set}
use Rattle.lists.specs.parts.Cells.{Filled}
use Rattle.space.specs.declared.desk.Desk.{Desk}

-- its lists have their sizes
pub record Laid (d : Desk) : Type 0 where
  pub firsts_long : length d.firsts ≡ 256
  pub lasts_long : length d.lasts ≡ 256
  pub waiting_long : length d.waiting ≡ 2048
  pub levels_long : length d.levels ≡ 2048
  pub pile_long : length d.pile ≡ 2048

-- on a blank desk nobody waits
pub record Blank (d : Desk) : Type 0 where
  pub laid : Laid d
  pub nobody : Filled d.waiting 0

-- the desk with one cell of one part written
abbrev pub put_first : (k x : ℕ) → Desk → Desk
put_first k x d = record { firsts = set d.firsts k x; lasts = d.lasts; waiting = d.waiting; levels = d.levels; pile = d.pile }

abbrev pub put_last : (k x : ℕ) → Desk → Desk
put_last k x d = record { firsts = d.firsts; lasts = set d.lasts k x; waiting = d.waiting; levels = d.levels; pile = d.pile }

abbrev pub put_waits : (v x : ℕ) → Desk → Desk
put_waits v x d = record { firsts = d.firsts; lasts = d.lasts; waiting = set d.waiting v x; levels = d.levels; pile = d.pile }

abbrev pub put_level : (v x : ℕ) → Desk → Desk
put_level v x d = record { firsts = d.firsts; lasts = d.lasts; waiting = d.waiting; levels = set d.levels v x; pile = d.pile }

abbrev pub put_piled : (i x : ℕ) → Desk → Desk
put_piled i x d = record { firsts = d.firsts; lasts = d.lasts; waiting = d.waiting; levels = d.levels; pile = set d.pile i x }
