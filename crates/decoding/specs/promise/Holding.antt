-- Tables of the fixed sizes that hold a game's, with zeros past them. (docs/RULES.md, Entry points)
use Rattle.std.specs.Prelude.{ℕ, ◌+◌, ◌≡◌, List, length, get_or, take}
use Rattle.game.specs.promise.Tables.{Tables, tables_of}

-- a table of this size holds the list, and zeros past it
pub record Padded (size : ℕ) (list table : List ℕ) : Type 0 where
  pub long : length table ≡ size
  pub same : (i : ℕ) → get_or table i 0 ≡ get_or list i 0

-- tables of the fixed sizes hold these
pub record Holding (t table : Tables) : Type 0 where
  pub owners : Padded 2048 t.owners table.owners
  pub priorities : Padded 2048 t.priorities table.priorities
  pub starts : Padded 2049 t.starts table.starts
  pub targets : Padded 16384 t.targets table.targets

-- the used parts of such tables, where they hold those of n vertices and m edges
abbrev pub used_parts : (n m : ℕ) → Tables → Tables
used_parts n m t = tables_of (take n t.owners) (take n t.priorities) (take (n + 1) t.starts) (take m t.targets)
