-- The small games of docs/RULES.md, as they are handed in: four tables each. A comment's line is 'owner, priority, successors'.
use Rattle.std.specs.Prelude.{ℕ, List, [], ◌∷◌}
use Rattle.game.specs.promise.Tables.{Tables, tables_of}

-- A. 0: Even, 0, 1 and 2; 1: Odd, 1, 0; 2: Even, 2, 0; 3: Odd, 3, itself
abbrev pub A : Tables
A = tables_of (0 ∷ 1 ∷ 0 ∷ 1 ∷ []) (0 ∷ 1 ∷ 2 ∷ 3 ∷ []) (0 ∷ 2 ∷ 3 ∷ 4 ∷ 5 ∷ []) (1 ∷ 2 ∷ 0 ∷ 0 ∷ 3 ∷ [])

-- B: as A, but Odd owns 0
abbrev pub B : Tables
B = tables_of (1 ∷ 1 ∷ 0 ∷ 1 ∷ []) A.priorities A.starts A.targets

-- P8. 0: Odd, 0, itself and 1; 1: Odd, 1, itself
abbrev pub game8 : Tables
game8 = tables_of (1 ∷ 1 ∷ []) (0 ∷ 1 ∷ []) (0 ∷ 2 ∷ 3 ∷ []) (0 ∷ 1 ∷ 1 ∷ [])

-- P9. 0: Even, 1, itself and 1; 1: Even, 2, itself
abbrev pub game9 : Tables
game9 = tables_of (0 ∷ 0 ∷ []) (1 ∷ 2 ∷ []) (0 ∷ 2 ∷ 3 ∷ []) (0 ∷ 1 ∷ 1 ∷ [])

-- P10. 0: Odd, the given priority, itself
abbrev pub loop_of : ℕ → Tables
loop_of priority = tables_of (1 ∷ []) (priority ∷ []) (0 ∷ 1 ∷ []) (0 ∷ [])

-- the tables with other priorities
abbrev with_priorities : List ℕ → Tables → Tables
with_priorities priorities t = tables_of t.owners priorities t.starts t.targets

-- A with priority 2 at 1: there 1 is a right move at 0 too
abbrev pub A2 : Tables
A2 = with_priorities (0 ∷ 2 ∷ 2 ∷ 3 ∷ []) A

-- 0: Even, 0, 1; 1: Even, 0, 2; 2: Even, 0, itself
abbrev pub chain : Tables
chain = tables_of (0 ∷ 0 ∷ 0 ∷ []) (0 ∷ 0 ∷ 0 ∷ []) (0 ∷ 1 ∷ 2 ∷ 3 ∷ []) (1 ∷ 2 ∷ 2 ∷ [])

-- the same with priority 1 at 2, which 0 reaches in two steps
abbrev pub chain1 : Tables
chain1 = with_priorities (0 ∷ 0 ∷ 1 ∷ []) chain

-- 0: Even, 0, itself and 1; 1: Even, 0, itself; 2: Even, 0, itself
abbrev pub free : Tables
free = tables_of (0 ∷ 0 ∷ 0 ∷ []) (0 ∷ 0 ∷ 0 ∷ []) (0 ∷ 2 ∷ 3 ∷ 4 ∷ []) (0 ∷ 1 ∷ 1 ∷ 2 ∷ [])

-- the same with priority 1 at 2, which 0 does not reach: both moves at 0 are right in both
abbrev pub free1 : Tables
free1 = with_priorities (0 ∷ 0 ∷ 1 ∷ []) free
