-- The rows 1 to 7: what may be wrong with a game's tables, and at which places. (docs/RULES.md, Refusals)
use Rattle.std.specs.Prelude.{ℕ, ◌+◌, ◌<◌, ◌≤◌, ◌≡◌, ◌≢◌, List, [], ◌∷◌, ◌++◌, length, get_or}
use Rattle.player.specs.promise.Player.{IsPlayer}
use Rattle.refusal.specs.promise.Row.{Row, row}
use Rattle.game.specs.promise.Tables.{Tables, vertices, next_of}

-- 1, at 0: the number of vertices, or a table's length, is out of bounds or does not fit the owners'
pub data Fault1 (t : Tables) (x : ℕ) : Type 0 where
  no_vertex : x ≡ 0 → vertices t ≡ 0 → Fault1 t x
  over_2048 : x ≡ 0 → 2048 < vertices t → Fault1 t x
  differ : x ≡ 0 → vertices t ≢ length t.priorities → Fault1 t x
  not-n+1 : x ≡ 0 → length t.starts ≢ vertices t + 1 → Fault1 t x
  over_16384 : x ≡ 0 → 16384 < length t.targets → Fault1 t x

-- 2, at a vertex: its owner is no player
pub record Fault2 (owners : List ℕ) (x : ℕ) : Type 0 where
  pub vertex : x < length owners
  pub strange : ¬ IsPlayer (get_or owners x 0)

-- 3, at a vertex: its priority is 255
pub record Fault3 (priorities : List ℕ) (x : ℕ) : Type 0 where
  pub vertex : x < length priorities
  pub top : get_or priorities x 0 ≡ 255

-- 4, at a place of the starts: the first is not 0, one is below the one before it, or the last is not the number of targets
pub data Fault4 (starts targets : List ℕ) (x : ℕ) : Type 0 where
  first : x ≡ 0 → get_or starts 0 0 ≢ 0 → Fault4 starts targets x
  below : (before : ℕ) → x ≡ before + 1 → x < length starts → get_or starts x 0 < get_or starts before 0 → Fault4 starts targets x
  last : x + 1 ≡ length starts → get_or starts x 0 ≢ length targets → Fault4 starts targets x

-- 5, at a vertex: it has no successor
pub record Fault5 (n : ℕ) (starts targets : List ℕ) (x : ℕ) : Type 0 where
  pub vertex : x < n
  pub stuck : length (next_of starts targets x) ≡ 0

-- 6, at a place of the targets: it is no vertex
pub record Fault6 (n : ℕ) (targets : List ℕ) (x : ℕ) : Type 0 where
  pub place : x < length targets
  pub outside : n ≤ get_or targets x 0

-- the list does not ascend at x: what stands there is no higher than its forerunner
pub record Descent (l : List ℕ) (x : ℕ) : Type 0 where
  pub before : ℕ
  pub follows : x ≡ before + 1
  pub within : x < length l
  pub not_above : get_or l x 0 ≤ get_or l before 0

-- 7, at a place of the targets: there a stretch does not ascend
pub record Fault7 (n : ℕ) (starts targets : List ℕ) (x : ℕ) : Type 0 where
  pub vertex : ℕ
  pub is_vertex : vertex < n
  pub at : ℕ
  pub place : x ≡ get_or starts vertex 0 + at
  pub descent : Descent (next_of starts targets vertex) at

-- the rows 1 to 7 in their order; the last three are about stretches, which there are if 4 has passed
abbrev pub entry_rows : Tables → List Row
entry_rows t = row 1 (Fault1 t) ∷ row 2 (Fault2 t.owners) ∷ row 3 (Fault3 t.priorities) ∷ row 4 (Fault4 t.starts t.targets) ∷ []

abbrev pub stretch_rows : Tables → List Row
stretch_rows t = row 5 (Fault5 (vertices t) t.starts t.targets) ∷ row 6 (Fault6 (vertices t) t.targets) ∷ row 7 (Fault7 (vertices t) t.starts t.targets) ∷ []

abbrev pub table_rows : Tables → List Row
table_rows t = entry_rows t ++ stretch_rows t
