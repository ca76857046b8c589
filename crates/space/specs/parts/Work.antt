-- The lent work space: four sections of n cells each: flags or levels, what a closure has reached, its queue, and who stands behind whom.
use Rattle.std.specs.Prelude.{ℕ, ◌*◌, ◌<◌, ◌≤◌, ◌≡◌, ◌≢◌, List, length, get_or, take, drop, set}

-- 65,535 stands for none: no choice, nobody
abbrev pub nil : ℕ
nil = 65535

-- `size` cells from a place on
abbrev pub part : (from size : ℕ) → List ℕ → List ℕ
part from size cells = take size (drop from cells)

-- section k of the work space
abbrev pub section : (k n : ℕ) → List ℕ → List ℕ
section k n work = part (k * n) n work

-- a work space of n vertices, and a place of its sections
pub record Cell (n i : ℕ) (work : List ℕ) : Type 0 where
  pub small : n ≤ 2048
  pub long : length work ≡ 4 * n
  pub within : i < n

-- cell i of section k is x now, and nothing else has changed
pub record CellSet (n k i x : ℕ) (before after : List ℕ) : Type 0 where
  pub long : length after ≡ length before
  pub here : section k n after ≡ set (section k n before) i x
  pub other : (j : ℕ) → j < 4 → j ≢ k → section j n after ≡ section j n before

-- the work space of n vertices after a change of what is reached and the queue alone
pub record Beside (n : ℕ) (before after : List ℕ) : Type 0 where
  pub long : length after ≡ length before
  pub levels : section 0 n after ≡ section 0 n before
  pub spare : section 3 n after ≡ section 3 n before

-- the flag of v is x, and all else is as before
pub record FlagSet (n v x : ℕ) (before after : List ℕ) : Type 0 where
  pub long : length after ≡ length before
  pub here : get_or (section 0 n after) v 0 ≡ x
  pub other : (u : ℕ) → u ≢ v → get_or (section 0 n after) u 0 ≡ get_or (section 0 n before) u 0
  pub reached : section 1 n after ≡ section 1 n before
  pub queue : section 2 n after ≡ section 2 n before
  pub links : section 3 n after ≡ section 3 n before
