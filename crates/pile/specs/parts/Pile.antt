-- The pile: its first `tail` cells hold vertices.
use Rattle.std.specs.Prelude.{ℕ, ◌<◌, ◌≤◌, ◌≡◌, List, get_or}
use Rattle.space.specs.declared.desk.Desk.{Desk}
use Rattle.space.specs.parts.Desk.{Laid}

-- a pile of vertices below n, in a list of 2,048
pub record Piled (n : ℕ) (pile : List ℕ) (tail : ℕ) : Type 0 where
  pub within : tail ≤ 2048
  pub vertex : (i : ℕ) → i < tail → get_or pile i 0 < n

-- the desk after a change of the pile alone
pub record PileOnly (d d' : Desk) : Type 0 where
  pub laid : Laid d'
  pub firsts : d'.firsts ≡ d.firsts
  pub lasts : d'.lasts ≡ d.lasts
  pub waiting : d'.waiting ≡ d.waiting
  pub levels : d'.levels ≡ d.levels

-- a vertex, and room for a pile
pub record Pushable (x : ℕ) (d : Desk) (tail : ℕ) : Type 0 where
  pub small : x < 2048
  pub laid : Laid d
  pub within : tail ≤ 2048

-- what was a pile is one still, perhaps with x on it, and nothing else has changed
pub record PushedOn (x : ℕ) (d : Desk) (tail : ℕ) (d' : Desk) (tail' : ℕ) : Type 0 where
  pub piled : (n : ℕ) → x < n → Piled n d.pile tail → Piled n d'.pile tail'
  pub only : PileOnly d d'
