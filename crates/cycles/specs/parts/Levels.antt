-- Setting the levels: section 0 of the work space is to hold the priorities.
use Rattle.std.specs.Prelude.{ℕ, ◌*◌, ◌<◌, ◌≤◌, ◌≡◌, ◌≢◌, List, length}
use Rattle.space.specs.parts.Work.{section}

-- a work space for as many vertices as there are priorities
pub record LevelsAsked (priorities work : List ℕ) : Type 0 where
  pub small : length priorities ≤ 2048
  pub long : length work ≡ 4 * length priorities

-- section 0 holds the priorities, and the others are as before
pub record PrioritiesSet (priorities before after : List ℕ) : Type 0 where
  pub long : length after ≡ length before
  pub levels : section 0 (length priorities) after ≡ priorities
  pub other : (j : ℕ) → j < 4 → j ≢ 0 → section j (length priorities) after ≡ section j (length priorities) before
