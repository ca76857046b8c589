-- What reading one vertex's successors asks.
use Rattle.std.specs.Prelude.{ℕ, ◌+◌, ◌<◌, ◌≤◌, List, length, get_or}

-- v has a stretch within the targets
pub record Stretch (starts targets : List ℕ) (v : ℕ) : Type 0 where
  pub bound : v + 1 < length starts
  pub onward : get_or starts v 0 ≤ get_or starts (v + 1) 0
  pub within : get_or starts (v + 1) 0 ≤ length targets
