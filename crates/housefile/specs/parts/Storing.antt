-- The reader's own tables over the lent ones.
use Rattle.std.specs.Prelude.{◌≡◌, length}
use Rattle.game.specs.promise.Tables.{Tables}
use Rattle.decoding.specs.promise.Holding.{Holding}

-- each table is as long as the other
pub record SameLengths (t u : Tables) : Type 0 where
  pub owners : length u.owners ≡ length t.owners
  pub priorities : length u.priorities ≡ length t.priorities
  pub starts : length u.starts ≡ length t.starts
  pub targets : length u.targets ≡ length t.targets

-- what the one tables hold, the others hold now
pub record Stored (t u : Tables) : Type 0 where
  pub passes : (g : Tables) → Holding g t → Holding g u
