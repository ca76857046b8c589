-- What has passed 1 to 8: well-formed tables, and lists as long as they should be; and the other way round.
use Prim.Native.Nat.{ℕ, ◌<◌}
use lib.ListN.{get_or}
use mathlib.Core.List.{List, [], ◌∷◌}
use Rattle.refusal.specs.promise.Row.{Row, row, None}
use Rattle.refusal.proofs.Rows.{none_left, none_right, none_append}
use Rattle.game.specs.promise.Tables.{Tables, vertices, WellFormed}
use Rattle.game.specs.promise.Faults.{table_rows}
use Rattle.game.specs.promise.Lent.{Fit, Fault8}
use Rattle.storage.specs.promise.Lent.{lent_sizes, lent_rows}
use Rattle.game.proofs.Sizes.{fit_of_none, none_of_fit}
use Rattle.game.proofs.WellFormed.{well_formed, none_applies}

module _ (t : Tables) (winners moves work : ℕ) where
  -- the row that follows the tables'
  abbrev eight : List Row
  eight = row 8 (Fault8 (lent_sizes (vertices t) winners moves work)) ∷ []

  pub lent_formed : ((v : ℕ) → get_or t.priorities v 0 < 256) → None (lent_rows t winners moves work) → WellFormed t
  lent_formed bytes n = well_formed t bytes (none_left (table_rows t) eight n)

  pub lent_fit : None (lent_rows t winners moves work) → Fit (lent_sizes (vertices t) winners moves work)
  lent_fit n = fit_of_none _ (none_right (table_rows t) eight n).0

  pub lent_fits : WellFormed t → Fit (lent_sizes (vertices t) winners moves work) → None (lent_rows t winners moves work)
  lent_fits w f = none_append (table_rows t) eight (none_applies t w) (none_of_fit _ f, tt)
