-- Success on a file: exactly if it is the file of well-formed tables and a rule; and the tables that are read are well formed.
use Prim.Native.Nat.{ℕ, ◌<◌}
use mathlib.Core.Path.{◌≡◌}
use mathlib.Core.Logic.{◌↔◌}
use mathlib.Core.List.{List}
use lib.ListN.{get_or}
use Rattle.refusal.specs.promise.Row.{None}
use Rattle.game.specs.promise.Tables.{Tables, WellFormed}
use Rattle.game.specs.promise.Lent.{Fit}
use Rattle.format.specs.promise.Format.{Filing, file_of}
use Rattle.format.specs.promise.Filed.{tables_filed}
use Rattle.filing.proofs.Accepted.{judged_well_formed}
use Rattle.filing.proofs.Exactly.{Fileable, judged_exactly_if}
use Rattle.housefile.specs.promise.Faults.{table_sizes, file_rows}
use Rattle.housefile.proofs.LentRows.{rows_none, all_judged}

module _ (file : List ℕ) (lent : Tables) (bytes : (i : ℕ) → get_or file i 0 < 256) where
  pub taken_exactly_if : Fit (table_sizes lent) → None (file_rows file lent) ↔ ((f : Filing) × Fileable f × (file ≡ file_of f))
  taken_exactly_if fit =
      let e = judged_exactly_if file bytes in
      ((λ none. e.0 (all_judged file lent none)), λ f. rows_none file lent (e.1 f) fit)

  -- the tables of a file that is read are those of a well-formed game
  pub read_well_formed : None (file_rows file lent) → WellFormed (tables_filed file)
  read_well_formed none = judged_well_formed file bytes (all_judged file lent none)
