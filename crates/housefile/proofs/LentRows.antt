-- All rows of the reader: those that judge the file, and last the lengths of the lent tables.
use Prim.Native.Nat.{ℕ}
use mathlib.Core.Path.{◌≡◌, refl, sym, subst}
use mathlib.Core.List.{List, [], ◌∷◌}
use Rattle.std.specs.Prelude.{Result, Err}
use Rattle.refusal.specs.promise.Row.{row, None, Gives}
use Rattle.refusal.specs.promise.Number.{tested_said}
use Rattle.refusal.specs.declared.Refusal.{Refusal}
use Rattle.refusal.proofs.Rows.{none_append, none_left}
use Rattle.game.specs.promise.Tables.{Tables}
use Rattle.game.specs.promise.Lent.{Fit, Fault8}
use Rattle.game.proofs.Sizes.{none_of_fit}
use Rattle.format.specs.promise.Faults.{judged_rows}
use Rattle.housefile.specs.declared.Header.{Header}
use Rattle.housefile.specs.promise.Faults.{table_sizes, file_rows}
use Rattle.housefile.specs.promise.Reading.{Reads, read_said}

module _ (file : List ℕ) (lent : Tables) where
  pub rows_none : None (judged_rows file) → Fit (table_sizes lent) → None (file_rows file lent)
  rows_none judged fit = none_append (judged_rows file) (row 8 (Fault8 (table_sizes lent)) ∷ []) judged (none_of_fit (table_sizes lent) fit, tt)

  pub all_judged : None (file_rows file lent) → None (judged_rows file)
  all_judged none = none_left (judged_rows file) (row 8 (Fault8 (table_sizes lent)) ∷ []) none

  -- what is refused is the first of these rows, and nothing is written
  pub reads_refused : {q : Result Header Refusal} {r : Refusal} → Gives (file_rows file lent) (tested_said (Err r)) → q ≡ Err r → Reads file lent lent (read_said q)
  reads_refused f d = subst (λ (q : Result Header Refusal). Reads file lent lent (read_said q)) (sym d) (record { first = f; same = refl })
