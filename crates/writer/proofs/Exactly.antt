-- Success: exactly if the tables are well formed and the output is as long as their file.
use Prim.Native.Nat.{ℕ, ◌<◌}
use mathlib.Core.Path.{◌≡◌, sym, ◌∙◌}
use mathlib.Core.Logic.{◌↔◌}
use mathlib.Core.List.{List, [], ◌∷◌}
use lib.ListN.{length, get_or}
use Rattle.refusal.specs.promise.Row.{row, None}
use Rattle.refusal.proofs.Rows.{none_append}
use Rattle.game.specs.promise.Tables.{Tables, WellFormed}
use Rattle.game.specs.promise.Faults.{table_rows}
use Rattle.game.proofs.WellFormed.{none_applies}
use Rattle.format.specs.promise.Format.{file_of, plain}
use Rattle.format.proofs.FileOf.{file_long}
use Rattle.writer.specs.promise.Faults.{Fault46, write_rows}
use Rattle.writer.proofs.Lengths.{fillable}

-- well-formed tables are filed in an output of that length
pub writable : (t : Tables) (output : List ℕ) → WellFormed t → length output ≡ length (file_of (plain t)) → None (write_rows t output)
writable t output well long = none_append (table_rows t) (row 46 (Fault46 t output) ∷ []) (none_applies t well) ((λ x f. f.wrong long), tt)

module _ (t : Tables) (output : List ℕ) (bytes : (v : ℕ) → get_or t.priorities v 0 < 256) where
  pub written_exactly_if : None (write_rows t output) ↔ (WellFormed t × (length output ≡ length (file_of (plain t))))
  written_exactly_if = (there, back)
    where
      there : None (write_rows t output) → WellFormed t × (length output ≡ length (file_of (plain t)))
      there none = let f = fillable t output bytes none in (f.well, f.long ∙ sym (file_long (plain t)))

      back : WellFormed t × (length output ≡ length (file_of (plain t))) → None (write_rows t output)
      back (well, long) = writable t output well long
