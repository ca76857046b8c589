-- Whatever `read` took from a file of rule 0, `write` of the used parts of its tables into an output of that length succeeds, and leaves the same bytes.
use Prim.Native.Nat.{ℕ, ◌<◌}
use mathlib.Core.Path.{◌≡◌, ap, sym, subst, ◌∙◌}
use mathlib.Core.List.{List, [], ◌∷◌}
use lib.ListN.{length, get_or}
use Rattle.refusal.specs.promise.Row.{Said, success, refused, None}
use Rattle.refusal.proofs.Rows.{first_not_none}
use Rattle.game.specs.promise.Tables.{Tables, WellFormed}
use Rattle.format.specs.promise.Format.{file_of, plain}
use Rattle.format.specs.promise.Filed.{rule_filed, filed}
use Rattle.format.specs.promise.Faults.{judged_rows}
use Rattle.format.proofs.FiledTables.{as_filed}
use Rattle.format.proofs.AllRows.{all_sized}
use Rattle.filing.proofs.Accepted.{filed_well_formed}
use Rattle.filing.proofs.Taken.{taken_is_file}
use Rattle.decoding.specs.promise.Holding.{Holding, used_parts}
use Rattle.decoding.proofs.Padding.{holding_take}
use Rattle.housefile.specs.promise.Reading.{Reads}
use Rattle.housefile.proofs.LentRows.{all_judged}
use Rattle.writer.specs.promise.Faults.{write_rows}
use Rattle.writer.specs.promise.Writing.{Writes}
use Rattle.writer.proofs.Exactly.{writable}

module _ (file : List ℕ) (bytes : (i : ℕ) → get_or file i 0 < 256) (rule0 : rule_filed file ≡ 0) (lent held : Tables) (n m : ℕ) (took : Reads file lent held (success (n ∷ m ∷ []))) where
  judged : None (judged_rows file)
  judged = all_judged file lent took.none

  used : used_parts n m held ≡ (filed file).tables
  used =
      holding_take (all_sized file judged) (ap (λ (l : List ℕ). get_or l 0 0) took.values_are) (ap (λ (l : List ℕ). get_or l 1 0) took.values_are)
      (subst (λ (t : Tables). Holding t held) (as_filed file rule0) took.holds)

  same_file : file_of (plain (used_parts n m held)) ≡ file
  same_file =
      ap (λ (t : Tables). file_of (plain t)) used ∙
      ap {B = List ℕ} (λ (r : ℕ). file_of (record { tables = (filed file).tables; rule = r })) (sym rule0) ∙
      sym (taken_is_file file bytes judged)

  well : WellFormed (used_parts n m held)
  well = subst WellFormed (sym used) (filed_well_formed file bytes judged)

  module _ (before after : List ℕ) (long : length before ≡ length file) where
    accepted : None (write_rows (used_parts n m held) before)
    accepted = writable (used_parts n m held) before well (long ∙ ap length (sym same_file))

    pub write_back : (said : Said) → Writes (used_parts n m held) before after said → (said ≡ success (length file ∷ [])) × (after ≡ file)
    write_back (success v) w = (ap success (w.values_are ∙ ap (λ (l : List ℕ). length l ∷ []) same_file), w.file_is ∙ same_file)
    write_back (refused k x) w = absurd (first_not_none (write_rows (used_parts n m held) before) k x w.first accepted)
