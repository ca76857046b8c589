-- Whatever `write` left, `read` of it succeeds into any tables of the fixed lengths, and they hold the same tables.
use Prim.Native.Nat.{ℕ, ◌<◌}
use mathlib.Core.Path.{◌≡◌, ap, ap₂, sym, subst, ◌∙◌}
use mathlib.Core.List.{List, [], ◌∷◌}
use native.Mathlib.Omega.{arith}
use lib.ListN.{length, get_or}
use Rattle.refusal.specs.promise.Row.{Said, success, refused, None}
use Rattle.refusal.proofs.Rows.{first_not_none}
use Rattle.game.specs.promise.Tables.{Tables, vertices}
use Rattle.game.specs.promise.Lent.{Fit}
use Rattle.format.specs.promise.Format.{Filing, file_of, plain}
use Rattle.format.specs.promise.Filed.{vertices_filed, edges_filed, tables_filed}
use Rattle.format.proofs.FiledTables.{as_filed}
use Rattle.filing.proofs.Written.{vertices_are, edges_are, rule_is}
use Rattle.filing.proofs.Exactly.{Fileable, filed_back, file_is_judged}
use Rattle.decoding.specs.promise.Holding.{Holding}
use Rattle.housefile.specs.promise.Faults.{table_sizes, file_rows}
use Rattle.housefile.specs.promise.Reading.{Reads}
use Rattle.housefile.proofs.LentRows.{rows_none}
use Rattle.writer.specs.promise.Writing.{Writes}
use Rattle.writer.proofs.Lengths.{fillable}

module _ (t : Tables) (bytes : (v : ℕ) → get_or t.priorities v 0 < 256) (before file values : List ℕ) (wrote : Writes t before file (success values)) where
  fine : Fileable (plain t)
  fine = record { tables = (fillable t before bytes wrote.none).well; rule_low = omega arith }

  module _ (lent after : Tables) (fit : Fit (table_sizes lent)) where
    accepted : None (file_rows file lent)
    accepted = subst (λ (l : List ℕ). None (file_rows l lent)) (sym wrote.file_is) (rows_none (file_of (plain t)) lent (file_is_judged (plain t) fine) fit)

    sizes : vertices_filed file ∷ edges_filed file ∷ [] ≡ vertices t ∷ length t.targets ∷ []
    sizes =
        ap (λ (l : List ℕ). vertices_filed l ∷ edges_filed l ∷ []) wrote.file_is ∙
        ap₂ (λ (n m : ℕ). n ∷ m ∷ []) (vertices_are (plain t)) (edges_are (plain t))

    same : tables_filed file ≡ t
    same = ap tables_filed wrote.file_is ∙ as_filed (file_of (plain t)) (rule_is (plain t)) ∙ ap (λ (f : Filing). f.tables) (filed_back (plain t) fine)

    pub read_back : (said : Said) → Reads file lent after said → (said ≡ success (vertices t ∷ length t.targets ∷ [])) × Holding t after
    read_back (success v) r = (ap success (r.values_are ∙ sizes), subst (λ (u : Tables). Holding u after) same r.holds)
    read_back (refused k x) r = absurd (first_not_none (file_rows file lent) k x r.first accepted)
