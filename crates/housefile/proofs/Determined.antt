-- The reader's promise has no second result: what is said and every final table follow from the input.
use Prim.Native.Nat.{ℕ}
use mathlib.Core.Path.{◌≡◌, ap, sym, ◌∙◌}
use mathlib.Core.List.{List}
use Rattle.refusal.specs.promise.Row.{Said, success, refused}
use Rattle.refusal.proofs.Rows.{first_not_none, first_unique}
use Rattle.game.specs.promise.Tables.{Tables, tables_of}
use Rattle.housefile.specs.promise.Faults.{file_rows}
use Rattle.decoding.specs.promise.Holding.{Holding}
use Rattle.housefile.specs.promise.Reading.{Reads}
use Rattle.decoding.proofs.Padding.{padded_unique}

-- tables that hold four lists are determined by them
holding_unique : (t a b : Tables) → Holding t a → Holding t b → a ≡ b
holding_unique t a b x y =
    let o = padded_unique x.owners y.owners in
    let p = padded_unique x.priorities y.priorities in
    let s = padded_unique x.starts y.starts in
    let e = padded_unique x.targets y.targets in
    λ i. tables_of (o i) (p i) (s i) (e i)

module _ (file : List ℕ) (lent t u : Tables) where
  pub determined : (a b : Said) → Reads file lent t a → Reads file lent u b → (a ≡ b) × (t ≡ u)
  determined (success v) (success w) x y = (ap success (x.values_are ∙ sym y.values_are), holding_unique _ t u x.holds y.holds)
  determined (success v) (refused l z) x y = absurd (first_not_none (file_rows file lent) l z y.first x.none)
  determined (refused k z) (success w) x y = absurd (first_not_none (file_rows file lent) k z x.first y.none)
  determined (refused k z) (refused l q) x y = (first_unique (file_rows file lent) k l z q x.first y.first, x.same ∙ sym y.same)
