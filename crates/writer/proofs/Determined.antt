-- The writer's promise has no second result: what is said and the final output follow from the input.
use Prim.Native.Nat.{ℕ}
use mathlib.Core.Path.{◌≡◌, ap, sym, ◌∙◌}
use mathlib.Core.List.{List}
use Rattle.refusal.specs.promise.Row.{Said, success, refused}
use Rattle.refusal.proofs.Rows.{first_not_none, first_unique}
use Rattle.game.specs.promise.Tables.{Tables}
use Rattle.writer.specs.promise.Faults.{write_rows}
use Rattle.writer.specs.promise.Writing.{Writes}

module _ (t : Tables) (before after after' : List ℕ) where
  pub determined : (a b : Said) → Writes t before after a → Writes t before after' b → (a ≡ b) × (after ≡ after')
  determined (success v) (success w) x y = (ap success (x.values_are ∙ sym y.values_are), x.file_is ∙ sym y.file_is)
  determined (success v) (refused l z) x y = absurd (first_not_none (write_rows t before) l z y.first x.none)
  determined (refused k z) (success w) x y = absurd (first_not_none (write_rows t before) k z x.first y.none)
  determined (refused k z) (refused l q) x y = (first_unique (write_rows t before) k l z q x.first y.first, x.same ∙ sym y.same)
