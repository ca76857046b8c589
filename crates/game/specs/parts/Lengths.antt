-- What comparing a length gives.
use Rattle.std.specs.Prelude.{ℕ, List, ◌∷◌, Option}
use Rattle.refusal.specs.parts.Found.{Finds}
use Rattle.game.specs.promise.Lent.{Sized, sized, Fault8}

-- one length more is compared: what is found is row 8 of one list more
pub record Compared (found : Option ℕ) (long due : ℕ) (r : Option ℕ) : Type 0 where
  pub joins : (l : List Sized) → Finds (Fault8 l) found → Finds (Fault8 (sized long due ∷ l)) r
