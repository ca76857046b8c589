-- A line grows field by field, each with the byte that parts it from what follows.
use Prim.Native.Nat.{ℕ}
use mathlib.Core.List.{List, [], ◌∷◌, ◌++◌, append_assoc}
use Rattle.text.specs.parts.Append.{Appended}
use Rattle.text.proofs.Appending.{appended_both, appended_as}

pub field_both : {a b c : List ℕ} {i j k : ℕ} (f : List ℕ) (s : ℕ) (rest : List ℕ) → Appended a b i (f ++ (s ∷ [])) j → Appended b c j rest k → Appended a c i (f ++ (s ∷ rest)) k
field_both f s rest p q = appended_as (append_assoc f (s ∷ []) rest) (appended_both (f ++ (s ∷ [])) rest p q)
