-- The line of a vertex grows field by field: a line of four numbers and a last field.
use Prim.Native.Nat.{ℕ}
use mathlib.Core.List.{List, [], ◌∷◌, ◌++◌}
use Rattle.text.specs.parts.Append.{Appended}
use Rattle.text.specs.promise.Text.{decimal_of, line_of}
use Rattle.text.proofs.Appending.{appended_both}
use Rattle.text.proofs.Fields.{field_both}

pub listed : {t0 t1 t2 t3 t4 t5 t6 : List ℕ} {i0 i1 i2 i3 i4 i5 i6 : ℕ} (a b c d : ℕ) (f : List ℕ) → Appended t0 t1 i0 (decimal_of a ++ (32 ∷ [])) i1 → Appended t1 t2 i1 (decimal_of b ++ (32 ∷ [])) i2 → Appended t2 t3 i2 (decimal_of c ++ (32 ∷ [])) i3 → Appended t3 t4 i3 (decimal_of d ++ (32 ∷ [])) i4 → Appended t4 t5 i4 f i5 → Appended t5 t6 i5 (10 ∷ []) i6 → Appended t0 t6 i0 (line_of (decimal_of a ∷ decimal_of b ∷ decimal_of c ∷ decimal_of d ∷ f ∷ [])) i6
listed a b c d f p1 p2 p3 p4 p5 p6 =
    field_both (decimal_of a) 32 _ p1
    (field_both (decimal_of b) 32 _ p2 (field_both (decimal_of c) 32 _ p3 (field_both (decimal_of d) 32 _ p4 (appended_both f (10 ∷ []) p5 p6))))
