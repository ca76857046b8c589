-- Reading and storing a cell of a section of the work space.
use Prim.Native.Nat.{ℕ, ◌+◌, ◌*◌, ◌<◌, ◌≤◌}
use mathlib.Core.Path.{◌≡◌, refl, sym, ap, subst, ◌∙◌}
use mathlib.Core.Logic.{◌≢◌}
use mathlib.Core.List.{List}
use native.Mathlib.Omega.{arith}
use native.Mathlib.Decide.{dec_lt}
use native.Mathlib.Nat.{mul-le-mul_right, add-mul, one-mul}
use lib.ListN.{length, get_or, set, length-take, length-drop, length-set}
use Rattle.lists.specs.parts.Cells.{Filled}
use Rattle.space.specs.parts.Work.{section, CellSet, Beside}
use Rattle.space.proofs.Parts.{part_at, part_set, part_other}

-- a later section begins where an earlier one has ended
after : (j k n : ℕ) → j < k → j * n + n ≤ k * n
after j k n l = subst (λ (m : ℕ). m ≤ k * n) (add-mul j 1 n ∙ ap (λ (m : ℕ). j * n + m) (one-mul n)) (mul-le-mul_right n (omega arith))

apart : (j k n y i : ℕ) → y < n → i < n → j ≢ k → j * n + y ≢ k * n + i
apart j k n y i ly li ne e =
    elim (dec_lt j k) [ yes l ↦ omega (arith, after j k n l) | no h ↦ omega (arith, after k j n (omega arith)) ]

-- section k is below the fourth
end_within : (k n : ℕ) → k < 4 → k * n + n ≤ 4 * n
end_within k n l = after k 4 n l

module _ (n : ℕ) (work : List ℕ) (long : length work ≡ 4 * n) where
  pub section_long : (k : ℕ) → k < 4 → length (section k n work) ≡ n
  section_long k l = simp (length-take, length-drop) (omega (arith, end_within k n l))

  pub section_at : (k i : ℕ) → i < n → get_or (section k n work) i 0 ≡ get_or work (k * n + i) 0
  section_at k i l = part_at (k * n) n work i l

  pub section_within : (k i : ℕ) → k < 4 → i < n → k * n + i < length work
  section_within k i l h = omega (arith, end_within k n l)

  -- a cell of the work space, read as a cell of a section
  pub section_read : {c : ℕ} (k i : ℕ) → c ≡ k * n + i → i < n → get_or work c 0 ≡ get_or (section k n work) i 0
  section_read k i e l = ap (λ (j : ℕ). get_or work j 0) e ∙ sym (section_at k i l)

  pub section_filled : {x : ℕ} → Filled work x → (k : ℕ) → k < 4 → Filled (section k n work) x
  section_filled f k l =
      let long-k = section_long k l in
      record { all = λ i h. section_at k i (omega arith) ∙ f.all (k * n + i) (section_within k i l (omega arith)) }

-- a store into a section leaves every cell outside it as it was
pub stored : {n : ℕ} {work : List ℕ} {c x : ℕ} (k i : ℕ) → c ≡ k * n + i → i < n → CellSet n k i x work (set work c x)
stored {n} {work} {c} {x} k i e h =
    subst (λ (j : ℕ). CellSet n k i x work (set work j x)) (sym e)
    (record {
      long = length-set work (k * n + i) x;
      here = part_set (k * n) n work i x h;
      other = λ j m ne. part_other (j * n) n work (k * n + i) x (λ y l. apart j k n y i l h ne);
    })

pub beside_none : {n : ℕ} {work : List ℕ} → Beside n work work
beside_none = record { long = refl; levels = refl; spare = refl }

pub beside_more : {n : ℕ} {a b c : List ℕ} → Beside n a b → Beside n b c → Beside n a c
beside_more f g =
    record { long = g.long ∙ f.long; levels = g.levels ∙ f.levels; spare = g.spare ∙ f.spare }

-- a store into what is reached or the queue
pub beside_stored : {n k i x : ℕ} {a b : List ℕ} → 0 ≢ k → 3 ≢ k → CellSet n k i x a b → Beside n a b
beside_stored ne ne' s =
    record { long = s.long; levels = s.other 0 (omega arith) ne; spare = s.other 3 (omega arith) ne' }
