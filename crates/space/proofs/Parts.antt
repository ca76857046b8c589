-- A part of a list of cells: what stands in it, and stores inside and outside of it.
use Prim.Native.Nat.{ℕ, min, ◌+◌, ◌-◌, ◌<◌}
use mathlib.Core.Path.{◌≡◌, ap, sym, subst, ◌∙◌}
use mathlib.Core.Logic.{◌≢◌}
use mathlib.Core.List.{List}
use native.Mathlib.Omega.{arith}
use lib.ListN.{length, get_or, take, drop, set, length-take, length-drop, length-set}
use lib.Seq.{get_or-take, get_or-drop, take-set-lt, drop-set-add, get_or-set_other, ext_get_or}
use Rattle.space.specs.parts.Work.{part}

module _ (from size : ℕ) (cells : List ℕ) where
  pub part_at : (i : ℕ) → i < size → get_or (part from size cells) i 0 ≡ get_or cells (from + i) 0
  part_at i l = get_or-take size (drop from cells) i 0 l ∙ get_or-drop from cells i 0

  -- a store into a part is a store into the list that it holds
  pub part_set : (i x : ℕ) → i < size → part from size (set cells (from + i) x) ≡ set (part from size cells) i x
  part_set i x l = ap (take size) (drop-set-add from cells i x) ∙ take-set-lt size (drop from cells) i x l

  -- and one outside leaves it as it was
  pub part_other : (j x : ℕ) → ((i : ℕ) → i < size → from + i ≢ j) → part from size (set cells j x) ≡ part from size cells
  part_other j x apart =
      ext_get_or 0 (part from size (set cells j x)) (part from size cells)
      (simp (length-take, length-drop, length-set))
      (λ y ly. at y (below y (subst (λ (k : ℕ). y < k) (simp (length-take, length-drop, length-set)) ly)))
    where
      below : (y : ℕ) → y < min size (length cells - from) → y < size
      below y l = omega arith

      at : (y : ℕ) → y < size → get_or (part from size (set cells j x)) y 0 ≡ get_or (part from size cells) y 0
      at y ly =
          (get_or-take size (drop from (set cells j x)) y 0 ly ∙ get_or-drop from (set cells j x) y 0)
          ∙ get_or-set_other cells j (from + y) x 0 (apart y ly)
          ∙ sym (part_at y ly)
