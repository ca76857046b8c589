-- How many cells are not 0: at most all of them, one more where a zero cell is set, and one fewer where another is cleared.
use Prim.Native.Nat.{ℕ, zero, suc, min, ◌+◌, ◌<◌, ◌≤◌}
use mathlib.Core.Path.{◌≡◌, refl, sym, ap, ap₂, subst, ◌∙◌}
use mathlib.Core.Logic.{◌≢◌}
use mathlib.Core.List.{List}
use native.Mathlib.Omega.{arith}
use native.Mathlib.Decide.{ℕ_discrete}
use native.Mathlib.Nat.{not-suc-le-zero}
use lib.ListN.{length, get_or, set}
use lib.Seq.{get_or-set_same, get_or-set_other}
use Rattle.lists.specs.parts.Cells.{count}

pub count_bounded : (n : ℕ) (cells : List ℕ) → count n cells ≤ n
count_bounded zero cells = omega arith
count_bounded (suc n) cells = let h = count_bounded n cells in omega arith

pub count_same : (n : ℕ) (a b : List ℕ) → ((k : ℕ) → k < n → get_or a k 0 ≡ get_or b k 0) → count n a ≡ count n b
count_same zero a b same = refl
count_same (suc n) a b same =
    ap₂ (λ (x y : ℕ). min 1 x + y) (same n (omega arith)) (count_same n a b (λ k l. same k (omega arith)))

pub count_none : (n : ℕ) (cells : List ℕ) → ((k : ℕ) → k < n → get_or cells k 0 ≡ 0) → count n cells ≡ 0
count_none zero cells none = refl
count_none (suc n) cells none =
    let here = none n (omega arith) in
    let rest = count_none n cells (λ k l. none k (omega arith)) in
    omega arith

pub count_set : (n : ℕ) (cells : List ℕ) (v : ℕ) → v < n → v < length cells → get_or cells v 0 ≡ 0 → count n (set cells v 1) ≡ count n cells + 1
count_set zero cells v l m z = absurd (not-suc-le-zero l)
count_set (suc n) cells v l m z = at (ℕ_discrete v n) (count_set n cells v)
  where
    at : Dec (v ≡ n) → (v < n → v < length cells → get_or cells v 0 ≡ 0 → count n (set cells v 1) ≡ count n cells + 1) → count (suc n) (set cells v 1) ≡ count (suc n) cells + 1
    at (yes e) fewer =
        let here : get_or (set cells v 1) n 0 ≡ 1 = ap (λ (k : ℕ). get_or (set cells v 1) k 0) (sym e) ∙ get_or-set_same cells v 1 0 m in
        let was : get_or cells n 0 ≡ 0 = ap (λ (k : ℕ). get_or cells k 0) (sym e) ∙ z in
        let rest : count n (set cells v 1) ≡ count n cells = count_same n _ _ (λ k l. get_or-set_other cells v k 1 0 (omega arith)) in
        omega arith
    at (no ne) fewer =
        let here : get_or (set cells v 1) n 0 ≡ get_or cells n 0 = get_or-set_other cells v n 1 0 (λ e. ne (sym e)) in
        let rest : count n (set cells v 1) ≡ count n cells + 1 = fewer (omega arith) m z in
        omega arith

pub count_clear : (n : ℕ) (cells : List ℕ) (v : ℕ) → v < n → v < length cells → get_or cells v 0 ≢ 0 → count n (set cells v 0) < count n cells
count_clear zero cells v l m f = absurd (not-suc-le-zero l)
count_clear (suc n) cells v l m f = at (ℕ_discrete v n) (count_clear n cells v)
  where
    at : Dec (v ≡ n) → (v < n → v < length cells → get_or cells v 0 ≢ 0 → count n (set cells v 0) < count n cells) → count (suc n) (set cells v 0) < count (suc n) cells
    at (yes e) fewer =
        let here : get_or (set cells v 0) n 0 ≡ 0 = ap (λ (k : ℕ). get_or (set cells v 0) k 0) (sym e) ∙ get_or-set_same cells v 0 0 m in
        let was : get_or cells n 0 ≢ 0 = subst (λ (k : ℕ). get_or cells k 0 ≢ 0) e f in
        let rest : count n (set cells v 0) ≡ count n cells = count_same n _ _ (λ k l. get_or-set_other cells v k 0 0 (omega arith)) in
        omega arith
    at (no ne) fewer =
        let here : get_or (set cells v 0) n 0 ≡ get_or cells n 0 = get_or-set_other cells v n 0 0 (λ e. ne (sym e)) in
        let rest : count n (set cells v 0) < count n cells = fewer (omega arith) m f in
        omega arith

-- a cell that is 0 leaves the count below n
pub count_room : (n : ℕ) (cells : List ℕ) (v : ℕ) → v < n → v < length cells → get_or cells v 0 ≡ 0 → count n cells < n
count_room n cells v l m z = omega (arith, count_bounded n (set cells v 1), count_set n cells v l m z)
