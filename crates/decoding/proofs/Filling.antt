-- A table whose first cells are filled holds the list that they say.
use Prim.Native.Nat.{ℕ, ◌+◌, ◌-◌, ◌<◌, ◌≤◌}
use mathlib.Core.Path.{◌≡◌, sym, ap, ◌∙◌}
use mathlib.Core.List.{List, ◌++◌}
use native.Mathlib.Omega.{arith}
use native.Mathlib.Decide.{dec_lt}
use lib.ListN.{length, get_or, take, drop, length-drop, length-append, get_or-append, get_or-eq_default}
use lib.Seq.{length-take-le}
use Rattle.std.proofs.lemmas.List.{get_or-append_right, get_or-drop}
use Rattle.decoding.specs.promise.Holding.{Padded}

-- below i it holds the list already, from i on it is still blank
abbrev pub FilledTo : (list table : List ℕ) (i : ℕ) → Type 0
FilledTo list table i = ((k : ℕ) → k < i → get_or table k 0 ≡ get_or list k 0) × ((k : ℕ) → i ≤ k → get_or table k 0 ≡ 0)

-- the list has ended at i
pub filled_all : {size : ℕ} (list table : List ℕ) (i : ℕ) → length table ≡ size → length list ≤ i → FilledTo list table i → Padded size list table
filled_all list table i e l f = record { long = e; same = λ k. at k (dec_lt k i) }
  where
    at : (k : ℕ) → Dec (k < i) → get_or table k 0 ≡ get_or list k 0
    at k (yes m) = f.0 k m
    at k (no h) =
        let past : length list ≤ k = omega arith in
        f.1 k (omega arith) ∙ sym (get_or-eq_default list 0 past)

-- cells as many as the list, before the rest of a table that held no more
pub padded_front :
    {size n : ℕ} {held list table : List ℕ} (cells : List ℕ) → Padded size held table → length held ≤ n → n ≡ length list → n ≤ size →
    length cells ≡ length (take n table) → ((k : ℕ) → k < length (take n table) → get_or cells k 0 ≡ get_or list k 0) → Padded size list (cells ++ drop n table)
padded_front {size} {n} {held} {list} {table} cells p short long within e is =
    record { long = omega (arith, few, length-append cells (drop n table), length-drop n table, p.long); same = λ i. at i (dec_lt i n) }
  where
    few : length (take n table) ≡ n
    few = length-take-le n table (omega (arith, p.long))

    at : (i : ℕ) → Dec (i < n) → get_or (cells ++ drop n table) i 0 ≡ get_or list i 0
    at i (yes l) = get_or-append cells (drop n table) 0 i (omega (arith, few)) ∙ is i (omega (arith, few))
    at i (no h) =
        let there : n + (i - n) ≡ i = omega arith in
        get_or-append_right cells (drop n table) n i 0 (e ∙ few) (omega arith) ∙ get_or-drop n table (i - n) 0 ∙ ap (λ (k : ℕ). get_or table k 0) there ∙ p.same i ∙
        get_or-eq_default held 0 (let l : length held ≤ i = omega arith in l) ∙ sym (get_or-eq_default list 0 (let l : length list ≤ i = omega arith in l))
