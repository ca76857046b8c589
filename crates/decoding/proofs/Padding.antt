-- Tables that hold a list, with zeros past it: a blank one, the list itself, the list read back, and that there is one table a list.
use Prim.Native.Nat.{ℕ, ◌+◌, ◌<◌, ◌≤◌}
use mathlib.Core.Path.{◌≡◌, sym, ◌∙◌}
use mathlib.Core.List.{List, []}
use native.Mathlib.Omega.{arith}
use native.Mathlib.Decide.{dec_lt}
use lib.ListN.{length, get_or, take, replicate, length-replicate, get_or-replicate, length-take, get_or-eq_default}
use lib.Seq.{ext_get_or, get_or-take}
use Rattle.game.specs.promise.Tables.{Tables, tables_of}
use Rattle.format.specs.promise.Filed.{vertices_filed, edges_filed, filed}
use Rattle.format.specs.parts.Tests.{FileSized}
use Rattle.format.proofs.Lists.{owners_long, priorities_long, starts_long, targets_long}
use Rattle.decoding.specs.promise.Holding.{Padded, Holding, used_parts}

pub padded_blank : (size : ℕ) → Padded size [] (replicate size 0)
padded_blank size = record { long = length-replicate size 0; same = λ i. at i (dec_lt i size) }
  where
    at : (i : ℕ) → Dec (i < size) → get_or (replicate size 0) i 0 ≡ get_or {A = ℕ} [] i 0
    at i (yes l) = get_or-replicate size i 0 0 l
    at i (no h) =
        let e : length (replicate {A = ℕ} size 0) ≡ size = length-replicate size 0 in
        let l : length (replicate {A = ℕ} size 0) ≤ i = omega arith in
        get_or-eq_default (replicate size 0) 0 l

-- as much of the table as the list is long
pub padded_take : {size : ℕ} {list table : List ℕ} (n : ℕ) → n ≡ length list → n ≤ size → Padded size list table → take n table ≡ list
padded_take {size} {list} {table} n e l p =
    let m : length (take n table) ≡ n = simp length-take (omega (arith, p.long)) in
    ext_get_or 0 (take n table) list (m ∙ e) (λ i h. get_or-take n table i 0 (let k : i < n = omega arith in k) ∙ p.same i)

pub padded_unique : {size : ℕ} {list a b : List ℕ} → Padded size list a → Padded size list b → a ≡ b
padded_unique {size} {list} {a} {b} x y = ext_get_or 0 a b (x.long ∙ sym y.long) (λ i l. x.same i ∙ sym (y.same i))

-- the tables as filed, read back from tables that hold them
pub holding_take :
    {file : List ℕ} {n m : ℕ} {t : Tables} → FileSized file → n ≡ vertices_filed file → m ≡ edges_filed file → Holding (filed file).tables t →
    used_parts n m t ≡ (filed file).tables
holding_take {file} {n} {m} sized en em h =
    let o = padded_take n (en ∙ sym (owners_long file)) (omega (arith, sized.few)) h.owners in
    let p = padded_take n (en ∙ sym (priorities_long file)) (omega (arith, sized.few)) h.priorities in
    let s = padded_take (n + 1) (omega (arith, starts_long file)) (omega (arith, sized.few)) h.starts in
    let t = padded_take m (em ∙ sym (targets_long file)) (omega (arith, sized.edges)) h.targets in
    λ i. tables_of (o i) (p i) (s i) (t i)
