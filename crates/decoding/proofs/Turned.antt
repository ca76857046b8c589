-- The priorities turned in their place, each taken from the highest.
use Prim.Native.Nat.{ℕ, ◌-◌, ◌<◌, ◌≤◌}
use mathlib.Core.Path.{◌≡◌, sym, ap, ap₂, ◌∙◌}
use mathlib.Core.List.{List, ◌++◌}
use native.Mathlib.Omega.{arith}
use lib.ListN.{length, get_or, take, drop, length-take}
use Rattle.format.specs.promise.Format.{highest_of, turned_of}
use Rattle.format.proofs.Turning.{turned_long, turned_over}
use Rattle.decoding.specs.promise.Holding.{Padded}
use Rattle.decoding.proofs.Padding.{padded_take}
use Rattle.decoding.proofs.Filling.{padded_front}

-- the first n of the table are the list, and so is their highest
pub top_highest : {size n top : ℕ} {list table : List ℕ} → n ≡ length list → n ≤ size → Padded size list table → top ≡ highest_of (take n table) → top ≡ highest_of list
top_highest {n = n} long within p e = e ∙ ap highest_of (padded_take n long within p)

-- the first n are turned, n being the length of the list, and what follows is left
pub padded_turned :
    (rule : ℕ) {size n top : ℕ} {list table : List ℕ} (cells : List ℕ) → ¬ (rule ≡ 0) → n ≡ length list → n ≤ size → top ≡ highest_of list → Padded size list table →
    length cells ≡ length (take n table) → ((k : ℕ) → k < length (take n table) → get_or cells k 0 ≡ top - get_or table k 0) → Padded size (turned_of rule list) (cells ++ drop n table)
padded_turned rule {n = n} {list = list} {table = table} cells lowest long within highest p e turned =
    padded_front cells p (omega arith) (long ∙ sym (turned_long rule list)) within e
    (λ k l. turned k l ∙ ap₂ ◌-◌ highest (p.same k) ∙ sym (turned_over rule list k lowest (omega (arith, length-take n table))))
