-- The blocks in turn: the first that is refused, after blocks that pass, decides.
use Prim.Native.Nat.{ℕ, zero, suc, ◌+◌, ◌-◌, ◌<◌, ◌≤◌}
use mathlib.Core.Path.{◌≡◌, sym, subst}
use mathlib.Core.List.{List}
use native.Mathlib.Omega.{arith}
use native.Mathlib.Nat.{not-suc-le-zero, le_of_suc-le-suc, add-zero}
use native.Mathlib.Decide.{ℕ_discrete}
use Rattle.std.specs.Prelude.{Result, Err}
use Rattle.refusal.specs.promise.Row.{None, First, Gives}
use Rattle.refusal.specs.promise.Number.{number_of, tested_said}
use Rattle.refusal.specs.declared.Refusal.{Refusal}
use Rattle.refusal.proofs.Rows.{first_left, first_right, none_append, none_left, none_right}
use Rattle.format.specs.promise.Format.{blocks_of, vertex_blocks, target_blocks}
use Rattle.format.specs.promise.Filed.{vertices_filed, edges_filed}
use Rattle.format.specs.promise.Faults.{block_rows, blocks_rows, turn_rows}
use Rattle.format.specs.parts.Tests.{Present, FileSized}

module _ (file : List ℕ) where
  later : (P : ℕ → Type 0) (b i : ℕ) → P (b + suc i) → P (suc b + i)
  later P b i p = let e : b + suc i ≡ suc b + i = omega arith in subst P e p

  sooner : (P : ℕ → Type 0) (b i : ℕ) → P (suc b + i) → P (b + suc i)
  sooner P b i p = let e : suc b + i ≡ b + suc i = omega arith in subst P e p

  turn_first : (b k j number place : ℕ) → j < k → ((i : ℕ) → i < j → None (block_rows file (b + i))) → First (block_rows file (b + j)) number place → First (blocks_rows file b k) number place
  turn_first b zero j number place l none f = absurd (not-suc-le-zero l)
  turn_first b (suc k) zero number place l none f = first_left (block_rows file b) (blocks_rows file (suc b) k) number place (subst (λ (c : ℕ). First (block_rows file c) number place) (add-zero b) f)
  turn_first b (suc k) (suc j) number place l none f =
      first_right (block_rows file b) (blocks_rows file (suc b) k) number place (subst (λ (c : ℕ). None (block_rows file c)) (add-zero b) (none 0 (omega arith)))
      (turn_first (suc b) k j number place (le_of_suc-le-suc l) (λ i m. later (λ c. None (block_rows file c)) b i (none (suc i) (omega arith))) (later (λ c. First (block_rows file c) number place) b j f))

  pub turn_none : (b k : ℕ) → ((i : ℕ) → i < k → None (block_rows file (b + i))) → None (blocks_rows file b k)
  turn_none b zero none = tt
  turn_none b (suc k) none =
      none_append (block_rows file b) (blocks_rows file (suc b) k) (subst (λ (c : ℕ). None (block_rows file c)) (add-zero b) (none 0 (omega arith)))
      (turn_none (suc b) k (λ i l. later (λ c. None (block_rows file c)) b i (none (suc i) (omega arith))))

  pub turn_each : (b k : ℕ) → None (blocks_rows file b k) → (i : ℕ) → i < k → None (block_rows file (b + i))
  turn_each b zero none i l = absurd (not-suc-le-zero l)
  turn_each b (suc k) none zero l = let e : b ≡ b + 0 = omega arith in subst (λ (c : ℕ). None (block_rows file c)) e (none_left (block_rows file b) (blocks_rows file (suc b) k) none)
  turn_each b (suc k) none (suc i) l = sooner (λ c. None (block_rows file c)) b i (turn_each (suc b) k (none_right (block_rows file b) (blocks_rows file (suc b) k) none) i (le_of_suc-le-suc l))

-- the loop: the blocks after block 0 pass, those before b
pub record Passing (file : List ℕ) (b : ℕ) : Type 0 where
  pub clear : (i : ℕ) → 1 ≤ i → i < b → None (block_rows file i)

pub passing_none : {file : List ℕ} → Passing file 1
passing_none = record { clear = λ i l m. absurd (omega arith) }

pub passing_more : {file : List ℕ} {b : ℕ} → Passing file b → None (block_rows file b) → Passing file (b + 1)
passing_more {file} {b} p here = record { clear = λ i l m. elim (ℕ_discrete i b) [ yes e ↦ subst (λ (k : ℕ). None (block_rows file k)) (sym e) here | no ne ↦ p.clear i l (omega arith) ] }

module _ (file : List ℕ) (all : ℕ) (is : all ≡ blocks_of (vertices_filed file) (edges_filed file)) (b : ℕ) where
  -- how many blocks follow block 0
  behind : all - 1 ≡ vertex_blocks (vertices_filed file) + target_blocks (edges_filed file)
  behind = omega arith

  -- the next is refused, and so the file is
  pub passing_first : {t q : Result Unit Refusal} {r : Refusal} → Passing file b → 1 ≤ b → b < all → Gives (block_rows file b) (tested_said t) → t ≡ Err r → q ≡ Err r → Gives (turn_rows file) (tested_said q)
  passing_first {r = r} p l m g e d =
      let f : First (block_rows file b) (number_of r.kind) r.place = subst (λ (q : Result Unit Refusal). Gives (block_rows file b) (tested_said q)) e g in
      let k : b ≡ 1 + (b - 1) = omega arith in
      let first = turn_first file 1 (all - 1) (b - 1) (number_of r.kind) r.place (omega arith) (λ i n. p.clear (1 + i) (omega arith) (omega arith)) (subst (λ (k : ℕ). First (block_rows file k) (number_of r.kind) r.place) k f) in
      subst (λ (q : Result Unit Refusal). Gives (turn_rows file) (tested_said q)) (sym d) (subst (λ (k : ℕ). First (blocks_rows file 1 k) (number_of r.kind) r.place) behind first)

  pub passing_all : Passing file b → all ≤ b → None (turn_rows file)
  passing_all p l = subst (λ (k : ℕ). None (blocks_rows file 1 k)) behind (turn_none file 1 (all - 1) (λ i m. p.clear (1 + i) (omega arith) (omega arith)))

  pub passing_present : FileSized file → b < all → Present file b
  passing_present s l = record { room = omega (arith, s.long); counted = omega arith }
