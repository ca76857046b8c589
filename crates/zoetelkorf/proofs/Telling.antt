-- From what an entry point says to what a C caller gets, over any promise and any answer.
use Prim.Native.Nat.{ℕ, ◌<◌}
use mathlib.Core.Path.{◌≡◌, ap, subst}
use mathlib.Core.List.{List}
use native.Mathlib.Omega.{arith}
use lib.ListN.{get_or}
use Rattle.std.specs.Prelude.{Result, Ok}
use Rattle.refusal.specs.declared.Refusal.{Refusal}
use Rattle.refusal.specs.promise.Row.{Said}
use Rattle.game.specs.promise.Tables.{Tables}
use Rattle.housefile.specs.declared.Header.{Header}
use Rattle.format.specs.promise.Filed.{vertices_filed, edges_filed}
use Rattle.housefile.specs.promise.Reading.{read_said, Reads}
use Rattle.told.specs.promise.Told.{number_said, value_said, Told}

module _ (A : Type 0) (said : A → Said) (P : Said → Type 0) where
  -- an answer whose case is known
  pub told : {a b : A} {number value : ℕ} → a ≡ b → P (said a) → number ≡ number_said (said b) → value ≡ value_said (said b) → Told P number value
  told {b} e p n v = record { said = said b; promise = subst (λ (x : A). P (said x)) e p; number_is = n; value_is = v }

-- the sizes that a file gives are two-byte numbers
pub sizes_small : (file : List ℕ) (before after : Tables) {t : Result Header Refusal} {h : Header} → ((i : ℕ) → get_or file i 0 < 256) → t ≡ Ok h → Reads file before after (read_said t) → (h.vertices < 65536) × (h.edges < 65536)
sizes_small file before after {t} {h} bytes e r =
    let taken = subst (λ (x : Result Header Refusal). Reads file before after (read_said x)) e r in
    let n : h.vertices ≡ vertices_filed file = ap (λ (l : List ℕ). get_or l 0 0) taken.values_are in
    let m : h.edges ≡ edges_filed file = ap (λ (l : List ℕ). get_or l 1 0) taken.values_are in
    (omega (arith, bytes 6, bytes 7), omega (arith, bytes 8, bytes 9))
