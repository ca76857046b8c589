-- A refusal with a number below 8 is one of a game's tables; the second game's are those, 20 higher.
use Prim.Native.Nat.{ℕ, zero, suc, ◌+◌, ◌<◌}
use mathlib.Core.Path.{◌≡◌, refl, sym, ap, ◌∙◌}
use native.Mathlib.Omega.{arith}
use Rattle.refusal.specs.promise.Number.{number_of}
use Rattle.refusal.proofs.Numbers.{number_injective, number_some}
use Rattle.refusal.specs.declared.TableFault.{TableFault}
use Rattle.refusal.specs.declared.TableFault.TheVariants as table
use Rattle.refusal.specs.declared.Kind.{Kind}
use Rattle.refusal.specs.declared.Kind.TheVariants.{Game, Second}

-- which one, by the number: kinds that are added later have others
table_of : (k : Kind) → number_of k < 8 → (f : TableFault) × (k ≡ Game f)
table_of k = at (number_of k) refl
  where
    is : (f : TableFault) → number_of k ≡ number_of (Game f) → (f : TableFault) × (k ≡ Game f)
    is f e = (f, number_injective k (Game f) e)

    at : (i : ℕ) → number_of k ≡ i → i < 8 → (f : TableFault) × (k ≡ Game f)
    at zero e l = absurd (number_some k e)
    at (suc zero) e l = is table.Sizes e
    at (suc (suc zero)) e l = is table.Owner e
    at (suc (suc (suc zero))) e l = is table.Priority e
    at (suc (suc (suc (suc zero)))) e l = is table.Start e
    at (suc (suc (suc (suc (suc zero))))) e l = is table.Stuck e
    at (suc (suc (suc (suc (suc (suc zero)))))) e l = is table.Target e
    at (suc (suc (suc (suc (suc (suc (suc zero))))))) e l = is table.Order e
    at (suc (suc (suc (suc (suc (suc (suc (suc i)))))))) e l = absurd (let z : ⊥ = omega arith in z)

pub second_number : (k r : Kind) → ((f : TableFault) → k ≡ Game f → r ≡ Second f) → number_of k < 8 → number_of r ≡ 20 + number_of k
second_number k r h l =
    let t = table_of k l in
    ap number_of (h t.0 t.1) ∙ ap (λ (n : ℕ). 20 + n) (sym (ap number_of t.1))
