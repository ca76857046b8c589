-- The number of vertices with a property: there is one such number, and flags of the property count it.
use Prim.Native.Nat.{ℕ, zero, suc, min, ◌+◌, ◌<◌}
use mathlib.Core.Path.{◌≡◌, refl, ap, subst}
use mathlib.Core.Logic.{◌↔◌}
use mathlib.Core.List.{List}
use native.Mathlib.Decide.{ℕ_discrete}
use native.Mathlib.Nat.{lt-suc_self}
use native.Mathlib.Omega.{arith}
use lib.ListN.{get_or}
use Rattle.lists.specs.parts.Cells.{count}
use Rattle.amend.specs.promise.Amended.{CountOf, none, one, skip}
use Rattle.amend.specs.parts.Marking.{Flags}

pub count_unique : {P : ℕ → Type 0} {n c d : ℕ} → CountOf P n c → CountOf P n d → c ≡ d
count_unique none none = refl
count_unique (one p a) (one q b) = ap suc (count_unique a b)
count_unique (one p a) (skip h b) = absurd (h p)
count_unique (skip h a) (one q b) = absurd (h q)
count_unique (skip h a) (skip k b) = count_unique a b

-- the same number for a property that holds at the same vertices
pub count_map : {P Q : ℕ → Type 0} {n c : ℕ} → ((v : ℕ) → v < n → P v ↔ Q v) → CountOf P n c → CountOf Q n c
count_map same none = none
count_map same (one {n} p a) = one ((same n (lt-suc_self n)).0 p) (count_map (λ v l. same v (omega arith)) a)
count_map same (skip {n} h a) = skip (λ q. h ((same n (lt-suc_self n)).1 q)) (count_map (λ v l. same v (omega arith)) a)

fewer : {P : ℕ → Type 0} {n : ℕ} {flags : List ℕ} → Flags P (suc n) flags → Flags P n flags
fewer f =
    record {
      flag = λ v l. f.flag v (omega arith);
      holds = λ v l. f.holds v (omega arith);
      marked = λ v l. f.marked v (omega arith);
    }

pub count_of : (P : ℕ → Type 0) (n : ℕ) (flags : List ℕ) → Flags P n flags → CountOf P n (count n flags)
count_of P zero flags f = none
count_of P (suc n) flags f = at (ℕ_discrete (get_or flags n 0) 1) (count_of P n flags (fewer f))
  where
    at : Dec (get_or flags n 0 ≡ 1) → CountOf P n (count n flags) → CountOf P (suc n) (min 1 (get_or flags n 0) + count n flags)
    at (yes e) below =
        let c : suc (count n flags) ≡ min 1 (get_or flags n 0) + count n flags = omega arith in
        subst (CountOf P (suc n)) c (one (f.holds n (lt-suc_self n) e) below)
    at (no h) below =
        let b = f.flag n (lt-suc_self n) in
        let c : count n flags ≡ min 1 (get_or flags n 0) + count n flags = omega arith in
        subst (CountOf P (suc n)) c (skip (λ p. h (f.marked n (lt-suc_self n) p)) below)
