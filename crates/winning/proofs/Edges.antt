-- Whether there is an edge is decided: its ends are compared with n and the list of successors is searched.
use Prim.Native.Nat.{ℕ, zero, suc, ◌<◌}
use mathlib.Core.Path.{◌≡◌}
use mathlib.Core.Logic.{◌⊎◌, inl, inr, ⊎_elim}
use mathlib.Core.List.{List, [], ◌∷◌}
use lib.ListN.{length, get_or}
use native.Mathlib.Nat.{not-suc-le-zero, le_of_suc-le-suc, zero-lt-suc}
use native.Mathlib.Omega.{arith}
use Rattle.game.specs.promise.Game.{Game, Listed, Edge}
use Rattle.winning.specs.parts.Verdict.{is_listed, is_edge}
use Rattle.winning.proofs.Reflect.{Tests, fails, tests_dec, tests_map, tests_and, tests_or, tests_eq, tests_lt}

-- what is listed is the first or listed after it
listed_cases : {w x : ℕ} {l : List ℕ} → Listed w (x ∷ l) → (x ≡ w) ⊎ Listed w l
listed_cases {w} {x} {l} h = at h.at h.within h.is
  where
    at : (i : ℕ) → i < length (x ∷ l) → get_or (x ∷ l) i 0 ≡ w → (x ≡ w) ⊎ Listed w l
    at zero i e = inl e
    at (suc i) m e = inr (record { at = i; within = le_of_suc-le-suc m; is = e })

pub tests_listed : (w : ℕ) (l : List ℕ) → Tests (Listed w l) (is_listed w l)
tests_listed w [] = fails (λ h. not-suc-le-zero h.within)
tests_listed w (x ∷ l) = tests_map (⊎_elim first after) listed_cases (tests_or (tests_eq x w) (tests_listed w l))
  where
    first : x ≡ w → Listed w (x ∷ l)
    first e = record { at = 0; within = zero-lt-suc (length l); is = e }

    after : Listed w l → Listed w (x ∷ l)
    after h = record { at = suc h.at; within = omega arith; is = h.is }

pub tests_edge : (g : Game) (v w : ℕ) → Tests (Edge g v w) (is_edge g v w)
tests_edge g v w =
    tests_map (λ t. record { from = t.0.0; to = t.0.1; listed = t.1 }) (λ e. ((e.from, e.to), e.listed))
    (tests_and (tests_and (tests_lt v g.n) (tests_lt w g.n)) (tests_listed w (g.next v)))

pub decide_edge : (g : Game) (v w : ℕ) → Dec (Edge g v w)
decide_edge g v w = tests_dec (tests_edge g v w)
