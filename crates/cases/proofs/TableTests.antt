-- The verdict on tables, by tests that compute: the first of 1 to 7 that applies, at its lowest place, or success.
use Prim.Native.Nat.{ℕ, suc, ◌+◌, ◌-◌, ◌<◌, ◌≤◌}
use mathlib.Core.Path.{◌≡◌, refl, subst}
use mathlib.Core.Bool.{Bool, not, ◌&&◌, ◌||◌}
use mathlib.Core.Logic.{◌⊎◌, inl, inr, ◌≢◌}
use mathlib.Core.List.{List, [], ◌∷◌}
use native.Mathlib.Omega.{arith}
use lib.Dec.{eqb, leb, ltb}
use lib.ListN.{length, get_or}
use Rattle.refusal.specs.promise.Row.{Said, Gives}
use Rattle.refusal.specs.parts.Found.{Finds}
use Rattle.game.specs.promise.Tables.{Tables, vertices, next_of}
use Rattle.game.specs.promise.Faults.{Fault1, no_vertex, over_2048, differ, not-n+1, over_16384, Fault2, Fault3, Fault4, first, below, last, Fault5, Fault6, Descent, Fault7, table_rows}
use Rattle.game.proofs.Starts.{stretch_place}
use Rattle.winning.specs.parts.Verdict.{Test, lowest, is_at, said_by}
use Rattle.winning.proofs.Reflect.{Tests, tests_map, tests_not, tests_and, tests_or, tests_eq, tests_le, tests_lt}
use Rattle.winning.proofs.Search.{Below, finds_within, tests_some}
use Rattle.winning.proofs.Rows.{Matched, none, row, said_gives}

-- whether the number at i is not above the one before it
abbrev is_descent : List ℕ → ℕ → Bool
is_descent l i = ltb 0 i && ltb i (length l) && leb (get_or l i 0) (get_or l (i - 1) 0)

tests_descent : (l : List ℕ) (i : ℕ) → Tests (Descent l i) (is_descent l i)
tests_descent l i =
    tests_map
    (λ t. record { before = i - 1; follows = omega arith; within = t.0.1; not_above = t.1 })
    (λ d. let e : d.before ≡ i - 1 = omega arith in ((omega arith, d.within), subst (λ b. get_or l i 0 ≤ get_or l b 0) e d.not_above))
    (tests_and (tests_and (tests_lt 0 i) (tests_lt i (length l))) (tests_le (get_or l i 0) (get_or l (i - 1) 0)))

module _ (t : Tables) where
  -- no row applies at this place or above
  abbrev beyond : ℕ
  beyond = suc (vertices t + length t.priorities + length t.starts + length t.targets)

  -- whether 1 to 7 apply at the place x

  abbrev test1 : ℕ → Bool
  test1 x =
      eqb x 0 &&
      (eqb (vertices t) 0 ||
      (ltb 2048 (vertices t) ||
      (not (eqb (vertices t) (length t.priorities)) || (not (eqb (length t.starts) (vertices t + 1)) || ltb 16384 (length t.targets)))))

  abbrev test2 : ℕ → Bool
  test2 x = ltb x (vertices t) && not (ltb (get_or t.owners x 0) 2)

  abbrev test3 : ℕ → Bool
  test3 x = ltb x (length t.priorities) && eqb (get_or t.priorities x 0) 255

  abbrev test4 : ℕ → Bool
  test4 x =
      (eqb x 0 && not (eqb (get_or t.starts 0 0) 0)) ||
      ((ltb 0 x && ltb x (length t.starts) && ltb (get_or t.starts x 0) (get_or t.starts (x - 1) 0)) ||
      (eqb (x + 1) (length t.starts) && not (eqb (get_or t.starts x 0) (length t.targets))))

  abbrev test5 : ℕ → Bool
  test5 x = ltb x (vertices t) && eqb (length (next_of t.starts t.targets x)) 0

  abbrev test6 : ℕ → Bool
  test6 x = ltb x (length t.targets) && leb (vertices t) (get_or t.targets x 0)

  abbrev test7 : ℕ → Bool
  test7 x =
      is_at (lowest (λ v. is_at (lowest (λ i. eqb x (get_or t.starts v 0 + i) && is_descent (next_of t.starts t.targets v) i) (length t.targets))) (vertices t))

  abbrev table_tests : List Test
  table_tests =
      record { number = 1; passes = test1 } ∷
      record { number = 2; passes = test2 } ∷
      record { number = 3; passes = test3 } ∷
      record { number = 4; passes = test4 } ∷
      record { number = 5; passes = test5 } ∷
      record { number = 6; passes = test6 } ∷
      record { number = 7; passes = test7 } ∷ []

  -- the verdict
  abbrev pub table_verdict : Said
  table_verdict = said_by beyond table_tests

  finds1 : Finds (Fault1 t) (lowest test1 beyond)
  finds1 = finds_within _ _ test1 beyond tests to from
    where
      Wrong : ℕ → Type 0
      Wrong x =
          (x ≡ 0) ×
          ((vertices t ≡ 0) ⊎ (2048 < vertices t) ⊎ (vertices t ≢ length t.priorities) ⊎ (length t.starts ≢ vertices t + 1) ⊎ (16384 < length t.targets))

      tests : (x : ℕ) → Tests (Wrong x) (test1 x)
      tests x =
          tests_and (tests_eq x 0)
          (tests_or (tests_eq (vertices t) 0)
          (tests_or (tests_lt 2048 (vertices t))
          (tests_or (tests_not (tests_eq (vertices t) (length t.priorities)))
          (tests_or (tests_not (tests_eq (length t.starts) (vertices t + 1))) (tests_lt 16384 (length t.targets))))))

      to : (x : ℕ) → x < beyond → Wrong x → Fault1 t x
      to x l (e, inl h) = no_vertex e h
      to x l (e, inr (inl h)) = over_2048 e h
      to x l (e, inr (inr (inl h))) = differ e h
      to x l (e, inr (inr (inr (inl h)))) = not-n+1 e h
      to x l (e, inr (inr (inr (inr h)))) = over_16384 e h

      from : (x : ℕ) → Fault1 t x → Below Wrong beyond x
      from x (no_vertex e h) = record { below = omega arith; has = (e, inl h) }
      from x (over_2048 e h) = record { below = omega arith; has = (e, inr (inl h)) }
      from x (differ e h) = record { below = omega arith; has = (e, inr (inr (inl h))) }
      from x (not-n+1 e h) = record { below = omega arith; has = (e, inr (inr (inr (inl h)))) }
      from x (over_16384 e h) = record { below = omega arith; has = (e, inr (inr (inr (inr h)))) }

  finds2 : Finds (Fault2 t.owners) (lowest test2 beyond)
  finds2 =
      finds_within _ _ test2 beyond
      (λ x. tests_and (tests_lt x (vertices t)) (tests_not (tests_lt (get_or t.owners x 0) 2)))
      (λ x l w. record { vertex = w.0; strange = w.1 })
      (λ x f. record { below = omega arith; has = (f.vertex, f.strange) })

  finds3 : Finds (Fault3 t.priorities) (lowest test3 beyond)
  finds3 =
      finds_within _ _ test3 beyond
      (λ x. tests_and (tests_lt x (length t.priorities)) (tests_eq (get_or t.priorities x 0) 255))
      (λ x l w. record { vertex = w.0; top = w.1 })
      (λ x f. record { below = omega arith; has = (f.vertex, f.top) })

  finds4 : Finds (Fault4 t.starts t.targets) (lowest test4 beyond)
  finds4 = finds_within _ _ test4 beyond tests to from
    where
      Wrong : ℕ → Type 0
      Wrong x =
          ((x ≡ 0) × (get_or t.starts 0 0 ≢ 0)) ⊎
          ((((0 < x) × (x < length t.starts)) × (get_or t.starts x 0 < get_or t.starts (x - 1) 0)) ⊎
          ((x + 1 ≡ length t.starts) × (get_or t.starts x 0 ≢ length t.targets)))

      tests : (x : ℕ) → Tests (Wrong x) (test4 x)
      tests x =
          tests_or (tests_and (tests_eq x 0) (tests_not (tests_eq (get_or t.starts 0 0) 0)))
          (tests_or
          (tests_and (tests_and (tests_lt 0 x) (tests_lt x (length t.starts))) (tests_lt (get_or t.starts x 0) (get_or t.starts (x - 1) 0)))
          (tests_and (tests_eq (x + 1) (length t.starts)) (tests_not (tests_eq (get_or t.starts x 0) (length t.targets)))))

      to : (x : ℕ) → x < beyond → Wrong x → Fault4 t.starts t.targets x
      to x l (inl w) = first w.0 w.1
      to x l (inr (inl w)) = below (x - 1) (omega arith) w.0.1 w.1
      to x l (inr (inr w)) = last w.0 w.1

      from : (x : ℕ) → Fault4 t.starts t.targets x → Below Wrong beyond x
      from x (first e h) = record { below = omega arith; has = inl (e, h) }
      from x (below b e l h) =
          let before : b ≡ x - 1 = omega arith in
          record { below = omega arith; has = inr (inl ((omega arith, l), subst (λ k. get_or t.starts x 0 < get_or t.starts k 0) before h)) }
      from x (last e h) = record { below = omega arith; has = inr (inr (e, h)) }

  finds5 : Finds (Fault5 (vertices t) t.starts t.targets) (lowest test5 beyond)
  finds5 =
      finds_within _ _ test5 beyond
      (λ x. tests_and (tests_lt x (vertices t)) (tests_eq (length (next_of t.starts t.targets x)) 0))
      (λ x l w. record { vertex = w.0; stuck = w.1 })
      (λ x f. record { below = omega arith; has = (f.vertex, f.stuck) })

  finds6 : Finds (Fault6 (vertices t) t.targets) (lowest test6 beyond)
  finds6 =
      finds_within _ _ test6 beyond
      (λ x. tests_and (tests_lt x (length t.targets)) (tests_le (vertices t) (get_or t.targets x 0)))
      (λ x l w. record { place = w.0; outside = w.1 })
      (λ x f. record { below = omega arith; has = (f.place, f.outside) })

  finds7 : Finds (Fault7 (vertices t) t.starts t.targets) (lowest test7 beyond)
  finds7 = finds_within _ _ test7 beyond tests to from
    where
      -- the place i of v's stretch is the place x of the targets, and is wrong
      At : ℕ → ℕ → ℕ → Type 0
      At x v i = (x ≡ get_or t.starts v 0 + i) × Descent (next_of t.starts t.targets v) i

      In : ℕ → ℕ → Type 0
      In x v = (i : ℕ) × Below (At x v) (length t.targets) i

      Wrong : ℕ → Type 0
      Wrong x = (v : ℕ) × Below (In x) (vertices t) v

      tests : (x : ℕ) → Tests (Wrong x) (test7 x)
      tests x =
          tests_some (In x) _
          (λ v. tests_some (At x v) _ (λ i. tests_and (tests_eq x (get_or t.starts v 0 + i)) (tests_descent (next_of t.starts t.targets v) i)) (length t.targets))
          (vertices t)

      to : (x : ℕ) → x < beyond → Wrong x → Fault7 (vertices t) t.starts t.targets x
      to x l w =
          let i = w.1.has in
          record { vertex = w.0; is_vertex = w.1.below; at = i.0; place = i.1.has.0; descent = i.1.has.1 }

      from : (x : ℕ) → Fault7 (vertices t) t.starts t.targets x → Below Wrong beyond x
      from x f =
          let l = stretch_place t.starts t.targets f.vertex f.at f.descent.within in
          record {
            below = omega arith;
            has = (f.vertex, record { below = f.is_vertex; has = (f.at, record { below = omega arith; has = (f.place, f.descent) }) });
          }

  pub table_gives : Gives (table_rows t) table_verdict
  table_gives =
      let m : Matched beyond (table_rows t) table_tests =
      row refl finds1 (row refl finds2 (row refl finds3 (row refl finds4 (row refl finds5 (row refl finds6 (row refl finds7 none))))))
      in
      said_gives m
