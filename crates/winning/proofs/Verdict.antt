-- The verdict that computes is what the rows 11 to 14 give.
use Prim.Native.Nat.{ℕ, ◌<◌}
use mathlib.Core.Path.{◌≡◌, refl}
use mathlib.Core.Logic.{◌⊎◌, inl, inr, ◌≢◌, ◌↔◌}
use mathlib.Core.List.{◌∷◌}
use native.Mathlib.Nat.{le_refl}
use Rattle.player.specs.promise.Player.{IsPlayer, parity_of}
use Rattle.refusal.specs.promise.Row as rows
use Rattle.refusal.specs.promise.Row.{Gives}
use Rattle.refusal.specs.parts.Found.{Finds}
use Rattle.game.specs.promise.Game.{Game, Edge}
use Rattle.winning.specs.parts.Low.{Low}
use Rattle.winning.specs.promise.Answer.{no_move}
use Rattle.winning.specs.promise.Faults.{Recorded, Fault12, own, other, Fault13, Fault14, answer_rows}
use Rattle.winning.specs.parts.Verdict.{lowest, is_own, is_recorded, is_recorded_below, test11, test12, test13, test14, answer_tests, verdict_of}
use Rattle.winning.proofs.Reflect.{Tests, tests_map, tests_not, tests_and, tests_or, tests_implies, tests_eq, tests_le, tests_lt}
use Rattle.winning.proofs.Edges.{tests_edge}
use Rattle.winning.proofs.Reachable.{Via, via_tests, via_step, step_via}
use Rattle.winning.proofs.Search.{Below, finds_within, tests_some}
use Rattle.winning.proofs.Rows.{Matched, none, row, said_gives}
use Rattle.winning.proofs.Cycles.{round_of, cycle_of}

module _ (g : Game) (mark move : ℕ → ℕ) where
  tests_own : (v : ℕ) → Tests (g.owner v ≡ mark v) (is_own g mark move v)
  tests_own v = tests_eq (g.owner v) (mark v)

  pub tests_recorded : (v w : ℕ) → Tests (Recorded g mark move v w) (is_recorded g mark move v w)
  tests_recorded v w =
      tests_map (λ t. record { edge = t.0; fixed = t.1 }) (λ r. (r.edge, r.fixed))
      (tests_and (tests_edge g v w) (tests_implies (tests_own v) (tests_eq w (move v))))

  tests_low : (k v w : ℕ) → Tests (Low g (Recorded g mark move) k v w) (is_recorded_below g mark move k v w)
  tests_low k v w =
      tests_map (λ t. record { taken = t.0; low = t.1 }) (λ r. (r.taken, r.low))
      (tests_and (tests_recorded v w) (tests_le (g.priority v) k))

  -- What each row says of a vertex.

  abbrev Wrong11 : ℕ → Type 0
  Wrong11 x = ¬ IsPlayer (mark x)

  abbrev Wrong12 : ℕ → Type 0
  Wrong12 x =
      ((g.owner x ≡ mark x) × ¬ (Edge g x (move x) × (mark (move x) ≡ mark x))) ⊎
      ((g.owner x ≢ mark x) × (move x ≢ no_move))

  abbrev Escape : ℕ → ℕ → Type 0
  Escape x w = Edge g x w × (mark w ≢ mark x)

  abbrev Wrong13 : ℕ → Type 0
  Wrong13 x = (g.owner x ≢ mark x) × ((w : ℕ) × Below (Escape x) g.n w)

  abbrev Wrong14 : ℕ → Type 0
  Wrong14 x = (parity_of (g.priority x) ≢ mark x) × Via (Low g (Recorded g mark move) (g.priority x)) g.n x x

  -- row 11 is about how marks are stored: F says at which vertices a mark is no player
  finds11 : (F : ℕ → Type 0) → ((x : ℕ) → F x ↔ ((x < g.n) × Wrong11 x)) → Finds F (lowest (test11 g mark move) g.n)
  finds11 F is =
      finds_within Wrong11 F (test11 g mark move) g.n
      (λ x. tests_not (tests_lt (mark x) 2))
      (λ x l h. (is x).1 (l, h))
      (λ x f. record { below = ((is x).0 f).0; has = ((is x).0 f).1 })

  finds12 : Finds (Fault12 g mark move) (lowest (test12 g mark move) g.n)
  finds12 = finds_within Wrong12 (Fault12 g mark move) (test12 g mark move) g.n tests to from
    where
      tests : (x : ℕ) → Tests (Wrong12 x) (test12 g mark move x)
      tests x =
          tests_or
          (tests_and (tests_own x) (tests_not (tests_and (tests_edge g x (move x)) (tests_eq (mark (move x)) (mark x)))))
          (tests_and (tests_not (tests_own x)) (tests_not (tests_eq (move x) no_move)))

      to : (x : ℕ) → x < g.n → Wrong12 x → Fault12 g mark move x
      to x l (inl t) = own l t.0 t.1
      to x l (inr t) = other l t.0 t.1

      from : (x : ℕ) → Fault12 g mark move x → Below Wrong12 g.n x
      from x (own l e h) = record { below = l; has = inl (e, h) }
      from x (other l e h) = record { below = l; has = inr (e, h) }

  finds13 : Finds (Fault13 g mark move) (lowest (test13 g mark move) g.n)
  finds13 =
      finds_within Wrong13 (Fault13 g mark move) (test13 g mark move) g.n
      (λ x. tests_and (tests_not (tests_own x)) (tests_some (Escape x) _ (λ w. tests_and (tests_edge g x w) (tests_not (tests_eq (mark w) (mark x)))) g.n))
      (λ x l t. record { loser = t.0; successor = t.1.0; edge = t.1.1.has.0; differs = t.1.1.has.1 })
      (λ x f. record { below = f.edge.from; has = (f.loser, (f.successor, record { below = f.edge.to; has = (f.edge, f.differs) })) })

  finds14 : Finds (Fault14 g mark move) (lowest (test14 g mark move) g.n)
  finds14 =
      finds_within Wrong14 (Fault14 g mark move) (test14 g mark move) g.n
      (λ x. tests_and (tests_not (tests_eq (parity_of (g.priority x)) (mark x))) (via_tests (tests_low (g.priority x)) g.n x x))
      to from
    where
      to : (x : ℕ) → x < g.n → Wrong14 x → Fault14 g mark move x
      to x l t =
          let s = via_step t.1 in
          let c = cycle_of g (Recorded g mark move) x s.0 s.1.taken s.2 in
          record { rest = c.0; cycle = c.1; own_highest = c.2; lost = t.0 }

      from : (x : ℕ) → Fault14 g mark move x → Below Wrong14 g.n x
      from x f =
          let r = round_of g (Recorded g mark move) x f.rest f.cycle f.own_highest in
          let s : Low g (Recorded g mark move) (g.priority x) x r.0 = record { taken = r.1; low = le_refl (g.priority x) } in
          record { below = r.1.edge.from; has = (f.lost, step_via (λ y z t. t.taken.edge.from) s r.2) }

  pub verdict_gives : (F : ℕ → Type 0) → ((x : ℕ) → F x ↔ ((x < g.n) × Wrong11 x)) → Gives (rows.row 11 F ∷ answer_rows g mark move) (verdict_of g mark move)
  verdict_gives F is =
      let m : Matched g.n (rows.row 11 F ∷ answer_rows g mark move) (answer_tests g mark move) = row refl (finds11 F is) (row refl finds12 (row refl finds13 (row refl finds14 none))) in
      said_gives m
