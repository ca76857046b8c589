-- Which vertices lean on v, by support steps, is decided.
use Prim.Native.Nat.{ℕ}
use mathlib.Core.Bool.{Bool, ◌&&◌}
use lib.Dec.{eqb}
use Rattle.game.specs.promise.Game.{Game}
use Rattle.winning.specs.promise.Walk.{Walk, stay, step}
use Rattle.winning.specs.parts.Verdict.{is_recorded}
use Rattle.winning.proofs.Reflect.{Tests, tests_dec, tests_map, tests_and, tests_eq}
use Rattle.winning.proofs.Verdict.{tests_recorded}
use Rattle.winning.proofs.Reachable.{walk_tests}
use Rattle.justification.specs.parts.Safe.{Support}
use Rattle.justification.specs.parts.Step.{Leaning}

module _ (g : Game) (mark move settled : ℕ → ℕ) where
  -- whether a support step leads from v to w: v is settled, and w follows it by the recorded moves
  abbrev is_support : ℕ → ℕ → Bool
  is_support v w = eqb (settled v) 1 && is_recorded g mark move v w

  tests_support : (v w : ℕ) → Tests (Support g mark move settled v w) (is_support v w)
  tests_support v w =
      tests_map
      (λ t. record { justified = t.0; edge = t.1.edge; fixed = t.1.fixed })
      (λ s. (s.justified, record { edge = s.edge; fixed = s.fixed }))
      (tests_and (tests_eq (settled v) 1) (tests_recorded g mark move v w))

  pub decide_leaning : (v u : ℕ) → Dec (Walk (Support g mark move settled) u v)
  decide_leaning v u = tests_dec (walk_tests tests_support g.n (λ x y s. s.edge.from) u v)

  pub leaning : (v : ℕ) → Leaning g mark move settled v (λ u. Walk (Support g mark move settled) u v)
  leaning v = record { decided = λ u h. decide_leaning v u; leads = λ u h w. w; itself = stay; closed = λ u w s a. step s a }
