-- A vertex's support leads to no open vertex below its floor.
use Prim.Native.Nat.{ℕ, ◌+◌, ◌<◌, ◌≤◌}
use mathlib.Core.Path.{◌≡◌, refl, sym, ap, subst, ◌∙◌}
use mathlib.Core.Logic.{◌≢◌}
use mathlib.Core.List.{List}
use native.Mathlib.Decide.{ℕ_discrete}
use native.Mathlib.Omega.{arith}
use lib.ListN.{length, get_or, set}
use lib.Seq.{get_or-set_same, get_or-set_other}
use Rattle.game.specs.promise.Game.{Game}
use Rattle.justification.specs.parts.Safe.{Safe, Above, Levelled}
use Rattle.justification.proofs.Eligible.{open_above, safe_above}
use Rattle.space.specs.parts.Work.{section}
use Rattle.space.specs.declared.desk.Desk.{Desk}
use Rattle.space.specs.parts.Desk.{Laid, put_level}
use Rattle.space.proofs.Desks.{laid_level}
use Rattle.levels.specs.parts.Levels.{settled_of, level_of, LevelSet, LevelsOnly, FloorOf, ByPriority}
use Rattle.levels.proofs.Flags.{flag_settled, settled_flag}

-- a level is written on the desk
module _ {d d' : Desk} (v x : ℕ) (is : d' ≡ put_level v x d) (laid : Laid d) where
  pub level_set : v < 2048 → LevelSet d.levels d'.levels v x
  unfolding level_of
  level_set l =
      let e : d'.levels ≡ set d.levels v x = ap (λ (y : Desk). y.levels) is in
      record {
        here = ap (λ (y : List ℕ). get_or y v 0) e ∙ get_or-set_same d.levels v x 0 (omega (arith, laid.levels_long));
        other = λ u ne. ap (λ (y : List ℕ). get_or y u 0) e ∙ get_or-set_other d.levels v u x 0 ne;
      }

  pub level_only : LevelsOnly d d'
  level_only =
      record {
        laid = laid_level v x is laid;
        firsts = ap (λ (y : Desk). y.firsts) is;
        lasts = ap (λ (y : Desk). y.lasts) is;
        waiting = ap (λ (y : Desk). y.waiting) is;
        pile = ap (λ (y : Desk). y.pile) is;
      }

pub levels_none : {d : Desk} → Laid d → LevelsOnly d d
levels_none l = record { laid = l; firsts = refl; lasts = refl; waiting = refl; pile = refl }

pub levels_more : {a b c : Desk} → LevelsOnly a b → LevelsOnly b c → LevelsOnly a c
levels_more x y =
    record {
      laid = y.laid;
      firsts = y.firsts ∙ x.firsts;
      lasts = y.lasts ∙ x.lasts;
      waiting = y.waiting ∙ x.waiting;
      pile = y.pile ∙ x.pile;
    }

-- the two branches of `floor`
module _ {t x : ℕ} {priorities levels work : List ℕ} (is : x ≡ get_or (section 0 (length priorities) work) t 0) where
  pub floor_settled : {r : ℕ} → x ≡ 0 → r ≡ get_or levels t 0 → FloorOf t priorities levels work r
  unfolding level_of
  floor_settled e r = record { settled = λ s. r; unsettled = λ f. absurd (f (flag_settled (length priorities) work t (sym is ∙ e))) }

  pub floor_open : x ≢ 0 → FloorOf t priorities levels work (get_or priorities t 0)
  floor_open f = record { settled = λ s. absurd (f (is ∙ settled_flag (length priorities) work t s)); unsettled = λ s. refl }

-- what the floor is for
pub floor_above :
    (g : Game) (mark move : ℕ → ℕ) {t r : ℕ} {priorities levels work : List ℕ} →
    ((v : ℕ) → g.priority v ≡ get_or priorities v 0) →
    Levelled g mark move (settled_of (length priorities) work) (level_of levels) →
    t < g.n →
    FloorOf t priorities levels work r →
    Above g mark move (settled_of (length priorities) work) t r
floor_above g mark move {t} {r} {priorities} {levels} {work} same levelled l f =
    elim (ℕ_discrete (settled_of (length priorities) work t) 1) [
      | yes s ↦ subst (Above g mark move (settled_of (length priorities) work) t) (sym (f.settled s)) (levelled.above t l s)
      | no s ↦ subst (Above g mark move (settled_of (length priorities) work) t) (same t ∙ sym (f.unsettled s)) (open_above g mark move (settled_of (length priorities) work) s)
    ]

-- the vertices below v have their priorities as levels
pub record Levelling (priorities : List ℕ) (d₀ d : Desk) (v : ℕ) : Type 0 where
  pub only : LevelsOnly d₀ d
  pub level : (u : ℕ) → u < v → level_of d.levels u ≡ get_or priorities u 0

pub levelling_more : {priorities : List ℕ} {d₀ d d' : Desk} {v x : ℕ} → Levelling priorities d₀ d v → x ≡ get_or priorities v 0 → v < 2048 → d' ≡ put_level v x d → Levelling priorities d₀ d' (v + 1)
levelling_more {priorities} {d₀} {d} {d'} {v} {x} s e l is =
    record {
      only = levels_more s.only (level_only v x is s.only.laid);
      level = λ u m. elim (ℕ_discrete u v) [ yes q ↦ subst (λ (k : ℕ). level_of d'.levels k ≡ get_or priorities k 0) (sym q) (y.here ∙ e) | no ne ↦ y.other u ne ∙ s.level u (omega arith) ];
    }
  where
    y : LevelSet d.levels d'.levels v x
    y = level_set v x is s.only.laid l

-- a safe state is levelled by its priorities
pub priority_levelled :
    (g : Game) (mark move settled : ℕ → ℕ) {priorities : List ℕ} {d d' : Desk} →
    ((v : ℕ) → g.priority v ≡ get_or priorities v 0) →
    g.n ≤ length priorities →
    Safe g mark move settled →
    ByPriority priorities d d' →
    Levelled g mark move settled (level_of d'.levels)
priority_levelled g mark move settled same long safe b =
    record { above = λ v l s. subst (Above g mark move settled v) (same v ∙ sym (b.level v (omega arith))) (safe_above g mark move settled safe l) }
