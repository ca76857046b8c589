-- Gathering the new ones of a line: whoever is looked at stands in it.
use Prim.Native.Nat.{ℕ}
use mathlib.Core.Path.{◌≡◌, sym, subst, ◌∙◌}
use mathlib.Core.Logic.{◌≢◌}
use mathlib.Core.List.{List}
use native.Mathlib.Decide.{ℕ_discrete}
use native.Mathlib.Omega.{arith}
use lib.ListN.{get_or}
use Rattle.space.specs.parts.Work.{nil, section, Cell}
use Rattle.space.specs.declared.desk.Desk.{Desk}
use Rattle.space.specs.parts.Desk.{Laid}
use Rattle.waiting.specs.parts.Lines.{Waits}
use Rattle.waiting.specs.parts.Moves.{LinesOf, Standing}
use Rattle.pick.specs.parts.Order.{Frontable, Dropped}
use Rattle.pick.proofs.Picking.{standing_dropped}
use Rattle.waiting.proofs.Stamps.{lines_agree}
use Rattle.pile.specs.parts.Pile.{Piled}
use Rattle.sweep.specs.parts.Gathering.{Lookable, SameWait, Looked, Gathered}
use Rattle.sweep.proofs.Looking.{same_more}

-- the same wait as after the front was found, and there is a pile
pub record Gathering (n : ℕ) (d₁ d : Desk) (tail : ℕ) : Type 0 where
  pub same : SameWait d₁.waiting d.waiting
  pub laid : Laid d
  pub firsts : d.firsts ≡ d₁.firsts
  pub lasts : d.lasts ≡ d₁.lasts
  pub levels : d.levels ≡ d₁.levels
  pub piled : Piled n d.pile tail

-- x stands in the line of k
pub record Stands (n k : ℕ) (d₁ : Desk) (work : List ℕ) (x : ℕ) : Type 0 where
  pub waits : (priorities : List ℕ) → LinesOf n priorities d₁ work → Waits n priorities d₁.waiting k x

module _ {n k : ℕ} {d : Desk} {work : List ℕ} {d₁ : Desk} (p : Frontable n k d work) (f : Dropped n d work d₁) where
  standing : Standing n p.pickable.priorities d₁ work
  standing = standing_dropped f p.pickable.standing

  module _ {x : ℕ} (s : Stands n k d₁ work x) where
    waits : Waits n p.pickable.priorities d₁.waiting k x
    waits = s.waits _ standing.lines

    pub gathering_cell : Cell n x work
    gathering_cell = record { small = standing.small; long = standing.work_long; within = waits.vertex }

    pub gathering_lookable : {tail : ℕ} {d' : Desk} → Gathering n d₁ d' tail → Lookable n x d' work tail
    gathering_lookable g =
        record {
          pushable = record { small = omega (arith, gathering_cell.within, standing.small); laid = g.laid; within = g.piled.within };
          cell = gathering_cell;
        }

    pub gathering_more : {tail tail' : ℕ} {d' d'' : Desk} → Gathering n d₁ d' tail → Looked x d' tail d'' tail' → Gathering n d₁ d'' tail'
    gathering_more g y =
        record {
          same = same_more g.same y.same;
          laid = y.laid;
          firsts = y.firsts ∙ g.firsts;
          lasts = y.lasts ∙ g.lasts;
          levels = y.levels ∙ g.levels;
          piled = y.piled n gathering_cell.within g.piled;
        }

    -- so does who stands behind x
    pub stands_behind : {next v : ℕ} → next ≡ get_or (section 3 n work) x 0 → next ≢ nil → v ≡ next → Stands n k d₁ work v
    stands_behind {next} {v} e somebody is =
        record {
          waits =
              λ priorities l.
              let r = l.behind k x (s.waits priorities l) in
              subst (Waits n priorities d₁.waiting k) (sym (is ∙ e)) (r.found (omega (arith, r.or_none, e)));
        }

  pub gathering_all : {tail : ℕ} {d' : Desk} → Gathering n d₁ d' tail → Gathered n d work d' tail
  gathering_all {d' = d'} s =
      record {
        lines = λ priorities l. rw (s.firsts, s.lasts) (lines_agree none_new none_gone (f.lines priorities l));
        laid = s.laid;
        levels = s.levels ∙ f.lines_only.levels;
        kept = λ u h o w. s.same.on u (λ z. w (sym (f.kept u h o) ∙ z));
        piled = s.piled;
      }
    where
      none_new : (w : ℕ) → get_or d₁.waiting w 0 ≡ 0 → get_or d'.waiting w 0 ≡ 0
      none_new w z = elim (ℕ_discrete (get_or d'.waiting w 0) 0) [ yes e ↦ e | no ne ↦ absurd (s.same.back w ne z) ]

      none_gone : (w : ℕ) → get_or d'.waiting w 0 ≡ 0 → get_or d₁.waiting w 0 ≡ 0
      none_gone w z = elim (ℕ_discrete (get_or d₁.waiting w 0) 0) [ yes e ↦ e | no ne ↦ absurd (s.same.on w ne z) ]
