-- Changes inside a set that holds whatever leans on what it holds: outside it all stays as it was.
use Prim.Native.Nat.{ℕ, ◌<◌, ◌≤◌}
use mathlib.Core.Path.{◌≡◌, sym, subst, ◌∙◌}
use mathlib.Core.Logic.{◌≢◌}
use native.Mathlib.Nat.{le_refl}
use Rattle.player.specs.promise.Player.{parity_of}
use Rattle.game.specs.promise.Game.{Game}
use Rattle.winning.specs.promise.Walk.{Walk, stay, step}
use Rattle.winning.proofs.Walks.{follow}
use Rattle.winning.specs.parts.Low.{Low}
use Rattle.justification.specs.parts.Safe.{Support, Safe, Above, Levelled}
use Rattle.justification.specs.parts.Step.{Same, Turned, Downward, Leaning}
use Rattle.justification.proofs.Walks.{carry}
use Rattle.justification.proofs.Lines.{Line, safe_of, within, steady, same_line, same_step}

-- what leans on v is such a set
pub leaning_downward : {g : Game} {mark move settled : ℕ → ℕ} {v : ℕ} {R : ℕ → Type 0} → Leaning g mark move settled v R → Downward g mark move settled R
leaning_downward leaning = record { decided = leaning.decided; closed = leaning.closed }

-- turning v changes nothing outside it
pub turned_same : {g : Game} {mark move settled mark' move' settled' : ℕ → ℕ} {R : ℕ → Type 0} {v m : ℕ} → Leaning g mark move settled v R → Turned mark move settled mark' move' settled' g R v m → (u : ℕ) → u < g.n → ¬ R u → Same mark move settled mark' move' settled' u
turned_same {R} leaning turned u l r = turned.elsewhere u l (λ e. r (subst R (sym e) leaning.itself)) r

-- a step from x to y leads out of R, to x's new mark, and from there supports stay above x's priority
pub record Leaving (g : Game) (mark move settled mark' : ℕ → ℕ) (R : ℕ → Type 0) (x y : ℕ) : Type 0 where
  pub out : ¬ R y
  pub marked : mark y ≡ mark' x
  pub above : Above g mark move settled y (g.priority x)

module _
    (g : Game) (mark move settled mark' move' settled' : ℕ → ℕ) (R : ℕ → Type 0)
    (downward : Downward g mark move settled R)
    (same : (u : ℕ) → u < g.n → ¬ R u → Same mark move settled mark' move' settled' u)
  where
    abbrev Old : ℕ → ℕ → Type 0
    Old = Support g mark move settled

    abbrev New : ℕ → ℕ → Type 0
    New = Support g mark' move' settled'

    -- a step from outside is an old one, and stays outside
    old : (x y : ℕ) → New x y → ¬ R x → Old x y × (¬ R y)
    old x y s r =
        let t : Old x y = same_step g mark move settled mark' move' settled' (same x s.edge.from r) s in
        (t, λ q. r (downward.closed x y t q))

    -- so supports from outside stay above what they stayed above
    pub outside_above : {x k : ℕ} → x < g.n → ¬ R x → Above g mark move settled x k → Above g mark' move' settled' x k
    outside_above l r a =
        record {
          high =
              λ u w f.
              let out : ¬ R u = follow (λ z. ¬ R z) (λ x y s r. (old x y s r).1) r w in
              a.high u (carry (λ z. ¬ R z) old r w) (λ e. f ((same u (within g mark' move' settled' l w) out).flag ∙ e));
        }

    -- and what is settled outside keeps its level
    pub outside_level : {u : ℕ} {level : ℕ → ℕ} → Levelled g mark move settled level → u < g.n → ¬ R u → settled' u ≡ 1 → Above g mark' move' settled' u (level u)
    outside_level {u} levelled l r s = outside_above l r (levelled.above u l (sym (same u l r).flag ∙ s))

    -- if the lines inside are in order, and the steps from inside lead outside so, the state stays safe
    pub outside_safe : Safe g mark move settled → ((u : ℕ) → u < g.n → R u → Line g mark' move' settled' u) → ((x y : ℕ) → R x → New x y → Leaving g mark move settled mark' R x y) → Safe g mark' move' settled'
    outside_safe safe inside leaves =
        safe_of g mark' move' settled' line (λ x y s. (same y s.edge.to (leaving x y s).out).marked ∙ (leaving x y s).marked) (λ x u l. low) round
      where
        line : (u : ℕ) → u < g.n → Line g mark' move' settled' u
        line u l = elim (downward.decided u l) [
          | yes r ↦ inside u l r
          | no r ↦ same_line g mark move settled mark' move' settled' (same u l r) safe l
        ]

        leaving : (x y : ℕ) → New x y → Leaving g mark move settled mark' R x y
        leaving x y s = elim (downward.decided x s.edge.from) [
          | yes r ↦ leaves x y r s
          | no r ↦
              let t = old x y s r in
              record {
                out = t.1;
                marked = steady g mark move settled safe t.0 ∙ sym (same x s.edge.from r).marked;
                above = record { high = λ u w f. safe.below x u s.edge.from (step t.0 w) f };
              }
        ]

        low : {x u : ℕ} → Walk New x u → settled' u ≢ 1 → g.priority x ≤ g.priority u
        low stay f = le_refl _
        low {x} {u} (step {w = y} s w) f = (outside_above s.edge.to (leaving x y s).out (leaving x y s).above).high u w f

        -- a closed walk lies outside, so it is old
        round : (x y : ℕ) → New x y → Walk (Low g New (g.priority x)) y x → mark' x ≡ parity_of (g.priority x)
        round x y s w =
            let out : ¬ R y = (leaving x y s).out in
            let r : ¬ R x = follow (λ z. ¬ R z) (λ a b s r. (old a b s.taken r).1) out w in
            (same x s.edge.from r).marked ∙
            safe.good x y (old x y s r).0
            (carry (λ z. ¬ R z) (λ a b s r. let t = old a b s.taken r in (record { taken = t.0; low = s.low }, t.1)) out w)
