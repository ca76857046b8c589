-- The vertices below v are open, with their own parity's marks, and not reached by a closure.
use Prim.Native.Nat.{ℕ, ◌+◌, ◌*◌, ◌<◌}
use mathlib.Core.Path.{◌≡◌, sym, ap, subst, ◌∙◌}
use mathlib.Core.Logic.{◌≢◌}
use mathlib.Core.List.{List}
use native.Mathlib.Omega.{arith}
use native.Mathlib.Decide.{ℕ_discrete}
use lib.ListN.{length, get_or, set}
use lib.Seq.{get_or-set_same, get_or-set_other}
use Rattle.player.specs.promise.Player.{parity_of}
use Rattle.storage.specs.promise.Answer.{mark_room, mark_of}
use Rattle.storage.specs.parts.Answers.{MarkSet}
use Rattle.space.specs.parts.Work.{section, CellSet}
use Rattle.storage.proofs.Stores.{has_room, still_stored}
use Rattle.space.proofs.Sections.{section_long}
use Rattle.start.specs.parts.Opening.{Startable}

pub record Opening (priorities winners work winners' work' : List ℕ) (v : ℕ) : Type 0 where
  pub winners_long : length winners' ≡ length winners
  pub long : length work' ≡ length work
  pub mark : (u : ℕ) → u < v → mark_of winners' u ≡ parity_of (get_or priorities u 0)
  pub flag : (u : ℕ) → u < v → get_or (section 0 (length priorities) work') u 0 ≡ 1
  pub unreached : (u : ℕ) → u < v → get_or (section 1 (length priorities) work') u 0 ≡ 0

-- the vertex whose turn it is has a mark
pub opening_room :
    {priorities winners work winners₁ work₁ : List ℕ} {v : ℕ} → Startable priorities winners work → v < length priorities →
    Opening priorities winners work winners₁ work₁ v → v < mark_room winners₁
opening_room a l o = has_room (still_stored a.stored o.winners_long) l

pub opening_more : {priorities winners work winners₁ work₁ winners₂ work₂ work₃ : List ℕ} {v p : ℕ} → Startable priorities winners work → v < length priorities → Opening priorities winners work winners₁ work₁ v → p ≡ parity_of (get_or priorities v 0) → MarkSet winners₁ winners₂ v p → CellSet (length priorities) 0 v 1 work₁ work₂ → CellSet (length priorities) 1 v 0 work₂ work₃ → Opening priorities winners work winners₂ work₃ (v + 1)
opening_more {priorities} {winners} {work} {winners₁} {work₁} {winners₂} {work₂} {work₃} {v} {p} a l o e m opened cleared =
    record {
      winners_long = m.long ∙ o.winners_long;
      long = cleared.long ∙ (opened.long ∙ o.long);
      mark = λ u h. elim (ℕ_discrete u v) [ yes q ↦ subst (λ (x : ℕ). mark_of winners₂ x ≡ parity_of (get_or priorities x 0)) (sym q) (m.here ∙ e) | no ne ↦ m.other u ne ∙ o.mark u (omega arith) ];
      flag = λ u h. ap (λ (x : List ℕ). get_or x u 0) (cleared.other 0 (omega arith) (omega arith) ∙ opened.here) ∙ here 0 1 u (omega arith) (λ ne. o.flag u (omega arith)) (ℕ_discrete u v);
      unreached =
          λ u h.
          ap (λ (x : List ℕ). get_or x u 0) (cleared.here ∙ ap (λ (x : List ℕ). set x v 0) (opened.other 1 (omega arith) (omega arith)))
          ∙ here 1 0 u (omega arith) (λ ne. o.unreached u (omega arith)) (ℕ_discrete u v);
    }
  where
    long₁ : length work₁ ≡ 4 * length priorities
    long₁ = o.long ∙ a.work_long

    -- a cell of section k, after a store of x at v, if the cell at u had x before
    here : (k x u : ℕ) → k < 4 → (u ≢ v → get_or (section k (length priorities) work₁) u 0 ≡ x) → Dec (u ≡ v) → get_or (set (section k (length priorities) work₁) v x) u 0 ≡ x
    here k x u h f (yes q) =
        ap (λ (i : ℕ). get_or (set (section k (length priorities) work₁) v x) i 0) q
        ∙ get_or-set_same (section k (length priorities) work₁) v x 0 (subst (λ (j : ℕ). v < j) (sym (section_long (length priorities) work₁ long₁ k h)) l)
    here k x u h f (no ne) = get_or-set_other (section k (length priorities) work₁) v u x 0 ne ∙ f ne
