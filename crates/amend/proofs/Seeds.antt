-- Seeding: the vertices passed that have the property are the seeds. Nothing is seeded at the start, one or none at each vertex.
use Prim.Native.Nat.{ℕ, ◌+◌, ◌*◌, ◌<◌, ◌≤◌}
use mathlib.Core.Path.{◌≡◌, sym, subst, subst₂, ◌∙◌}
use mathlib.Core.List.{List}
use native.Mathlib.Decide.{ℕ_discrete, dec_lt}
use native.Mathlib.Nat.{not-suc-le-zero}
use native.Mathlib.Omega.{arith}
use borrow.Author.Count.{below_more}
use lib.ListN.{length, get_or, get_or-eq_default}
use Rattle.lists.specs.parts.Cells.{Filled}
use Rattle.space.specs.parts.Work.{section}
use Rattle.reach.specs.parts.Queue.{SeedableIn, PushedIn}
use Rattle.space.proofs.Sections.{beside_none, beside_more, section_long, section_filled}
use Rattle.reach.proofs.Queues.{filled_queued, pushed_queued}
use Rattle.amend.specs.parts.Marking.{Seeding}

-- a flag that is 1 stands below n
pub flag_within : {n : ℕ} (flags : List ℕ) (u : ℕ) → length flags ≡ n → get_or flags u 0 ≡ 1 → u < n
flag_within {n} flags u long e = elim (dec_lt u n) [ yes l ↦ l | no h ↦ absurd (past (omega arith)) ]
  where
    past : length flags ≤ u → ⊥
    past l = let z : get_or flags u 0 ≡ 0 = get_or-eq_default flags 0 l in omega arith

module _ {P : ℕ → Type 0} {n : ℕ} {before : List ℕ} (long : length before ≡ 4 * n) where
  pub seeding_none : Filled before 0 → Seeding P n before before 0 0
  seeding_none blank =
      record {
        queued = filled_queued long blank;
        beside = beside_none;
        sound = λ u e.
            let l : u < n = flag_within (section 1 n before) u (section_long n before long 1 (omega arith)) e in
            let z : get_or (section 1 n before) u 0 ≡ 0 = (section_filled n before long blank 1 (omega arith)).all u (omega (arith, section_long n before long 1 (omega arith))) in
            absurd (omega arith);
        all = λ u l. absurd (not-suc-le-zero l);
      }

  module _ {after : List ℕ} {tail v : ℕ} (s : Seeding P n before after tail v) where
    pub seeding_skip : {after' : List ℕ} {r : ℕ} → after' ≡ after → r ≡ tail → ¬ P v → Seeding P n before after' r (v + 1)
    seeding_skip {after'} {r} ea er h = subst₂ (λ (a : List ℕ) (t : ℕ). Seeding P n before a t (v + 1)) (sym ea) (sym er) next
      where
        next : Seeding P n before after tail (v + 1)
        next = record {
          queued = s.queued;
          beside = s.beside;
          sound = λ u e. ((s.sound u e).0, omega (arith, (s.sound u e).1));
          all = below_more (λ u. P u → get_or (section 1 n after) u 0 ≡ 1) v s.all (λ p. absurd (h p));
        }

    pub seeding_asks : n ≤ 2048 → v < n → SeedableIn n v after tail
    seeding_asks small l =
        record {
          long = s.beside.long ∙ long;
          seedable = record { queued = s.queued; vertex = l; unreached = unreached; small = small };
        }
      where
        -- what is marked stands below v
        unreached : get_or (section 1 n after) v 0 ≡ 0
        unreached =
            let f = s.queued.flag v l in
            elim (ℕ_discrete (get_or (section 1 n after) v 0) 1) [ yes e ↦ absurd (omega (arith, (s.sound v e).1)) | no h ↦ omega arith ]

    pub seeding_one : {work after' : List ℕ} {t r : ℕ} → work ≡ after' → t ≡ r → P v → PushedIn n v after tail after' r → Seeding P n before work t (v + 1)
    seeding_one {work} {after'} {t} {r} ea er p q = subst₂ (λ (a : List ℕ) (t : ℕ). Seeding P n before a t (v + 1)) (sym ea) (sym er) next
      where
        sound : (u : ℕ) → get_or (section 1 n after') u 0 ≡ 1 → Dec (u ≡ v) → P u × (u < v + 1)
        sound u e (yes same) = (subst P (sym same) p, omega arith)
        sound u e (no ne) =
            let t = s.sound u (sym (q.pushed.seeded.other u ne) ∙ e) in
            (t.0, omega (arith, t.1))

        next : Seeding P n before after' r (v + 1)
        next =
            record {
              queued = pushed_queued q.pushed;
              beside = beside_more s.beside q.beside;
              sound = λ u e. sound u e (ℕ_discrete u v);
              all = below_more (λ u. P u → get_or (section 1 n after') u 0 ≡ 1) v (λ u l p. q.pushed.seeded.other u (omega arith) ∙ s.all u l p) (λ p. q.pushed.seeded.here);
            }

pub seeding_all : {P : ℕ → Type 0} {n : ℕ} {before after : List ℕ} {tail v w : ℕ} → v ≡ w → Seeding P n before after tail v → Seeding P n before after tail w
seeding_all {P} {n} {before} {after} {tail} e s = subst (Seeding P n before after tail) e s
