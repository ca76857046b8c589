-- Looking at somebody in a line: he is new no longer.
use Prim.Native.Nat.{ℕ}
use mathlib.Core.Path.{◌≡◌, sym, ap, ◌∙◌}
use mathlib.Core.Logic.{◌≢◌}
use mathlib.Core.List.{List}
use native.Mathlib.Decide.{ℕ_discrete}
use native.Mathlib.Omega.{arith}
use lib.ListN.{get_or, set}
use lib.Seq.{get_or-set_same, get_or-set_other}
use Rattle.space.specs.declared.desk.Desk.{Desk}
use Rattle.space.specs.parts.Desk.{Laid, put_waits}
use Rattle.space.proofs.Desks.{laid_waits}
use Rattle.pile.specs.parts.Pile.{PushedOn}
use Rattle.sweep.specs.parts.Gathering.{Lookable, SameWait, Looked}

pub same_more : {a b c : List ℕ} → SameWait a b → SameWait b c → SameWait a c
same_more x y = record { on = λ w f. y.on w (x.on w f); back = λ w f. x.back w (y.back w f) }

module _ {n x tail y : ℕ} {d d₁ : Desk} {work : List ℕ} (p : Lookable n x d work tail) (is : y ≡ get_or d.waiting x 0) (two : y ≡ 2) (new : d₁ ≡ put_waits x 1 d) where
  waiting : d₁.waiting ≡ set d.waiting x 1
  waiting = ap (λ (z : Desk). z.waiting) new

  looked_laid : Laid d₁
  looked_laid = laid_waits x 1 new p.pushable.laid

  looked_same : SameWait d.waiting d₁.waiting
  looked_same = rw waiting (record { on = λ w f. on w f (ℕ_discrete w x); back = λ w f. back w f (ℕ_discrete w x) })
    where
      here : get_or (set d.waiting x 1) x 0 ≡ 1
      here = get_or-set_same d.waiting x 1 0 (omega (arith, p.pushable.small, p.pushable.laid.waiting_long))

      on : (w : ℕ) → get_or d.waiting w 0 ≢ 0 → Dec (w ≡ x) → get_or (set d.waiting x 1) w 0 ≢ 0
      on w f (yes e) = λ z. omega (arith, here, sym (ap (λ (k : ℕ). get_or (set d.waiting x 1) k 0) e) ∙ z)
      on w f (no q) = λ z. f (sym (get_or-set_other d.waiting x w 1 0 q) ∙ z)

      back : (w : ℕ) → get_or (set d.waiting x 1) w 0 ≢ 0 → Dec (w ≡ x) → get_or d.waiting w 0 ≢ 0
      back w f (yes e) = λ z. omega (arith, is, two, sym (ap (λ (k : ℕ). get_or d.waiting k 0) e) ∙ z)
      back w f (no q) = λ z. f (get_or-set_other d.waiting x w 1 0 q ∙ z)

  -- a settled one stays off the pile
  pub looked_settled : Looked x d tail d₁ tail
  looked_settled =
      record {
        same = looked_same;
        piled = λ n h a. rw (ap (λ (z : Desk). z.pile) new) a;
        laid = looked_laid;
        firsts = ap (λ (z : Desk). z.firsts) new;
        lasts = ap (λ (z : Desk). z.lasts) new;
        levels = ap (λ (z : Desk). z.levels) new;
      }

  pub looked_open : {d₂ : Desk} {tail' : ℕ} → PushedOn x d₁ tail d₂ tail' → Looked x d tail d₂ tail'
  looked_open q =
      record {
        same = rw q.only.waiting looked_same;
        piled = λ n h a. q.piled n h (looked_settled.piled n h a);
        laid = q.only.laid;
        firsts = q.only.firsts ∙ looked_settled.firsts;
        lasts = q.only.lasts ∙ looked_settled.lasts;
        levels = q.only.levels ∙ looked_settled.levels;
      }
