-- The closure visits the queue's places in turn: those behind are closed, whatever is reached has its reason, and at the end all is closed.
use Prim.Native.Nat.{ℕ, ◌+◌, ◌*◌, ◌<◌, ◌≤◌}
use mathlib.Core.Path.{◌≡◌, sym, subst, ◌∙◌}
use mathlib.Core.Logic.{⊎_elim}
use mathlib.Core.List.{List}
use native.Mathlib.Omega.{arith}
use native.Mathlib.Nat.{not-suc-le-zero}
use native.Mathlib.Decide.{dec_lt}
use lib.ListN.{length, get_or}
use Rattle.winning.specs.promise.Walk.{stay, step}
use Rattle.reach.specs.parts.Closure.{Allowed, Queued, Reason}
use Rattle.space.specs.parts.Work.{section, Cell, Beside}
use Rattle.reach.specs.parts.Queue.{Closable, ClosedQueue, Grown, Visited, ClosableIn, ClosedIn, VisitedIn}
use Rattle.reach.proofs.Queues.{tail_bounded}
use Rattle.space.proofs.Sections.{beside_none, beside_more}

-- the first h places of the queue are visited
pub record Closing (n : ℕ) (ins froms level choice : List ℕ) (bound : ℕ) (reached₀ reached queue : List ℕ) (end h : ℕ) : Type 0 where
  pub queued : Queued n reached queue end
  pub within : h ≤ end
  pub kept : (v : ℕ) → get_or reached₀ v 0 ≡ 1 → get_or reached v 0 ≡ 1
  pub reason : (v : ℕ) → get_or reached v 0 ≡ 1 → Reason n ins froms level choice bound reached₀ v
  pub done : (i : ℕ) → i < h → (v : ℕ) → Allowed n ins froms level choice bound v (get_or queue i 0) → get_or reached v 0 ≡ 1

pub closing_none : {n : ℕ} {ins froms level choice : List ℕ} {bound : ℕ} {reached queue : List ℕ} {tail : ℕ} → Queued n reached queue tail → Closing n ins froms level choice bound reached reached queue tail 0
closing_none q =
    record {
      queued = q;
      within = omega arith;
      kept = λ v m. m;
      reason = λ v m. record { seed = v; was_reached = m; walk = stay };
      done = λ i l. absurd (not-suc-le-zero l);
    }

module _ {n : ℕ} {ins froms level choice reached₀ queue₀ : List ℕ} {tail : ℕ} (p : Closable n ins froms level choice reached₀ queue₀ tail) {bound : ℕ} {reached queue : List ℕ} {end h : ℕ} (c : Closing n ins froms level choice bound reached₀ reached queue end h) where
  pub closing_more : {reached' queue' : List ℕ} {r : ℕ} → h < end → Visited n (get_or queue h 0) ins froms level choice bound reached queue end reached' queue' r → Closing n ins froms level choice bound reached₀ reached' queue' r (h + 1)
  closing_more {reached'} {queue'} {r} l d =
      record {
        queued = g.queued;
        within = omega (arith, g.longer);
        kept = λ v m. g.kept v (c.kept v m);
        reason = λ v m. ⊎_elim (λ old. c.reason v old) (λ a. further v a (c.reason (get_or queue h 0) (c.queued.is_reached h l))) (g.reason v m);
        done = λ i m v a. done i m v (subst (λ (k : ℕ). Allowed n ins froms level choice bound v k) (g.front.same i (omega arith)) a) (dec_lt i h);
      }
    where
      g : Grown n (get_or queue h 0) ins froms level choice bound reached queue end reached' queue' r
      g = d.grown

      further : (v : ℕ) → Allowed n ins froms level choice bound v (get_or queue h 0) → Reason n ins froms level choice bound reached₀ (get_or queue h 0) → Reason n ins froms level choice bound reached₀ v
      further v a w = record { seed = w.seed; was_reached = w.was_reached; walk = step a w.walk }

      done : (i : ℕ) → i < h + 1 → (v : ℕ) → Allowed n ins froms level choice bound v (get_or queue i 0) → Dec (i < h) → get_or reached' v 0 ≡ 1
      done i m v a (yes before) = g.kept v (c.done i before v a)
      done i m v a (no here) =
          let e : i ≡ h = omega arith in
          d.all v (subst (λ (k : ℕ). Allowed n ins froms level choice bound v (get_or queue k 0)) e a)

  pub closing_all : end ≤ h → ClosedQueue n ins froms level choice bound reached₀ reached queue end
  closing_all l =
      record {
        queued = c.queued;
        closed = record { kept = λ v m. c.kept v; reason = λ v m. c.reason v; closed = closed };
      }
    where
      closed : (v w : ℕ) → Allowed n ins froms level choice bound v w → get_or reached w 0 ≡ 1 → get_or reached v 0 ≡ 1
      closed v w a m =
          let at = c.queued.place w a.edge.vertex m in
          c.done at.0 (omega (arith, at.1)) v (subst (λ (k : ℕ). Allowed n ins froms level choice bound v k) (sym at.2) a)

-- The same in the work space.

pub record ClosingIn (n : ℕ) (ins froms choice : List ℕ) (bound : ℕ) (work₀ work : List ℕ) (end h : ℕ) : Type 0 where
  pub closing : Closing n ins froms (section 0 n work₀) choice bound (section 1 n work₀) (section 1 n work) (section 2 n work) end h
  pub beside : Beside n work₀ work

module _ {n : ℕ} {ins froms choice work₀ : List ℕ} {tail : ℕ} (p : ClosableIn n ins froms choice work₀ tail) {bound : ℕ} where
  pub closing_in_none : ClosingIn n ins froms choice bound work₀ work₀ tail 0
  closing_in_none = record { closing = closing_none p.closable.queued; beside = beside_none }

  module _ {work : List ℕ} {end h : ℕ} (c : ClosingIn n ins froms choice bound work₀ work end h) where
    closing_in_long : length work ≡ 4 * n
    closing_in_long = c.beside.long ∙ p.long

    -- a turn's place is one of the queue's, of which there are n
    pub closing_place : h < end → Cell n h work
    closing_place l = record { small = p.closable.small; long = closing_in_long; within = omega (arith, tail_bounded c.closing.queued) }

    pub closing_in_more : {w : ℕ} {work' : List ℕ} {r : ℕ} → h < end → w ≡ get_or (section 2 n work) h 0 → VisitedIn n w ins froms choice bound work end work' r → ClosingIn n ins froms choice bound work₀ work' r (h + 1)
    closing_in_more {w} {work'} {r} l is d =
        record {
          closing = closing_more p.closable c.closing l (subst (λ (x : ℕ). Visited n x ins froms (section 0 n work₀) choice bound (section 1 n work) (section 2 n work) end (section 1 n work') (section 2 n work') r) is (rw c.beside.levels at d.visited));
          beside = beside_more c.beside d.beside;
        }

    pub closing_in_all : end ≤ h → ClosedIn n ins froms choice bound work₀ work end
    closing_in_all l = record { closed = closing_all p.closable c.closing l; beside = c.beside }
