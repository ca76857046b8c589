-- The queue of reached vertices: a fresh one, and one more seed.
use Prim.Native.Nat.{ℕ, ◌+◌, ◌*◌, ◌<◌, ◌≤◌}
use mathlib.Core.Path.{◌≡◌, refl, sym, subst, ap, ap₂, ◌∙◌}
use mathlib.Core.List.{List}
use native.Mathlib.Omega.{arith}
use native.Mathlib.Decide.{ℕ_discrete}
use native.Mathlib.Nat.{not-suc-le-zero}
use lib.ListN.{length, get_or, set, length-set}
use lib.Seq.{get_or-set_same, get_or-set_other}
use Rattle.lists.specs.parts.Cells.{Filled}
use Rattle.reach.specs.parts.Closure.{Queued}
use Rattle.space.specs.parts.Work.{section, Cell, CellSet}
use Rattle.reach.specs.parts.Queue.{Seedable, Pushed, SeedableIn, PushedIn, ClearedIn}
use Rattle.lists.proofs.Stores.{at_set}
use Rattle.space.proofs.Sections.{section_long, section_filled, beside_more, beside_stored}
use Rattle.lists.proofs.Count.{count_bounded, count_none, count_set, count_room}

-- no marks, no queue
pub fresh : (n : ℕ) (reached queue : List ℕ) → length reached ≡ n → length queue ≡ n → Filled reached 0 → Queued n reached queue 0
fresh n reached queue long room clean =
    record {
      reached_long = long;
      queue_long = room;
      flag = λ v l. let z = zero_at v l in omega arith;
      counted = sym (count_none n reached zero_at);
      vertex = λ i l. absurd (not-suc-le-zero l);
      is_reached = λ i l. absurd (not-suc-le-zero l);
      place = λ v l one. let z = zero_at v l in absurd (omega arith);
    }
  where
    zero_at : (v : ℕ) → v < n → get_or reached v 0 ≡ 0
    zero_at v l = clean.all v (omega arith)

-- at most n vertices are queued
pub tail_bounded : {n : ℕ} {reached queue : List ℕ} {tail : ℕ} → Queued n reached queue tail → tail ≤ n
tail_bounded {n} {reached} q = omega (arith, q.counted, count_bounded n reached)

-- a vertex that is not marked leaves room in the queue
pub room : {n v : ℕ} {reached queue : List ℕ} {tail : ℕ} → Seedable n v reached queue tail → tail < n
room {n} {v} {reached} s =
    let q = s.queued in
    omega (arith, q.counted, count_room n reached v s.vertex (omega (arith, s.vertex, q.reached_long)) s.unreached)

pub pushed : (n v : ℕ) (reached queue : List ℕ) (tail : ℕ) → Seedable n v reached queue tail → Pushed n v reached queue tail (set reached v 1) (set queue tail v) (tail + 1)
pushed n v reached queue tail s =
    record {
      one_more = refl;
      queued =
          record {
            reached_long = length-set reached v 1 ∙ q.reached_long;
            queue_long = length-set queue tail v ∙ q.queue_long;
            flag = λ u l. at_set (λ k x. x ≤ 1) reached v 1 in_reached (omega arith) u (λ ne. q.flag u l);
            counted = ap (λ (k : ℕ). k + 1) q.counted ∙ sym (count_set n reached v s.vertex in_reached s.unreached);
            vertex = λ i l. at_set (λ k x. x < n) queue tail v in_queue s.vertex i (λ ne. q.vertex i (omega arith));
            is_reached = λ i l. at_set (λ k x. get_or (set reached v 1) x 0 ≡ 1) queue tail v in_queue here i (λ ne. kept _ (q.is_reached i (omega arith)));
            place = λ u l m. place u l m (ℕ_discrete u v);
          };
      seeded = record { here = here; other = λ u ne. get_or-set_other reached v u 1 0 ne };
      front = record { same = front };
    }
  where
    q : Queued n reached queue tail
    q = s.queued

    in_reached : v < length reached
    in_reached = omega (arith, s.vertex, q.reached_long)

    in_queue : tail < length queue
    in_queue = omega (arith, room s, q.queue_long)

    here : get_or (set reached v 1) v 0 ≡ 1
    here = get_or-set_same reached v 1 0 in_reached

    kept : (u : ℕ) → get_or reached u 0 ≡ 1 → get_or (set reached v 1) u 0 ≡ 1
    kept u m = at_set (λ k x. x ≡ 1) reached v 1 in_reached refl u (λ ne. m)

    front : (i : ℕ) → i < tail → get_or (set queue tail v) i 0 ≡ get_or queue i 0
    front i l = get_or-set_other queue tail i v 0 (omega arith)

    place : (u : ℕ) → u < n → get_or (set reached v 1) u 0 ≡ 1 → Dec (u ≡ v) → (i : ℕ) × (i < tail + 1) × (get_or (set queue tail v) i 0 ≡ u)
    place u l m (yes e) = (tail, omega arith, get_or-set_same queue tail v 0 in_queue ∙ sym e)
    place u l m (no ne) =
        let p = q.place u l (sym (get_or-set_other reached v u 1 0 ne) ∙ m) in
        (p.0, omega (arith, p.1), front p.0 p.1 ∙ p.2)

-- the same of the tail that the push returns
pub pushed_queued : {n v : ℕ} {reached queue : List ℕ} {tail : ℕ} {reached' queue' : List ℕ} {r : ℕ} → Pushed n v reached queue tail reached' queue' r → Queued n reached' queue' r
pushed_queued {n} {reached' = reached} {queue' = places} q = subst (λ (k : ℕ). Queued n reached places k) (sym q.one_more) q.queued

-- The same in the work space.

-- no marks, no queue
pub fresh_in : (n : ℕ) (work : List ℕ) → length work ≡ 4 * n → Filled (section 1 n work) 0 → Queued n (section 1 n work) (section 2 n work) 0
fresh_in n work long clean =
    fresh n _ _ (section_long n work long 1 (omega arith)) (section_long n work long 2 (omega arith)) clean

pub filled_queued : {n : ℕ} {work : List ℕ} → length work ≡ 4 * n → Filled work 0 → Queued n (section 1 n work) (section 2 n work) 0
filled_queued {n} {work} long clean = fresh_in n work long (section_filled n work long clean 1 (omega arith))

pub cleared_queued : {n : ℕ} {work work' : List ℕ} → length work ≡ 4 * n → ClearedIn n work work' → Queued n (section 1 n work') (section 2 n work') 0
cleared_queued long c = fresh_in _ _ (c.beside.long ∙ long) c.filled

pub tail_cell : {n v : ℕ} {work middle : List ℕ} {tail : ℕ} → SeedableIn n v work tail → CellSet n 1 v 1 work middle → Cell n tail middle
tail_cell s m = record { small = s.seedable.small; long = m.long ∙ s.long; within = room s.seedable }

-- both are written
pub pushed_in : {n v : ℕ} {work middle after : List ℕ} {tail x : ℕ} → SeedableIn n v work tail → CellSet n 1 v 1 work middle → x ≡ v → CellSet n 2 tail x middle after → PushedIn n v work tail after (tail + 1)
pushed_in {n} {v} {work} {middle} {after} {tail} {x} s mark is place =
    record {
      pushed = rw (reached, places) (pushed n v _ _ tail s.seedable);
      beside = beside_more (beside_stored (omega arith) (omega arith) mark) (beside_stored (omega arith) (omega arith) place);
    }
  where
    reached : section 1 n after ≡ set (section 1 n work) v 1
    reached = place.other 1 (omega arith) (omega arith) ∙ mark.here

    places : section 2 n after ≡ set (section 2 n work) tail v
    places = place.here ∙ ap₂ (λ (l : List ℕ) (y : ℕ). set l tail y) (mark.other 2 (omega arith) (omega arith)) is
