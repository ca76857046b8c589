-- Reopening the queue's vertices one by one.
use Prim.Native.Nat.{ℕ, ◌<◌, ◌≤◌}
use mathlib.Core.Path.{◌≡◌, sym, ap, subst, ◌∙◌}
use mathlib.Core.Logic.{◌≢◌}
use mathlib.Core.List.{List}
use native.Mathlib.Omega.{arith}
use lib.ListN.{length, get_or}
use Rattle.storage.specs.promise.Answer.{mark_room, mark_of}
use Rattle.storage.proofs.Stores.{has_room, still_stored}
use Rattle.space.specs.parts.Work.{section, Cell}
use Rattle.space.specs.declared.desk.Desk.{Desk}
use Rattle.reach.proofs.Queues.{tail_bounded}
use Rattle.waiting.specs.parts.Lines.{Covered}
use Rattle.waiting.specs.parts.Moves.{LinesOnly, LinesOf}
use Rattle.reopen.specs.parts.Reopening.{Opened, Reopenable}

-- the first i of the queue are open again, what is not reached is as before, every open vertex waits, and low is at most `from`
pub record Reopening (n : ℕ) (priorities : List ℕ) (d₀ : Desk) (winners₀ work₀ : List ℕ) (from : ℕ) (d : Desk) (winners work : List ℕ) (low i : ℕ) : Type 0 where
  pub most : low ≤ from
  pub winners_long : length winners ≡ length winners₀
  pub long : length work ≡ length work₀
  pub passed : (j : ℕ) → j < i → Opened priorities winners (section 0 n work) (get_or (section 2 n work₀) j 0)
  pub below : (j : ℕ) → j < i → low ≤ get_or priorities (get_or (section 2 n work₀) j 0) 0
  pub flag : (u : ℕ) → u < n → get_or (section 1 n work₀) u 0 ≢ 1 → get_or (section 0 n work) u 0 ≡ get_or (section 0 n work₀) u 0
  pub mark : (u : ℕ) → u < n → get_or (section 1 n work₀) u 0 ≢ 1 → mark_of winners u ≡ mark_of winners₀ u
  pub reached : section 1 n work ≡ section 1 n work₀
  pub queue : section 2 n work ≡ section 2 n work₀
  pub lines : LinesOf n priorities d work
  pub lines_only : LinesOnly d₀ d
  pub covered : Covered n (section 0 n work) d.waiting

module _
    {n : ℕ} {priorities : List ℕ} {d₀ : Desk} {winners₀ work₀ : List ℕ} {tail from : ℕ} {d : Desk} {winners work : List ℕ} {low i : ℕ}
    (p : Reopenable n priorities d₀ winners₀ work₀ tail) (r : Reopening n priorities d₀ winners₀ work₀ from d winners work low i)
  where
    pub reopening_place : i < tail → Cell n i work
    reopening_place l = record { small = p.standing.small; long = r.long ∙ p.standing.work_long; within = omega (arith, tail_bounded p.queued) }

    -- u stands at the queue's place i
    pub reopening_room : {u : ℕ} → i < tail → u ≡ get_or (section 2 n work) i 0 → u < mark_room winners
    reopening_room {u} l e = has_room (still_stored p.stored r.winners_long) vertex
      where
        vertex : u < n
        vertex = subst (λ (v : ℕ). v < n) (sym (e ∙ ap (λ (s : List ℕ). get_or s i 0) r.queue)) (p.queued.vertex i l)
