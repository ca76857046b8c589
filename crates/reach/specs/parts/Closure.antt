-- The closure backwards: all vertices from which allowed steps lead to a seed.
use Rattle.std.specs.Prelude.{ℕ, ◌<◌, ◌≤◌, ◌≡◌, ◌≢◌, List, length, get_or}
use Rattle.winning.specs.promise.Walk.{Walk}
use Rattle.lists.specs.parts.Cells.{count}
use Rattle.space.specs.parts.Work.{nil}
use Rattle.preds.specs.parts.Preds.{Into}

-- if v has a choice, it is w; a vertex past the list's end has none
abbrev pub ToChoice : (choice : List ℕ) (v w : ℕ) → Type 0
ToChoice choice v w = v < length choice → get_or choice v 0 ≢ nil → w ≡ get_or choice v 0

-- a step along an edge from a vertex of a level at most the bound, to its choice if it has one
pub record Allowed (n : ℕ) (ins froms level choice : List ℕ) (bound v w : ℕ) : Type 0 where
  pub edge : Into n ins froms v w
  pub low : get_or level v 0 ≤ bound
  pub fixed : ToChoice choice v w

-- the reached vertices are those in the first `tail` places of the queue, each once
pub record Queued (n : ℕ) (reached queue : List ℕ) (tail : ℕ) : Type 0 where
  pub reached_long : length reached ≡ n
  pub queue_long : length queue ≡ n
  pub flag : (v : ℕ) → v < n → get_or reached v 0 ≤ 1
  pub counted : tail ≡ count n reached
  pub vertex : (i : ℕ) → i < tail → get_or queue i 0 < n
  pub is_reached : (i : ℕ) → i < tail → get_or reached (get_or queue i 0) 0 ≡ 1
  pub place : (v : ℕ) → v < n → get_or reached v 0 ≡ 1 → (i : ℕ) × (i < tail) × (get_or queue i 0 ≡ v)

-- v is reached because allowed steps lead from it to a seed, which was reached before
pub record Reason (n : ℕ) (ins froms level choice : List ℕ) (bound : ℕ) (before : List ℕ) (v : ℕ) : Type 0 where
  pub seed : ℕ
  pub was_reached : get_or before seed 0 ≡ 1
  pub walk : Walk (Allowed n ins froms level choice bound) v seed

-- what is reached after: what was before, whatever leads there by allowed steps, and nothing else
pub record ClosedFrom (n : ℕ) (ins froms level choice : List ℕ) (bound : ℕ) (before after : List ℕ) : Type 0 where
  pub kept : (v : ℕ) → v < n → get_or before v 0 ≡ 1 → get_or after v 0 ≡ 1
  pub reason : (v : ℕ) → v < n → get_or after v 0 ≡ 1 → Reason n ins froms level choice bound before v
  pub closed : (v w : ℕ) → Allowed n ins froms level choice bound v w → get_or after w 0 ≡ 1 → get_or after v 0 ≡ 1
