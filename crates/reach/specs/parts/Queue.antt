-- What the functions of the closure ask and give.
use Rattle.std.specs.Prelude.{ℕ, ◌+◌, ◌*◌, ◌<◌, ◌≤◌, ◌≡◌, ◌≢◌, ◌⊎◌, List, length, get_or}
use Rattle.lists.specs.parts.Cells.{Filled}
use Rattle.space.specs.parts.Work.{section, Beside}
use Rattle.preds.specs.parts.Preds.{Backward}
use Rattle.reach.specs.parts.Closure.{ToChoice, Allowed, Queued, ClosedFrom}

-- v is reached, and all else is as before
pub record Seeded (before after : List ℕ) (v : ℕ) : Type 0 where
  pub here : get_or after v 0 ≡ 1
  pub other : (u : ℕ) → u ≢ v → get_or after u 0 ≡ get_or before u 0

-- the first `tail` places of the queue are as before
pub record Front (tail : ℕ) (before after : List ℕ) : Type 0 where
  pub same : (i : ℕ) → i < tail → get_or after i 0 ≡ get_or before i 0

-- v is no seed yet, and there is room for it
pub record Seedable (n v : ℕ) (reached queue : List ℕ) (tail : ℕ) : Type 0 where
  pub queued : Queued n reached queue tail
  pub vertex : v < n
  pub unreached : get_or reached v 0 ≡ 0
  pub small : n ≤ 2048

-- v is one more seed, at the end of the queue
pub record Pushed (n v : ℕ) (reached queue : List ℕ) (tail : ℕ) (reached' queue' : List ℕ) (r : ℕ) : Type 0 where
  pub one_more : r ≡ tail + 1
  pub queued : Queued n reached' queue' (tail + 1)
  pub seeded : Seeded reached reached' v
  pub front : Front tail queue queue'

-- what the closure asks
pub record Closable (n : ℕ) (ins froms level choice reached queue : List ℕ) (tail : ℕ) : Type 0 where
  pub back : Backward n ins froms
  pub small : n ≤ 2048
  pub level_long : length level ≡ n
  pub queued : Queued n reached queue tail

-- what the closure gives: r is the number of reached vertices
pub record ClosedQueue (n : ℕ) (ins froms level choice : List ℕ) (bound : ℕ) (reached reached' queue' : List ℕ) (r : ℕ) : Type 0 where
  pub queued : Queued n reached' queue' r
  pub closed : ClosedFrom n ins froms level choice bound reached reached'

-- what a visit to w asks
pub record Visitable (n w : ℕ) (ins froms level choice reached queue : List ℕ) (tail : ℕ) : Type 0 where
  pub closable : Closable n ins froms level choice reached queue tail
  pub vertex : w < n

-- what is reached and the queue have grown, and whatever is new has an allowed step to w
pub record Grown (n w : ℕ) (ins froms level choice : List ℕ) (bound : ℕ) (reached queue : List ℕ) (tail : ℕ) (reached' queue' : List ℕ) (tail' : ℕ) : Type 0 where
  pub queued : Queued n reached' queue' tail'
  pub longer : tail ≤ tail'
  pub front : Front tail queue queue'
  pub kept : (v : ℕ) → get_or reached v 0 ≡ 1 → get_or reached' v 0 ≡ 1
  pub reason : (v : ℕ) → get_or reached' v 0 ≡ 1 → (get_or reached v 0 ≡ 1) ⊎ Allowed n ins froms level choice bound v w

-- a visit to w: what has an allowed step to w, all of it and nothing else, is reached now
pub record Visited (n w : ℕ) (ins froms level choice : List ℕ) (bound : ℕ) (reached queue : List ℕ) (tail : ℕ) (reached' queue' : List ℕ) (r : ℕ) : Type 0 where
  pub grown : Grown n w ins froms level choice bound reached queue tail reached' queue' r
  pub all : (v : ℕ) → Allowed n ins froms level choice bound v w → get_or reached' v 0 ≡ 1

-- The same of the work space: section 0 is the levels, section 1 what is reached, section 2 the queue.

-- v is no seed yet
pub record SeedableIn (n v : ℕ) (work : List ℕ) (tail : ℕ) : Type 0 where
  pub long : length work ≡ 4 * n
  pub seedable : Seedable n v (section 1 n work) (section 2 n work) tail

-- v is one more seed
pub record PushedIn (n v : ℕ) (work : List ℕ) (tail : ℕ) (work' : List ℕ) (r : ℕ) : Type 0 where
  pub pushed : Pushed n v (section 1 n work) (section 2 n work) tail (section 1 n work') (section 2 n work') r
  pub beside : Beside n work work'

-- what the closure asks
pub record ClosableIn (n : ℕ) (ins froms choice work : List ℕ) (tail : ℕ) : Type 0 where
  pub long : length work ≡ 4 * n
  pub closable : Closable n ins froms (section 0 n work) choice (section 1 n work) (section 2 n work) tail

-- what the closure gives
pub record ClosedIn (n : ℕ) (ins froms choice : List ℕ) (bound : ℕ) (work work' : List ℕ) (r : ℕ) : Type 0 where
  pub closed : ClosedQueue n ins froms (section 0 n work) choice bound (section 1 n work) (section 1 n work') (section 2 n work') r
  pub beside : Beside n work work'

-- what a visit to w asks
pub record VisitableIn (n w : ℕ) (ins froms choice work : List ℕ) (tail : ℕ) : Type 0 where
  pub long : length work ≡ 4 * n
  pub visitable : Visitable n w ins froms (section 0 n work) choice (section 1 n work) (section 2 n work) tail

-- what a visit to w gives
pub record VisitedIn (n w : ℕ) (ins froms choice : List ℕ) (bound : ℕ) (work : List ℕ) (tail : ℕ) (work' : List ℕ) (r : ℕ) : Type 0 where
  pub visited : Visited n w ins froms (section 0 n work) choice bound (section 1 n work) (section 2 n work) tail (section 1 n work') (section 2 n work') r
  pub beside : Beside n work work'

-- a vertex that may be tried
pub record Triable (n u : ℕ) (work : List ℕ) (tail : ℕ) : Type 0 where
  pub long : length work ≡ 4 * n
  pub small : n ≤ 2048
  pub vertex : u < n
  pub queued : Queued n (section 1 n work) (section 2 n work) tail

-- the step from u to w is tried: it is not allowed, or u is reached, and nothing has changed; or it is, and u is one more seed
pub data Tried (n u w : ℕ) (choice : List ℕ) (bound : ℕ) (work : List ℕ) (tail : ℕ) (work' : List ℕ) (r : ℕ) : Type 0 where
  passed : work' ≡ work → r ≡ tail → (get_or (section 0 n work) u 0 ≤ bound → ToChoice choice u w → get_or (section 1 n work) u 0 ≡ 1) → Tried n u w choice bound work tail work' r
  taken : get_or (section 0 n work) u 0 ≤ bound → ToChoice choice u w → PushedIn n u work tail work' r → Tried n u w choice bound work tail work' r

-- what a queue has reached, to be taken back
pub record ClearableIn (n : ℕ) (work : List ℕ) (tail : ℕ) : Type 0 where
  pub long : length work ≡ 4 * n
  pub small : n ≤ 2048
  pub queued : Queued n (section 1 n work) (section 2 n work) tail

-- nothing is reached any more, and nothing else has changed
pub record ClearedIn (n : ℕ) (work work' : List ℕ) : Type 0 where
  pub filled : Filled (section 1 n work') 0
  pub queue : section 2 n work' ≡ section 2 n work
  pub beside : Beside n work work'
