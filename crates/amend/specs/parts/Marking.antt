-- What comparing two games and finding what an amendment reaches ask and give.
use Rattle.std.specs.Prelude.{ℕ, ◌*◌, ◌<◌, ◌≤◌, ◌≡◌, List, length, get_or}
use Rattle.game.specs.promise.Tables.{game_of, WellFormed, Tables, vertices}
use Rattle.storage.specs.promise.Lent.{Zeroed}
use Rattle.space.specs.parts.Work.{section, Beside}
use Rattle.preds.specs.parts.Preds.{Preds}
use Rattle.lists.specs.parts.Cells.{Filled}
use Rattle.reach.specs.parts.Closure.{Queued}
use Rattle.amend.specs.promise.Amended.{Reaches, CountOf}

-- two well-formed games of as many vertices
pub record Paired (tables : Tables) (tables2 : Tables) : Type 0 where
  pub first : WellFormed tables
  pub second : WellFormed tables2
  pub size : vertices tables ≡ vertices tables2

-- flags below n: 1 where P holds, else 0
pub record Flags (P : ℕ → Type 0) (n : ℕ) (flags : List ℕ) : Type 0 where
  pub flag : (v : ℕ) → v < n → get_or flags v 0 ≤ 1
  pub holds : (v : ℕ) → v < n → get_or flags v 0 ≡ 1 → P v
  pub marked : (v : ℕ) → v < n → P v → get_or flags v 0 ≡ 1

-- the seeds among the vertices below v are those with P; they are queued, and the rest of the work space is as before
pub record Seeding (P : ℕ → Type 0) (n : ℕ) (before after : List ℕ) (tail v : ℕ) : Type 0 where
  pub queued : Queued n (section 1 n after) (section 2 n after) tail
  pub beside : Beside n before after
  pub sound : (u : ℕ) → get_or (section 1 n after) u 0 ≡ 1 → P u × (u < v)
  pub all : (u : ℕ) → u < v → P u → get_or (section 1 n after) u 0 ≡ 1

-- what the closure has reached, in section 1 of the work space of n vertices, can be copied as bytes
pub record Copyable (n : ℕ) (reached work : List ℕ) : Type 0 where
  pub small : n ≤ 2048
  pub room : n ≤ length reached
  pub long : length work ≡ 4 * n
  pub flag : (v : ℕ) → v < n → get_or (section 1 n work) v 0 ≤ 1

-- that of the vertices below v is copied
pub record Copied (n : ℕ) (work reached : List ℕ) (v : ℕ) : Type 0 where
  pub same : (u : ℕ) → u < v → get_or reached u 0 ≡ get_or (section 1 n work) u 0

module _ (tables : Tables) (tables2 : Tables) where
  -- a vertex of the second game that has a path to a differing one
  abbrev pub ReachedBy : ℕ → Type 0
  ReachedBy = Reaches (game_of tables) (game_of tables2)

  -- what seeding asks
  pub record DifferingSeedable (work : List ℕ) : Type 0 where
    pub paired : Paired tables tables2
    pub long : length work ≡ 4 * vertices tables2
    pub blank : Filled work 0

  -- what finding it asks: the predecessor lists of the second game, a byte for each vertex, a work space all zero
  pub record Findable (ins froms reached work : List ℕ) : Type 0 where
    pub seedable : DifferingSeedable work
    pub preds : Preds (game_of tables2) ins froms
    pub reached_room : vertices tables2 ≤ length reached

  -- what it gives: flags of the reached vertices, their number, and the work space all zero again
  pub record FoundReached (work reached' work' : List ℕ) (count : ℕ) : Type 0 where
    pub flags : Flags ReachedBy (vertices tables2) reached'
    pub number : CountOf ReachedBy (vertices tables2) count
    pub zeroed : Zeroed work work'
