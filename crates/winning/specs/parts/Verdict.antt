-- The verdict on a given answer, by tests that compute: what a small game's case is settled with.
use Rattle.std.specs.Prelude.{ℕ, zero, suc, Bool, true, false, not, ◌&&◌, ◌||◌, List, [], ◌∷◌, eqb, leb, ltb, Option, Some, None}
use Rattle.player.specs.promise.Player.{parity_of}
use Rattle.refusal.specs.promise.Row.{Said, success, refused}
use Rattle.game.specs.promise.Game.{Game}
use Rattle.winning.specs.promise.Answer.{no_move}

-- Warshall: is there a walk of one step or more from v to u whose vertices in between are all below k
abbrev pub via : (ℕ → ℕ → Bool) → ℕ → ℕ → ℕ → Bool
via s zero v u = s v u
via s (suc k) v u = via s k v u || (via s k v k && via s k k u)

-- what was found, or else n if it passes
abbrev pub or_at : Option ℕ → ℕ → Bool → Option ℕ
or_at (Some x) n b = Some x
or_at None n true = Some n
or_at None n false = None

-- the lowest number below n that passes the test
abbrev pub lowest : (ℕ → Bool) → ℕ → Option ℕ
lowest t zero = None
lowest t (suc n) = let b = t n in or_at (lowest t n) n b

-- whether something was found
abbrev pub is_at : Option ℕ → Bool
is_at (Some x) = true
is_at None = false

-- a refusal's number, and the test of its places
pub record Test : Type 0 where
  pub number : ℕ
  pub passes : ℕ → Bool

-- a refusal where a place was found, else what the later tests say
abbrev pub or_said : ℕ → Option ℕ → Said → Said
or_said k (Some x) s = refused k x
or_said k None s = s

-- the first test that passes below n, at its lowest place
abbrev pub said_by : ℕ → List Test → Said
said_by n [] = success []
said_by n (t ∷ later) = let s = said_by n later in or_said t.number (lowest t.passes n) s

-- whether w stands in the list
abbrev pub is_listed : ℕ → List ℕ → Bool
is_listed w [] = false
is_listed w (x ∷ l) = eqb x w || is_listed w l

-- whether there is an edge from v to w
abbrev pub is_edge : Game → ℕ → ℕ → Bool
is_edge g v w = ltb v g.n && ltb w g.n && is_listed w (g.next v)

module _ (g : Game) (mark move : ℕ → ℕ) where
  -- whether v's winner owns it
  abbrev pub is_own : ℕ → Bool
  is_own v = eqb (g.owner v) (mark v)

  -- whether w follows v by the recorded moves
  abbrev pub is_recorded : ℕ → ℕ → Bool
  is_recorded v w = is_edge g v w && (not (is_own v) || eqb w (move v))

  -- the same from a vertex whose priority is at most k
  abbrev pub is_recorded_below : ℕ → ℕ → ℕ → Bool
  is_recorded_below k v w = is_recorded v w && leb (g.priority v) k

  -- whether 11 applies at the vertex x: the mark is strange
  abbrev pub test11 : ℕ → Bool
  test11 x = not (ltb (mark x) 2)

  -- 12: a winner's own vertex lacks a move to one of his vertices, or another vertex has a move
  abbrev pub test12 : ℕ → Bool
  test12 x =
      (is_own x && not (is_edge g x (move x) && eqb (mark (move x)) (mark x))) ||
      (not (is_own x) && not (eqb (move x) no_move))

  -- 13: the loser owns x, and some successor has another mark
  abbrev pub test13 : ℕ → Bool
  test13 x = not (is_own x) && is_at (lowest (λ w. is_edge g x w && not (eqb (mark w) (mark x))) g.n)

  -- 14: the parity of x is not its mark, and recorded steps among priorities of at most its own lead back to x
  abbrev pub test14 : ℕ → Bool
  test14 x = not (eqb (parity_of (g.priority x)) (mark x)) && via (is_recorded_below (g.priority x)) g.n x x

  -- a test for each of the rows 11 to 14
  abbrev pub answer_tests : List Test
  answer_tests =
      record { number = 11; passes = test11 } ∷
      record { number = 12; passes = test12 } ∷
      record { number = 13; passes = test13 } ∷
      record { number = 14; passes = test14 } ∷ []

  -- the verdict: the first of 11 to 14 that applies, at its lowest vertex, or success
  abbrev pub verdict_of : Said
  verdict_of = said_by g.n answer_tests
