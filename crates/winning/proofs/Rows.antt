-- Tests that find each row's places say what the rows give.
use Prim.Native.Nat.{ℕ}
use mathlib.Core.Path.{◌≡◌, sym}
use mathlib.Core.Logic.{inl, inr}
use mathlib.Core.List.{List, [], ◌∷◌}
use Rattle.refusal.specs.promise.Row.{Row, Said, success, refused, Gives}
use Rattle.refusal.specs.parts.Found.{Finds}
use Rattle.std.specs.Prelude.{Option, Some, None as nothing}
use Rattle.winning.specs.parts.Verdict.{Test, lowest, or_said, said_by}

-- each test finds the places of the row that stands where it stands
pub data Matched (n : ℕ) : List Row → List Test → Type 1 where
  none : Matched n [] []
  row :
      {r : Row} {t : Test} {rows : List Row} {tests : List Test} →
      r.number ≡ t.number → Finds r.applies (lowest t.passes n) → Matched n rows tests → Matched n (r ∷ rows) (t ∷ tests)

-- a row's place was found, or the later rows give what is said
gives_or : (r : Row) (rows : List Row) (k : ℕ) (f : Option ℕ) (s : Said) → k ≡ r.number → Finds r.applies f → Gives rows s → Gives (r ∷ rows) (or_said k f s)
gives_or r rows k (Some x) s e h later = inl (e, h)
gives_or r rows k nothing (success values) e h later = (h, later)
gives_or r rows k nothing (refused number place) e h later = inr (h, later)

pub said_gives : {n : ℕ} {rows : List Row} {tests : List Test} → Matched n rows tests → Gives rows (said_by n tests)
said_gives none = tt
said_gives {n} (row {r} {t} {rows} {tests} e h m) = gives_or r rows t.number (lowest t.passes n) (said_by n tests) (sym e) h (said_gives m)
