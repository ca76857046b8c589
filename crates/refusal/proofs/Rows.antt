-- Laws of rows: what is said is determined, rows are joined and taken apart, a row is found by its number, and a test joins its row to what was said.
use Prim.Native.Nat.{ℕ, ◌<◌}
use mathlib.Core.Bool.{Bool, true, false}
use mathlib.Core.Path.{◌≡◌, refl, sym, subst, ap, ap₂, ◌∙◌}
use mathlib.Core.Logic.{inl, inr}
use mathlib.Core.List.{List, [], ◌∷◌, ◌++◌}
use lib.Dec.{eqb}
use native.Mathlib.Decide.{dec_lt}
use native.Mathlib.Omega.{arith}
use Rattle.refusal.specs.promise.Row.{Row, row, refused, Lowest, NoPlace, None, First, Gives}
use Rattle.refusal.specs.promise.Number.{number_of}
use Rattle.std.specs.Prelude.{Option, Some, Result, Ok, Err}
use Rattle.std.specs.Prelude.{None as nothing}
use Rattle.refusal.specs.parts.Found.{Finds, refused_at, Refuses}
use Rattle.refusal.specs.promise.Number.{tested_said}
use Rattle.refusal.specs.declared.Kind.{Kind}
use Rattle.refusal.specs.declared.Refusal.{Refusal}
use Rattle.refusal.proofs.Numbers.{refusal_unique}

-- What is said is determined: one place is the lowest, a refusal leaves no success, and two refusals are one.

pub lowest_unique : {P : ℕ → Type 0} {x y : ℕ} → Lowest P x → Lowest P y → x ≡ y
lowest_unique {x} {y} a b = elim (dec_lt x y) [ yes l ↦ absurd (b.lower x l a.holds) | no h ↦ other h (dec_lt y x) ]
  where
    other : ¬ (x < y) → Dec (y < x) → x ≡ y
    other h (yes l) = absurd (a.lower y l b.holds)
    other h (no k) = omega arith

pub first_not_none : (rows : List Row) (k x : ℕ) → First rows k x → None rows → ⊥
first_not_none [] k x f n = f
first_not_none (r ∷ rows) k x (inl here) n = n.0 x here.1.holds
first_not_none (r ∷ rows) k x (inr later) n = first_not_none rows k x later.1 n.1

pub first_unique : (rows : List Row) (k l x y : ℕ) → First rows k x → First rows l y → refused k x ≡ refused l y
first_unique [] k l x y f g = absurd f
first_unique (r ∷ rows) k l x y (inl a) (inl b) = ap₂ refused (a.0 ∙ sym b.0) (lowest_unique a.1 b.1)
first_unique (r ∷ rows) k l x y (inl a) (inr b) = absurd (b.0 x a.1.holds)
first_unique (r ∷ rows) k l x y (inr a) (inl b) = absurd (a.0 y b.1.holds)
first_unique (r ∷ rows) k l x y (inr a) (inr b) = first_unique rows k l x y a.1 b.1

-- tests have no second result
pub tested_unique : (rows : List Row) (a b : Result Unit Refusal) → Gives rows (tested_said a) → Gives rows (tested_said b) → a ≡ b
tested_unique rows (Ok u) (Ok v) f g = refl
tested_unique rows (Ok u) (Err r) f g = absurd (first_not_none rows (number_of r.kind) r.place g f)
tested_unique rows (Err q) (Ok u) f g = absurd (first_not_none rows (number_of q.kind) q.place f g)
tested_unique rows (Err q) (Err r) f g =
    ap Err (refusal_unique q r (first_unique rows (number_of q.kind) (number_of r.kind) q.place r.place f g))

-- Rows are joined and taken apart.

pub none_append : (rows more : List Row) → None rows → None more → None (rows ++ more)
none_append [] more n m = m
none_append (r ∷ rows) more n m = (n.0, none_append rows more n.1 m)

pub first_left : (rows more : List Row) (k x : ℕ) → First rows k x → First (rows ++ more) k x
first_left [] more k x f = absurd f
first_left (r ∷ rows) more k x (inl here) = inl here
first_left (r ∷ rows) more k x (inr later) = inr (later.0, first_left rows more k x later.1)

pub first_right : (rows more : List Row) (k x : ℕ) → None rows → First more k x → First (rows ++ more) k x
first_right [] more k x n f = f
first_right (r ∷ rows) more k x n f = inr (n.0, first_right rows more k x n.1 f)

-- the first row that applies is not among rows that do not apply
pub first_front : (rows more : List Row) (k x : ℕ) → None more → First (rows ++ more) k x → First rows k x
first_front [] more k x n f = absurd (first_not_none more k x f n)
first_front (r ∷ rows) more k x n (inl here) = inl here
first_front (r ∷ rows) more k x n (inr later) = inr (later.0, first_front rows more k x n later.1)

pub none_left : (rows more : List Row) → None (rows ++ more) → None rows
none_left [] more n = tt
none_left (r ∷ rows) more n = (n.0, none_left rows more n.1)

pub none_right : (rows more : List Row) → None (rows ++ more) → None more
none_right [] more n = n
none_right (r ∷ rows) more n = none_right rows more n.1

-- P holds of every row's number
abbrev pub Numbers : (ℕ → Type 0) → List Row → Type 0
Numbers P [] = Unit {0}
Numbers P (r ∷ rows) = P r.number × Numbers P rows

-- and so of the number that is given
pub first_number : (P : ℕ → Type 0) (rows : List Row) (k x : ℕ) → Numbers P rows → First rows k x → P k
first_number P [] k x n f = absurd f
first_number P (r ∷ rows) k x n (inl here) = subst P (sym here.0) n.0
first_number P (r ∷ rows) k x n (inr later) = first_number P rows k x n.1 later.1

-- A row is found by its number: the first with that number, or one that applies nowhere.

abbrev chosen : Bool → (ℕ → Type 0) → (ℕ → Type 0) → ℕ → Type 0
chosen true P Q = P
chosen false P Q = Q

abbrev pub row_of : ℕ → List Row → ℕ → Type 0
row_of k [] = λ x. ⊥
row_of k (r ∷ rows) = chosen (eqb k r.number) r.applies (row_of k rows)

none_chosen : (b : Bool) (P Q : ℕ → Type 0) → NoPlace P → NoPlace Q → NoPlace (chosen b P Q)
none_chosen true P Q p q = p
none_chosen false P Q p q = q

-- no row applies: not the one with number k
pub none_of : (k : ℕ) (rows : List Row) → None rows → NoPlace (row_of k rows)
none_of k [] n = λ x h. h
none_of k (r ∷ rows) n = none_chosen (eqb k r.number) r.applies (row_of k rows) n.0 (none_of k rows n.1)

-- A test's row comes after those that have passed: its refusal is the first, and else one row more has passed.

refused_row : (P : ℕ → Type 0) (f : Option ℕ) (k : Kind) (r : Refusal) → Finds P f → refused_at f k ≡ Err r → First (row (number_of k) P ∷ []) (number_of r.kind) r.place
refused_row P (Some x) k r h e =
    let is : record { kind = k; place = x } ≡ r = cc in
    subst (λ (q : Refusal). First (row (number_of k) P ∷ []) (number_of q.kind) q.place) is (inl (refl, h))
refused_row P nothing k r h e = absurd (cc)

passed_row : (P : ℕ → Type 0) (f : Option ℕ) (k : Kind) (u : Unit {0}) → Finds P f → refused_at f k ≡ Ok u → NoPlace P
passed_row P (Some x) k u h e = absurd (cc)
passed_row P nothing k u h e = h

-- the test's own row, where it refuses, and where it passes
pub row_refused : (P : ℕ → Type 0) {f : Option ℕ} {k : Kind} {t : Result Unit Refusal} {r : Refusal} → Refuses f k t → Finds P f → t ≡ Err r → First (row (number_of k) P ∷ []) (number_of r.kind) r.place
row_refused P {f} {k} {t} {r} s h e = refused_row P f k r h (sym s.is ∙ e)

pub row_passed : (P : ℕ → Type 0) {f : Option ℕ} {k : Kind} {t : Result Unit Refusal} {u : Unit {0}} → Refuses f k t → Finds P f → t ≡ Ok u → NoPlace P
row_passed P {f} {k} {t} {u} s h e = passed_row P f k u h (sym s.is ∙ e)

-- Rows that have passed, then a test's own: its refusal is the first of all, whatever rows follow, and the last row decides.

pub row_first : (rows : List Row) (P : ℕ → Type 0) (more : List Row) {f : Option ℕ} {k : Kind} {t q : Result Unit Refusal} {r : Refusal} → None rows → Refuses f k t → Finds P f → t ≡ Err r → q ≡ Err r → Gives (rows ++ (row (number_of k) P ∷ more)) (tested_said q)
row_first rows P more {k = k} {r = r} n s h e d =
    subst (λ (q : Result Unit Refusal). Gives (rows ++ (row (number_of k) P ∷ more)) (tested_said q)) (sym d) (first_right rows (row (number_of k) P ∷ more) (number_of r.kind) r.place n (first_left (row (number_of k) P ∷ []) more (number_of r.kind) r.place (row_refused P s h e)))

row_gives : (P : ℕ → Type 0) (f : Option ℕ) (k : Kind) → Finds P f → Gives (row (number_of k) P ∷ []) (tested_said (refused_at f k))
row_gives P (Some x) k h = inl (refl, h)
row_gives P nothing k h = (h, tt)

-- rows that have passed, and more: what is said of those is said of all
pub later : (rows more : List Row) (t : Result Unit Refusal) → None rows → Gives more (tested_said t) → Gives (rows ++ more) (tested_said t)
later rows more (Ok u) n g = none_append rows more n g
later rows more (Err q) n g = first_right rows more (number_of q.kind) q.place n g

pub row_last : (rows : List Row) (P : ℕ → Type 0) {f : Option ℕ} {k : Kind} {t : Result Unit Refusal} → None rows → Refuses f k t → Finds P f → Gives (rows ++ (row (number_of k) P ∷ [])) (tested_said t)
row_last rows P {f} {k} {t} n s h =
    later rows (row (number_of k) P ∷ []) t n (subst (λ (q : Result Unit Refusal). Gives (row (number_of k) P ∷ []) (tested_said q)) (sym s.is) (row_gives P f k h))

-- what `said?` and then `next` give
abbrev joined : (said next : Result Unit Refusal) → Result Unit Refusal
joined (Ok u) next = next
joined (Err r) next = Err r

-- one row more: of the rows and one more the join of what is said of each
pub also : (rows : List Row) (P : ℕ → Type 0) {f : Option ℕ} {k : Kind} {next : Result Unit Refusal} (said : Result Unit Refusal) → Refuses f k next → Gives rows (tested_said said) → Finds P f → Gives (rows ++ (row (number_of k) P ∷ [])) (tested_said (joined said next))
also rows P (Ok u) s g h = row_last rows P g s h
also rows P (Err r) s g h = first_left rows _ (number_of r.kind) r.place g

-- what was refused among the first rows is the first of all, and what passed leaves none of them

pub refused_front : (rows more : List Row) {t q : Result Unit Refusal} {r : Refusal} → Gives rows (tested_said t) → t ≡ Err r → q ≡ Err r → Gives (rows ++ more) (tested_said q)
refused_front rows more {r = r} g e d =
    let f : First rows (number_of r.kind) r.place = subst (λ (q : Result Unit Refusal). Gives rows (tested_said q)) e g in
    subst (λ (q : Result Unit Refusal). Gives (rows ++ more) (tested_said q)) (sym d) (first_left rows more (number_of r.kind) r.place f)

pub passed_front : (rows : List Row) {t : Result Unit Refusal} {u : Unit {0}} → Gives rows (tested_said t) → t ≡ Ok u → None rows
passed_front rows g e = subst (λ (q : Result Unit Refusal). Gives rows (tested_said q)) e g
