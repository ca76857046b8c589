-- The update's rows: what is known when none of those before the checker's applies, and what a refusal by them is.
use Prim.Native.Nat.{ℕ, ◌+◌, ◌%◌, ◌<◌}
use mathlib.Core.Path.{◌≡◌, refl, sym, ap, subst}
use mathlib.Core.Logic.Dec
use mathlib.Core.Logic.{inl, inr}
use mathlib.Core.List.{List, [], ◌∷◌, ◌++◌}
use native.Mathlib.Decide.{ℕ_discrete}
use native.Mathlib.Omega.{arith}
use Rattle.std.specs.Prelude.{Result, Ok, Err, MatchResult}
use Rattle.std.specs.Result.{IsErrAnd}
use Rattle.refusal.specs.promise.Row.{Row, row, None, First, Gives}
use Rattle.refusal.specs.promise.Number.{number_of, tested_said}
use Rattle.refusal.specs.declared.Kind.TheVariants.{Game, Second}
use Rattle.refusal.specs.declared.TableFault.{TableFault}
use Rattle.refusal.specs.declared.Refusal.{Refusal}
use Rattle.refusal.proofs.Rows.{none_append, none_left, none_right, first_number}
use Rattle.game.specs.promise.Tables.{Tables, vertices}
use Rattle.game.specs.promise.Faults.{table_rows}
use Rattle.game.specs.promise.Lent.{Fit, Fault8}
use Rattle.storage.specs.promise.Lent.{Lent, Judging}
use Rattle.game.proofs.Sizes.{fit_of_none, none_of_fit}
use Rattle.inputs.specs.promise.Inputs.{Input, second_rows, Fault9, update_sizes, test_rows}
use Rattle.inputs.proofs.SecondKinds.{second_number}

-- the rows of the second game apply where its tables' rows do

first_second : (rows : List Row) (k x : ℕ) → First rows k x → First (second_rows rows) (20 + k) x
first_second [] k x f = f
first_second (r ∷ rows) k x (inl here) = inl (ap (λ (j : ℕ). 20 + j) here.0, here.1)
first_second (r ∷ rows) k x (inr later) = inr (later.0, first_second rows k x later.1)

pub none_second : (rows : List Row) → None rows → None (second_rows rows)
none_second [] n = tt
none_second (r ∷ rows) n = (n.0, none_second rows n.1)

second_none : (rows : List Row) → None (second_rows rows) → None rows
second_none [] n = tt
second_none (r ∷ rows) n = (n.0, second_none rows n.1)

-- r is the refusal q of a game's tables, as one of the second game's
pub record Shifted (q r : Refusal) : Type 0 where
  pub kind : (f : TableFault) → q.kind ≡ Game f → r.kind ≡ Second f
  pub place : r.place ≡ q.place

-- it is the first of the second game's rows
refused_second : (t : Tables) (q r : Refusal) → First (table_rows t) (number_of q.kind) q.place → Shifted q r → First (second_rows (table_rows t)) (number_of r.kind) r.place
refused_second t q r f s =
    let low : number_of q.kind < 8 = first_number (λ (m : ℕ). m < 8) (table_rows t) (number_of q.kind) q.place (omega arith) f in
    let there = first_second (table_rows t) (number_of q.kind) q.place f in
    subst (λ (m : ℕ). First (second_rows (table_rows t)) m r.place) (sym (second_number q.kind r.kind s.kind low))
    (subst (λ (x : ℕ). First (second_rows (table_rows t)) (20 + number_of q.kind) x) (sym s.place) there)

-- so what is said of the second game's tables is what is said of them as a first game's, each refusal shifted
pub second_said :
    (t : Tables) (P : Refusal → Refusal → Type 0) (a b : Result Unit Refusal) → ((q r : Refusal) → P q r → Shifted q r) → Gives (table_rows t) (tested_said a) →
    MatchResult a (λ u. b ≡ Ok u) (λ q. IsErrAnd b (P q)) → Gives (second_rows (table_rows t)) (tested_said b)
second_said t P (Ok u) b shift g m = subst (λ (r : Result Unit Refusal). Gives (second_rows (table_rows t)) (tested_said r)) (sym m) (none_second (table_rows t) g)
second_said t P (Err q) (Ok u) shift g m = absurd m
second_said t P (Err q) (Err r) shift g m = refused_second t q r g (shift q r m)

module _ (i : Input) (l : Lent) where
  abbrev pub games : List Row
  games = table_rows i.first ++ second_rows (table_rows i.second)

  abbrev pub sizes : List Row
  sizes = row 9 (Fault9 (vertices i.first) (vertices i.second)) ∷ row 8 (Fault8 (update_sizes i l)) ∷ []

  -- both games pass 1 to 7, are equally large, and the lists fit
  pub record Free : Type 0 where
    pub first : None (table_rows i.first)
    pub second : None (table_rows i.second)
    pub size : vertices i.first ≡ vertices i.second
    pub fit : Fit (update_sizes i l)

  pub free_of_none : None (test_rows i l) → Free
  free_of_none n =
      let both = none_left games sizes n in
      let rest = none_right games sizes n in
      record {
        first = none_left (table_rows i.first) (second_rows (table_rows i.second)) both;
        second = second_none (table_rows i.second) (none_right (table_rows i.first) (second_rows (table_rows i.second)) both);
        size = (Dec.not-not (ℕ_discrete (vertices i.first) (vertices i.second))).0 (λ ne. rest.0 0 (record { place = refl; differ = ne }));
        fit = fit_of_none _ rest.1.0;
      }

  pub none_of_free : Free → None (test_rows i l)
  none_of_free f =
      none_append games sizes (none_append (table_rows i.first) (second_rows (table_rows i.second)) f.first (none_second (table_rows i.second) f.second))
      ((λ x h. h.differ f.size), (none_of_fit _ f.fit, tt))

  -- none of these rows judges the answer
  pub not_judging : {k x : ℕ} → First (test_rows i l) k x → Judging k → ⊥
  not_judging {k} {x} f j =
      let low : k % 20 < 11 = first_number (λ (m : ℕ). m % 20 < 11) (test_rows i l) k x (omega arith) f in
      omega (arith, j.least, j.most)
