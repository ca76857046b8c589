-- Tables that pass row 1 have lengths that fit one another, and lists that pass row 8 are as long as they should be.
use Prim.Native.Nat.{ℕ, ◌+◌, ◌<◌, ◌≤◌}
use mathlib.Core.Path.{◌≡◌, refl, sym, subst}
use mathlib.Core.Logic.{◌≢◌}
use mathlib.Core.List.{List, [], ◌∷◌}
use native.Mathlib.Omega.{arith}
use native.Mathlib.Nat.{not-suc-le-zero}
use native.Mathlib.Decide.{ℕ_discrete, dec_lt}
use lib.ListN.{length}
use Rattle.refusal.specs.promise.Row.{NoPlace, Lowest}
use Rattle.refusal.specs.parts.Found.{Finds}
use Rattle.std.specs.Prelude.{None as nothing}
use Rattle.game.specs.promise.Tables.{Tables, vertices}
use Rattle.game.specs.promise.Faults.{Fault1, no_vertex, over_2048, differ, not-n+1, over_16384}
use Rattle.game.specs.promise.Lent.{Sized, Fit, Fault8}

pub record Fitting (t : Tables) : Type 0 where
  pub some : 0 < vertices t
  pub few : vertices t ≤ 2048
  pub level : length t.priorities ≡ vertices t
  pub bounds : length t.starts ≡ vertices t + 1
  pub edges : length t.targets ≤ 16384

module _ (t : Tables) where
  pub none_of_fitting : Fitting t → NoPlace (Fault1 t)
  none_of_fitting f x (no_vertex _ h) = omega (arith, f.some)
  none_of_fitting f x (over_2048 _ h) = omega (arith, f.few)
  none_of_fitting f x (differ _ h) = h (sym f.level)
  none_of_fitting f x (not-n+1 _ h) = h f.bounds
  none_of_fitting f x (over_16384 _ h) = omega (arith, f.edges)

  pub fitting_of_none : NoPlace (Fault1 t) → Fitting t
  fitting_of_none none =
      record {
        some = elim (ℕ_discrete (vertices t) 0) [ yes e ↦ absurd (none 0 (no_vertex refl e)) | no h ↦ omega arith ];
        few = elim (dec_lt 2048 (vertices t)) [ yes l ↦ absurd (none 0 (over_2048 refl l)) | no h ↦ omega arith ];
        level = elim (ℕ_discrete (vertices t) (length t.priorities)) [ yes e ↦ sym e | no h ↦ absurd (none 0 (differ refl h)) ];
        bounds = elim (ℕ_discrete (length t.starts) (vertices t + 1)) [ yes e ↦ e | no h ↦ absurd (none 0 (not-n+1 refl h)) ];
        edges = elim (dec_lt 16384 (length t.targets)) [ yes l ↦ absurd (none 0 (over_16384 refl l)) | no h ↦ omega arith ];
      }

-- lists that fit pass row 8
pub none_of_fit : (l : List Sized) → Fit l → NoPlace (Fault8 l)
none_of_fit l f x h = h.unfit f

-- and those that pass it fit
fit_or_not : (l : List Sized) → Dec (Fit l)
fit_or_not [] = yes tt
fit_or_not (s ∷ l) = elim (ℕ_discrete s.long s.due) [
  | yes e ↦ elim (fit_or_not l) [ yes f ↦ yes (e, f) | no h ↦ no (λ f. h f.1) ]
  | no h ↦ no (λ f. h f.0)
]

pub fit_of_none : (l : List Sized) → NoPlace (Fault8 l) → Fit l
fit_of_none l none = elim (fit_or_not l) [ yes f ↦ f | no h ↦ absurd (none 0 (record { place = refl; unfit = h })) ]

-- One list more: row 8 as it was found, or found anew.

pub no_lists : Finds (Fault8 []) nothing
no_lists x h = h.unfit tt

pub unfit_before : (l : List Sized) (s : Sized) (x : ℕ) → Lowest (Fault8 l) x → Lowest (Fault8 (s ∷ l)) x
unfit_before l s x h =
    record {
      holds = record { place = h.holds.place; unfit = λ f. h.holds.unfit f.1 };
      lower = λ y k f. not-suc-le-zero (subst (λ (z : ℕ). y < z) h.holds.place k);
    }

pub unfit_now : (l : List Sized) (s : Sized) → s.long ≢ s.due → Lowest (Fault8 (s ∷ l)) 0
unfit_now l s h = record { holds = record { place = refl; unfit = λ f. h f.0 }; lower = λ y k f. not-suc-le-zero k }

pub fit_now : (l : List Sized) (s : Sized) → s.long ≡ s.due → NoPlace (Fault8 l) → NoPlace (Fault8 (s ∷ l))
fit_now l s e none x h = h.unfit (e, fit_of_none l none)
