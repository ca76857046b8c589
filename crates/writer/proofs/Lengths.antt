-- 46: what is found of the length is what is found of the file's; where no row applies, the output can be filled.
use Prim.Native.Nat.{ℕ, ◌<◌, ◌*◌}
use mathlib.Core.Path.{◌≡◌, refl, sym, subst, ◌∙◌}
use mathlib.Core.List.{List, [], ◌∷◌}
use native.Mathlib.Decide.{ℕ_discrete}
use lib.ListN.{length, get_or}
use Rattle.refusal.specs.promise.Row.{row, Lowest, NoPlace, None}
use Rattle.std.specs.Prelude.{Option, Some, None as nothing, Result, Ok, Err}
use Rattle.refusal.specs.promise.Number.{number_of}
use Rattle.refusal.specs.declared.Kind.{Kind}
use Rattle.refusal.specs.declared.Kind.TheVariants.{Filed}
use Rattle.refusal.specs.declared.FileFault.TheVariants.{Output}
use Rattle.refusal.specs.declared.Refusal.{Refusal}
use Rattle.refusal.specs.parts.Found.{Finds, Refuses}
use Rattle.refusal.proofs.Rows.{none_left, none_of, row_passed, row_refused, first_right}
use Rattle.game.specs.promise.Tables.{Tables, vertices}
use Rattle.game.specs.promise.Faults.{table_rows}
use Rattle.game.proofs.WellFormed.{well_formed}
use Rattle.format.specs.promise.Format.{plain, blocks_of}
use Rattle.format.proofs.FileOf.{file_long}
use Rattle.writer.specs.promise.Faults.{Fault46, write_rows}
use Rattle.writer.specs.promise.Writing.{Writes, written_said}
use Rattle.writer.specs.parts.Filling.{OtherLength, Fillable}

-- a length that is no other is that of the blocks
due : (n m long : ℕ) → NoPlace (OtherLength n m long) → long ≡ 512 * blocks_of n m
due n m long none =
    elim (ℕ_discrete long (512 * blocks_of n m)) [
      | yes e ↦ e
      | no h ↦ absurd (none 0 (record { place = refl; wrong = h }))
    ]

-- and so is one that has passed its test
pub fits : (n m : ℕ) {long : ℕ} {f : Option ℕ} {k : Kind} {q : Result Unit Refusal} {u : Unit {0}} → Refuses f k q → Finds (OtherLength n m long) f → q ≡ Ok u → long ≡ 512 * blocks_of n m
fits n m {long} s h e = due n m long (row_passed (OtherLength n m long) s h e)

module _ (t : Tables) (output : List ℕ) where
  abbrev other : ℕ → Type 0
  other = OtherLength (vertices t) (length t.targets) (length output)

  to : (x : ℕ) → other x → Fault46 t output x
  to x o = record { place = o.place; wrong = λ e. o.wrong (e ∙ file_long (plain t)) }

  back : (x : ℕ) → Fault46 t output x → other x
  back x o = record { place = o.place; wrong = λ e. o.wrong (e ∙ sym (file_long (plain t))) }

  lowest_46 : (x : ℕ) → Lowest other x → Lowest (Fault46 t output) x
  lowest_46 x l = record { holds = to x l.holds; lower = λ y m p. l.lower y m (back y p) }

  finds_46 : (f : Option ℕ) → Finds other f → Finds (Fault46 t output) f
  finds_46 (Some x) l = lowest_46 x l
  finds_46 nothing n = λ x p. n x (back x p)

  -- 1 to 7 do not apply, and 46 is refused
  pub refused_46 :
      {f : Option ℕ} {q : Result Unit Refusal} {r : Refusal} {u : Result ℕ Refusal} →
      None (table_rows t) → Refuses f (Filed Output) q → Finds other f → q ≡ Err r → u ≡ Err r → Writes t output output (written_said u)
  refused_46 {f} {r = r} none s h e given =
      let here = row_refused (Fault46 t output) s (finds_46 f h) e in
      subst (λ (u : Result ℕ Refusal). Writes t output output (written_said u)) (sym given)
      (record { first = first_right (table_rows t) (row 46 (Fault46 t output) ∷ []) (number_of r.kind) r.place none here; same = refl })

  pub fillable : ((v : ℕ) → get_or t.priorities v 0 < 256) → None (write_rows t output) → Fillable t output
  fillable bytes none =
      record {
        well = well_formed t bytes (none_left (table_rows t) (row 46 (Fault46 t output) ∷ []) none);
        long = due _ _ _ (λ x o. none_of 46 (write_rows t output) none x (to x o));
      }
