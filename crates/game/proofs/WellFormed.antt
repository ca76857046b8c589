-- Tables are well formed exactly if none of 1 to 7 applies.
use Prim.Native.Nat.{ℕ, zero, suc, ◌+◌, ◌-◌, ◌<◌, ◌≤◌}
use native.Mathlib.Nat.{le_refl, not-suc-le-zero}
use native.Mathlib.Numerals.{add-one}
use mathlib.Core.Path.{◌≡◌, refl, sym, subst, ap, ◌∙◌}
use mathlib.Core.Logic.{◌↔◌}
use mathlib.Core.List.{List}
use native.Mathlib.Omega.{arith}
use native.Mathlib.Decide.{ℕ_discrete, dec_le, dec_lt}
use lib.ListN.{length, get_or}
use Rattle.refusal.specs.promise.Row.{None, NoPlace}
use Rattle.refusal.proofs.Rows.{none_of}
use Rattle.game.specs.promise.Game.{Listed, Ascending}
use Rattle.game.specs.promise.Tables.{Tables, vertices, next_of, Placed, WellFormed}
use Rattle.game.specs.promise.Faults.{Fault1, Fault2, Fault3, Fault5, Fault6, Fault7, Descent, table_rows}
use Rattle.game.proofs.Sizes.{none_of_fitting, fitting_of_none}
use Rattle.game.proofs.Starts.{placed_of, none_of_placed, stretch_of, stretch_length, stretch_place, stretch_at}

-- a list ascends exactly if no number of it is not above the one before
ascending_of_none : (l : List ℕ) → NoPlace (Descent l) → Ascending l
ascending_of_none l none i within =
    elim (dec_lt (get_or l i 0) (get_or l (i + 1) 0)) [ yes h ↦ h | no h ↦ absurd (none (i + 1) (record { before = i; follows = refl; within = within; not_above = omega arith })) ]

none_of_ascending : (l : List ℕ) → Ascending l → NoPlace (Descent l)
none_of_ascending l up x d =
    let e = d.follows in
    let h : get_or l d.before 0 < get_or l (d.before + 1) 0 = up d.before (omega (arith, d.within)) in
    let k : get_or l (d.before + 1) 0 ≤ get_or l d.before 0 = subst (λ (i : ℕ). get_or l i 0 ≤ get_or l d.before 0) e d.not_above in
    omega arith

module _ (n : ℕ) (starts targets : List ℕ) (p : Placed n starts targets) where
  inside_of_none : NoPlace (Fault6 n targets) → (v w : ℕ) → v < n → Listed w (next_of starts targets v) → w < n
  inside_of_none none v w l h =
      let e : get_or targets (get_or starts v 0 + h.at) 0 ≡ w = sym (stretch_at starts targets v h.at h.within) ∙ h.is in
      elim (dec_lt w n) [
        | yes k ↦ k
        | no k ↦ absurd (none (get_or starts v 0 + h.at) (record { place = stretch_place starts targets v h.at h.within; outside = omega arith }))
      ]

  -- every place x in the targets lies in a stretch: that of a vertex below v, if the stretches of these reach beyond x
  holder : (v x : ℕ) → v ≤ n → x < get_or starts v 0 → (u : ℕ) × (u < n) × (get_or starts u 0 ≤ x) × (x < get_or starts (u + 1) 0)
  holder zero x l h = absurd (not-suc-le-zero (subst (λ (k : ℕ). x < k) p.first h))
  holder (suc v) x l h = elim (dec_le (get_or starts v 0) x) [
    | yes k ↦ (v, l, k, subst (λ (i : ℕ). x < get_or starts i 0) (sym (add-one v)) h)
    | no k ↦ holder v x (omega arith) (omega arith)
  ]

  none_of_inside : ((v w : ℕ) → v < n → Listed w (next_of starts targets v) → w < n) → NoPlace (Fault6 n targets)
  none_of_inside inside x f =
      let h = holder n x (le_refl _) (subst (λ (k : ℕ). x < k) (sym p.last) f.place) in
      let v = h.0 in
      let i = x - get_or starts v 0 in
      let long = stretch_length starts targets v (stretch_of n starts targets p v h.1) in
      let l : i < length (next_of starts targets v) = omega (arith, h.2, h.3) in
      let e : get_or starts v 0 + i ≡ x = omega (arith, h.2) in
      let w : get_or (next_of starts targets v) i 0 ≡ get_or targets x 0 = stretch_at starts targets v i l ∙ ap (λ (k : ℕ). get_or targets k 0) e in
      omega (arith, inside v (get_or targets x 0) h.1 (record { at = i; within = l; is = w }), f.outside)

module _ (t : Tables) where
  -- bytes are below 256
  pub well_formed : ((v : ℕ) → get_or t.priorities v 0 < 256) → None (table_rows t) → WellFormed t
  well_formed bytes none =
      let rows = table_rows t in
      let fit = fitting_of_none t (none_of 1 rows none) in
      let p = placed_of (vertices t) t.starts t.targets fit.bounds (none_of 4 rows none) in
      record {
        level = fit.level;
        edges = fit.edges;
        placed = p;
        sound =
            record {
              some = fit.some;
              few = fit.few;
              owned = λ v l. elim (dec_lt (get_or t.owners v 0) 2) [ yes k ↦ k | no k ↦ absurd (none_of 2 rows none v (record { vertex = l; strange = k })) ];
              ranked = λ v l. elim (ℕ_discrete (get_or t.priorities v 0) 255) [ yes e ↦ absurd (none_of 3 rows none v (record { vertex = omega (arith, fit.level); top = e })) | no ne ↦ omega (arith, bytes v) ];
              inside = inside_of_none (vertices t) t.starts t.targets p (none_of 6 rows none);
              ascending = λ v l. ascending_of_none _ (λ i d. none_of 7 rows none (get_or t.starts v 0 + i) (record { vertex = v; is_vertex = l; at = i; place = refl; descent = d }));
            };
        moving = λ v l. elim (ℕ_discrete (length (next_of t.starts t.targets v)) 0) [ yes e ↦ absurd (none_of 5 rows none v (record { vertex = l; stuck = e })) | no ne ↦ omega arith ];
      }

  pub none_applies : WellFormed t → None (table_rows t)
  none_applies w = (sizes, (owner, (priority, (none_of_placed (vertices t) t.starts t.targets w.placed, (stuck, (target, (order, tt)))))))
    where
      sizes : NoPlace (Fault1 t)
      sizes = none_of_fitting t (record { some = w.sound.some; few = w.sound.few; level = w.level; bounds = w.placed.bounds; edges = w.edges })

      owner : NoPlace (Fault2 t.owners)
      owner x f = f.strange (w.sound.owned x f.vertex)

      priority : NoPlace (Fault3 t.priorities)
      priority x f =
          let l : x < vertices t = omega (arith, f.vertex, w.level) in
          omega (arith, f.top, w.sound.ranked x l)

      stuck : NoPlace (Fault5 (vertices t) t.starts t.targets)
      stuck x f = omega (arith, f.stuck, w.moving x f.vertex)

      target : NoPlace (Fault6 (vertices t) t.targets)
      target = none_of_inside (vertices t) t.starts t.targets w.placed w.sound.inside

      order : NoPlace (Fault7 (vertices t) t.starts t.targets)
      order x f = none_of_ascending _ (w.sound.ascending f.vertex f.is_vertex) f.at f.descent

  -- accepted exactly if well formed
  pub accepted_iff_well_formed : ((v : ℕ) → get_or t.priorities v 0 < 256) → None (table_rows t) ↔ WellFormed t
  accepted_iff_well_formed bytes = (well_formed bytes, none_applies)

  -- every target of a well-formed game is a vertex
  pub targets_inside : WellFormed t → (e : ℕ) → e < length t.targets → get_or t.targets e 0 < vertices t
  targets_inside w e l =
      elim (dec_lt (get_or t.targets e 0) (vertices t)) [
        | yes k ↦ k
        | no k ↦ absurd (none_of 6 (table_rows t) (none_applies w) e (record { place = l; outside = omega arith }))
      ]
