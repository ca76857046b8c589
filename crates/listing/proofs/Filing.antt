-- What was read: its tables hold the file's game, and its listing is the file's; what was refused, and the line of the refusal.
use Rattle.std.specs.Prelude.{Result, Ok, Err}
use Prim.Native.Nat.{ℕ, ◌+◌, ◌<◌, ◌≤◌}
use mathlib.Core.Path.{◌≡◌, sym, ap, ap₂, subst, ◌∙◌}
use mathlib.Core.Logic.{inl, inr}
use mathlib.Core.List.{List, [], ◌∷◌}
use native.Mathlib.Omega.{arith}
use lib.ListN.{length, get_or}
use Rattle.refusal.specs.promise.Number.{number_of}
use Rattle.refusal.specs.promise.Row.{row, First}
use Rattle.refusal.specs.declared.Refusal.{Refusal}
use Rattle.refusal.proofs.Rows.{first_front}
use Rattle.game.specs.promise.Tables.{Tables, tables_of, WellFormed}
use Rattle.game.specs.promise.Lent.{Fit, Fault8}
use Rattle.game.proofs.Sizes.{none_of_fit}
use Rattle.housefile.specs.declared.Header.{Header}
use Rattle.format.specs.promise.Filed.{vertices_filed, edges_filed, rule_filed, priorities_filed, tables_filed}
use Rattle.housefile.specs.promise.Faults.{table_sizes}
use Rattle.format.specs.promise.Faults.{judged_rows}
use Rattle.housefile.specs.promise.Reading.{Taken, read_said, Reads}
use Rattle.decoding.specs.promise.Holding.{used_parts}
use Rattle.decoding.proofs.Padding.{padded_take}
use Rattle.housefile.proofs.LentRows.{all_judged}
use Rattle.format.proofs.Lists.{owners_long, priorities_long, starts_long, targets_long}
use Rattle.format.proofs.Turning.{turned_long}
use Rattle.housefile.proofs.Exactly.{read_well_formed}
use Rattle.lines.specs.promise.Lines.{refused_line}
use Rattle.listing.specs.promise.Listing.{game_text, SetDown}
use Rattle.text.specs.parts.Append.{Room, Appended}
use Rattle.listing.specs.parts.Answering.{Tabled, AnswerListed, Tellable, Told}
use Rattle.text.proofs.Appending.{appended_within}
use Rattle.lines.proofs.Widths.{refused_line_most}

-- the line of a refusal fits
pub refused_room : (text : List ℕ) (number place : ℕ) → length text ≡ 36880 → Room text 0 (refused_line number place)
refused_room text number place long = record { room = omega (arith, refused_line_most number place) }

module _ (file : List ℕ) (before after : Tables) (bytes : (i : ℕ) → get_or file i 0 < 256) where
  -- the case of success
  module _ (h : Header) (d : Taken file before after (h.vertices ∷ h.edges ∷ [])) where
    n_is : h.vertices ≡ vertices_filed file
    n_is = ap (λ (l : List ℕ). get_or l 0 0) d.values_are

    m_is : h.edges ≡ edges_filed file
    m_is = ap (λ (l : List ℕ). get_or l 1 0) d.values_are

    well : WellFormed (tables_filed file)
    well = read_well_formed file before bytes d.none

    few : h.vertices ≤ 2048
    few = omega (arith, n_is, owners_long file, well.sound.few)

    edges_few : h.edges ≤ 16384
    edges_few = omega (arith, m_is, targets_long file, well.edges)

    front_is : used_parts h.vertices h.edges after ≡ tables_filed file
    front_is =
        let o = padded_take h.vertices (n_is ∙ sym (owners_long file)) few d.holds.owners in
        let p = padded_take h.vertices (n_is ∙ sym (turned_long (rule_filed file) (priorities_filed file) ∙ priorities_long file)) few d.holds.priorities in
        let s = padded_take (h.vertices + 1) (omega (arith, n_is, starts_long file)) (omega (arith, few)) d.holds.starts in
        let e = padded_take h.edges (m_is ∙ sym (targets_long file)) edges_few d.holds.targets in
        λ i. tables_of (o i) (p i) (s i) (e i)

    tabled : Tabled h.vertices h.edges after
    tabled =
        record {
          owners_long = omega (arith, few, d.holds.owners.long);
          priorities_long = omega (arith, few, d.holds.priorities.long);
          starts_long = omega (arith, few, d.holds.starts.long);
          targets_long = omega (arith, edges_few, d.holds.targets.long);
          well_formed = subst (λ (t : Tables). WellFormed t) (sym front_is) well;
        }

    game_set_down : {text text' : List ℕ} {r : ℕ} → AnswerListed (used_parts h.vertices h.edges after) text text' r → SetDown file text text' r
    game_set_down {text} {text'} {r} a =
        let b : AnswerListed (tables_filed file) text text' r = subst (λ (t : Tables). AnswerListed t text text' r) front_is a in
        record {
          within = b.within;
          lists =
              inl
              (record {
                answer = b.answer;
                none = all_judged file before d.none;
                solution = b.solution;
                is = b.done.is ∙ ap₂ (λ (n m : ℕ). game_text n m (tables_filed file) b.answer) (owners_long file) (targets_long file);
              });
          past = b.done.past;
        }

  -- the case of refusal
  first_judged : (f : Refusal) → Fit (table_sizes before) → Reads file before after (read_said (Err f)) → First (judged_rows file) (number_of f.kind) f.place
  first_judged f fit r =
      first_front (judged_rows file) (row 8 (Fault8 (table_sizes before)) ∷ []) (number_of f.kind) f.place (none_of_fit (table_sizes before) fit, tt) r.first

  refused_set_down : {text text' : List ℕ} {n : ℕ} (f : Refusal) → First (judged_rows file) (number_of f.kind) f.place → length text ≡ 36880 → Appended text text' 0 (refused_line (number_of f.kind) f.place) n → SetDown file text text' n
  refused_set_down f first long a =
      record {
        within = appended_within _ (refused_room _ _ _ long) a;
        lists = inr (record { number = number_of f.kind; place = f.place; first = first; is = a.is });
        past = a.past;
      }

  -- by what the reader says

  pub tellable : (said : Result Header Refusal) → Reads file before after (read_said said) → Tellable said after
  tellable (Ok h) r = tabled h r
  tellable (Err f) r = tt

  pub told_set_down : (said : Result Header Refusal) → Reads file before after (read_said said) → Fit (table_sizes before) → {text text' : List ℕ} {k : ℕ} → length text ≡ 36880 → Told said after text text' k → SetDown file text text' k
  told_set_down (Ok h) r fit long a = game_set_down h r a
  told_set_down (Err f) r fit long a = refused_set_down f (first_judged f fit r) long a
