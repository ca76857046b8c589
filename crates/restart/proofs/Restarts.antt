-- A fresh start: the seeds, the closure, the reopening and the stores, one after the other, said of the lists alone.
use Prim.Native.Nat.{ℕ, ◌*◌, ◌<◌}
use mathlib.Core.Path.{◌≡◌, sym, ap, subst, ◌∙◌}
use mathlib.Core.Logic.{◌≢◌}
use mathlib.Core.List.{List}
use native.Mathlib.Omega.{arith}
use lib.ListN.{length, get_or}
use Rattle.space.specs.parts.Work.{section}
use Rattle.space.specs.declared.desk.Desk.{Desk}
use Rattle.reach.specs.parts.Queue.{ClosableIn, ClosedIn, ClearedIn}
use Rattle.space.proofs.Sections.{section_long}
use Rattle.waiting.specs.parts.Lines.{Lines}
use Rattle.waiting.proofs.Standings.{standing_lines}
use Rattle.reopen.specs.parts.Reopening.{Reopenable, Reopened}
use Rattle.restart.specs.parts.Restarting.{SeededAll, Firmed, Restartable, RestartedIn}
use Rattle.restart.proofs.Reaches.{open_reached}

module _
    {n : ℕ} {priorities ins froms : List ℕ} {d : Desk} {winners work : List ℕ}
    (p : Restartable n priorities ins froms d winners work)
  where
    module _ {work₁ : List ℕ} {tail : ℕ} (s : SeededAll n work work₁ tail) where
      pub closable : {moves : List ℕ} → ClosableIn n ins froms moves work₁ tail
      closable =
          let long = s.beside.long ∙ p.standing.work_long in
          record {
            long = long;
            closable =
                record {
                  back = p.back;
                  small = p.standing.small;
                  level_long = section_long n work₁ long 0 (omega arith);
                  queued = s.queued;
                };
          }

      module _ {moves work₂ : List ℕ} {end : ℕ} (c : ClosedIn n ins froms moves 0 work₁ work₂ end) where
        flags : section 0 n work₂ ≡ section 0 n work
        flags = c.beside.levels ∙ s.beside.levels

        pub reopenable : Reopenable n priorities d winners work₂ end
        reopenable =
            record {
              standing =
                  standing_lines p.standing p.standing.laid (c.beside.long ∙ s.beside.long ∙ p.standing.work_long)
                  (rw (c.beside.spare ∙ s.beside.spare) p.standing.lines);
              covered = rw flags p.covered;
              stored = p.stored;
              queued = c.closed.queued;
            }

        module _ {from least : ℕ} {d₃ : Desk} {winners' work₃ : List ℕ} (r : Reopened n priorities d winners work₂ from d₃ winners' work₃ least) where
          long : length work₃ ≡ 4 * n
          long = r.long ∙ reopenable.standing.work_long

          module _ {work' : List ℕ} (x : ClearedIn n work₃ work') where
            -- the flags are those after the reopening
            flag_of : (u : ℕ) → get_or (section 0 n work') u 0 ≡ get_or (section 0 n work₃) u 0
            flag_of u = ap (λ (l : List ℕ). get_or l u 0) x.beside.levels

            -- what is not reached has a 0 there
            blank : (u : ℕ) → u < n → get_or (section 1 n work₂) u 0 ≢ 1 → get_or (section 1 n work₃) u 0 ≡ 0
            blank u l out = ap (λ (k : List ℕ). get_or k u 0) r.reached ∙ omega (arith, c.closed.queued.flag u l)

            -- and so are the links
            lines' : Lines n priorities d₃.waiting d₃.firsts d₃.lasts (section 3 n work')
            lines' = subst (Lines n priorities d₃.waiting d₃.firsts d₃.lasts) (sym x.beside.spare) r.lines

            pub restarted : {d' : Desk} → Firmed n d₃ work₃ d' → RestartedIn n priorities ins froms moves winners work d' winners' work'
            restarted f =
                record {
                  reached = section 1 n work₂;
                  open_reached = open_reached s c;
                  winners_long = r.winners_long;
                  long = x.beside.long ∙ long ∙ sym p.standing.work_long;
                  laid = f.levels_only.laid;
                  reopened =
                      λ u l one.
                      let o = r.reopened u l one in
                      record { flag = λ z. o.flag (sym (flag_of u) ∙ z); mark = o.mark };
                  same_flag = λ u l out. flag_of u ∙ r.flag u l out ∙ ap (λ (k : List ℕ). get_or k u 0) flags;
                  same_mark = r.mark;
                  firm = λ u l out. f.firm u l (blank u l out);
                  unreached = x.filled;
                  lines = rw (f.levels_only.waiting, f.levels_only.firsts, f.levels_only.lasts) lines';
                  covered = rw (f.levels_only.waiting, x.beside.levels) r.covered;
                }
