-- The states from which the method may start are safe, and a kept part stays as it is.
use Prim.Native.Nat.{ℕ, ◌<◌, ◌≤◌}
use mathlib.Core.Path.{◌≡◌, sym, ap, subst, ◌∙◌}
use mathlib.Core.Logic.Dec
use mathlib.Core.Logic.{◌≢◌}
use native.Mathlib.Decide.{ℕ_discrete}
use Rattle.player.specs.promise.Player.{parity_of}
use Rattle.game.specs.promise.Game.{Game, Listed, Edge}
use Rattle.winning.specs.promise.Walk.{Walk}
use Rattle.winning.proofs.Walks.{follow}
use Rattle.winning.specs.parts.Low.{Low}
use Rattle.winning.specs.promise.Faults.{Recorded, Accepted}
use Rattle.winning.proofs.Cycles.{cycle_of}
use Rattle.winning.proofs.Backed.{Backed, recorded_keeps}
use Rattle.winning.proofs.Accepted.{accepted_backed}
use Rattle.justification.specs.parts.Safe.{Support, Safe}
use Rattle.justification.specs.parts.Start.{SameAt, Closed, Start}
use Rattle.justification.proofs.Walks.{carry}
use Rattle.justification.proofs.Lines.{Line, open_line, safe_of, within}
use Rattle.justification.proofs.Eligible.{open_above}

-- no support walk leads from a closed set of settled vertices to an open vertex
pub never_reopened : (g : Game) (mark move settled : ℕ → ℕ) (K : ℕ → Type 0) (v u : ℕ) → Closed g K → ((w : ℕ) → w < g.n → K w → settled w ≡ 1) → v < g.n → settled v ≢ 1 → K u → Walk (Support g mark move settled) u v → ⊥
never_reopened g mark move settled K v u closed kept l f k w =
    f (kept v l (follow K (λ x y s k. closed x y k s.edge) k w))

pub fresh_safe : (h : Game) (mark move settled : ℕ → ℕ) → ((v : ℕ) → v < h.n → mark v ≡ parity_of (h.priority v)) → ((v : ℕ) → v < h.n → settled v ≢ 1) → Safe h mark move settled
fresh_safe h mark move settled own unsettled =
    safe_of h mark move settled (λ u l. open_line h mark move settled (unsettled u l) (own u l))
    (λ x y s. absurd (unsettled x s.edge.from s.justified))
    (λ v u l w f. (open_above h mark move settled (unsettled v l)).high u w f)
    (λ v w s a. own v s.edge.from)

-- an edge of one game is one of another with the same vertices and successors
pub same_edge : {g h : Game} {v w : ℕ} → g.n ≡ h.n → g.next v ≡ h.next v → Edge g v w → Edge h v w
same_edge {w} size next e =
    record { from = rw (sym size) e.from; to = rw (sym size) e.to; listed = subst (λ l. Listed w l) next e.listed }

module _
    (g h : Game) (K : ℕ → Type 0) (old_mark old_move mark move settled : ℕ → ℕ)
    (size : g.n ≡ h.n) (decided : (v : ℕ) → v < h.n → Dec (K v)) (closed : Closed h K)
    (agree : (v : ℕ) → v < h.n → K v → SameAt g h v) (accepted : Accepted g old_mark old_move)
    (start : Start h K old_mark old_move mark move settled)
  where
    was : Backed g old_mark old_move
    was = accepted_backed g old_mark old_move accepted

    line : (u : ℕ) → u < h.n → Line h mark move settled u
    line u l = elim (decided u l) [ yes k ↦ kept_line k | no k ↦ open_line h mark move settled (start.open_settled u l k) (start.open_mark u l k) ]
      where
        kept_line : K u → Line h mark move settled u
        kept_line k =
            record {
              player = rw (start.kept_mark u l k) (was.winner u (rw size l));
              form = λ s o. start.kept_move u l k ∙ was.elsewhere u (rw size l) (λ e. o (sym (agree u l k).owner ∙ e ∙ sym (start.kept_mark u l k)));
              default = λ f. absurd (f (start.kept_settled u l k));
              edge = λ s o. rw (start.kept_move u l k) (same_edge size (agree u l k).next (was.owned u (rw size l) ((agree u l k).owner ∙ o ∙ start.kept_mark u l k)).0);
            }

    -- a settled vertex is a kept one
    kept : {u : ℕ} → u < h.n → settled u ≡ 1 → K u
    kept {u} l s = elim (decided u l) [ yes k ↦ k | no k ↦ absurd (start.open_settled u l k s) ]

    -- so a support step is a step by the old recorded moves
    recorded : {x y : ℕ} → K x → Support h mark move settled x y → Recorded g old_mark old_move x y
    recorded {x} {y} k s =
        let l = s.edge.from in
        record {
          edge = same_edge (sym size) (sym (agree x l k).next) s.edge;
          fixed = λ o. s.fixed (sym (agree x l k).owner ∙ o ∙ sym (start.kept_mark x l k)) ∙ start.kept_move x l k;
        }

    constant : (x y : ℕ) → Support h mark move settled x y → mark y ≡ mark x
    constant x y s =
        let k : K x = kept s.edge.from s.justified in
        start.kept_mark y s.edge.to (closed x y k s.edge) ∙
        recorded_keeps g old_mark old_move was x y (recorded k s) ∙
        sym (start.kept_mark x s.edge.from k)

    low : (v u : ℕ) → v < h.n → Walk (Support h mark move settled) v u → settled u ≢ 1 → h.priority v ≤ h.priority u
    low v u l w f = elim (decided v l) [
      | yes k ↦ absurd (never_reopened h mark move settled K u v closed start.kept_settled (within h mark move settled l w) f k w)
      | no k ↦ (open_above h mark move settled (start.open_settled v l k)).high u w f
    ]

    -- a closed walk of support steps is a cycle by the old recorded moves, and 14 found none that is lost
    round : (v w : ℕ) → Support h mark move settled v w → Walk (Low h (Support h mark move settled) (h.priority v)) w v → mark v ≡ parity_of (h.priority v)
    round v w s a =
        let l = s.edge.from in
        let k : K v = kept l s.justified in
        let level : g.priority v ≡ h.priority v = (agree v l k).priority in
        let back : Walk (Low g (Recorded g old_mark old_move) (g.priority v)) w v = carry K lower (closed v w k s.edge) (rw level a) in
        let c = cycle_of g (Recorded g old_mark old_move) v w (recorded k s) back in
        start.kept_mark v l k ∙
        sym ((Dec.not-not (ℕ_discrete (parity_of (g.priority v)) (old_mark v))).0
        (λ lost. accepted.none.1.1.0 v (record { rest = c.0; cycle = c.1; own_highest = c.2; lost = lost }))) ∙
        ap parity_of level
      where
        lower : {p : ℕ} (x y : ℕ) → Low h (Support h mark move settled) p x y → K x → Low g (Recorded g old_mark old_move) p x y × K y
        lower x y s k =
            (record { taken = recorded k s.taken; low = rw (agree x s.taken.edge.from k).priority s.low }, closed x y k s.taken.edge)

    pub start_safe : Safe h mark move settled
    start_safe = safe_of h mark move settled line constant low round
