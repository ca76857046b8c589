-- `answers::escapes::open_escape` meets its contract. Row 13 is a scan; at each vertex the test by its stretch is the row (Stretches.says13).
use borrow.Author.Rules.{rules}
use Rattle.answers.proofs.Stretches.{stretch_marks, says13}
use Rattle.game.proofs.Starts.{stretch_of}
use Rattle.storage.proofs.Stores.{has_room}
use Rattle.refusal.proofs.Scans.{scan_more, scan_found, scan_all}
use native.Mathlib.Omega.{arith}
use Rattle.answers.proofs.escapes.open_escape.Goals as goal

pub mark-p-requires : goal.mark-p-requires
mark-p-requires c = has_room c.requires.stored (search rules)

pub successors-requires : goal.successors-requires
successors-requires c = stretch_of _ _ _ c.requires.well_formed.placed _ (search rules)

pub is_escape-requires : goal.is_escape-requires
is_escape-requires c = stretch_marks c.requires (search rules) c.successors.ensures

pub returns-then-is_escape : goal.returns-then-is_escape
returns-then-is_escape c =
    let s = says13 c.requires (search rules) c.successors.ensures c.owner.ensures c.mark-p.ensures c.is_escape.ensures in
    scan_found c.loop-v.invariant (s.holds c.if-is_escape.true)

pub loop-v-preserved : goal.loop-v-preserved
loop-v-preserved c =
    let s = says13 c.requires (search rules) c.successors.ensures c.owner.ensures c.mark-p.ensures c.is_escape.ensures in
    scan_more c.loop-v.invariant (s.fails c.if-is_escape.false)

pub returns : goal.returns
returns c = scan_all c.loop-v.invariant (λ x f. omega (arith, f.edge.from))
