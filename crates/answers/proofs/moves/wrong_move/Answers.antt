-- `answers::moves::wrong_move` meets its contract. Row 12 is a scan; at each vertex the test by its stretch is the row (Stretches.says12).
use borrow.Author.Rules.{rules}
use Rattle.answers.proofs.Stretches.{stretch_marks, says12}
use Rattle.winning.specs.promise.Faults.{own, other}
use Rattle.game.proofs.Starts.{stretch_of}
use Rattle.storage.proofs.Stores.{has_room}
use Rattle.refusal.proofs.Scans.{scan_more, scan_all}
use native.Mathlib.Omega.{arith}
use Rattle.answers.proofs.moves.wrong_move.Goals as goal

pub mark-p-requires : goal.mark-p-requires
mark-p-requires c = has_room c.requires.stored (search rules)

pub successors-requires : goal.successors-requires
successors-requires c = stretch_of _ _ _ c.requires.well_formed.placed _ (search rules)

pub is_wrong_move-requires : goal.is_wrong_move-requires
is_wrong_move-requires c = stretch_marks c.requires (search rules) c.successors.ensures

pub loop-v-preserved : goal.loop-v-preserved
loop-v-preserved c =
    let s = says12 c.requires (search rules) c.successors.ensures c.owner.ensures c.mark-p.ensures c.recorded-m.ensures c.is_wrong_move.ensures in
    scan_more c.loop-v.invariant (s.fails c.if-is_wrong_move.false)

pub returns : goal.returns
returns c = scan_all c.loop-v.invariant (λ x f. elim f [ own h e g ↦ omega arith | other h e g ↦ omega arith ])
