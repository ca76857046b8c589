-- `storage::marks::strange_mark` meets its contract. Row 11 is a scan; the invariant: no mark passed is strange.
use borrow.Author.Rules.{rules}
use mathlib.Core.Path.{sym, ◌∙◌}
use Rattle.player.proofs.Players.{names_nobody, names_player}
use Rattle.storage.proofs.Stores.{has_room}
use Rattle.refusal.proofs.Scans.{scan_more, scan_found}
use native.Mathlib.Omega.{arith}
use Rattle.storage.proofs.marks.strange_mark.Goals as goal

pub mark-requires : goal.mark-requires
mark-requires c = has_room c.requires (search rules)

pub returns-then-is_err : goal.returns-then-is_err
returns-then-is_err c =
    let strange = names_nobody _ _ c.try_from.ensures (sym c.is_err.ensures.value ∙ c.if-is_err.true) in
    scan_found c.loop-v.invariant (record { vertex = search rules; strange = λ l. strange (omega (arith, c.mark.ensures, l)) })

pub loop-v-preserved : goal.loop-v-preserved
loop-v-preserved c =
    let named = names_player _ _ c.try_from.ensures (sym c.is_err.ensures.value ∙ c.if-is_err.false) in
    scan_more c.loop-v.invariant (λ f. f.strange (omega (arith, c.mark.ensures, named)))
