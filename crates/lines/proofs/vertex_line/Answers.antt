-- `lines::vertex_line` meets its contract. The five fields and the end of the line (Fields).
use Prim.Native.Nat.{ℕ}
use native.Mathlib.Omega.{arith}
use lib.ListN.{length-append}
use Rattle.lines.specs.promise.Lines.{move_field}
use Rattle.lines.proofs.Fields.{listed}
use Rattle.lines.proofs.vertex_line.Goals as goal

pub byte-requires : goal.byte-requires
byte-requires c =
    let b = rw c.from.ensures at c.field-b.ensures in
    let p = rw c.from-2.ensures at c.field-c.ensures in
    let d = rw c.from-3.ensures at c.field-d.ensures in
    record { room = omega (arith, length-append {A = ℕ}, c.requires.room) }

pub returns : goal.returns
returns c =
    let a = c.args in
    let b = rw c.from.ensures at c.field-b.ensures in
    let p = rw c.from-2.ensures at c.field-c.ensures in
    let d = rw c.from-3.ensures at c.field-d.ensures in
    listed a.v a.owner a.priority a.winner (move_field a.to) c.field-a.ensures b p d c.move_field-e.ensures c.byte.ensures
