-- The C functions' promises have no second number, value or final list, moves excepted as the entry points' own theorems say.
use Prim.Native.Nat.{ℕ, ◌<◌}
use mathlib.Core.Path.{◌≡◌, sym, ap, ◌∙◌}
use mathlib.Core.List.{List}
use lib.ListN.{get_or}
use Rattle.refusal.specs.promise.Row.{Said}
use Rattle.game.specs.promise.Tables.{Tables}
use Rattle.storage.specs.promise.Answer.{Answer}
use Rattle.storage.specs.promise.Lent.{Lent}
use Rattle.checker.proofs.Unique.{checks_unique}
use Rattle.solver.proofs.Unique.{Same, solves_unique}
use Rattle.inputs.specs.promise.Inputs.{Input}
use Rattle.update.proofs.Unique.{Alike, updates_unique}
use Rattle.housefile.proofs.Determined.{determined}
use Rattle.writer.proofs.Determined as written
use Rattle.zoetelkorf.specs.promise.Calls.{ChecksBy, SolvesBy, UpdatesBy, ReadsBy, WritesBy}
use Rattle.told.specs.promise.Told.{number_said, value_said, Told}

-- what is said alike is told alike
told_unique : {P Q : Said → Type 0} {k x l y : ℕ} (a : Told P k x) (b : Told Q l y) → a.said ≡ b.said → (k ≡ l) × (x ≡ y)
told_unique a b e = (a.number_is ∙ ap number_said e ∙ sym b.number_is, a.value_is ∙ ap value_said e ∙ sym b.value_is)

pub check_unique :
    (t : Tables) (answer : Answer) (work work1 work2 : List ℕ) (k x l y : ℕ) → ChecksBy t answer work work1 k x → ChecksBy t answer work work2 l y →
    ((k ≡ l) × (x ≡ y)) × (work1 ≡ work2)
check_unique t answer work work1 work2 k x l y a b =
    let u = checks_unique t answer work work1 work2 a.said b.said a.promise b.promise in
    (told_unique a b u.0, u.1)

pub solve_unique :
    (t : Tables) (before : Lent) → ((v : ℕ) → get_or t.priorities v 0 < 256) → (after1 after2 : Lent) (k x l y : ℕ)
    (a : SolvesBy t before after1 k x) (b : SolvesBy t before after2 l y) → ((k ≡ l) × (x ≡ y)) × Same t after1 after2 a.said b.said
solve_unique t before bytes after1 after2 k x l y a b =
    let u = solves_unique t before bytes after1 after2 a.said b.said a.promise b.promise in
    (told_unique a b u.said, u)

pub update_unique :
    (i : Input) (before : Lent) → ((v : ℕ) → get_or i.second.priorities v 0 < 256) → (after1 after2 : Lent) (k x l y : ℕ)
    (a : UpdatesBy i before after1 k x) (b : UpdatesBy i before after2 l y) → ((k ≡ l) × (x ≡ y)) × Alike i before after1 after2 a.said b.said
update_unique i before bytes after1 after2 k x l y a b =
    let u = updates_unique i before bytes after1 after2 a.said b.said a.promise b.promise in
    (told_unique a b u.said, u)

pub read_unique :
    (file : List ℕ) (before after1 after2 : Tables) (k x l y : ℕ) → ReadsBy file before after1 k x → ReadsBy file before after2 l y →
    ((k ≡ l) × (x ≡ y)) × (after1 ≡ after2)
read_unique file before after1 after2 k x l y a b =
    let u = determined file before after1 after2 a.said b.said a.promise b.promise in
    (told_unique a b u.0, u.1)

pub write_unique :
    (t : Tables) (before after1 after2 : List ℕ) (k x l y : ℕ) → WritesBy t before after1 k x → WritesBy t before after2 l y →
    ((k ≡ l) × (x ≡ y)) × (after1 ≡ after2)
write_unique t before after1 after2 k x l y a b =
    let u = written.determined t before after1 after2 a.said b.said a.promise b.promise in
    (told_unique a b u.0, u.1)
