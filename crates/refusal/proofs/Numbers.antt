-- Two kinds never share a number, so a refusal is known by its number and place.
use Prim.Native.Nat.{ℕ}
use mathlib.Core.Path.{◌≡◌, refl, sym, ap, ap₂, ◌∙◌}
use mathlib.Core.List.{List, [], ◌∷◌, map, ◌++◌}
use native.Mathlib.Omega.{arith}
use lib.ListN.{get_or}
use Rattle.std.specs.Prelude.{Result, Ok, Err}
use Rattle.refusal.specs.promise.Number.{number_of, said_of, tested_said}
use Rattle.refusal.specs.declared.TableFault.{TableFault}
use Rattle.refusal.specs.declared.TableFault.TheVariants as table
use Rattle.refusal.specs.declared.AnswerFault.TheVariants as answer
use Rattle.refusal.specs.declared.FileFault.TheVariants as file
use Rattle.refusal.specs.declared.Kind.{Kind}
use Rattle.refusal.specs.declared.Kind.TheVariants.{Game, Buffer, Vertices, Claim, Second, Filed}
use Rattle.refusal.specs.declared.Refusal.{Refusal}

-- the kinds of fault of a game's tables, from 1 on
faults : List TableFault
faults = table.Sizes ∷ table.Owner ∷ table.Priority ∷ table.Start ∷ table.Stuck ∷ table.Target ∷ table.Order ∷ []

-- the kinds by their numbers, `Buffer` standing where there is no number
kinds : List Kind
unfolding faults
kinds =
    Buffer ∷ map Game faults ++
    Buffer ∷ Vertices ∷ Buffer ∷
    Claim answer.Mark ∷ Claim answer.Move ∷ Claim answer.Escape ∷ Claim answer.Cycle ∷
    Buffer ∷ Buffer ∷ Buffer ∷ Buffer ∷ Buffer ∷ Buffer ∷ map Second faults ++
    Buffer ∷ Buffer ∷ Buffer ∷ Buffer ∷ Buffer ∷ Buffer ∷ Buffer ∷ Buffer ∷ Buffer ∷ Buffer ∷ Buffer ∷ Buffer ∷ Buffer ∷
    Filed file.Length ∷ Filed file.Check ∷ Filed file.Kind ∷ Filed file.Bytes ∷ Filed file.Edges ∷ Filed file.Output ∷ []

kind_at : (k : Kind) → get_or kinds (number_of k) Buffer ≡ k
unfolding faults kinds
kind_at (Game table.Sizes) = refl
kind_at (Game table.Owner) = refl
kind_at (Game table.Priority) = refl
kind_at (Game table.Start) = refl
kind_at (Game table.Stuck) = refl
kind_at (Game table.Target) = refl
kind_at (Game table.Order) = refl
kind_at Buffer = refl
kind_at Vertices = refl
kind_at (Claim answer.Mark) = refl
kind_at (Claim answer.Move) = refl
kind_at (Claim answer.Escape) = refl
kind_at (Claim answer.Cycle) = refl
kind_at (Second table.Sizes) = refl
kind_at (Second table.Owner) = refl
kind_at (Second table.Priority) = refl
kind_at (Second table.Start) = refl
kind_at (Second table.Stuck) = refl
kind_at (Second table.Target) = refl
kind_at (Second table.Order) = refl
kind_at (Filed file.Length) = refl
kind_at (Filed file.Check) = refl
kind_at (Filed file.Kind) = refl
kind_at (Filed file.Bytes) = refl
kind_at (Filed file.Edges) = refl
kind_at (Filed file.Output) = refl

-- a number names one kind
pub number_injective : (k l : Kind) → number_of k ≡ number_of l → k ≡ l
number_injective k l e = sym (kind_at k) ∙ ap (λ (m : ℕ). get_or kinds m Buffer) e ∙ kind_at l

-- 0 is no kind's number
pub number_some : (k : Kind) → ¬ (number_of k ≡ 0)
unfolding faults kinds
number_some k e =
    let b : k ≡ Buffer = sym (kind_at k) ∙ ap (λ (m : ℕ). get_or kinds m Buffer) e in
    let n : number_of k ≡ 8 = ap number_of b in
    omega arith

-- a refusal is known by its number and place
pub refusal_unique : (q r : Refusal) → said_of q ≡ said_of r → q ≡ r
refusal_unique q r e =
    let k : number_of q.kind ≡ number_of r.kind = cc in
    let x : q.place ≡ r.place = cc in
    ap₂ {C = Refusal} (λ (k : Kind) (x : ℕ). record { kind = k; place = x }) (number_injective q.kind r.kind k) x

-- what is said determines the result
pub result_unique : (a b : Result Unit Refusal) → tested_said a ≡ tested_said b → a ≡ b
result_unique (Ok u) (Ok v) e = refl
result_unique (Ok u) (Err r) e = let z : ◌≡◌ {A = ℕ} 0 1 = cc in absurd (omega arith)
result_unique (Err q) (Ok u) e = let z : ◌≡◌ {A = ℕ} 0 1 = cc in absurd (omega arith)
result_unique (Err q) (Err r) e = ap Err (refusal_unique q r e)
