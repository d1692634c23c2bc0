-- Runs of records, each from sheets that have one property to sheets that have another.
use Rattle.std.proofs.Common.{ℕ, zero, suc, ◌<◌, ◌++◌, List, [], ◌∷◌, arith}
use Rattle.scr_sheet.specs.Records.{applied}
use Rattle.scr_sheet.specs.declared.{edit.Edit.Edit, sheet.BalanceSheet.BalanceSheet}
use Rattle.scr_made.specs.Draws.{Drawn, ◌>>◌, each}
use Rattle.scr_made.specs.Accepted.{AreAccepted, IsSound, sheet_after}

-- from each sheet that has the first, the records are accepted and leave one that has the second
abbrev pub Leads : (BalanceSheet → Type 0) → List Edit → (BalanceSheet → Type 0) → Type 0
Leads P edits Q = (sheet : BalanceSheet) → P sheet → AreAccepted edits sheet × Q (sheet_after edits sheet)

pub leads-append : (P Q R : BalanceSheet → Type 0) (xs ys : List Edit) → Leads P xs Q → Leads Q ys R → Leads P (xs ++ ys) R
leads-append P Q R [] ys first then sheet h = then sheet (first sheet h).1
leads-append P Q R (x ∷ xs) ys first then sheet h =
    let now = first sheet h in
    let on = leads-append (λ s. AreAccepted xs s × Q (sheet_after xs s)) Q R xs ys (λ s k. k) then (applied x sheet) (now.0.1, now.1) in
    ((now.0.0, on.0), on.1)

pub leads-one : (P Q : BalanceSheet → Type 0) (edit : Edit)
    → ((sheet : BalanceSheet) → P sheet → IsSound edit sheet × Q (applied edit sheet)) → Leads P (edit ∷ []) Q
leads-one P Q edit step sheet h = let done = step sheet h in ((done.0, tt), done.1)

-- whatever the state of the draws
abbrev pub LeadsMade : (BalanceSheet → Type 0) → Drawn (List Edit) → (BalanceSheet → Type 0) → Type 0
LeadsMade P made Q = (state : ℕ) → Leads P (made state).0 Q

pub made_then : (P Q R : BalanceSheet → Type 0) (first second : Drawn (List Edit)) → LeadsMade P first Q
    → LeadsMade Q second R → LeadsMade P (first >> second) R
made_then P Q R first second h k state =
    leads-append P Q R (first state).0 (second (first state).1).0 (h state) (k (first state).1)

pub made_each : (I : ℕ → BalanceSheet → Type 0) (n : ℕ) (make : ℕ → Drawn (List Edit))
    → ((k : ℕ) → k < n → LeadsMade (I k) (make k) (I (suc k))) → LeadsMade (I zero) (each n make) (I n)
unfolding each
made_each I zero make step state = λ sheet h. (tt, h)
made_each I (suc n) make step state =
    made_then (I zero) (I n) (I (suc n)) (each n make) (make n) (made_each I n make (λ k lt. step k (omega arith)))
    (step n (omega arith)) state
