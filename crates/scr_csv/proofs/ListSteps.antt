-- Lists in a line, member by member.
use Rattle.std.proofs.Common.{◌≡◌, ◌≢◌, ℕ, ℤ, zero, suc, ◌+◌, ◌<◌, ◌≤◌, List, [], ◌∷◌, ◌++◌, length, take, Option, Some, None, Result, Ok, Err, refl, ap, sym, ◌∙◌, append_assoc, length-append, arith}
use Rattle.std.specs.Prelude.{option_map, option_and_then}
use Rattle.std.specs.List.{AllByRecursion}
use Rattle.std.proofs.lemmas.List.{append-nil, take_all, take-append-le}
use Rattle.scr_csv.specs.declared.fault.LineFault.{LineFault}
use Rattle.scr_csv.specs.declared.fault.LineFault.TheVariants.{Syntax, NoMemory}
use Rattle.scr_fields.specs.Numbers.{number_value}
use Rattle.scr_csv.specs.Parts.{first_as, first_pair}
use Rattle.scr_csv.specs.Reading.{Rest, field, next, read_to, made, listed, value_in, numbers_from, pairs_from, Answers}

-- the members so far, and those that follow them
abbrev pub behind : {A : Type 0} → List A → Result (List A) LineFault → Result (List A) LineFault
behind members more = made (λ rest. members ++ rest) more

pub behind_next : {A : Type 0} (members : List A) (a : A) (more : Result (List A) LineFault)
    → behind members (made (λ rest. a ∷ rest) more) ≡ behind (members ++ (a ∷ [])) more
behind_next members a (Ok rest) = ap Ok (sym (append_assoc members (a ∷ []) rest))
behind_next members a (Err fault) = refl

-- the answer that is due is an answer
pub due_answers : {A : Type 0} (due answer : Result A LineFault) → due ≡ answer → Answers due answer
due_answers due (Ok a) h = h
due_answers due (Err (Syntax k)) h = h
due_answers due (Err NoMemory) h = tt

pub all_push : {A : Type 0} (P : A → Type 0) (xs : List A) (x : A) → AllByRecursion P xs → P x
    → AllByRecursion P (xs ++ (x ∷ []))
all_push P [] x all h = (h, tt)
all_push P (y ∷ ys) x all h = (all.0, all_push P ys x all.1 h)

record Read {A : Type 0} (o : Result A LineFault) (a : A) (rest after : Rest) : Type 0 where
  value : o ≡ Ok a
  same : rest ≡ after

read_ok : {A : Type 0} (o : Result A LineFault) (a : A) (rest after : Rest) → read_to o rest ≡ Ok (a, after)
    → Read o a rest after
read_ok {A} (Ok b) a rest after h =
    let pair : ◌≡◌ {A = A × Rest} (b, rest) (a, after) = cc in
    record { value = ap (λ p. Ok p.0) pair; same = ap (λ p. p.1) pair }
read_ok {A} (Err fault) a rest after h = absurd (cc)

read_err : {A : Type 0} (o : Result A LineFault) (rest : Rest) (fault : LineFault) → read_to o rest ≡ Err fault
    → o ≡ Err fault
read_err (Ok b) rest fault h = absurd (cc)
read_err (Err e) rest fault h = cc

-- a reader takes one field
pub next-shorter : {A : Type 0} (form : List ℕ → Option A) (number : ℕ) (fields : List (List ℕ)) (a : A) (after : Rest)
    → next form (record { number = number; fields = fields }) ≡ Ok (a, after) → length after.fields < length fields
unfolding next field
next-shorter form number [] a after h = absurd (cc)
next-shorter form number (first ∷ fields) a after h =
    let read = read_ok (value_in form number first) a (record { number = number + 1; fields = fields }) after h in
    rw (← read.same) (omega arith)

listed_ok : {A : Type 0} (a : A) (more : Result (List A) LineFault) → listed (Ok a) more ≡ made (λ rest. a ∷ rest) more
listed_ok a (Ok rest) = refl
listed_ok a (Err fault) = refl

plus_two : (n : ℕ) → (n + 1) + 1 ≡ n + 2
plus_two n = omega arith

pub pairs-next : {A : Type 0} (form : List ℕ → Option A) (number : ℕ) (fields : List (List ℕ)) (a : A) (mid : Rest)
    (z : ℤ) (after : Rest)
    → next form (record { number = number; fields = fields }) ≡ Ok (a, mid) → next number_value mid ≡ Ok (z, after)
    → pairs_from form number fields ≡ made (λ rest. (a, z) ∷ rest) (pairs_from form after.number after.fields)
unfolding next field
pairs-next form number [] a mid z after h k = absurd (cc)
pairs-next form number (first ∷ []) a mid z after h k =
    let read = read_ok (value_in form number first) a (record { number = number + 1; fields = [] }) mid h in
    absurd (cc (rw (← read.same) at k))
pairs-next form number (first ∷ second ∷ fields) a mid z after h k =
    let read = read_ok (value_in form number first) a
    (record { number = number + 1; fields = second ∷ fields }) mid h in
    let amount = read_ok (value_in number_value (number + 1) second) z
    (record { number = (number + 1) + 1; fields = fields }) after (rw (← read.same) at k) in
    rw (read.value, amount.value, ← amount.same, plus_two number)
    (listed_ok (a, z) (pairs_from form (number + 2) fields))

pub pairs-value_fault : {A : Type 0} (form : List ℕ → Option A) (number : ℕ) (fields : List (List ℕ))
    (fault : LineFault)
    → next form (record { number = number; fields = fields }) ≡ Err fault → (fields ≢ [])
    → pairs_from form number fields ≡ Err fault
unfolding next field
pairs-value_fault form number [] fault h some = absurd (some refl)
pairs-value_fault form number (first ∷ []) fault h some = rw (read_err (value_in form number first) _ fault h) refl
pairs-value_fault form number (first ∷ second ∷ fields) fault h some = rw
    (read_err (value_in form number first) _ fault h) refl

pub pairs-number_fault : {A : Type 0} (form : List ℕ → Option A) (number : ℕ) (fields : List (List ℕ)) (a : A)
    (mid : Rest) (fault : LineFault)
    → next form (record { number = number; fields = fields }) ≡ Ok (a, mid) → next number_value mid ≡ Err fault
    → pairs_from form number fields ≡ Err fault
unfolding next field
pairs-number_fault form number [] a mid fault h k = absurd (cc)
pairs-number_fault form number (first ∷ []) a mid fault h k =
    let read = read_ok (value_in form number first) a (record { number = number + 1; fields = [] }) mid h in
    let lacking = rw (← read.same) at k in
    let same : Syntax (number + 1) ≡ fault = cc in
    rw (read.value, same) refl
pairs-number_fault form number (first ∷ second ∷ fields) a mid fault h k =
    let read = read_ok (value_in form number first) a
    (record { number = number + 1; fields = second ∷ fields }) mid h in
    rw (read.value, read_err (value_in number_value (number + 1) second) _ fault (rw (← read.same) at k)) refl

-- ---- two fields at once

pub pair_of : {A B : Type 0} (one : List ℕ → Option A) (two : List ℕ → Option B) (fields mid rest : List (List ℕ)) (a : A) (b : B)
    → first_as one fields ≡ Some (a, mid) → first_as two mid ≡ Some (b, rest)
    → first_pair one two fields ≡ Some ((a, b), rest)
pair_of one two fields mid rest a b h k = rw (h, k) refl

second_of : {A B : Type 0} (a : A) (o : Option B) (fields rest : List (List ℕ)) (p : A × B)
    → option_map {U = (A × B) × List (List ℕ)} (λ more. ((a, more.0), more.1)) (option_map {U = B × List (List ℕ)} (λ value. (value, fields)) o) ≡ Some (p, rest)
    → (o ≡ Some p.1) × (a ≡ p.0) × (fields ≡ rest)
second_of a None fields rest p h = absurd (cc)
second_of {A} {B} a (Some b) fields rest p h =
    let same : ◌≡◌ {A = (A × B) × List (List ℕ)} ((a, b), fields) (p, rest) = cc in
    (ap (λ q. Some q.0.1) same, ap (λ q. q.0.0) same, ap (λ q. q.1) same)

first_of : {A B : Type 0} (o : Option A) (two : List ℕ → Option B) (second : List ℕ) (fields rest : List (List ℕ)) (p : A × B)
    → option_and_then {U = (A × B) × List (List ℕ)} (λ read. option_map (λ more. ((read.0, more.0), more.1)) (first_as two read.1))
    (option_map {U = A × List (List ℕ)} (λ value. (value, second ∷ fields)) o) ≡ Some (p, rest)
    → (o ≡ Some p.0) × (two second ≡ Some p.1) × (fields ≡ rest)
first_of None two second fields rest p h = absurd (cc)
first_of (Some a) two second fields rest p h =
    let read = second_of a (two second) fields rest p h in
    (ap Some read.1, read.0, read.2)

lone : {A B : Type 0} (o : Option A) (two : List ℕ → Option B) (rest : List (List ℕ)) (p : A × B)
    → option_and_then {U = (A × B) × List (List ℕ)} (λ read. option_map (λ more. ((read.0, more.0), more.1)) (first_as two read.1))
    (option_map {U = A × List (List ℕ)} (λ value. (value, [])) o) ≡ Some (p, rest) → ⊥
lone None two rest p h = absurd (cc)
lone (Some a) two rest p h = absurd (cc)

pub pair-next : {A : Type 0} (form : List ℕ → Option A) (number : ℕ) (fields rest : List (List ℕ)) (p : A × ℤ)
    → first_pair form number_value fields ≡ Some (p, rest)
    → pairs_from form number fields ≡ made (λ more. p ∷ more) (pairs_from form (number + 2) rest)
pair-next form number [] rest p h = absurd (cc)
pair-next form number (first ∷ []) rest p h = absurd (lone (form first) number_value rest p h)
pair-next form number (first ∷ second ∷ fields) rest p h =
    let read = first_of (form first) number_value second fields rest p h in
    rw (read.0, read.1, read.2) (listed_ok p (pairs_from form (number + 2) rest))

-- ---- how many members are kept

take_behind : {A : Type 0} (most : ℕ) (xs ys : List A) → take most (take most xs ++ ys) ≡ take most (xs ++ ys)
take_behind zero xs ys = refl
take_behind (suc most) [] ys = refl
take_behind {A} (suc most) (x ∷ xs) ys = ap (λ (more : List A). x ∷ more) (take_behind most xs ys)

pub take_short : {A : Type 0} (most : ℕ) (xs : List A) → length (take most xs) ≤ most
take_short zero xs = omega arith
take_short (suc most) [] = omega arith
take_short (suc most) (x ∷ xs) = omega (arith, take_short most xs)

pub take_every : {A : Type 0} (P : A → Type 0) (most : ℕ) (xs : List A) → AllByRecursion P xs
    → AllByRecursion P (take most xs)
take_every P zero xs all = tt
take_every P (suc most) [] all = tt
take_every P (suc most) (x ∷ xs) all = (all.0, take_every P most xs all.1)

pub with_room : {A : Type 0} (most : ℕ) (members : List A) (a : A) → length members < most
    → members ++ (a ∷ []) ≡ take most (members ++ (a ∷ []))
with_room most members a room = sym (take_all most (members ++ (a ∷ []))
    (omega (arith, room, length-append members (a ∷ []))))

pub without_room : {A : Type 0} (most : ℕ) (members : List A) (a : A) → length members ≤ most → most ≤ length members
    → members ≡ take most (members ++ (a ∷ []))
without_room most members a short full =
    sym (take-append-le most members (a ∷ []) full ∙ take_all most members short)

-- the members that are kept so far, before one more and those that follow it
pub kept_next : {A : Type 0} (most : ℕ) (members : List A) (a : A) (more : Result (List A) LineFault)
    → made (take most) (behind (take most (members ++ (a ∷ []))) more)
    ≡ made (take most) (behind members (made (λ rest. a ∷ rest) more))
kept_next most members a (Ok rest) = ap Ok
    (take_behind most (members ++ (a ∷ [])) rest ∙ ap (take most) (append_assoc members (a ∷ []) rest))
kept_next most members a (Err fault) = refl

-- where none follows, those that are kept are the list
pub kept_end : {A : Type 0} (most : ℕ) (members list : List A) (left due : Result (List A) LineFault)
    → left ≡ Ok [] → length members ≤ most → made (take most) (behind members left) ≡ made (take most) due
    → members ≡ list → made (take most) due ≡ Ok list
kept_end most members list left due none short read is =
    sym read ∙ ap (λ l. made (take most) (behind members l)) none
    ∙ ap Ok (ap (take most) (append-nil members) ∙ take_all most members short ∙ is)

pub numbers-next : (number : ℕ) (fields : List (List ℕ)) (z : ℤ) (after : Rest)
    → next number_value (record { number = number; fields = fields }) ≡ Ok (z, after)
    → numbers_from number fields ≡ made (λ rest. z ∷ rest) (numbers_from after.number after.fields)
unfolding next field
numbers-next number [] z after h = absurd (cc)
numbers-next number (first ∷ fields) z after h =
    let read = read_ok (value_in number_value number first) z (record { number = number + 1; fields = fields }) after h in
    rw (read.value, ← read.same) (listed_ok z (numbers_from (number + 1) fields))
