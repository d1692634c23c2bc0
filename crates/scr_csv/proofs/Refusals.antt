-- A reader tells the first field with which nothing that it reads can begin.
use Rattle.std.proofs.Common.{◌≡◌, ℕ, suc, ℤ, pos, ◌+◌, ◌<◌, ◌≤◌, List, [], ◌∷◌, ◌++◌, length, take, Option, Some, None, Result, Ok, Err, refl, sym, ap, ◌∙◌, codes, arith}
use Rattle.scr_csv.specs.declared.fault.LineFault.{LineFault}
use Rattle.scr_csv.specs.declared.fault.LineFault.TheVariants.{Syntax}
use Rattle.scr_fields.specs.Numbers.{number_value}
use Rattle.scr_csv.specs.Reading.{Rest, ◌>>=◌, field, next, only, value_in, made, listed, both, numbers_from, pairs_from}

-- the fields from number n on
abbrev pub from : ℕ → List (List ℕ) → Rest
from n fields = record { number = n; fields = fields }

-- what the reader takes these fields, or some that begin with them, to be
abbrev pub Are : {B : Type 0} → (Rest → Result B LineFault) → ℕ → List (List ℕ) → Type 0
Are {B} reader n fields = (b : B) × (reader (from n fields) ≡ Ok b)

abbrev pub Begin : {B : Type 0} → (Rest → Result B LineFault) → ℕ → List (List ℕ) → Type 0
Begin reader n fields = (more : List (List ℕ)) × Are reader n (fields ++ more)

-- the field in place j is the first with which nothing begins
pub record Fault {B : Type 0} (reader : Rest → Result B LineFault) (n : ℕ) (fields : List (List ℕ))
    (j : ℕ) : Type 0 where
  pub within : j ≤ length fields
  pub before : Begin reader n (take j fields)
  pub wrong : j < length fields → ¬ Begin reader n (take (suc j) fields)

-- the fault is told of the field in such a place
abbrev pub Told : {B : Type 0} → (Rest → Result B LineFault) → ℕ → List (List ℕ) → LineFault → Type 0
Told reader n fields fault = (j : ℕ) × (fault ≡ Syntax (n + j)) × Fault reader n fields j

pub record Telling {B : Type 0} (reader : Rest → Result B LineFault) : Type 0 where
  pub finish : (n : ℕ) → Begin reader n []
  pub told : (n : ℕ) (fields : List (List ℕ)) (fault : LineFault) → reader (from n fields) ≡ Err fault
      → Told reader n fields fault

-- ---- one field

fault_here : {B : Type 0} (answer : Result B LineFault) (n : ℕ) (fault : LineFault) → answer ≡ Err (Syntax n)
    → answer ≡ Err fault → fault ≡ Syntax (n + 0)
fault_here {B} answer n fault is h =
    let both_are : ◌≡◌ {A = Result B LineFault} (Err (Syntax n)) (Err fault) = sym is ∙ h in
    let same : Syntax n ≡ fault = cc in
    sym same ∙ ap Syntax (omega arith)

not_ok : {B : Type 0} (answer : Result B LineFault) (n : ℕ) → answer ≡ Err (Syntax n) → ¬ ((b : B) × (answer ≡ Ok b))
not_ok answer n h read = absurd (cc (sym h ∙ read.1))

-- nothing is left where more is due
lacking : {B : Type 0} (reader : Rest → Result B LineFault) (n : ℕ) (fault : LineFault) → Begin reader n []
    → reader (from n []) ≡ Err (Syntax n) → reader (from n []) ≡ Err fault → Told reader n [] fault
lacking reader n fault finish is h = (
  0,
  fault_here _ n fault is h,
  record { within = omega arith; before = finish; wrong = λ more. absurd (omega (arith, more)) },
)

-- the first field spoils all that could follow
spoilt : {B : Type 0} (reader : Rest → Result B LineFault) (n : ℕ) (first : List ℕ) (fields : List (List ℕ))
    (fault : LineFault)
    → Begin reader n [] → ((more : List (List ℕ)) → reader (from n (first ∷ more)) ≡ Err (Syntax n))
    → reader (from n (first ∷ fields)) ≡ Err fault → Told reader n (first ∷ fields) fault
spoilt reader n first fields fault finish spoils h = (
  0,
  fault_here _ n fault (spoils fields) h,
  record
      { within = omega arith; before = finish; wrong = λ there begins. not_ok _ n (spoils begins.0) begins.1 },
)

-- the first field is read, and the fault comes after it
after : {B : Type 0} (reader then : Rest → Result B LineFault) (n : ℕ) (first : List ℕ) (fields : List (List ℕ))
    (fault : LineFault)
    → ((more : List (List ℕ)) → reader (from n (first ∷ more)) ≡ then (from (n + 1) more))
    → Told then (n + 1) fields fault → Told reader n (first ∷ fields) fault
after reader then n first fields fault step (j, is, there) =
    let place : (n + 1) + j ≡ n + suc j = omega arith in
    let more = there.before.0 in (
      suc j,
      is ∙ ap Syntax place,
      record {
        within = omega (arith, there.within);
        before = (more, (there.before.1.0, step (take j fields ++ more) ∙ there.before.1.1));
        wrong = λ lt begins. there.wrong (omega (arith, lt))
            (begins.0, (begins.1.0, sym (step (take (suc j) fields ++ begins.0)) ∙ begins.1.1));
      },
    )

-- what asks for this form, and then for what the value in it asks for
first_told : {A B : Type 0} (form : List ℕ → Option A) (reader : Rest → Result B LineFault)
    (then : A → Rest → Result B LineFault) (n : ℕ) (first : List ℕ) (fields : List (List ℕ)) (fault : LineFault)
    → Begin reader n []
    → ((more : List (List ℕ)) → form first ≡ None → reader (from n (first ∷ more)) ≡ Err (Syntax n))
    → ((a : A) (more : List (List ℕ)) → form first ≡ Some a
    → reader (from n (first ∷ more)) ≡ then a (from (n + 1) more))
    → ((a : A) → then a (from (n + 1) fields) ≡ Err fault → Told (then a) (n + 1) fields fault)
    → reader (from n (first ∷ fields)) ≡ Err fault → Told reader n (first ∷ fields) fault
first_told {A} {B} form reader then n first fields fault finish spoils step told h = go (form first) refl
  where
    go : (o : Option A) → form first ≡ o → Told reader n (first ∷ fields) fault
    go None none = spoilt reader n first fields fault finish (λ more. spoils more none) h
    go (Some a) some = after reader (then a) n first fields fault (λ more. step a more some)
        (told a (sym (step a fields some) ∙ h))

-- ---- one reader, and then what follows it

next_is : {A B : Type 0} (form : List ℕ → Option A) (then : A → Rest → Result B LineFault) (n : ℕ) (first : List ℕ)
    (a : A) (more : List (List ℕ))
    → form first ≡ Some a → (next form >>= then) (from n (first ∷ more)) ≡ then a (from (n + 1) more)
unfolding next field
next_is form then n first a more h = rw h refl

next_not : {A B : Type 0} (form : List ℕ → Option A) (then : A → Rest → Result B LineFault) (n : ℕ) (first : List ℕ)
    (more : List (List ℕ))
    → form first ≡ None → (next form >>= then) (from n (first ∷ more)) ≡ Err (Syntax n)
unfolding next field
next_not form then n first more h = rw h refl

next_missing : {A B : Type 0} (form : List ℕ → Option A) (then : A → Rest → Result B LineFault) (n : ℕ)
    → (next form >>= then) (from n []) ≡ Err (Syntax n)
unfolding next field
next_missing form then n = refl

-- a form that some text has, and what tells its faults after it
pub telling-next : {A B : Type 0} (form : List ℕ → Option A) (text : List ℕ) (value : A) → form text ≡ Some value
    → (then : A → Rest → Result B LineFault) → ((a : A) → Telling (then a)) → Telling (next form >>= then)
telling-next {A} {B} form text value has then telling = record { finish = finish; told = told }
  where
    finish : (n : ℕ) → Begin (next form >>= then) n []
    finish n =
        let (more, (b, is)) = (telling value).finish (n + 1) in
        (text ∷ more, (b, next_is form then n text value more has ∙ is))

    told : (n : ℕ) (fields : List (List ℕ)) (fault : LineFault) → (next form >>= then) (from n fields) ≡ Err fault
        → Told (next form >>= then) n fields fault
    told n [] fault h = lacking (next form >>= then) n fault (finish n) (next_missing form then n) h
    told n (first ∷ fields) fault h = first_told form (next form >>= then) then n first fields fault (finish n)
        (next_not form then n first) (next_is form then n first)
        (λ a. (telling a).told (n + 1) fields fault) h

only_finish : {B : Type 0} (value : B) (n : ℕ) → Begin (only value) n []
unfolding only
only_finish value n = ([], (value, refl))

only_surplus : {B : Type 0} (value : B) (n : ℕ) (first : List ℕ) (more : List (List ℕ))
    → only value (from n (first ∷ more)) ≡ Err (Syntax n)
unfolding only
only_surplus value n first more = refl

only_told : {B : Type 0} (value : B) (n : ℕ) (fields : List (List ℕ)) (fault : LineFault)
    → only value (from n fields) ≡ Err fault → Told (only value) n fields fault
unfolding only
only_told value n [] fault h = absurd (cc)
only_told value n (first ∷ fields) fault h =
    spoilt (only value) n first fields fault (only_finish value n) (only_surplus value n first) h

-- no field is left where none may be
pub telling-only : {B : Type 0} (value : B) → Telling (only value)
telling-only value = record { finish = only_finish value; told = only_told value }

-- ---- lists

abbrev numbers : {B : Type 0} → (List ℤ → B) → Rest → Result B LineFault
numbers make rest = made make (numbers_from rest.number rest.fields)

made_listed : {A B : Type 0} (make : List A → B) (a : A) (more : Result (List A) LineFault)
    → made make (listed (Ok a) more) ≡ made (λ rest. make (a ∷ rest)) more
made_listed make a (Ok rest) = refl
made_listed make a (Err fault) = refl

number_is : {B : Type 0} (make : List ℤ → B) (n : ℕ) (first : List ℕ) (z : ℤ) (more : List (List ℕ))
    → number_value first ≡ Some z
    → numbers make (from n (first ∷ more)) ≡ numbers (λ rest. make (z ∷ rest)) (from (n + 1) more)
number_is make n first z more h = rw h (made_listed make z (numbers_from (n + 1) more))

number_not : {B : Type 0} (make : List ℤ → B) (n : ℕ) (first : List ℕ) (more : List (List ℕ))
    → number_value first ≡ None
    → numbers make (from n (first ∷ more)) ≡ Err (Syntax n)
number_not make n first more h = rw h refl

numbers_told : {B : Type 0} (make : List ℤ → B) (n : ℕ) (fields : List (List ℕ)) (fault : LineFault)
    → numbers make (from n fields) ≡ Err fault → Told (numbers make) n fields fault
numbers_told make n [] fault h = absurd (cc)
numbers_told make n (first ∷ fields) fault h =
    first_told number_value (numbers make) (λ z. numbers (λ rest. make (z ∷ rest))) n first fields fault
    ([], (make [], refl)) (number_not make n first) (number_is make n first)
    (λ z. numbers_told (λ rest. make (z ∷ rest)) (n + 1) fields fault) h

pub telling-numbers : {B : Type 0} (make : List ℤ → B) → Telling (numbers make)
telling-numbers make = record { finish = λ n. ([], (make [], refl)); told = numbers_told make }

abbrev pairs : {A B : Type 0} → (List ℕ → Option A) → (List (A × ℤ) → B) → Rest → Result B LineFault
pairs form make rest = made make (pairs_from form rest.number rest.fields)

-- more pairs, where this one is read
abbrev paired : {A B : Type 0} → (List ℕ → Option A) → (List (A × ℤ) → B) → A → ℤ → Rest → Result B LineFault
paired form make a z = pairs form (λ rest. make ((a, z) ∷ rest))

-- what is left of a pair whose value is read: its number, and more pairs
abbrev halved : {A B : Type 0} → (List ℕ → Option A) → (List (A × ℤ) → B) → A → Rest → Result B LineFault
halved form make a = next number_value >>= paired form make a

pair_number : {A B : Type 0} (form : List ℕ → Option A) (make : List (A × ℤ) → B) (n : ℕ) (a : A) (second : List ℕ)
    (more : List (List ℕ)) (o : Option ℤ)
    → number_value second ≡ o
    → made make (listed (both (Ok a) (value_in number_value (n + 1) second)) (pairs_from form (n + 2) more))
    ≡ halved form make a (from (n + 1) (second ∷ more))
unfolding next field
pair_number form make n a second more None none = rw none refl
pair_number form make n a second more (Some z) is =
    let two : (n + 1) + 1 ≡ n + 2 = omega arith in
    rw (is, two) (made_listed make (a, z) (pairs_from form (n + 2) more))

pair_is : {A B : Type 0} (form : List ℕ → Option A) (make : List (A × ℤ) → B) (n : ℕ) (first : List ℕ) (a : A)
    (more : List (List ℕ))
    → form first ≡ Some a → pairs form make (from n (first ∷ more)) ≡ halved form make a (from (n + 1) more)
unfolding next field
pair_is form make n first a [] h = rw h refl
pair_is form make n first a (second ∷ more) h = rw h (pair_number form make n a second more (number_value second) refl)

pair_not : {A B : Type 0} (form : List ℕ → Option A) (make : List (A × ℤ) → B) (n : ℕ) (first : List ℕ)
    (more : List (List ℕ))
    → form first ≡ None → pairs form make (from n (first ∷ more)) ≡ Err (Syntax n)
pair_not form make n first [] h = rw h refl
pair_not form make n first (second ∷ more) h = rw h refl

-- a number ends the last pair
half_finish : {A B : Type 0} (form : List ℕ → Option A) (make : List (A × ℤ) → B) (a : A) (n : ℕ)
    → Begin (halved form make a) n []
half_finish form make a n = (
  codes "0" ∷ [],
  (make ((a, pos 0) ∷ []), next_is number_value (paired form make a) n (codes "0") (pos 0) [] refl),
)

-- the first pair's value, and what tells the faults after it
value_told : {A B : Type 0} (form : List ℕ → Option A) (make : List (A × ℤ) → B) (n : ℕ) (first : List ℕ)
    (fields : List (List ℕ)) (fault : LineFault)
    → ((a : A) → halved form make a (from (n + 1) fields) ≡ Err fault → Told (halved form make a) (n + 1) fields fault)
    → pairs form make (from n (first ∷ fields)) ≡ Err fault → Told (pairs form make) n (first ∷ fields) fault
value_told form make n first fields fault told h =
    first_told form (pairs form make) (halved form make) n first fields fault ([], (make [], refl))
    (pair_not form make n first) (pair_is form make n first) told h

pairs_told : {A B : Type 0} (form : List ℕ → Option A) (make : List (A × ℤ) → B) (n : ℕ) (fields : List (List ℕ))
    (fault : LineFault)
    → pairs form make (from n fields) ≡ Err fault → Told (pairs form make) n fields fault
pairs_told form make n [] fault h = absurd (cc)
pairs_told form make n (first ∷ []) fault h =
    value_told form make n first [] fault
    (λ a. lacking (halved form make a) (n + 1) fault (half_finish form make a (n + 1))
    (next_missing number_value (paired form make a) (n + 1))) h
pairs_told form make n (first ∷ second ∷ fields) fault h =
    value_told form make n first (second ∷ fields) fault
    (λ a. first_told number_value (halved form make a) (paired form make a) (n + 1) second fields fault
    (half_finish form make a (n + 1)) (next_not number_value (paired form make a) (n + 1) second)
    (next_is number_value (paired form make a) (n + 1) second)
    (λ z. pairs_told form (λ rest. make ((a, z) ∷ rest)) ((n + 1) + 1) fields fault)) h

pub telling-pairs : {A B : Type 0} (form : List ℕ → Option A) (make : List (A × ℤ) → B) → Telling (pairs form make)
telling-pairs form make = record { finish = λ n. ([], (make [], refl)); told = pairs_told form make }
