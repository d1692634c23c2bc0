-- How the fields of a record are read, one after another (this project's own).
use Rattle.std.specs.Prelude.{◌≡◌, ℕ, ℤ, ◌+◌, ◌∷◌, List, [], Option, Result, Ok, Err, ok_or}
use Rattle.std.specs.Borrow.{Bor}
use Rattle.scr_csv.specs.declared.fault.LineFault.{LineFault}
use Rattle.scr_csv.specs.declared.fault.LineFault.TheVariants.{Syntax, NoMemory}
use Rattle.scr_fields.specs.Numbers.{number_value}

-- the fields of a line that are still to be read, and the number of the first of them; the verb has number 0
pub record Rest : Type 0 where
  pub number : ℕ
  pub fields : List (List ℕ)

-- what reads some of the fields, and leaves the rest
abbrev pub Reader : Type 0 → Type 0
Reader A = Rest → Result (A × Rest) LineFault

abbrev pub continued : {A B : Type 0} → (A → Rest → Result B LineFault) → Result (A × Rest) LineFault
    → Result B LineFault
continued then (Ok read) = then read.0 read.1
continued then (Err fault) = Err fault

-- one reader, and then what follows it on the rest
infixl 10 ◌>>=◌
abbrev pub ◌>>=◌ : {A B : Type 0} → Reader A → (A → Rest → Result B LineFault) → Rest → Result B LineFault
read >>= then = λ rest. continued then (read rest)

-- a value that was read, with the fields that are left after it
abbrev pub read_to : {A : Type 0} → Result A LineFault → Rest → Result (A × Rest) LineFault
read_to (Ok value) rest = Ok (value, rest)
read_to (Err fault) rest = Err fault

-- the same of a field, as it stands in the line
abbrev pub found_to : Result (ℕ × Bor (List ℕ)) LineFault → Rest → Result ((ℕ × List ℕ) × Rest) LineFault
found_to (Ok found) rest = Ok ((found.0, found.1.now), rest)
found_to (Err fault) rest = Err fault

abbrev pub first_field : ℕ → List (List ℕ) → Result ((ℕ × List ℕ) × Rest) LineFault
first_field number [] = Err (Syntax number)
first_field number (field ∷ fields) = Ok ((number, field), record { number = number + 1; fields = fields })

-- the next field, with its number; where it is missing, its number is the fault's
unfoldable pub field : Reader (ℕ × List ℕ)
field rest = first_field rest.number rest.fields

-- what a field in this form stands for; where it has another, its number is the fault's
abbrev pub value_in : {A : Type 0} → (List ℕ → Option A) → ℕ → List ℕ → Result A LineFault
value_in form number field = ok_or (form field) (Syntax number)

-- the next field in this form
unfoldable pub next : {A : Type 0} → (List ℕ → Option A) → Reader A
next form = field >>= (λ found. read_to (value_in form found.0 found.1))

abbrev pub last : {A : Type 0} → A → ℕ → List (List ℕ) → Result A LineFault
last value number [] = Ok value
last value number (more ∷ fields) = Err (Syntax number)

-- a value where no field is left; a field that is one too many is the fault's
unfoldable pub only : {A : Type 0} → A → Rest → Result A LineFault
only value rest = last value rest.number rest.fields

-- ---- lists, which run to the end of the line

-- two values; where both are faults, the first
abbrev pub both : {A B : Type 0} → Result A LineFault → Result B LineFault → Result (A × B) LineFault
both (Ok a) (Ok b) = Ok (a, b)
both (Ok a) (Err fault) = Err fault
both (Err fault) b = Err fault

abbrev pub made : {A B : Type 0} → (A → B) → Result A LineFault → Result B LineFault
made f (Ok a) = Ok (f a)
made f (Err fault) = Err fault

-- a member, and those after it
abbrev pub listed : {A : Type 0} → Result A LineFault → Result (List A) LineFault → Result (List A) LineFault
listed a more = made (λ p. p.0 ∷ p.1) (both a more)

-- each field is a number
abbrev pub numbers_from : ℕ → List (List ℕ) → Result (List ℤ) LineFault
numbers_from number [] = Ok []
numbers_from number (field ∷ fields) = listed (value_in number_value number field) (numbers_from (number + 1) fields)

-- each two fields are a value in this form and a number; half a pair lacks the number
abbrev pub pairs_from : {A : Type 0} → (List ℕ → Option A) → ℕ → List (List ℕ) → Result (List (A × ℤ)) LineFault
pairs_from form number [] = Ok []
pairs_from form number (value ∷ []) = listed (both (value_in form number value) (Err (Syntax (number + 1)))) (Ok [])
pairs_from form number (value ∷ amount ∷ fields) = listed
    (both (value_in form number value) (value_in number_value (number + 1) amount))
    (pairs_from form (number + 2) fields)

-- ---- answers

-- The answer is the one that is due, and in place of any the want of memory may be told.
abbrev pub Answers : {A : Type 0} → Result A LineFault → Result A LineFault → Type 0
Answers due (Ok value) = due ≡ Ok value
Answers due (Err (Syntax number)) = due ≡ Err (Syntax number)
Answers due (Err NoMemory) = Unit {0}
