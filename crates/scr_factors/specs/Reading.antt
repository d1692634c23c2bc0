-- What a factor file holds, or the first fault that it has (this project's own).
use Rattle.std.specs.Prelude.{◌≡◌, ℕ, ◌+◌, if◌then◌else◌, List, [], ◌∷◌, ◌++◌, map, replicate, Option, Some, None}
use Rattle.std.specs.Prelude.{Result, Ok, Err, ok_or, ℤ, pos}
use Rattle.std.specs.Str.{is_utf8}
use Rattle.toml.specs.Data.{Data, Members}
use Rattle.toml.specs.Parse.{parse_document}
use Rattle.scr_factors.specs.declared.key.Key.{Key}
use Rattle.scr_factors.specs.declared.key.Key.TheVariants.{Form, SpreadS0, SpreadS1, SpreadS2, SpreadS3, SpreadS4}
use Rattle.scr_factors.specs.declared.key.Key.TheVariants.{SpreadS5, SpreadS6, SpreadNone, NlPremium, NlReserve, NlCorr}
use Rattle.scr_factors.specs.declared.key.Key.TheVariants.{NsltPremium, NsltReserve}
use Rattle.scr_factors.specs.declared.fault.FactorFault.{FactorFault}
use Rattle.scr_factors.specs.declared.fault.FactorFault.TheVariants.{NotToml, Missing, BadValue, NotSymmetric, NoMemory}
use Rattle.scr_profile.specs.declared.matrix.Matrix.{Matrix}
use Rattle.scr_factors.specs.Keys.{value_at}
use Rattle.scr_factors.specs.Forms.{list_of, whole_number, one, correlation_rows, first_asymmetry}
use Rattle.scr_factors.specs.Values.{FactorValues}

infixl 10 ◌>>=◌
abbrev pub ◌>>=◌ : {A B : Type 0} → Result A FactorFault → (A → Result B FactorFault) → Result B FactorFault
Ok a >>= f = f a
Err fault >>= f = Err fault

-- what a key holds: it is missing, or it has not the form, or it is taken
abbrev pub formed : {A : Type 0} → (Data → Option A) → Key → Option Data → Result A FactorFault
formed form key None = Err (Missing key)
formed form key (Some d) = ok_or (form d) (BadValue key)

abbrev pub taken : {A : Type 0} → (Data → Option A) → Key → Members → Result A FactorFault
taken form key document = formed form key (value_at key document)

-- so many numbers from 0 to 1,000,000
abbrev pub numbers : ℕ → Key → Members → Result (List ℕ) FactorFault
numbers count key document = taken (list_of count (whole_number 1_000_000)) key document

-- ten such numbers under each key
abbrev pub rows : List Key → Members → Result (List (List ℕ)) FactorFault
rows [] document = Ok []
rows (key ∷ keys) document =
    numbers 10 key document >>= (λ row. rows keys document >>= (λ more. Ok (row ∷ more)))

abbrev pub spread_keys : List Key
spread_keys =
    SpreadS0 ∷ SpreadS1 ∷ SpreadS2 ∷ SpreadS3 ∷ SpreadS4 ∷ SpreadS5 ∷ SpreadS6 ∷ SpreadNone ∷ []

-- a row of the matrix
abbrev pub padded : List ℕ → List ℤ
padded row = map pos row ++ replicate 4 (pos 0)

-- the twelve rows as a matrix of hundredths, in which the other places are 0
abbrev pub matrix_of : List (List ℕ) → Matrix
matrix_of rows = record {
  n = 12;
  den = pos 100;
  cells = map padded rows ++ replicate 4 (replicate 16 (pos 0));
}

-- the matrix of the rows, if they are symmetric
abbrev pub symmetric : List (List ℕ) → Option (ℕ × ℕ) → Result Matrix FactorFault
symmetric rows None = Ok (matrix_of rows)
symmetric rows (Some pair) = Err (NotSymmetric (pair.0 + 1) (pair.1 + 1))

-- the values of a document, or the first fault in the order of the keys
abbrev pub values_of : Members → Result FactorValues FactorFault
values_of document =
    taken one Form document >>= (λ _.
    rows spread_keys document >>= (λ spread.
    numbers 12 NlPremium document >>= (λ nl_premium.
    numbers 12 NlReserve document >>= (λ nl_reserve.
    taken correlation_rows NlCorr document >>= (λ correlations.
    numbers 4 NsltPremium document >>= (λ nslt_premium.
    numbers 4 NsltReserve document >>= (λ nslt_reserve.
    symmetric correlations (first_asymmetry correlations) >>= (λ matrix.
    Ok (record {
      spread = spread;
      nl_premium = nl_premium;
      nl_reserve = nl_reserve;
      correlations = matrix;
      nslt_premium = nslt_premium;
      nslt_reserve = nslt_reserve;
    })))))))))

abbrev pub values_if : Option Members → Result FactorValues FactorFault
values_if None = Err NotToml
values_if (Some document) = values_of document

-- those of a file: UTF-8 that is TOML
abbrev pub values_in : List ℕ → Result FactorValues FactorFault
values_in bytes = if is_utf8 bytes then values_if (parse_document bytes) else Err NotToml

-- the answer is the one that is due, and in place of any the want of memory may be told
abbrev pub Answers : Result FactorValues FactorFault → Result FactorValues FactorFault → Type 0
Answers due (Ok values) = due ≡ Ok values
Answers due (Err NoMemory) = Unit {0}
Answers due (Err fault) = due ≡ Err fault
