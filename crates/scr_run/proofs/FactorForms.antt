-- The values of a factor file that is read are in form.
use Rattle.std.proofs.Common.{◌≡◌, ℕ, ◌<◌, pos, ◌≤ℤ◌, Bool, true, false, cond, List, Option, Some, None, Result, Ok, Err, refl, sym, ap, subst}
use Rattle.std.specs.Str.{is_utf8}
use Rattle.toml.specs.Data.{Members}
use Rattle.toml.specs.Parse.{parse_document}
use Rattle.scr_factors.specs.Forms.{correlation_rows, first_asymmetry, one}
use Rattle.scr_factors.specs.Reading.{◌>>=◌, matrix_of, numbers, rows, spread_keys, symmetric, taken, values_if, values_in, values_of}
use Rattle.scr_factors.specs.Values.{FactorValues, IsInForm}
use Rattle.scr_factors.specs.declared.fault.FactorFault.{FactorFault}
use Rattle.scr_factors.specs.declared.fault.FactorFault.TheVariants.{NotToml}
use Rattle.scr_factors.specs.declared.key.Key.TheVariants.{Form, NlPremium, NlReserve, NlCorr, NsltPremium, NsltReserve}
use Rattle.scr_factors.proofs.ReadLemmas.{correlations-form, matrix_of-correlation, matrix_of-not_negative, numbers-row, rows-all}
use Rattle.scr_profile.specs.Matrix.{entry, IsCorrelation}
use Rattle.scr_profile.specs.declared.matrix.Matrix.{Matrix}
use Rattle.scr_obligations.specs.Plan.{and_then}
use Rattle.scr_run.specs.Readings.{bytes_in, factors_in, values_or_fault}
use Rattle.scr_run.specs.declared.files.Role.TheVariants as roles
use Rattle.scr_run.specs.declared.status.Status.{Status}

-- the parts of a chain that gives a value
chained : {A B : Type 0} (r : Result A FactorFault) (f : A → Result B FactorFault) (b : B) → (r >>= f) ≡ Ok b
    → (a : A) × (r ≡ Ok a) × (f a ≡ Ok b)
chained (Ok a) f b h = (a, refl, h)
chained (Err fault) f b h = cc

ok-is : (a b : FactorValues) → ◌≡◌ {A = Result FactorValues FactorFault} (Ok a) (Ok b) → a ≡ b
ok-is a b h = cc

-- a matrix is given where no pair of correlations differs
symmetric-ok : (found : List (List ℕ)) (pair : Option (ℕ × ℕ)) (matrix : Matrix) → symmetric found pair ≡ Ok matrix
    → (pair ≡ None) × (matrix ≡ matrix_of found)
symmetric-ok found None matrix h = (refl, let same : matrix_of found ≡ matrix = cc in sym same)
symmetric-ok found (Some pair) matrix h = cc

-- no correlation is below 0
abbrev NoneNegative : Matrix → Type 0
NoneNegative m = (i j : ℕ) → i < m.n → j < m.n → pos 0 ≤ℤ entry m i j

document-in-form : (document : Members) (values : FactorValues) → values_of document ≡ Ok values → IsInForm values
document-in-form document values h =
    let (form, h0, h1) = chained (taken one Form document) _ values h in
    let (spread, spread_is, h2) = chained (rows spread_keys document) _ values h1 in
    let (nl_premium, nl_premium_is, h3) = chained (numbers 12 NlPremium document) _ values h2 in
    let (nl_reserve, nl_reserve_is, h4) = chained (numbers 12 NlReserve document) _ values h3 in
    let (found, found_is, h5) = chained (taken correlation_rows NlCorr document) _ values h4 in
    let (nslt_premium, nslt_premium_is, h6) = chained (numbers 4 NsltPremium document) _ values h5 in
    let (nslt_reserve, nslt_reserve_is, h7) = chained (numbers 4 NsltReserve document) _ values h6 in
    let (matrix, matrix_is, h8) = chained (symmetric found (first_asymmetry found)) _ values h7 in
    let (none, same) = symmetric-ok found (first_asymmetry found) matrix matrix_is in
    let (eight, each) = rows-all spread_keys document spread spread_is in
    let whole = ok-is (record {
      spread = spread;
      nl_premium = nl_premium;
      nl_reserve = nl_reserve;
      correlations = matrix;
      nslt_premium = nslt_premium;
      nslt_reserve = nslt_reserve;
    }) values h8 in
    subst IsInForm whole (record {
      spread_rows = eight;
      spread = each;
      nl_premium = numbers-row 12 NlPremium document nl_premium nl_premium_is;
      nl_reserve = numbers-row 12 NlReserve document nl_reserve nl_reserve_is;
      nl_segments = ap (λ (m : Matrix). m.n) same;
      hundredths = ap (λ (m : Matrix). m.den) same;
      correlations = subst IsCorrelation (sym same) (matrix_of-correlation found (correlations-form document found found_is) none);
      not_negative = subst NoneNegative (sym same) (matrix_of-not_negative found (correlations-form document found found_is));
      nslt_premium = numbers-row 4 NsltPremium document nslt_premium nslt_premium_is;
      nslt_reserve = numbers-row 4 NsltReserve document nslt_reserve nslt_reserve_is;
    })

text-in-form : (document : Option Members) (values : FactorValues) → values_if document ≡ Ok values → IsInForm values
text-in-form None values h = cc
text-in-form (Some document) values h = document-in-form document values h

read-in-form : (bytes : List ℕ) (values : FactorValues) → values_in bytes ≡ Ok values → IsInForm values
read-in-form bytes values h = go (is_utf8 bytes) h
  where
    go : (b : Bool) → cond b (values_if (parse_document bytes)) (Err NotToml) ≡ Ok values → IsInForm values
    go true e = text-in-form (parse_document bytes) values e
    go false e = cc

told-in-form : (read : Result FactorValues FactorFault) (values : FactorValues) → values_or_fault read ≡ Ok values
    → read ≡ Ok values
told-in-form (Ok found) values h = let same : found ≡ values = cc in rw same refl
told-in-form (Err fault) values h = cc

limited-in-form : (bytes : Result (List ℕ) Status) (values : FactorValues)
    → and_then (λ read. values_or_fault (values_in read)) bytes ≡ Ok values → IsInForm values
limited-in-form (Ok read) values h = read-in-form read values (told-in-form (values_in read) values h)
limited-in-form (Err status) values h = cc

pub factors-in-form : (bytes : List ℕ) (values : FactorValues) → factors_in bytes ≡ Ok values → IsInForm values
factors-in-form bytes values h = limited-in-form (bytes_in roles.Factors bytes) values h
