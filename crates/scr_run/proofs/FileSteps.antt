-- A file that is read, and what its bytes stand for.
use Rattle.std.proofs.Common.{◌≡◌, ℕ, ◌<◌, ◌≤◌, Bool, true, false, cond, nat_le, le-leb, leb-true, arith, List, length, Ok, Err, IsErrOf, refl, ap, sym, subst, ◌∙◌}
use Rattle.scr_io.specs.Content.{Content, IsPresentAnd}
use Rattle.scr_io.specs.Reading.{UnlessFailed}
use Rattle.scr_io.specs.declared.reading.ReadFault.{ReadFault}
use Rattle.scr_io.specs.declared.reading.ReadFault.TheVariants as read_faults
use Rattle.scr_io.specs.declared.reading.TheConstants.{MAX_BYTES}
use Rattle.scr_obligations.specs.Moment.{Shelved, shelved}
use Rattle.scr_obligations.specs.Moment.Answer.{Due}
use Rattle.scr_obligations.specs.Owes.{FailedAt}
use Rattle.scr_obligations.specs.Plan.{and_then}
use Rattle.scr_obligations.specs.Steps.{Passed, Stopped}
use Rattle.scr_obligations.proofs.Walks.{exceeds, lacks_memory, passes_on, same_shelved, stops_on}
use Rattle.scr_factors.specs.Reading.{Answers, values_in}
use Rattle.scr_factors.specs.Values.{FactorValues}
use Rattle.scr_factors.specs.declared.fault.FactorFault.{FactorFault}
use Rattle.scr_factors.specs.declared.fault.FactorFault.TheVariants.{NotToml, Missing, BadValue, NotSymmetric, NoMemory}
use Rattle.scr_sheet.specs.declared.sheet.BalanceSheet.{BalanceSheet}
use Rattle.scr_sheet.specs.declared.fault.Fault.{Fault}
use Rattle.scr_sheet.specs.declared.fault.Fault.TheVariants as faults
use Rattle.scr_run.specs.BookFile.{sheet_of}
use Rattle.scr_run.specs.Readings.{CallsFor, book_in, bytes_in, edits_in, factors_in, sheet_or_fault, status_of_fault, status_unread, too_long_of, values_or_fault}
use Rattle.scr_run.specs.Statuses.{IsEarly, answer_of}
use Rattle.scr_run.specs.declared.files.Role.{Role}
use Rattle.scr_run.specs.declared.files.Role.TheVariants as roles
use Rattle.scr_run.specs.declared.status.Status.{Status}
use Rattle.scr_run.specs.declared.status.Status.TheVariants as statuses

-- the shelf is as before unless a read failed
pub same_unless_failed : (T : Type 0) (fault : ReadFault) (content later : List ℕ → Content) (faults then strays then_strays : ℕ)
    → later ≡ content → UnlessFailed {T = T} (Err fault) ((then ≡ faults) × (then_strays ≡ strays))
    → UnlessFailed {T = T} (Err fault) (shelved later then then_strays ≡ shelved content faults strays)
same_unless_failed T read_faults.Failed content later faults then strays then_strays e h = tt
same_unless_failed T read_faults.TooLong content later faults then strays then_strays e h =
    same_shelved content later faults then strays then_strays e h.0 h.1
same_unless_failed T read_faults.NoMemory content later faults then strays then_strays e h =
    same_shelved content later faults then strays then_strays e h.0 h.1

module _ (name : List ℕ) (before now : Shelved) where
  due_too_long : (role : Role) → now ≡ before → IsPresentAnd (before.content name) (λ bytes. MAX_BYTES < length bytes)
      → Stopped name (bytes_in role) before now (answer_of (too_long_of role))
  due_too_long roles.Factors same there = exceeds name MAX_BYTES (too_long_of roles.Factors) before now same there
  due_too_long roles.Book same there = exceeds name MAX_BYTES (too_long_of roles.Book) before now same there
  due_too_long roles.Edits same there = exceeds name MAX_BYTES (too_long_of roles.Edits) before now same there

  stops_unread : (T : Type 0) (role : Role) (fault : ReadFault)
      → (IsErrOf {T = T} (Err fault) read_faults.TooLong → IsPresentAnd (before.content name) (λ bytes. MAX_BYTES < length bytes))
      → (IsErrOf {T = T} (Err fault) read_faults.Failed → FailedAt name before now)
      → UnlessFailed {T = T} (Err fault) (now ≡ before)
      → Stopped name (bytes_in role) before now (answer_of (status_unread role fault))
  stops_unread T role read_faults.Failed long failed same = record { cause = failed refl }
  stops_unread T role read_faults.TooLong long failed same = due_too_long role same (long refl)
  stops_unread T role read_faults.NoMemory long failed same = record { cause = same }

  -- the file was not read
  pub unread_stops : (T : Type 0) (role : Role) (fault : ReadFault) (status : Status) → status ≡ status_unread role fault
      → (IsErrOf {T = T} (Err fault) read_faults.TooLong → IsPresentAnd (before.content name) (λ bytes. MAX_BYTES < length bytes))
      → (IsErrOf {T = T} (Err fault) read_faults.Failed → FailedAt name before now)
      → UnlessFailed {T = T} (Err fault) (now ≡ before)
      → Stopped name (bytes_in role) before now (answer_of status)
  unread_stops T role fault status e long failed same =
      subst (λ s. Stopped name (bytes_in role) before now (answer_of s)) (sym e) (stops_unread T role fault long failed same)

  module _ (bytes seen : List ℕ) (is_seen : seen ≡ bytes) where
    -- the values of the factor file
    pub factors_passed : (values : FactorValues) → Passed name (bytes_in roles.Factors) before now bytes
        → values_in seen ≡ Ok values → Passed name factors_in before now values
    factors_passed values passed e =
        passes_on name (bytes_in roles.Factors)
        (λ read. values_or_fault (values_in read)) before now bytes values passed
        (ap (λ b. values_or_fault (values_in b)) (sym is_seen) ∙ ap values_or_fault e)

    due_fault : (fault : FactorFault) → Passed name (bytes_in roles.Factors) before now bytes
        → values_in seen ≡ Err fault → Stopped name factors_in before now (Due (statuses.Factors fault))
    due_fault fault passed e =
        stops_on name (bytes_in roles.Factors) (λ read. values_or_fault (values_in read)) before now bytes
        (statuses.Factors fault) passed
        (ap (λ b. values_or_fault (values_in b)) (sym is_seen) ∙ ap values_or_fault e)

    told_fault : (fault : FactorFault) → Passed name (bytes_in roles.Factors) before now bytes
        → Answers (values_in seen) (Err fault)
        → Stopped name factors_in before now (answer_of (status_of_fault fault))
    told_fault NotToml passed h = due_fault NotToml passed h
    told_fault (Missing key) passed h = due_fault (Missing key) passed h
    told_fault (BadValue key) passed h = due_fault (BadValue key) passed h
    told_fault (NotSymmetric i j) passed h = due_fault (NotSymmetric i j) passed h
    told_fault NoMemory passed h = lacks_memory name (bytes_in roles.Factors)
        (λ read. values_or_fault (values_in read)) before now bytes passed

    -- its first fault, or want of memory
    pub factors_stop : (fault : FactorFault) (status : Status) → status ≡ status_of_fault fault
        → Passed name (bytes_in roles.Factors) before now bytes
        → Answers (values_in seen) (Err fault) → Stopped name factors_in before now (answer_of status)
    factors_stop fault status e passed h = subst (λ s. Stopped name factors_in before now (answer_of s)) (sym e)
        (told_fault fault passed h)

    -- the book
    pub book_passed : (sheet : BalanceSheet) → Passed name (bytes_in roles.Book) before now bytes
        → sheet_of seen ≡ Ok sheet → Passed name book_in before now sheet
    book_passed sheet passed e =
        passes_on name (bytes_in roles.Book) (λ read. sheet_or_fault (sheet_of read)) before now bytes sheet passed
        (ap (λ b. sheet_or_fault (sheet_of b)) (sym is_seen) ∙ ap sheet_or_fault e)

    -- its first faulty record
    pub book_stops : (line : ℕ) (fault : Fault) → Passed name (bytes_in roles.Book) before now bytes
        → sheet_of seen ≡ Err (line, fault)
        → Stopped name book_in before now (Due (statuses.Book line fault))
    book_stops line fault passed e =
        stops_on name (bytes_in roles.Book) (λ read. sheet_or_fault (sheet_of read)) before now bytes
        (statuses.Book line fault) passed
        (ap (λ b. sheet_or_fault (sheet_of b)) (sym is_seen) ∙ ap sheet_or_fault e)

-- a fault of a record that is no want of memory
pub record_early : (line : ℕ) (fault : Fault) → (fault ≡ faults.NoMemory → ⊥) → IsEarly (statuses.Book line fault)
record_early line (faults.Syntax k) other = tt
record_early line (faults.UnknownName n) other = tt
record_early line (faults.WrongKind n) other = tt
record_early line (faults.InUse n user) other = tt
record_early line (faults.Cycle path) other = tt
record_early line (faults.Range quantity value limit) other = tt
record_early line faults.NoMemory other = absurd (other refl)

-- ---- bytes at hand

too_many : (n most : ℕ) → most < n → nat_le n most ≡ false
too_many n most long = go (nat_le n most) refl
  where
    go : (b : Bool) → nat_le n most ≡ b → nat_le n most ≡ false
    go true e = absurd (omega (arith, long, leb-true n most e))
    go false e = e

-- bytes at hand that are too long
pub limits : (role : Role) (bytes : List ℕ) (status : Status) → MAX_BYTES < length bytes → status ≡ too_long_of role
    → (status ≡ too_long_of role) × (bytes_in role bytes ≡ Err status)
limits role bytes status long is =
    (is, ap (λ b. cond b (Ok bytes) (Err (too_long_of role))) (too_many _ _ long) ∙ ap Err (sym is))

pub within_limit : (role : Role) (bytes : List ℕ) → length bytes ≤ MAX_BYTES → bytes_in role bytes ≡ Ok bytes
within_limit role bytes short = ap (λ b. cond b (Ok bytes) (Err (too_long_of role))) (le-leb _ _ short)

module _ (bytes : List ℕ) where
  -- a book that is too long
  pub book_long : (status : Status) → status ≡ too_long_of roles.Book → bytes_in roles.Book bytes ≡ Err status
      → CallsFor (book_in bytes) (answer_of status)
  book_long status is e =
      subst (λ s. CallsFor (book_in bytes) (answer_of s)) (sym is)
      (ap (and_then (λ read. sheet_or_fault (sheet_of read))) (e ∙ ap Err is))

  module _ (limited : bytes_in roles.Book bytes ≡ Ok bytes) where
    pub book_read : (sheet : BalanceSheet) → sheet_of bytes ≡ Ok sheet → book_in bytes ≡ Ok sheet
    book_read sheet e = ap (and_then (λ read. sheet_or_fault (sheet_of read))) limited ∙ ap sheet_or_fault e

    pub book_faulty : (line : ℕ) (fault : Fault) → sheet_of bytes ≡ Err (line, fault)
        → book_in bytes ≡ Err (statuses.Book line fault)
    book_faulty line fault e = ap (and_then (λ read. sheet_or_fault (sheet_of read))) limited ∙ ap sheet_or_fault e

-- edits that are too long
pub edits_long : (bytes : List ℕ) (status : Status) → status ≡ too_long_of roles.Edits
    → bytes_in roles.Edits bytes ≡ Err status → CallsFor (edits_in bytes) (answer_of status)
edits_long bytes status is e = subst (λ s. CallsFor (edits_in bytes) (answer_of s)) (sym is) (e ∙ ap Err is)
