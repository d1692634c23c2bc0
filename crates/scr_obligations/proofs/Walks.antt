-- A run that follows its plan file by file meets what it owes.
use Rattle.std.proofs.Common.{◌≡◌, ◌<◌, ◌≤◌, ◌+◌, inl, inr, ℕ, Bool, true, false, List, length, Result, Ok, Err, nat_le, replicate, refl, sym, subst, arith}
use Rattle.std.proofs.lemmas.Bool.{le-leb}
use Rattle.std.proofs.lemmas.Bool.Decides.{leb_tells}
use Rattle.std.proofs.lemmas.List.{length-replicate}
use Rattle.scr_io.specs.Content.{Content, Untold, Absent, Holds, IsPresentAnd, RisesOnlyIfAbsent}
use Rattle.scr_obligations.specs.Moment.{Shelved, Sunk, Answer, shelved}
use Rattle.scr_obligations.specs.Moment.Cause.{Reading, Writing, Memory}
use Rattle.scr_obligations.specs.Moment.Answer.{Due, GaveUp}
use Rattle.scr_obligations.specs.Outcome.{TellsNothing, WhereTold}
use Rattle.scr_obligations.specs.Owes.{Allows, GivesUpAt, Owes}
use Rattle.scr_obligations.specs.Plan.{Plan, and_then, ask, limited, unless_refused}
use Rattle.scr_obligations.specs.Steps.{Passed, Stopped, StopsBy}

-- what holds of bytes that a content allows, by what follows from it
pub Allows-map : (content : Content) (P Q : List ℕ → Type 0) → ((bytes : List ℕ) → P bytes → Q bytes) → Allows content P
    → Allows content Q
Allows-map Untold P Q f h = (h.0, f h.0 h.1)
Allows-map Absent P Q f h = h
Allows-map (Holds bytes) P Q f h = f bytes h

-- the bytes that were read are bytes that the content allows
pub Allows-read : (content : Content) (read : List ℕ) → IsPresentAnd content (λ bytes. read ≡ bytes)
    → Allows content (λ bytes. bytes ≡ read)
Allows-read Untold read h = (read, refl)
Allows-read Absent read h = h
Allows-read (Holds bytes) read h = sym h

-- there are bytes above every length
longer : (n : ℕ) → (bytes : List ℕ) × (n < length bytes)
longer n = (replicate (n + 1) 0, omega (arith, length-replicate {A = ℕ} (n + 1) 0))

pub Allows-long : (content : Content) (n : ℕ) → IsPresentAnd content (λ bytes. n < length bytes)
    → Allows content (λ bytes. n < length bytes)
Allows-long Untold n h = longer n
Allows-long Absent n h = h
Allows-long (Holds bytes) n h = h

-- no stray rose at a name that is there
pub present_strays : (content : Content) (P : List ℕ → Type 0) (before now : ℕ) → IsPresentAnd content P
    → RisesOnlyIfAbsent content before now → now ≡ before
present_strays Untold P before now h rises = rises
present_strays Absent P before now h rises = absurd h
present_strays (Holds bytes) P before now h rises = rises

-- ---- a file within its limit

short : {S : Type 0} (most : ℕ) (too_long : S) (bytes : List ℕ) → length bytes ≤ most
    → limited most too_long bytes ≡ Ok bytes
short most too_long bytes h = let e : nat_le (length bytes) most ≡ true = le-leb (length bytes) most h in rw e refl

long : {S : Type 0} (most : ℕ) (too_long : S) (bytes : List ℕ) → most < length bytes
    → limited most too_long bytes ≡ Err too_long
long most too_long bytes h = let e : nat_le (length bytes) most ≡ false = grind
    (arith, leb_tells (length bytes) most) in rw e refl

module _ {S : Type 0} (name : List ℕ) (most : ℕ) (too_long : S) (before now : Shelved) where
  -- the file was read to its end
  pub reads : (read : List ℕ) → now ≡ before → IsPresentAnd (before.content name) (λ bytes. read ≡ bytes)
      → length read ≤ most
      → Passed name (limited most too_long) before now read
  reads read same there fits = record {
    unmoved = same;
    read = Allows-map (before.content name) (λ bytes. bytes ≡ read) (λ bytes. limited most too_long bytes ≡ Ok read)
        (λ bytes e. subst (λ b. limited most too_long b ≡ Ok read) (sym e) (short most too_long read fits))
        (Allows-read (before.content name) read there);
  }

  -- the file is too long
  pub exceeds : now ≡ before → IsPresentAnd (before.content name) (λ bytes. most < length bytes)
      → Stopped name (limited most too_long) before now (Due too_long)
  exceeds same there = record {
    cause = (
      same,
      Allows-map (before.content name) (λ bytes. most < length bytes)
          (λ bytes. limited most too_long bytes ≡ Err too_long)
          (λ bytes h. long most too_long bytes h) (Allows-long (before.content name) most there),
    );
  }

module _ {S V W : Type 0} (name : List ℕ) (reading : List ℕ → Result V S) (next : V → Result W S)
    (before now : Shelved) where
  -- what was read stands for a further value
  pub passes_on : (value : V) (further : W) → Passed name reading before now value → next value ≡ Ok further
      → Passed name (λ bytes. and_then next (reading bytes)) before now further
  passes_on value further passed e = record {
    unmoved = passed.unmoved;
    read = Allows-map (before.content name) (λ bytes. reading bytes ≡ Ok value)
        (λ bytes. and_then next (reading bytes) ≡ Ok further)
        (λ bytes r. subst (λ o. and_then next o ≡ Ok further) (sym r) e) passed.read;
  }

  -- what was read calls for a status
  pub stops_on : (value : V) (due : S) → Passed name reading before now value → next value ≡ Err due
      → Stopped name (λ bytes. and_then next (reading bytes)) before now (Due due)
  stops_on value due passed e = record {
    cause = (
      passed.unmoved,
      Allows-map (before.content name) (λ bytes. reading bytes ≡ Ok value)
          (λ bytes. and_then next (reading bytes) ≡ Err due)
          (λ bytes r. subst (λ o. and_then next o ≡ Err due) (sym r) e) passed.read,
    );
  }

  -- memory was refused after the file was read
  pub lacks_memory : (value : V) → Passed name reading before now value
      → Stopped name (λ bytes. and_then next (reading bytes)) before now (GaveUp Memory)
  lacks_memory value passed = record { cause = passed.unmoved }

  stops_before : (answer : Answer S) → StopsBy name reading before now answer
      → StopsBy name (λ bytes. and_then next (reading bytes)) before now answer
  stops_before (Due status) h = (
    h.0,
    Allows-map (before.content name) (λ bytes. reading bytes ≡ Err status)
        (λ bytes. and_then next (reading bytes) ≡ Err status)
        (λ bytes r. subst (λ o. and_then next o ≡ Err status) (sym r) refl) h.1,
  )
  stops_before (GaveUp Reading) h = h
  stops_before (GaveUp Writing) h = h
  stops_before (GaveUp Memory) h = h

  -- the run stops before what was read is read further
  pub stopped_before : (answer : Answer S) → Stopped name reading before now answer
      → Stopped name (λ bytes. and_then next (reading bytes)) before now answer
  stopped_before answer h = record { cause = stops_before answer h.cause }

module _ {S V : Type 0} (name : List ℕ) (reading : List ℕ → Result V S) (rest : V → Plan S) where
  -- the bytes call for this status
  ends_by : (before now : Shelved) (sink : Sunk) (answer : Answer S) → StopsBy name reading before now answer
      → Owes (ask name reading rest) before now sink sink answer
  unfolding Owes
  ends_by before now sink (Due status) h =
      inr (Allows-map (before.content name) (λ bytes. reading bytes ≡ Err status)
      (λ bytes. Owes (unless_refused rest (reading bytes)) before now sink sink (Due status))
      (λ bytes e. subst (λ r. Owes (unless_refused rest r) before now sink sink (Due status)) (sym e)
      (refl, h.0, refl)) h.1)
  ends_by before now sink (GaveUp Reading) h = inl (h, refl)
  ends_by before now sink (GaveUp Writing) h = absurd h
  ends_by before now sink (GaveUp Memory) h = inl (h, refl)

  -- the run ended at this file, and nothing was written
  pub stops : (before now : Shelved) (old new : Sunk) (answer : Answer S) → Stopped name reading before now answer
      → new ≡ old
      → Owes (ask name reading rest) before now old new answer
  stops before now old new answer h same =
      subst (λ s. Owes (ask name reading rest) before now old s answer) (sym same)
      (ends_by before now old answer h.cause)

  -- the file was passed, and what is owed for the rest was met
  pub goes_on : (before mid now : Shelved) (old new : Sunk) (answer : Answer S) (value : V)
      → Passed name reading before mid value
      → Owes (rest value) mid now old new answer → Owes (ask name reading rest) before now old new answer
  unfolding Owes
  goes_on before mid now old new answer value passed later =
      let since : Owes (rest value) before now old new answer = subst
      (λ m. Owes (rest value) m now old new answer) passed.unmoved later in
      inr (Allows-map (before.content name) (λ bytes. reading bytes ≡ Ok value)
      (λ bytes. Owes (unless_refused rest (reading bytes)) before now old new answer)
      (λ bytes e. subst (λ r. Owes (unless_refused rest r) before now old new answer) (sym e) since) passed.read)

where_told : (content : Content) (P Q : List ℕ → Type 0) (D : Type 0) → ((bytes : List ℕ) → P bytes → Q bytes → D)
    → WhereTold content P → Allows content Q → D
where_told Untold P Q D f p q = f q.0 (p q.0) q.1
where_told Absent P Q D f p q = absurd q
where_told (Holds bytes) P Q D f p q = f bytes p q

-- a plan that tells nothing tells nothing behind a file that was passed
pub silent_later : {S V : Type 0} (name : List ℕ) (reading : List ℕ → Result V S) (rest : V → Plan S)
    (before now : Shelved) (value : V) → Passed name reading before now value
    → TellsNothing (ask name reading rest) before.content → TellsNothing (rest value) now.content
silent_later name reading rest before now value passed silent =
    subst (λ (m : Shelved). TellsNothing (rest value) m.content) (sym passed.unmoved)
    (where_told (before.content name) (λ bytes. TellsNothing (unless_refused rest (reading bytes)) before.content)
    (λ bytes. reading bytes ≡ Ok value)
    (TellsNothing (rest value) before.content)
    (λ bytes p e. subst (λ r. TellsNothing (unless_refused rest r) before.content) e p) silent passed.read)

-- a shelf that tells the same is as it was
pub same_shelved : (content later : List ℕ → Content) (faults then strays then_strays : ℕ) → later ≡ content
    → then ≡ faults → then_strays ≡ strays
    → shelved later then then_strays ≡ shelved content faults strays
same_shelved content later faults then strays then_strays e f s = cc
