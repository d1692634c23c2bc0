-- What every run owes, by recursion on its plan.
use Rattle.std.proofs.Common.{◌≡◌, ◌⊎◌, ◌≤◌, inl, inr, ℕ, List, [], ◌++◌, Option, append-nil, refl, sym, ap, subst, arith}
use Rattle.std.specs.Io.KnownBytes.{Appends}
use Rattle.std.proofs.KnownBytes.{Appends-nil}
use Rattle.scr_io.specs.Cause.{Rose}
use Rattle.scr_io.specs.Content.{Content, Untold, Absent, Holds, RisesOnlyIfAbsent}
use Rattle.scr_io.specs.Front.{AppendsFront}
use Rattle.scr_obligations.specs.Answers.{HasItsCause, GaveUpUnwritten, IsDueUnwritten, IsWhole}
use Rattle.scr_obligations.specs.Moment.{Shelved, Sunk, Answer}
use Rattle.scr_obligations.specs.Moment.Cause.{Reading, Writing, Memory}
use Rattle.scr_obligations.specs.Moment.Answer.{Due, GaveUp}
use Rattle.scr_obligations.specs.Outcome.{Outcome, AllowsOnly, Calls, NoneLacks, outcome, outcome_at}
use Rattle.scr_obligations.specs.Outcome.Outcome.{Hidden, Lacking, Ends, Tells}
use Rattle.scr_obligations.specs.Owes.{Allows, EndsWith, GivesUpAt, Owes, Writes}
use Rattle.scr_obligations.specs.Plan.{Plan}
use Rattle.scr_obligations.proofs.Walks.{Allows-map}
use Rattle.scr_obligations.specs.Plan.Plan.{Ask, End, Tell}

-- what follows from each bytes that a content allows follows from the content
allowed : (content : Content) (P : List ℕ → Type 0) (C : Type 0) → ((bytes : List ℕ) → P bytes → C) → Allows content P
    → C
allowed Untold P C f h = f h.0 h.1
allowed Absent P C f h = absurd h
allowed (Holds bytes) P C f h = f bytes h

-- the same for a content that allows only such bytes
allowed_only : (content : Content) (Q P : List ℕ → Type 0) (C : Type 0) → ((bytes : List ℕ) → Q bytes → P bytes → C)
    → AllowsOnly content Q → Allows content P → C
allowed_only Untold Q P C f q h = f h.0 (q h.0) h.1
allowed_only Absent Q P C f q h = absurd h
allowed_only (Holds bytes) Q P C f q h = f bytes q h

-- a front of some bytes may be none of them
pub no_front : (written : Option (List ℕ)) (bytes : List ℕ) → AppendsFront written written bytes
no_front written bytes = ([], (bytes, refl), Appends-nil written)

present_only : (content : Content) (Q : List ℕ → Type 0) (a b : ℕ) → AllowsOnly content Q
    → RisesOnlyIfAbsent content a b → b ≡ a
present_only Untold Q a b q h = h
present_only Absent Q a b q h = absurd q
present_only (Holds bytes) Q a b q h = h

-- a count of strays never falls
never_falls : (content : Content) (a b : ℕ) → RisesOnlyIfAbsent content a b → a ≤ b
never_falls Untold a b h = omega (arith, h)
never_falls Absent a b h = h
never_falls (Holds bytes) a b h = omega (arith, h)

module _ {S : Type 0} where
  -- the same for a content that leads to an outcome which is not hidden
  leads : (content : Content) (rest : List ℕ → Outcome S) (to : Outcome S) (P : List ℕ → Type 0) (C : Type 0)
      → (Hidden ≡ to → ⊥) → outcome_at rest content ≡ to
      → ((bytes : List ℕ) → rest bytes ≡ to → P bytes → C) → Allows content P → C
  leads Untold rest to P C told e f h = absurd (told e)
  leads Absent rest to P C told e f h = absurd h
  leads (Holds bytes) rest to P C told e f h = f bytes e h

  -- no stray rises at a file that the shelf does not lack
  present : (content : Content) (rest : List ℕ → Outcome S) (to : Outcome S) (a b : ℕ) → (Lacking ≡ to → ⊥)
      → outcome_at rest content ≡ to → RisesOnlyIfAbsent content a b → b ≡ a
  present Untold rest to a b there e h = h
  present Absent rest to a b there e h = absurd (there e)
  present (Holds bytes) rest to a b there e h = h

  module _ (before now : Shelved) (old new : Sunk) where
    -- ---- a run that gave up at a file

    given_cause : (name : List ℕ) (answer : Answer S) → GivesUpAt name before now old new answer
        → HasItsCause before now old new answer
    given_cause name (Due status) h = absurd h
    given_cause name (GaveUp Reading) h = (h.0.rose, h.1)
    given_cause name (GaveUp Writing) h = absurd h
    given_cause name (GaveUp Memory) h = (h.0, ap (λ (s : Sunk). s.faults) h.1)

    given_unwritten : (name : List ℕ) (answer : Answer S) → GivesUpAt name before now old new answer
        → GaveUpUnwritten before now answer × (new ≡ old)
    given_unwritten name (Due status) h = absurd h
    given_unwritten name (GaveUp Reading) h = (h.0.rose, h.1)
    given_unwritten name (GaveUp Writing) h = absurd h
    given_unwritten name (GaveUp Memory) h = (tt, h.1)

    given_strays : (name : List ℕ) (answer : Answer S) → GivesUpAt name before now old new answer
        → RisesOnlyIfAbsent (before.content name) before.strays now.strays ⊎ (now.strays ≡ before.strays)
    given_strays name (Due status) h = absurd h
    given_strays name (GaveUp Reading) h = inl h.0.strays
    given_strays name (GaveUp Writing) h = absurd h
    given_strays name (GaveUp Memory) h = inr (ap (λ (s : Shelved). s.strays) h.0)

    given_whole : (due : S) (text : List ℕ) (answer : Answer S) → GaveUpUnwritten before now answer
        → IsWhole due text before now old new answer
    given_whole due text (Due status) h = absurd h
    given_whole due text (GaveUp Reading) h = h
    given_whole due text (GaveUp Writing) h = absurd h
    given_whole due text (GaveUp Memory) h = tt

    -- ---- a run that came to its end

    end_cause : (due : S) (answer : Answer S) → EndsWith due before now old new answer
        → HasItsCause before now old new answer
    end_cause due (Due status) h = (h.1, ap (λ (s : Sunk). s.faults) h.2)
    end_cause due (GaveUp Reading) h = absurd h
    end_cause due (GaveUp Writing) h = absurd h
    end_cause due (GaveUp Memory) h = (h.0, ap (λ (s : Sunk). s.faults) h.1)

    tell_cause : (due : S) (text : List ℕ) (answer : Answer S) → Writes due text before now old new answer
        → HasItsCause before now old new answer
    tell_cause due text (Due status) h = (h.1, h.3)
    tell_cause due text (GaveUp Reading) h = absurd h
    tell_cause due text (GaveUp Writing) h = (h.0, h.2)
    tell_cause due text (GaveUp Memory) h = (h.0, h.2)

    end_strays : (due : S) (answer : Answer S) → EndsWith due before now old new answer → now.strays ≡ before.strays
    end_strays due (Due status) h = ap (λ (s : Shelved). s.strays) h.1
    end_strays due (GaveUp Reading) h = absurd h
    end_strays due (GaveUp Writing) h = absurd h
    end_strays due (GaveUp Memory) h = ap (λ (s : Shelved). s.strays) h.0

    tell_strays : (due : S) (text : List ℕ) (answer : Answer S) → Writes due text before now old new answer
        → now.strays ≡ before.strays
    tell_strays due text (Due status) h = ap (λ (s : Shelved). s.strays) h.1
    tell_strays due text (GaveUp Reading) h = absurd h
    tell_strays due text (GaveUp Writing) h = ap (λ (s : Shelved). s.strays) h.0
    tell_strays due text (GaveUp Memory) h = ap (λ (s : Shelved). s.strays) h.0

    end_due : (due : S) (answer : Answer S) → EndsWith due before now old new answer
        → IsDueUnwritten due before now answer × (new ≡ old)
    end_due due (Due status) h = (inl (ap Due h.0), h.2)
    end_due due (GaveUp Reading) h = absurd h
    end_due due (GaveUp Writing) h = absurd h
    end_due due (GaveUp Memory) h = (inr tt, h.1)

    tell_whole : (due : S) (text : List ℕ) (answer : Answer S) → Writes due text before now old new answer
        → IsWhole due text before now old new answer
    tell_whole due text (Due status) h = (h.0, h.2)
    tell_whole due text (GaveUp Reading) h = absurd h
    tell_whole due text (GaveUp Writing) h = h.2
    tell_whole due text (GaveUp Memory) h = tt

    tell_front : (due : S) (text : List ℕ) (answer : Answer S) → Writes due text before now old new answer
        → AppendsFront old.written new.written text
    tell_front due text (Due status) h = (text, ([], sym (append-nil text)), h.2)
    tell_front due text (GaveUp Reading) h = absurd h
    tell_front due text (GaveUp Writing) h = h.1
    tell_front due text (GaveUp Memory) h = h.1

    -- ---- all plans

    pub cause : (plan : Plan S) (answer : Answer S) → Owes plan before now old new answer
        → HasItsCause before now old new answer
    unfolding Owes
    cause (Ask name rest) answer (inl h) = given_cause name answer h
    cause (Ask name rest) answer (inr h) =
        allowed (before.content name) (λ bytes. Owes (rest bytes) before now old new answer)
        (HasItsCause before now old new answer) (λ bytes. cause (rest bytes) answer) h
    cause (End due) answer h = end_cause due answer h
    cause (Tell due text) answer h = tell_cause due text answer h

    pub called_for : (plan : Plan S) (status : S) → Owes plan before now old new (Due status)
        → Calls plan before.content status
    unfolding Owes
    called_for (Ask name rest) status (inl h) = absurd h
    called_for (Ask name rest) status (inr h) =
        Allows-map (before.content name) (λ bytes. Owes (rest bytes) before now old new (Due status))
        (λ bytes. Calls (rest bytes) before.content status)
        (λ bytes. called_for (rest bytes) status) h
    called_for (End due) status h = h.0
    called_for (Tell due text) status h = h.0

    pub ended : (plan : Plan S) (answer : Answer S) (due : S) → outcome plan before.content ≡ Ends due
        → Owes plan before now old new answer
        → IsDueUnwritten due before now answer × (now.strays ≡ before.strays) × (new ≡ old)
    unfolding Owes
    ended (Ask name rest) answer due e (inl h) =
        let gave_up = given_unwritten name answer h in (
          inr gave_up.0,
          (elim (given_strays name answer h) [
            | inl rises ↦ present (before.content name) (λ bytes. outcome (rest bytes) before.content)
                (Ends due) before.strays now.strays (λ same. absurd (cc)) e rises
            | inr same ↦ same
          ]),
          gave_up.1,
        )
    ended (Ask name rest) answer due e (inr h) =
        leads (before.content name) (λ bytes. outcome (rest bytes) before.content) (Ends due)
        (λ bytes. Owes (rest bytes) before now old new answer)
        (IsDueUnwritten due before now answer × (now.strays ≡ before.strays) × (new ≡ old)) (λ same. absurd (cc)) e
        (λ bytes. ended (rest bytes) answer due) h
    ended (End other) answer due e h =
        let same : other ≡ due = cc in
        let met = end_due other answer h in
        (subst (λ d. IsDueUnwritten d before now answer) same met.0, end_strays other answer h, met.1)
    ended (Tell other text) answer due e h = absurd (cc)

    pub lacking : (plan : Plan S) (answer : Answer S) → outcome plan before.content ≡ Lacking
        → Owes plan before now old new answer → GaveUpUnwritten before now answer × (new ≡ old)
    unfolding Owes
    lacking (Ask name rest) answer e (inl h) = given_unwritten name answer h
    lacking (Ask name rest) answer e (inr h) =
        leads (before.content name) (λ bytes. outcome (rest bytes) before.content) Lacking
        (λ bytes. Owes (rest bytes) before now old new answer)
        (GaveUpUnwritten before now answer × (new ≡ old)) (λ same. absurd (cc)) e
        (λ bytes. lacking (rest bytes) answer) h
    lacking (End other) answer e h = absurd (cc)
    lacking (Tell other text) answer e h = absurd (cc)

    pub whole : (plan : Plan S) (answer : Answer S) (due : S) (text : List ℕ)
        → outcome plan before.content ≡ Tells due text → Owes plan before now old new answer
        → IsWhole due text before now old new answer
    unfolding Owes
    whole (Ask name rest) answer due text e (inl h) = given_whole due text answer (given_unwritten name answer h).0
    whole (Ask name rest) answer due text e (inr h) =
        leads (before.content name) (λ bytes. outcome (rest bytes) before.content) (Tells due text)
        (λ bytes. Owes (rest bytes) before now old new answer)
        (IsWhole due text before now old new answer) (λ same. absurd (cc)) e
        (λ bytes. whole (rest bytes) answer due text) h
    whole (End other) answer due text e h = absurd (cc)
    whole (Tell other said) answer due text e h =
        let same : other ≡ due = cc in
        let texts : said ≡ text = cc in
        subst (λ t. IsWhole due t before now old new answer) texts
        (subst (λ d. IsWhole d said before now old new answer) same (tell_whole other said answer h))

    pub front : (plan : Plan S) (answer : Answer S) (due : S) (text : List ℕ)
        → outcome plan before.content ≡ Tells due text → Owes plan before now old new answer
        → AppendsFront old.written new.written text
    unfolding Owes
    front (Ask name rest) answer due text e (inl h) =
        subst (λ (s : Sunk). AppendsFront old.written s.written text) (sym (given_unwritten name answer h).1)
        (no_front old.written text)
    front (Ask name rest) answer due text e (inr h) =
        leads (before.content name) (λ bytes. outcome (rest bytes) before.content) (Tells due text)
        (λ bytes. Owes (rest bytes) before now old new answer)
        (AppendsFront old.written new.written text) (λ same. absurd (cc)) e
        (λ bytes. front (rest bytes) answer due text) h
    front (End other) answer due text e h = absurd (cc)
    front (Tell other said) answer due text e h =
        let texts : said ≡ text = cc in
        subst (AppendsFront old.written new.written) texts (tell_front other said answer h)

    pub strays : (plan : Plan S) (answer : Answer S) → Owes plan before now old new answer → before.strays ≤ now.strays
    unfolding Owes
    strays (Ask name rest) answer (inl h) = elim
        (given_strays name answer h) [
          | inl rises ↦ never_falls
              (before.content name) before.strays now.strays rises
          | inr same ↦ omega (arith, same)
        ]
    strays (Ask name rest) answer (inr h) =
        allowed (before.content name) (λ bytes. Owes (rest bytes) before now old new answer)
        (before.strays ≤ now.strays) (λ bytes. strays (rest bytes) answer) h
    strays (End due) answer h = omega (arith, end_strays due answer h)
    strays (Tell due text) answer h = omega (arith, tell_strays due text answer h)

    pub no_stray : (plan : Plan S) (answer : Answer S) → NoneLacks plan before.content
        → Owes plan before now old new answer → now.strays ≡ before.strays
    unfolding Owes
    no_stray (Ask name rest) answer there (inl h) =
        elim (given_strays name answer h) [
          | inl rises ↦ present_only (before.content name)
              (λ bytes. NoneLacks (rest bytes) before.content) before.strays now.strays there rises
          | inr same ↦ same
        ]
    no_stray (Ask name rest) answer there (inr h) =
        allowed_only (before.content name) (λ bytes. NoneLacks (rest bytes) before.content)
        (λ bytes. Owes (rest bytes) before now old new answer) (now.strays ≡ before.strays)
        (λ bytes. no_stray (rest bytes) answer) there h
    no_stray (End due) answer there h = end_strays due answer h
    no_stray (Tell due text) answer there h = tell_strays due text answer h

-- memory was refused before anything was read
pub wants_memory : {S : Type 0} (plan : Plan S) (shelf : Shelved) (sink : Sunk)
    → Owes plan shelf shelf sink sink (GaveUp Memory)
unfolding Owes
wants_memory (Ask name rest) shelf sink = inl (refl, refl)
wants_memory (End due) shelf sink = (refl, refl)
wants_memory (Tell due text) shelf sink = (refl, no_front sink.written text, refl)
