-- Words give options exactly where they spell them.
use Rattle.std.proofs.Common.{◌≡◌, ◌∙◌, ◌<◌, ◌≤◌, ◌+◌, ◌||◌, ◌&&◌, ◌==◌, ◌⊎◌, inl, inr, not, ℕ, Bool, cond, true, false, true≢false, refl, sym, ap, ap₂, subst, arith, List, [], ◌∷◌, ◌++◌, length, get_or, take, drop, Option, Some, None, option_map, append_assoc, append-nil, eqb-true, unwrap_or, take_all, is_some, codes}
use Rattle.std.specs.Prelude.{option_and_then}
use Rattle.std.specs.List.{after_first, before_first, list_any, position_or_len}
use Rattle.std.specs.Str.{bytes_eq}
use Rattle.std.proofs.lemmas.Bool.{cases_lt}
use Rattle.std.proofs.lemmas.List.Sums.{passes_at_first, prefix_len-le-length, split_at_first}
use Rattle.std.proofs.lemmas.Slice.Eq.{bytes_eq-Decides}
use Rattle.clap.proofs.WalkLemmas.{both}
use Rattle.scr_args.specs.Options.{Given, Read, after_word, begun, behind_dash, can_begin, cut, is_given, is_option, is_value, named, named_in, nothing_read, option_names, options_in, placed, read_from, unless_awaited, valued, whole}
use Rattle.scr_args.specs.Spelled.{AreSpelled, Begins}
use Rattle.scr_args.proofs.Steps.{any_past, any_within}

some≢none : {X : Type 0} {x : X} → Some x ≡ None → ⊥
some≢none e = true≢false (ap (λ o. is_some o) e)

same_some : {X : Type 0} {x y : X} → Some x ≡ Some y → x ≡ y
same_some {X} {x} e = ap (λ o. unwrap_or o x) e

abbrev sign : ℕ → Bool
sign b = b == 61

-- ---- one word

abbrev AllNames : (List ℕ → Type 0) → List (List ℕ) → Type 0
AllNames P [] = Unit {0}
AllNames P (x ∷ xs) = P x × AllNames P xs

-- what holds of each name of an option holds of one that is known
each_name : (P : List ℕ → Type 0) (names : List (List ℕ)) → AllNames P names → (name : List ℕ)
    → list_any (λ known. bytes_eq known name) names ≡ true → P name
each_name P [] all name e = absurd (true≢false (sym e))
each_name P (x ∷ xs) all name e = go (bytes_eq x name) refl e (each_name P xs all.1 name)
  where
    go : (b : Bool) → bytes_eq x name ≡ b → (b || list_any (λ known. bytes_eq known name) xs) ≡ true
        → (list_any (λ known. bytes_eq known name) xs ≡ true → P name) → P name
    go true same k later = subst P ((bytes_eq-Decides x name).0 same) all.0
    go false other k later = later k

named_apart : (name : List ℕ) → is_option name ≡ true → named_in (45 ∷ 45 ∷ name) ≡ Some (name, None)
named_apart = each_name (λ name. named_in (45 ∷ 45 ∷ name) ≡ Some (name, None)) option_names (refl, (refl, (refl, (refl, (refl, tt)))))

named_joined : (name value : List ℕ) → is_option name ≡ true
    → named_in (45 ∷ 45 ∷ (name ++ (61 ∷ value))) ≡ Some (name, Some value)
named_joined name value known =
    each_name (λ n. named_in (45 ∷ 45 ∷ (n ++ (61 ∷ value))) ≡ Some (n, Some value)) option_names (refl, (refl, (refl, (refl, (refl, tt))))) name known

-- how a name and what stands behind it are spelled
abbrev after_dashes : List ℕ → Option (List ℕ) → List ℕ
after_dashes name None = name
after_dashes name (Some value) = name ++ (61 ∷ value)

uncut : (text : List ℕ) → text ≡ after_dashes (cut text).0 (cut text).1
uncut text = go (list_any sign text) refl
  where
    whole_text : list_any sign text ≡ false → text ≡ before_first sign text
    whole_text none = elim (cases_lt (position_or_len sign text) (length text)) [
      | inl inside ↦ absurd (true≢false (sym (any_within sign text inside) ∙ none))
      | inr past ↦ sym (take_all (position_or_len sign text) text past)
    ]

    parted : list_any sign text ≡ true → text ≡ before_first sign text ++ (61 ∷ after_first sign text)
    parted some = elim (cases_lt (position_or_len sign text) (length text)) [
      | inl inside ↦ split_at_first sign text 0 inside
          ∙ ap (λ b. before_first sign text ++ (b ∷ after_first sign text)) (eqb-true _ 61 (passes_at_first sign text 0 inside))
      | inr past ↦ absurd (true≢false (sym some ∙ any_past sign text
          (omega (arith, past, prefix_len-le-length (λ b. not (sign b)) text))))
    ]

    go : (b : Bool) → list_any sign text ≡ b
        → text ≡ after_dashes (before_first sign text) (cond b (Some (after_first sign text)) None)
    go true e = parted e
    go false e = whole_text e

dashed : (word text : List ℕ) → behind_dash word ≡ Some text → word ≡ 45 ∷ text
dashed [] text e = absurd (some≢none (sym e))
dashed (b ∷ bytes) text e = go (b == 45) refl e
  where
    go : (c : Bool) → (b == 45) ≡ c → cond c (Some bytes) None ≡ Some text → b ∷ bytes ≡ 45 ∷ text
    go true is k = ap₂ (λ x xs. x ∷ xs) (eqb-true b 45 is) (same_some k)
    go false is k = absurd (some≢none (sym k))

unnamed : (word name : List ℕ) (value : Option (List ℕ)) → named_in word ≡ Some (name, value)
    → word ≡ 45 ∷ 45 ∷ after_dashes name value
unnamed word name value e = first (behind_dash word) refl e
  where
    second : (rest : List ℕ) → word ≡ 45 ∷ rest → (o : Option (List ℕ)) → behind_dash rest ≡ o
        → option_map cut o ≡ Some (name, value) → word ≡ 45 ∷ 45 ∷ after_dashes name value
    second rest is None d k = absurd (some≢none (sym k))
    second rest is (Some text) d k =
        is ∙ ap (λ t. 45 ∷ t) (dashed rest text d) ∙ ap (λ t. 45 ∷ 45 ∷ t) (uncut text)
        ∙ ap (λ (p : List ℕ × Option (List ℕ)). 45 ∷ 45 ∷ after_dashes p.0 p.1) (same_some k)

    first : (o : Option (List ℕ)) → behind_dash word ≡ o
        → option_map cut (option_and_then behind_dash o) ≡ Some (name, value) → word ≡ 45 ∷ 45 ∷ after_dashes name value
    first None d k = absurd (some≢none (sym k))
    first (Some rest) d k = second rest (dashed word rest d) (behind_dash rest) refl k

-- ---- from the words to the options

-- the options that words give behind what was read, whose value may be due
abbrev Spelled : Option (List ℕ) → List Given → List Given → List (List ℕ) → Type 0
Spelled None before options words = AreSpelled before options words
Spelled (Some name) before options words =
    (value : List ℕ) × (rest : List (List ℕ)) × (later : List Given) × (options ≡ (name, value) ∷ later) ×
    (words ≡ value ∷ rest) × (is_value value ≡ true) × AreSpelled (before ++ (name, value) ∷ []) later rest

abbrev Found : Read → List Given → List (List ℕ) → Type 0
Found read final words = (options : List Given) × (final ≡ read.options ++ options) × Spelled read.awaited read.options options words

-- an option that has its value
abbrev with_one : List ℕ → List Given → List ℕ → Read
with_one name before value = record { options = before ++ (name, value) ∷ []; awaited = None }

module _ (word : List ℕ) (words : List (List ℕ)) (before final : List Given) where
  takes_value : (name value : List ℕ) → Found (with_one name before value) final words
      → (options : List Given) × (final ≡ before ++ ((name, value) ∷ options)) × AreSpelled (before ++ (name, value) ∷ []) options words
  takes_value name value found = (found.0, found.1 ∙ append_assoc before ((name, value) ∷ []) found.0, found.2)

  -- the value stands in the same word
  joined : (name value : List ℕ) → word ≡ 45 ∷ 45 ∷ (name ++ (61 ∷ value)) → can_begin name before ≡ true → is_value value ≡ true
      → Found (with_one name before value) final words → Found (record { options = before; awaited = None }) final (word ∷ words)
  joined name value is can one found =
      let later = takes_value name value found in (
        (name, value) ∷ later.0,
        later.1,
        (words, inr (ap (λ w. w ∷ words) is), can, one, later.2),
      )

  -- the value is the next word
  apart : (name : List ℕ) → word ≡ 45 ∷ 45 ∷ name → can_begin name before ≡ true
      → Found (record { options = before; awaited = Some name }) final words
      → Found (record { options = before; awaited = None }) final (word ∷ words)
  apart name is can found =
      let due = found.2 in (
        (name, due.0) ∷ due.2,
        found.1 ∙ ap (λ os. before ++ os) due.3,
        (due.1, inl (ap₂ (λ w ws. w ∷ ws) is due.4), can, due.5, due.6),
      )

  -- the word is a value
  awaited : (name : List ℕ) → is_value word ≡ true → Found (with_one name before word) final words
      → Found (record { options = before; awaited = Some name }) final (word ∷ words)
  awaited name one found =
      let later = takes_value name word found in (
        (name, word) ∷ later.0,
        later.1,
        (word, words, later.0, refl, refl, one, later.2),
      )

  -- one word more
  one_more : (due : Option (List ℕ)) (next : Read) → placed due before word ≡ Some next → Found next final words
      → Found (record { options = before; awaited = due }) final (word ∷ words)
  one_more None next e found = go (named_in word) refl e
    where
      ends : (name : List ℕ) (value : Option (List ℕ)) → named_in word ≡ Some (name, value) → can_begin name before ≡ true
          → named name before value ≡ Some next → Found (record { options = before; awaited = None }) final (word ∷ words)
      ends name None n can k = apart name (unnamed word name None n) can (subst (λ r. Found r final words) (sym (same_some k)) found)
      ends name (Some value) n can k = at (is_value value) refl k
        where
          at : (b : Bool) → is_value value ≡ b → cond b (Some (with_one name before value)) None ≡ Some next
              → Found (record { options = before; awaited = None }) final (word ∷ words)
          at true one j = joined name value (unnamed word name (Some value) n) can one
              (subst (λ r. Found r final words) (sym (same_some j)) found)
          at false one j = absurd (some≢none (sym j))

      begin : (begins : List ℕ × Option (List ℕ)) → named_in word ≡ Some begins → (b : Bool) → can_begin begins.0 before ≡ b
          → cond b (named begins.0 before begins.1) None ≡ Some next
          → Found (record { options = before; awaited = None }) final (word ∷ words)
      begin begins n true can k = ends begins.0 begins.1 n can k
      begin begins n false can k = absurd (some≢none (sym k))

      go : (o : Option (List ℕ × Option (List ℕ))) → named_in word ≡ o → option_and_then (begun before) o ≡ Some next
          → Found (record { options = before; awaited = None }) final (word ∷ words)
      go None n k = absurd (some≢none (sym k))
      go (Some begins) n k = begin begins n (can_begin begins.0 before) refl k
  one_more (Some name) next e found = go (is_value word) refl e
    where
      go : (b : Bool) → is_value word ≡ b → cond b (Some (with_one name before word)) None ≡ Some next
          → Found (record { options = before; awaited = Some name }) final (word ∷ words)
      go true one k = awaited name one (subst (λ r. Found r final words) (sym (same_some k)) found)
      go false one k = absurd (some≢none (sym k))

none_more : (due : Option (List ℕ)) (before final : List Given) → unless_awaited due before ≡ Some final
    → Found (record { options = before; awaited = due }) final []
none_more None before final e = ([], sym (same_some e) ∙ sym (append-nil before), refl)
none_more (Some name) before final e = absurd (some≢none (sym e))

finds : (words : List (List ℕ)) (read : Read) (final : List Given) → read_from read words ≡ Some final → Found read final words
unfolding read_from
finds [] read final e = none_more read.awaited read.options final e
finds (word ∷ words) read final e = go (after_word read word) refl e (finds words)
  where
    go : (o : Option Read) → after_word read word ≡ o → option_and_then (λ next. read_from next words) o ≡ Some final
        → ((next : Read) (last : List Given) → read_from next words ≡ Some last → Found next last words)
        → Found read final (word ∷ words)
    go None n k later = absurd (some≢none (sym k))
    go (Some next) n k later = one_more word words read.options final read.awaited next n (later next final k)

-- ---- from the options to the words

module _ (name value : List ℕ) (before : List Given) (can : can_begin name before ≡ true) (one : is_value value ≡ true) where
  known : is_option name ≡ true
  known = (both (is_option name) _ can).0

  begins_apart : after_word (record { options = before; awaited = None }) (45 ∷ 45 ∷ name)
      ≡ Some (record { options = before; awaited = Some name })
  begins_apart =
      ap (option_and_then (begun before)) (named_apart name known) ∙ ap (λ b. cond b (named name before None) None) can

  takes_next : after_word (record { options = before; awaited = Some name }) value ≡ Some (with_one name before value)
  takes_next = ap (λ b. cond b (Some (with_one name before value)) None) one

  begins_joined : after_word (record { options = before; awaited = None }) (45 ∷ 45 ∷ (name ++ (61 ∷ value)))
      ≡ Some (with_one name before value)
  begins_joined =
      ap (option_and_then (begun before)) (named_joined name value known)
      ∙ ap (λ b. cond b (named name before (Some value)) None) can ∙ takes_next

  reads_apart : (rest : List (List ℕ)) → read_from (record { options = before; awaited = None }) ((45 ∷ 45 ∷ name) ∷ value ∷ rest)
      ≡ read_from (with_one name before value) rest
  unfolding read_from
  reads_apart rest =
      ap (option_and_then (λ next. read_from next (value ∷ rest))) begins_apart
      ∙ ap (option_and_then (λ next. read_from next rest)) takes_next

  reads_joined : (rest : List (List ℕ)) → read_from (record { options = before; awaited = None }) ((45 ∷ 45 ∷ (name ++ (61 ∷ value))) ∷ rest)
      ≡ read_from (with_one name before value) rest
  unfolding read_from
  reads_joined rest = ap (option_and_then (λ next. read_from next rest)) begins_joined

  reads_one : (words rest : List (List ℕ)) → Begins (name, value) words rest
      → read_from (record { options = before; awaited = None }) words ≡ read_from (with_one name before value) rest
  reads_one words rest (inl e) = ap (read_from (record { options = before; awaited = None })) e ∙ reads_apart rest
  reads_one words rest (inr e) = ap (read_from (record { options = before; awaited = None })) e ∙ reads_joined rest

reads : (options before : List Given) (words : List (List ℕ)) → AreSpelled before options words
    → read_from (record { options = before; awaited = None }) words ≡ Some (before ++ options)
unfolding read_from
reads [] before words e = ap (read_from (record { options = before; awaited = None })) e ∙ ap Some (sym (append-nil before))
reads (option ∷ options) before words s =
    reads_one option.0 option.1 before s.2 s.3 words s.0 s.1
    ∙ reads options (before ++ option ∷ []) s.0 s.4 ∙ ap Some (append_assoc before (option ∷ []) options)

pub gives : (words : List (List ℕ)) (options : List Given) → options_in words ≡ Some options → AreSpelled [] options words
gives words options e =
    let found = finds words nothing_read options e in
    subst (λ os. AreSpelled [] os words) (sym found.1) found.2

pub spells : (words : List (List ℕ)) (options : List Given) → AreSpelled [] options words → options_in words ≡ Some options
spells words options s = reads options [] words s
