-- On words that give options, `clap` finds the same options with the same values, and fails only for want of memory.
use Rattle.std.proofs.Common.{◌≡◌, ◌∙◌, ◌&&◌, ◌||◌, not, ℕ, Bool, cond, true, false, true≢false, refl, sym, ap, ap₂, subst, List, [], ◌∷◌, ◌++◌, map, Option, Some, None, is_some, option_map, append-nil, nat_lt, unwrap_or, string_bytes, String}
use Rattle.std.specs.Prelude.{option_and_then, slice_get}
use Rattle.std.specs.List.{find, fold, list_any, list_all}
use Rattle.std.specs.Option.{option_map_or}
use Rattle.std.specs.Str.{bytes_eq}
use Rattle.std.specs.declared.alloc.Global.{Global}
use Rattle.std.proofs.lemmas.List.{map-append}
use Rattle.std.proofs.lemmas.Slice.Eq.{bytes_eq-Decides}
use Rattle.clap.specs.Lexer.{long_of, long_of_rest, short_of, short_of_rest, strip_byte}
use Rattle.clap.specs.Matches.{first_value, found_of}
use Rattle.clap.specs.Simple.{App, HasMatchesOf, Shape, built}
use Rattle.clap.specs.Takes.{bundle_passes, flag_word_passes, is_valid, level_passes, long_passes, settle_passes, step_passes, takes, turn_passes, use_passes, walk_passes}
use Rattle.clap.specs.Walk.{next as goes_on, short_or_plain, used_by_id, Held, Row, Rule, Step, Text, Waiting, Walk, after_flag, after_step, arg_by_id, arg_by_long, at_row, finished, first_of, has_row, idle, long_met, long_or_other, more_values, nothing_held, option as for_value, option_word, reacted, rows_of, settled_rows, trailing, used, walk, walk_from, walked, with_default, with_values}
use Rattle.clap.specs.declared.builder.value_parser.Reading.TheVariants.{AsWritten}
use Rattle.clap.specs.declared.builder.value_parser.ValueParser.TheVariants as parsers
use Rattle.clap.specs.declared.parser.matches.ArgMatches.{ArgMatches}
use Rattle.clap.specs.declared.parser.matches.ValueSource.TheVariants.{CommandLine}
use Rattle.clap.proofs.SimpleLemmas.{is_false}
use Rattle.clap.proofs.TakesLemmas.{leaf_takes}
use Rattle.clap.proofs.WalkLemmas.{both, find-map, first_value-rows, list_any-map}
use Rattle.scr_args.specs.Command.{option_rule, program}
use Rattle.clap.specs.declared.error.kind.ErrorKind.{ErrorKind}
use Rattle.clap.specs.declared.error.kind.ErrorKind.TheVariants as kinds
use Rattle.scr_args.specs.Forms.{Said, said, said_by}
use Rattle.scr_args.specs.Options.{Given, Read, after_word, begun, behind_dash, cut, is_given, is_option, is_value, named, named_in, nothing_read, option_names, options_in, placed, read_from, unless_awaited, value_of}

some≢none : {X : Type 0} {x : X} → Some x ≡ None → ⊥
some≢none e = true≢false (ap (λ o. is_some o) e)

same_some : {X : Type 0} {x y : X} → Some x ≡ Some y → x ≡ y
same_some {X} {x} e = ap (λ o. unwrap_or o x) e

-- ---- the options of the command

-- an option as building leaves it
abbrev taken_rule : Text → Rule
taken_rule name = record (option_rule name) { parser = Some parsers.String; range = Some (record { start_inclusive = 1; end_inclusive = 1 }) }

rules_are : (built program).top.rules ≡ map taken_rule option_names
rules_are = refl

long_known : (names : List Text) (name : Text) → list_any (λ known. bytes_eq known name) names ≡ true
    → arg_by_long (map taken_rule names) name ≡ Some (taken_rule name)
long_known [] name e = absurd (true≢false (sym e))
long_known (x ∷ xs) name e = go (bytes_eq x name) refl e (long_known xs name)
  where
    go : (b : Bool) → bytes_eq x name ≡ b → (b || list_any (λ known. bytes_eq known name) xs) ≡ true
        → (list_any (λ known. bytes_eq known name) xs ≡ true
        → arg_by_long (map taken_rule xs) name ≡ Some (taken_rule name))
        → cond (b || false) (Some (taken_rule x)) (arg_by_long (map taken_rule xs) name) ≡ Some (taken_rule name)
    go true same k later = ap (λ n. Some (taken_rule n)) ((bytes_eq-Decides x name).0 same)
    go false other k later = later k

id_known : (names : List Text) (name : Text) → list_any (λ known. bytes_eq known name) names ≡ true
    → arg_by_id (map taken_rule names) name ≡ Some (taken_rule name)
id_known [] name e = absurd (true≢false (sym e))
id_known (x ∷ xs) name e = go (bytes_eq x name) refl e (id_known xs name)
  where
    go : (b : Bool) → bytes_eq x name ≡ b → (b || list_any (λ known. bytes_eq known name) xs) ≡ true
        → (list_any (λ known. bytes_eq known name) xs ≡ true
        → arg_by_id (map taken_rule xs) name ≡ Some (taken_rule name))
        → cond b (Some (taken_rule x)) (arg_by_id (map taken_rule xs) name) ≡ Some (taken_rule name)
    go true same k later = ap (λ n. Some (taken_rule n)) ((bytes_eq-Decides x name).0 same)
    go false other k later = later k

no_defaults : (names : List Text) (rows : List Row) → fold with_default rows (map taken_rule names) ≡ rows
no_defaults [] rows = refl
no_defaults (x ∷ xs) rows = ap (λ r. fold with_default r (map taken_rule xs)) (go (has_row x rows)) ∙ no_defaults xs rows
  where
    go : (b : Bool) → cond b rows rows ≡ rows
    go true = refl
    go false = refl

-- ---- words

same_strip : (text : Text) → behind_dash text ≡ strip_byte 45 text
same_strip [] = refl
same_strip (b ∷ bytes) = refl

abbrev names_option : Option (Text × Option Text) → Bool
names_option None = false
names_option (Some begins) = is_option begins.0

abbrev dashes : Text
dashes = 45 ∷ 45 ∷ []

-- a word with the name of an option is a long option
long_is : (word : Text) (begins : Text × Option Text) → named_in word ≡ Some begins → is_option begins.0 ≡ true
    → long_of word ≡ Some begins
long_is word begins e known =
    ap₂ (λ f o. option_and_then long_of_rest (option_and_then f o)) (λ i text. sym (same_strip text) i) (sym (same_strip word))
    ∙ go (option_and_then behind_dash (behind_dash word)) e
  where
    go : (o : Option Text) → option_map cut o ≡ Some begins → option_and_then long_of_rest o ≡ Some begins
    go None k = absurd (some≢none (sym k))
    go (Some []) k = absurd (true≢false (sym known ∙ sym (ap names_option k)))
    go (Some (x ∷ xs)) k = k

long_apart : (word : Text) (begins : Text × Option Text) → long_of word ≡ Some begins → bytes_eq word dashes ≡ false
long_apart word begins e = go (bytes_eq word dashes) refl
  where
    go : (b : Bool) → bytes_eq word dashes ≡ b → bytes_eq word dashes ≡ false
    go true same = absurd (some≢none (sym e ∙ ap long_of ((bytes_eq-Decides word dashes).0 same)))
    go false same = same

-- a value is no option
value_strip : (value : Text) → is_value value ≡ true → strip_byte 45 value ≡ None
value_strip [] e = absurd (true≢false (sym e))
value_strip (b ∷ bytes) e = go (Rattle.std.specs.Prelude.◌==◌ b 45) e
  where
    go : (c : Bool) → not c ≡ true → cond c (Some bytes) None ≡ None
    go true k = absurd (true≢false (sym k))
    go false k = refl

value_apart : (value : Text) → is_value value ≡ true → bytes_eq value dashes ≡ false
value_apart value e = go (bytes_eq value dashes) refl
  where
    go : (b : Bool) → bytes_eq value dashes ≡ b → bytes_eq value dashes ≡ false
    go true same = absurd (true≢false (sym e ∙ ap is_value ((bytes_eq-Decides value dashes).0 same)))
    go false same = same

-- ---- rows

abbrev row : Given → Row
row given = record { id = given.0; values = given.1 ∷ []; count = None; source = Some CommandLine; reading = AsWritten }

at_absent : (id : Text) (change : Row → List Row) (missing rows : List Row) → has_row id rows ≡ false
    → at_row id change missing rows ≡ rows ++ missing
at_absent id change missing [] e = refl
at_absent id change missing (r ∷ rs) e = go (bytes_eq r.id id) e (at_absent id change missing rs)
  where
    go : (b : Bool) → (b || has_row id rs) ≡ false
        → (has_row id rs ≡ false → at_row id change missing rs ≡ rs ++ missing)
        → cond b (change r ++ rs) (r ∷ at_row id change missing rs) ≡ r ∷ (rs ++ missing)
    go true k later = absurd (true≢false k)
    go false k later = ap (λ rest. r ∷ rest) (later k)

module _ (name value : Text) (rows : List Row) (free : has_row name rows ≡ false) where
  used_is : used (taken_rule name) (value ∷ []) rows ≡ rows ++ row (name, value) ∷ []
  used_is =
      ap (with_values name AsWritten CommandLine (value ∷ []))
      (at_absent name (λ _. []) [] rows free ∙ append-nil rows)
      ∙ at_absent name (more_values CommandLine (value ∷ [])) (row (name, value) ∷ []) rows free

  use_ok : (again : Bool) → use_passes again (taken_rule name) (value ∷ []) rows ≡ true
  use_ok again = ap (λ b. (not b || again) && true) free

free_row : (name : Text) (options : List Given) → is_given name options ≡ false → has_row name (map row options) ≡ false
free_row name options e = sym (list_any-map (λ (r : Row). bytes_eq r.id name) row options) ∙ e

-- ---- the walk

abbrev walk_at : Held → Waiting → Walk
walk_at h waiting = record { held = h; waiting = waiting; position = 1; is_trailing = false; stopped = None }

abbrev awaiting : List Row → ℕ → Text → Held
awaiting rows skip name = record { rows = rows; pending = Some (name, []); skip = skip }

module _ (s : Shape) (are : s.rules ≡ map taken_rule option_names) where
  by_long : (name : Text) → is_option name ≡ true → arg_by_long s.rules name ≡ Some (taken_rule name)
  by_long name known = ap (λ c. arg_by_long c name) are ∙ long_known option_names name known

  by_id : (name : Text) → is_option name ≡ true → arg_by_id s.rules name ≡ Some (taken_rule name)
  by_id name known = ap (λ c. arg_by_id c name) are ∙ id_known option_names name known

  -- what is held stands for these options
  record Holds (h : Held) (options : List Given) : Type 0 where
    pub rows : settled_rows s.rules h.pending h.rows ≡ map row options
    pub passes : settle_passes s.rules s.args_override_self h ≡ true

  -- the walk stands where the words were read so far
  abbrev Fits : Option Text → List Given → Walk → Type 0
  Fits None options w = (h : Held) × (w ≡ walk_at h idle) × Holds h options
  Fits (Some name) options w = (rows : List Row) × (skip : ℕ) × (w ≡ walk_at (awaiting rows skip name) (for_value name)) ×
      (rows ≡ map row options) × (is_option name ≡ true) × (is_given name options ≡ false)

  abbrev Turns : Walk → Text → Read → Type 0
  Turns w word next = (turn_passes s [] w word ≡ true) × Fits next.awaited next.options (walked s.rules [] w word)

  -- an option that has its value
  holds_more : (h : Held) (options : List Given) (name value : Text) → is_given name options ≡ false
      → settled_rows s.rules h.pending h.rows ≡ used (taken_rule name) (value ∷ []) (map row options)
      → settle_passes s.rules s.args_override_self h ≡ true → Holds h (options ++ (name, value) ∷ [])
  holds_more h options name value free rows passes = record {
    rows = rows ∙ used_is name value (map row options) (free_row name options free)
        ∙ sym (map-append row options ((name, value) ∷ []));
    passes = passes;
  }

  module _ (h : Held) (word name : Text) (value : Option Text) (known : is_option name ≡ true)
      (is_long : long_of word ≡ Some (name, value)) where
    abbrev met : Bool → Option (Text × Option Text) → Held × Step
    met b o = cond b (h, trailing 1) (long_or_other s.rules idle word o h)

    abbrev long : Option Rule → Held × Step
    long r = after_flag s.rules idle word (long_met s.rules r value h).0 (long_met s.rules r value h).1

    abbrev after : Held × Step → Walk
    after m = after_step s.rules word (walk_at h idle) m.0 m.1

    walked_long : walked s.rules [] (walk_at h idle) word ≡ after (long (Some (taken_rule name)))
    unfolding walked
    walked_long =
        ap₂ (λ b o. after (met b o)) (long_apart word (name, value) is_long) is_long
        ∙ ap (λ r. after (long r)) (by_long name known)

    passes_long : turn_passes s [] (walk_at h idle) word
        ≡ (long_passes s.rules s.args_override_self (Some (taken_rule name)) value h
        && step_passes s 1 (long (Some (taken_rule name))).0 (long (Some (taken_rule name))).1)
    passes_long =
        ap₂ (λ b o. (b || flag_word_passes s.rules s.args_override_self o word h) && step_passes s 1 (met b o).0 (met b o).1)
        (long_apart word (name, value) is_long) is_long
        ∙ ap (λ r. long_passes s.rules s.args_override_self r value h && step_passes s 1 (long r).0 (long r).1)
        (by_long name known)

  module _ (h : Held) (options : List Given) (word name : Text) (holds : Holds h options)
      (known : is_option name ≡ true) (free : is_given name options ≡ false) where
    -- the value stands in the same word
    turn_joined : (value : Text) → long_of word ≡ Some (name, Some value)
        → Turns (walk_at h idle) word (record { options = options ++ (name, value) ∷ []; awaited = None })
    turn_joined value is_long =
        let passes_use : use_passes s.args_override_self (taken_rule name) (value ∷ []) (settled_rows s.rules h.pending h.rows) ≡ true =
        ap (use_passes s.args_override_self (taken_rule name) (value ∷ [])) holds.rows
        ∙ use_ok name value (map row options) (free_row name options free) s.args_override_self in
        let more : Held = reacted s.rules (taken_rule name) (value ∷ []) h in (
          passes_long h word name (Some value) known is_long ∙ (λ i. (holds.passes i && passes_use i) && true),
          (
            more,
            walked_long h word name (Some value) known is_long,
            holds_more more options name value free (ap (used (taken_rule name) (value ∷ [])) holds.rows) refl,
          ),
        )

    -- the value is the next word
    turn_apart : long_of word ≡ Some (name, None)
        → Turns (walk_at h idle) word (record { options = options; awaited = Some name })
    turn_apart is_long = (
      passes_long h word name None known is_long ∙ ap (λ b. b && true) holds.passes,
      (
        settled_rows s.rules h.pending h.rows,
        h.skip,
        walked_long h word name None known is_long,
        holds.rows,
        known,
        free,
      ),
    )

  module _ (rows : List Row) (skip : ℕ) (name value : Text) (options : List Given) (are_rows : rows ≡ map row options)
      (known : is_option name ≡ true) (free : is_given name options ≡ false) (is_one : is_value value ≡ true) where
    abbrev before : Held
    before = awaiting rows skip name

    abbrev valued_held : Held
    valued_held = record { rows = rows; pending = Some (name, value ∷ []); skip = skip }

    no_long : long_of value ≡ None
    no_long = ap (λ o. option_and_then long_of_rest (option_and_then (strip_byte 45) o)) (value_strip value is_one)

    no_short : short_of value ≡ None
    no_short = ap (option_and_then short_of_rest) (value_strip value is_one)

    abbrev later : Held × Step → Walk
    later m = after_step s.rules value (walk_at before (for_value name)) m.0 m.1

    abbrev kept : Option Rule → Held × Step
    kept r = ((option_word r name value before).0, goes_on (option_word r name value before).1)

    walked_value : walked s.rules [] (walk_at before (for_value name)) value ≡ walk_at valued_held idle
    unfolding walked
    walked_value =
        ap₂ (λ b o. later (cond b (before, trailing 1) (long_or_other s.rules (for_value name) value o before)))
        (value_apart value is_one) no_long
        ∙ ap (λ o. later (short_or_plain s.rules (for_value name) value o before)) no_short
        ∙ ap (λ r. later (kept r)) (by_id name known)
        ∙ ap (λ b. walk_at valued_held (cond (nat_lt (cond b 1 0) 1) (for_value name) idle)) ((bytes_eq-Decides name name).1 refl)

    passes_value : turn_passes s [] (walk_at before (for_value name)) value ≡ true
    passes_value =
        ap₂ (λ b o. (b || flag_word_passes s.rules s.args_override_self o value before)
        && step_passes s 1 (cond b (before, trailing 1) (long_or_other s.rules (for_value name) value o before)).0
        (cond b (before, trailing 1) (long_or_other s.rules (for_value name) value o before)).1)
        (value_apart value is_one) no_long
        ∙ ap (λ o. option_map_or (λ flags. bundle_passes s.rules s.args_override_self flags before) o true
        && step_passes s 1 (short_or_plain s.rules (for_value name) value o before).0
        (short_or_plain s.rules (for_value name) value o before).1) no_short

    turn_value : Turns (walk_at before (for_value name)) value (record { options = options ++ (name, value) ∷ []; awaited = None })
    turn_value = (
      passes_value,
      (
        valued_held,
        walked_value,
        holds_more valued_held options name value free
            (ap (λ r. used_by_id r (value ∷ []) rows) (by_id name known) ∙ ap (used (taken_rule name) (value ∷ [])) are_rows)
            (ap (λ r. option_map_or (λ a. use_passes s.args_override_self a (value ∷ []) rows) r true) (by_id name known)
            ∙ ap (use_passes s.args_override_self (taken_rule name) (value ∷ [])) are_rows
            ∙ use_ok name value (map row options) (free_row name options free) s.args_override_self),
      ),
    )

  -- one more word
  turn : (awaited : Option Text) (options : List Given) (w : Walk) (word : Text) (next : Read) → Fits awaited options w
      → placed awaited options word ≡ Some next → Turns w word next
  turn None options w word next fits e = subst (λ v. Turns v word next) (sym fits.1) (go (named_in word) refl e)
    where
      h : Held
      h = fits.0

      goes : (name : Text) (value : Option Text) → is_option name ≡ true → is_given name options ≡ false
          → long_of word ≡ Some (name, value) → named name options value ≡ Some next → Turns (walk_at h idle) word next
      goes name None known free is_long k =
          subst (Turns (walk_at h idle) word) (same_some k) (turn_apart h options word name fits.2 known free is_long)
      goes name (Some value) known free is_long k = at (is_value value) k
        where
          at : (b : Bool) → cond b (Some (record { options = options ++ (name, value) ∷ []; awaited = None })) None ≡ Some next
              → Turns (walk_at h idle) word next
          at true j = subst (Turns (walk_at h idle) word) (same_some j) (turn_joined h options word name fits.2 known free value is_long)
          at false j = absurd (some≢none (sym j))

      begin : (begins : Text × Option Text) → named_in word ≡ Some begins
          → (b : Bool) → (is_option begins.0 && not (is_given begins.0 options)) ≡ b
          → cond b (named begins.0 options begins.1) None ≡ Some next → Turns (walk_at h idle) word next
      begin begins n true is k =
          let parts = both (is_option begins.0) _ is in
          goes begins.0 begins.1 parts.0 (is_false _ parts.1) (long_is word begins n parts.0) k
      begin begins n false is k = absurd (some≢none (sym k))

      go : (o : Option (Text × Option Text)) → named_in word ≡ o → option_and_then (begun options) o ≡ Some next
          → Turns (walk_at h idle) word next
      go None n k = absurd (some≢none (sym k))
      go (Some begins) n k = begin begins n (is_option begins.0 && not (is_given begins.0 options)) refl k
  turn (Some name) options w word next fits e = subst (λ v. Turns v word next) (sym fits.2) (go (is_value word) refl e)
    where
      go : (b : Bool) → is_value word ≡ b
          → cond b (Some (record { options = options ++ (name, word) ∷ []; awaited = None })) None ≡ Some next
          → Turns (walk_at (awaiting fits.0 fits.1 name) (for_value name)) word next
      go true is k = subst (Turns (walk_at (awaiting fits.0 fits.1 name) (for_value name)) word) (same_some k)
          (turn_value fits.0 fits.1 name word options fits.3 fits.4 fits.5 is)
      go false is k = absurd (some≢none (sym k))

  -- the walk over words that give options
  record Walked (w : Walk) (words : List Text) (options : List Given) : Type 0 where
    pub passes : walk_passes s [] w words ≡ true
    pub end : Held
    pub ends : fold (walked s.rules []) w words ≡ walk_at end idle
    pub holds : Holds end options

  at_end : (awaited : Option Text) (options final : List Given) (w : Walk) → Fits awaited options w
      → unless_awaited awaited options ≡ Some final → Walked w [] final
  unfolding walk_passes
  at_end None options final w fits e = record {
    passes = refl;
    end = fits.0;
    ends = fits.1;
    holds = subst (Holds fits.0) (same_some e) fits.2;
  }
  at_end (Some name) options final w fits e = absurd (some≢none (sym e))

  walks : (words : List Text) (read : Read) (final : List Given) (w : Walk) → Fits read.awaited read.options w
      → read_from read words ≡ Some final → Walked w words final
  unfolding read_from walk_passes
  walks [] read final w fits e = at_end read.awaited read.options final w fits e
  walks (word ∷ words) read final w fits e = go (after_word read word) refl e (walks words)
    where
      go : (o : Option Read) → after_word read word ≡ o → option_and_then (λ next. read_from next words) o ≡ Some final
          → ((next : Read) (last : List Given) (v : Walk) → Fits next.awaited next.options v
          → read_from next words ≡ Some last → Walked v words last) → Walked w (word ∷ words) final
      go None n k later = absurd (some≢none (sym k))
      go (Some next) n k later =
          let turned = turn read.awaited read.options w word next fits n in
          let rest = later next final (walked s.rules [] w word) turned.1 k in
          record {
            passes = ap₂ (λ a b. a && b) turned.0 rest.passes;
            end = rest.end;
            ends = rest.ends;
            holds = rest.holds;
          }

-- ---- the program

abbrev top : Shape
top = (built program).top

module _ (words : List Text) (options : List Given) (e : options_in words ≡ Some options) where
  holds_nothing : Holds top rules_are nothing_held []
  holds_nothing = record { rows = refl; passes = refl }

  all : Walked top rules_are (walk_from nothing_held) words options
  all = walks top rules_are words nothing_read options (walk_from nothing_held) (nothing_held, refl, holds_nothing) e

  end_is : (walk top.rules [] nothing_held words).held ≡ all.end
  end_is = ap (λ (w : Walk). w.held) all.ends

  finished_is : finished top.rules (walk top.rules [] nothing_held words).held ≡ map row options
  finished_is = ap (finished top.rules) end_is ∙ no_defaults option_names (settled_rows top.rules all.end.pending all.end.rows) ∙ all.holds.rows

  valid : (rows : List Row) → is_valid top rows false ≡ true
  valid rows = refl

  level : level_passes top [] nothing_held words false ≡ true
  level = λ i. all.passes i && ((ap (settle_passes top.rules top.args_override_self) end_is ∙ all.holds.passes) i && true)

  -- the words pass
  pub taken : takes program words ≡ true
  taken = leaf_takes (built program) nothing_held words refl level

  -- each value that `clap` finds is that of the option
  found_is : (rows : List Row) → rows ≡ map row options → (name : Text) → first_of name rows ≡ value_of options name
  found_is rows are name =
      ap (λ r. first_of name r) are
      ∙ ap (option_and_then (λ (r : Row). slice_get r.values 0)) (sym (find-map (λ (r : Row). bytes_eq r.id name) row options))
      ∙ go (find (λ option. bytes_eq option.0 name) options)
    where
      go : (o : Option Given) → option_and_then (λ (r : Row). slice_get r.values 0) (option_map row o) ≡ option_map (λ option. option.1) o
      go None = refl
      go (Some given) = refl

  pub same_said : (m : ArgMatches) → HasMatchesOf program words m → said_by (first_value (found_of m)) ≡ said_by (value_of options)
  same_said m has = ap said_by (λ i name. (first_value-rows (found_of m) name ∙ found_is (rows_of (found_of m)) ((has refl).0 ∙ finished_is) name) i)

-- a refusal by `clap` of words that have a form is want of memory
pub refused : (words : List (String Global)) (app : App) (kind : ErrorKind) → app ≡ program
    → (takes app (map string_bytes words) ≡ true → kind ≡ kinds.OutOfMemory)
    → (kind ≡ kinds.OutOfMemory → ⊥) → said words ≡ None
unfolding said
refused words app kind is_app passes other = go (options_in (map string_bytes words)) refl
  where
    go : (o : Option (List Given)) → options_in (map string_bytes words) ≡ o
        → option_and_then (λ options. said_by (value_of options)) o ≡ None
    go None e = refl
    go (Some options) e = absurd (other (passes (ap (λ a. takes a (map string_bytes words)) is_app ∙ taken (map string_bytes words) options e)))

-- what `clap` finds in words that have a form is what they say
pub matched : (words : List (String Global)) (app : App) (m : ArgMatches) (found : Option Said) → app ≡ program
    → HasMatchesOf app (map string_bytes words) m → found ≡ said_by (first_value (found_of m))
    → is_some (said words) ≡ true → found ≡ said words
unfolding said
matched words app m found is_app has is_found some = go (options_in (map string_bytes words)) refl some
  where
    go : (o : Option (List Given)) → options_in (map string_bytes words) ≡ o
        → is_some (option_and_then (λ options. said_by (value_of options)) o) ≡ true
        → found ≡ option_and_then (λ options. said_by (value_of options)) o
    go None e k = absurd (true≢false (sym k))
    go (Some options) e k =
        is_found ∙ same_said (map string_bytes words) options e m
        (subst (λ a. HasMatchesOf a (map string_bytes words) m) is_app has)

-- words that have a form are taken
pub taken_words : (words : List (String Global)) → is_some (said words) ≡ true → takes program (map string_bytes words) ≡ true
unfolding said
taken_words words some = go (options_in (map string_bytes words)) refl some
  where
    go : (o : Option (List Given)) → options_in (map string_bytes words) ≡ o
        → is_some (option_and_then (λ options. said_by (value_of options)) o) ≡ true
        → takes program (map string_bytes words) ≡ true
    go None e k = absurd (true≢false (sym k))
    go (Some options) e k = taken (map string_bytes words) options e
