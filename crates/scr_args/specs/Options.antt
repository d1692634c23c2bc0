-- The options that a list of words gives (this project's own): each once, in any order, as two words `--name value` or
-- as one word `--name=value`.
use Rattle.std.specs.Prelude.{ℕ, ◌==◌, ◌&&◌, not, Bool, false, List, [], ◌∷◌, ◌++◌, Option, Some, None, if◌then◌else◌, codes, find, option_and_then, option_map}
use Rattle.std.specs.List.{list_any, before_first, after_first}
use Rattle.std.specs.Str.{bytes_eq}

-- an option as words give it: its name and its value
abbrev pub Given : Type 0
Given = List ℕ × List ℕ

abbrev pub option_names : List (List ℕ)
option_names = codes "factors" ∷ codes "book" ∷ codes "edits" ∷ codes "make" ∷ codes "workers" ∷ []

abbrev pub is_option : List ℕ → Bool
is_option name = list_any (λ known. bytes_eq known name) option_names

abbrev pub is_given : List ℕ → List Given → Bool
is_given name options = list_any (λ option. bytes_eq option.0 name) options

-- a value is not empty and does not begin with `-`
abbrev pub is_value : List ℕ → Bool
is_value [] = false
is_value (b ∷ bytes) = not (b == 45)

-- ---- one word

-- what follows a first `-`
abbrev pub behind_dash : List ℕ → Option (List ℕ)
behind_dash [] = None
behind_dash (b ∷ bytes) = if b == 45 then Some bytes else None

-- a text up to its first `=`, and what follows that, if there is one
abbrev pub cut : List ℕ → List ℕ × Option (List ℕ)
cut text = (before_first (λ b. b == 61) text, if list_any (λ b. b == 61) text then Some (after_first (λ b. b == 61) text) else None)

-- the name that a word has behind `--`, and the value that it has behind `=`
abbrev pub named_in : List ℕ → Option (List ℕ × Option (List ℕ))
named_in word = option_map cut (option_and_then behind_dash (behind_dash word))

-- ---- all words

-- the options of the words so far, and the name of that whose value is the next word
pub record Read : Type 0 where
  pub options : List Given
  pub awaited : Option (List ℕ)

abbrev pub nothing_read : Read
nothing_read = record { options = []; awaited = None }

-- an option has its value
abbrev pub valued : List ℕ → List Given → List ℕ → Option Read
valued name options value =
    if is_value value then Some (record { options = options ++ (name, value) ∷ []; awaited = None }) else None

-- the value stands in the same word, or is the next
abbrev pub named : List ℕ → List Given → Option (List ℕ) → Option Read
named name options (Some value) = valued name options value
named name options None = Some (record { options = options; awaited = Some name })

-- the option is known and was not given before
abbrev pub can_begin : List ℕ → List Given → Bool
can_begin name options = is_option name && not (is_given name options)

abbrev pub begun : List Given → List ℕ × Option (List ℕ) → Option Read
begun options begins = if can_begin begins.0 options then named begins.0 options begins.1 else None

abbrev pub placed : Option (List ℕ) → List Given → List ℕ → Option Read
placed None options word = option_and_then (begun options) (named_in word)
placed (Some name) options word = valued name options word

abbrev pub after_word : Read → List ℕ → Option Read
after_word read word = placed read.awaited read.options word

-- no option is left without its value
abbrev pub unless_awaited : Option (List ℕ) → List Given → Option (List Given)
unless_awaited None options = Some options
unless_awaited (Some name) options = None

abbrev pub whole : Read → Option (List Given)
whole read = unless_awaited read.awaited read.options

unfoldable pub read_from : Read → List (List ℕ) → Option (List Given)
read_from read [] = whole read
read_from read (word ∷ words) = option_and_then (λ next. read_from next words) (after_word read word)

-- the options that words give
abbrev pub options_in : List (List ℕ) → Option (List Given)
options_in words = read_from nothing_read words

-- the value of an option
abbrev pub value_of : List Given → List ℕ → Option (List ℕ)
value_of options name = option_map (λ option. option.1) (find (λ option. bytes_eq option.0 name) options)
