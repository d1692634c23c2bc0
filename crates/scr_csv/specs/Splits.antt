-- How the split of a line shows the steps of csv (this project's own).
use Rattle.std.specs.Prelude.{◌≡◌, ℕ, List, [], ◌∷◌, ◌++◌, Option}
use Rattle.csv.specs.Machine.{Read, next_record}
use Rattle.csv.specs.Reading.{default_config}
use Rattle.csv.specs.declared.parser.State.{State}
use Rattle.csv.specs.declared.parser.State.TheVariants as state
use Rattle.csv.specs.declared.parser.Action.TheVariants as action
use Rattle.csv.specs.declared.parser.Action as of_csv
use Rattle.scr_csv.specs.declared.{split.Place.Place, split.Action.Action}
use Rattle.scr_csv.specs.declared.split.Place.TheVariants as places
use Rattle.scr_csv.specs.declared.split.Action.TheVariants as actions
use Rattle.scr_csv.specs.Parts.{parts}

abbrev pub state_of : Place → State
state_of places.Start = state.StartField
state_of places.Plain = state.InField
state_of places.Quoted = state.InQuoted
state_of places.Closed = state.AfterQuote

abbrev pub action_of : Action → of_csv.Action
action_of actions.Skip = action.Skip
action_of actions.Copy = action.Copy
action_of actions.End = action.EndField

-- what csv reads of the rest of a line, after these fields and these bytes of the field at hand
unfoldable pub reads : Place → List (List ℕ) → List ℕ → List ℕ → Option Read
reads place fields field rest = next_record default_config (state_of place) fields field rest

-- what stands in front joins the first piece
abbrev pub joined : List ℕ → List (List ℕ) → List (List ℕ)
joined field [] = field ∷ []
joined field (piece ∷ more) = (field ++ piece) ∷ more

-- A copy has whole fields, each ended by a newline, and then the field at hand, which the next bytes join; and what csv
-- reads of the rest of the line from there is what it reads of the line.
pub record Copied (place : Place) (copy rest line : List ℕ) : Type 0 where
  pub fields : List (List ℕ)
  pub field : List ℕ
  pub cut : (more : List ℕ) → parts 10 (copy ++ more) ≡ fields ++ joined field (parts 10 more)
  pub on_the_way : reads place fields field rest ≡ reads places.Start [] [] line
