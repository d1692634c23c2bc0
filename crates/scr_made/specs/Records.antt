-- The text of records (this project's own): each is written on a line of its own, which ends with a newline.
use Rattle.std.specs.Prelude.{◌≡◌, ℕ, ◌++◌, List, codes, flat_map}
use Rattle.scr_csv.specs.RecordTexts.{edit_text}
use Rattle.scr_sheet.specs.declared.edit.Edit.{Edit}
use Rattle.scr_made.specs.Draws.{Drawn}

unfoldable pub record_line : Edit → List ℕ
record_line edit = edit_text edit ++ codes "\n"

unfoldable pub records_text : List Edit → List ℕ
records_text edits = flat_map record_line edits

-- What is made from this state is appended to this list, and the next draw comes from the state that it leaves.
pub record Adds {A : Type 0} (made : Drawn (List A)) (state : ℕ) (list : List A) (state_after : ℕ) (list_after : List A)
    : Type 0 where
  pub state_is : state_after ≡ (made state).1
  pub list_is : list_after ≡ list ++ (made state).0

-- The records that are made from this state are appended to this text.
pub record Appends (made : Drawn (List Edit)) (state : ℕ) (text : List ℕ) (state_after : ℕ) (text_after : List ℕ)
    : Type 0 where
  pub state_is : state_after ≡ (made state).1
  pub text_is : text_after ≡ text ++ records_text (made state).0
