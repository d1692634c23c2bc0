-- What a question about a book is answered (this project's own): the factor file is read, then the book, each as a run
-- reads it, and the answer is written.
use Rattle.std.specs.Prelude.{◌≡◌, ℕ, zero, ◌≤◌, ◌<◌, ◌++◌, Bool, true, false, List, [], None, Some, Result, Ok, Err, ◌^◌, codes, is_some, length, min, option_map, slice_get}
use Rattle.std.specs.Option.{option_map_or}
use Rattle.std.specs.Str.Parse.{IsNumeral, digits_value, without_leading_plus}
use Rattle.clap.specs.Matches.{first_value, one_text}
use Rattle.clap.specs.declared.parser.matches.Found.{Found}
use Rattle.scr_factors.specs.Values.{FactorValues}
use Rattle.scr_sheet.specs.declared.fault.Fault.{Fault}
use Rattle.scr_sheet.specs.declared.sheet.BalanceSheet.{BalanceSheet}
use Rattle.scr_explanation.specs.Account.{account}
use Rattle.scr_explanation.specs.Moves.{all_bounds, moves}
use Rattle.scr_explanation.specs.declared.account.Extent.{Extent}
use Rattle.scr_cells.specs.Table.{NamedFigure, table}
use Rattle.scr_cells.specs.declared.table.TheConstants.{CELL_COUNT}
use Rattle.scr_drawing.specs.Drawing.{drawing}
use Rattle.scr_obligations.specs.Plan.{Plan, ask}
use Rattle.scr_obligations.specs.Plan.Plan.{Tell}
use Rattle.scr_run.specs.BookFile.{recorded}
use Rattle.scr_run.specs.FaultTexts.{refusal_text}
use Rattle.scr_run.specs.Plans.{ended_status}
use Rattle.scr_run.specs.Readings.{factors_in, book_in}
use Rattle.scr_run.specs.declared.status.Status.{Status}
use Rattle.scr_explain.specs.declared.question.Asked.{Asked}
use Rattle.scr_explain.specs.declared.question.Asked.TheVariants as asks
use Rattle.scr_explain.specs.declared.question.Question.{Question}

-- a cell of the table and a tree of at most 1,000 levels; a record no longer than a file may be
abbrev pub CanAsk : Asked → Type 0
CanAsk (asks.Account cell extent) = (cell < CELL_COUNT) × (extent.depth ≤ 1_000)
CanAsk (asks.Moves line) = length line.now ≤ 67108864
CanAsk asks.Drawing = Unit {0}

-- the value under a name writes this number in decimal digits, before which a plus may stand, and it has 32 bits
pub record HasNumber (found : Found) (name : List ℕ) (number : ℕ) : Type 0 where
  pub text : List ℕ
  pub given : one_text found name ≡ Some text
  pub digits : IsNumeral 10 (without_leading_plus text)
  pub few : digits_value 10 (without_leading_plus text) < 2 ^ 32
  pub value : number ≡ digits_value 10 (without_leading_plus text)

-- the tree that is asked for, in which a depth above 1,000 counts as 1,000
pub record IsExtent (found : Found) (extent : Extent) : Type 0 where
  pub levels : ℕ
  pub depth : HasNumber found (codes "depth") levels
  pub most : extent.depth ≡ min levels 1_000
  pub top : HasNumber found (codes "top") extent.top

-- the cell of the table has the name that is given
pub record IsNamed (found : Found) (cell : ℕ) : Type 0 where
  pub name : List ℕ
  pub given : first_value found (codes "cell") ≡ Some name
  pub shown : option_map (λ c. c.name) (slice_get table cell) ≡ Some name

-- What the words ask, by the values that were found among them: a drawing; or else the moves by a record; or else why the
-- cell of a name is what it is, in a tree of the extent that they give.
abbrev pub IsAsked : Found → Asked → Type 0
IsAsked found (asks.Account cell extent) =
    (first_value found (codes "svg") ≡ None) × (first_value found (codes "record") ≡ None) × IsNamed found cell
    × IsExtent found extent
IsAsked found (asks.Moves line) = (first_value found (codes "svg") ≡ None) × (first_value found (codes "record") ≡ Some line.now)
IsAsked found asks.Drawing = is_some (first_value found (codes "svg")) ≡ true

-- they ask nothing that can be asked: no cell has the name, there is no number for the extent, or the record is too long
abbrev pub AskNothing : Found → Type 0
AskNothing found = (asked : Asked) → CanAsk asked → IsAsked found asked → ⊥

-- ---- why a cell is what it is

abbrev pub name_in : List NamedFigure → ℕ → List ℕ
name_in cells k = option_map_or (λ cell. cell.name) (slice_get cells k) []

-- the name of a cell, and the currency of its amounts
unfoldable pub heading : BalanceSheet → ℕ → List ℕ
heading sheet k = ((name_in table k ++ codes ", amounts in ") ++ sheet.numbers.currency) ++ codes "\n"

-- the account of the cell's figure
abbrev pub account_in : FactorValues → BalanceSheet → Extent → List NamedFigure → ℕ → List ℕ
account_in factors sheet extent cells k =
    option_map_or (λ cell. account factors sheet extent.top extent.depth zero cell.node) (slice_get cells k) []

unfoldable pub account_answer : FactorValues → BalanceSheet → ℕ → Extent → List ℕ × Bool
account_answer factors sheet k extent = (heading sheet k ++ account_in factors sheet extent table k, false)

-- ---- which cells a record moves

-- those that differ on the sheet that it leaves, or why it is refused
unfoldable pub moves_answer : FactorValues → BalanceSheet → Result BalanceSheet Fault → List ℕ × Bool
moves_answer factors sheet (Ok after) = (moves (all_bounds factors sheet) (all_bounds factors after), false)
moves_answer factors sheet (Err fault) = ((codes "refused " ++ refusal_text fault) ++ codes "\n", true)

-- ---- the drawing of the requirement
unfoldable pub drawing_answer : FactorValues → BalanceSheet → List ℕ × Bool
drawing_answer factors sheet = (drawing sheet.numbers.currency (all_bounds factors sheet), false)

-- ---- the whole answer: its text, and whether the record is refused

abbrev pub answer_to : FactorValues → BalanceSheet → Asked → List ℕ × Bool
answer_to factors sheet (asks.Account cell extent) = account_answer factors sheet cell extent
answer_to factors sheet (asks.Moves line) = moves_answer factors sheet (recorded line.now sheet)
answer_to factors sheet asks.Drawing = drawing_answer factors sheet

-- the names of the files, and what is asked of them
pub record Ask : Type 0 where
  pub factors : List ℕ
  pub book : List ℕ
  pub asked : Asked

abbrev pub ask_of : Question → Ask
ask_of question = record { factors = question.factors.now; book = question.book.now; asked = question.asked }

unfoldable pub answered : Asked → FactorValues → BalanceSheet → Plan Status
answered asked factors sheet =
    Tell (ended_status (answer_to factors sheet asked).1) (answer_to factors sheet asked).0

unfoldable pub question_plan : Ask → Plan Status
question_plan question =
    ask question.factors factors_in (λ factors. ask question.book book_in (answered question.asked factors))
