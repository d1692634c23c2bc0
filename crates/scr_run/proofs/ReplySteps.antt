-- One record of the edits, and the replies to those after it.
use Rattle.std.proofs.Common.{◌≡◌, ℕ, List, [], ◌∷◌, ◌++◌, ◌||◌, Bool, true, false, is_err, refl, ap, sym, subst, ◌∙◌}
use Rattle.std.specs.Io.KnownBytes.{Appends}
use Rattle.scr_io.specs.Front.{AppendsFront}
use Rattle.scr_obligations.specs.Moment.{Sunk}
use Rattle.scr_sheet.specs.declared.sheet.BalanceSheet.{BalanceSheet}
use Rattle.scr_factors.specs.Values.{FactorValues}
use Rattle.scr_cells.specs.Block.{block_text}
use Rattle.scr_csv.specs.Lines.{records}
use Rattle.scr_tree.specs.Standing.{Standing}
use Rattle.scr_run.specs.BookFile.{recorded}
use Rattle.scr_run.specs.Report.{after, answers, any_refused, opening_text, replies_text, reply_text, report_text}
use Rattle.scr_run.specs.Writing.{Leaves}
use Rattle.scr_run.proofs.Pieces.{front_next, leaves_all, leaves_next}

-- the reply by the factors that the run began with
pub same_block : (number : ℕ) (text : List ℕ) (now : Standing) (factors : FactorValues) → now.factors ≡ factors
    → reply_text (block_text now.factors) number (recorded text now.sheet)
    ≡ reply_text (block_text factors) number (recorded text now.sheet)
same_block number text now factors e = ap (λ f. reply_text (block_text f) number (recorded text now.sheet)) e

or_assoc : (a b c : Bool) → ((a || b) || c) ≡ (a || (b || c))
or_assoc true b c = refl
or_assoc false b c = refl

module _ (block : BalanceSheet → List ℕ) (old : Sunk) (whole : List ℕ) where
  module _ (left later : List (ℕ × List ℕ)) (number : ℕ) (text : List ℕ) (book : BalanceSheet)
      (next : left ≡ (number, text) ∷ later)
      (mid new : Sunk) (piece : List ℕ) (is_reply : piece ≡ reply_text block number (recorded text book)) where
    still_due : Leaves old mid whole (replies_text block (answers left book))
        → Leaves old mid whole (piece ++ replies_text block (answers later (after (recorded text book) book)))
    still_due l =
        subst (λ p. Leaves old mid whole (p ++ replies_text block (answers later (after (recorded text book) book))))
        (sym is_reply)
        (subst (λ (ls : List (ℕ × List ℕ)). Leaves old mid whole (replies_text block (answers ls book))) next l)

    -- the reply was written
    pub reply_written : (book' : BalanceSheet) → book' ≡ after (recorded text book) book
        → Leaves old mid whole (replies_text block (answers left book))
        → Appends mid.written new.written piece → Leaves old new whole (replies_text block (answers later book'))
    reply_written book' is_after l appended =
        subst (λ b. Leaves old new whole (replies_text block (answers later b))) (sym is_after)
        (leaves_next old whole mid new piece _ (still_due l) appended)

    -- a front of the reply was written
    pub reply_begun : Leaves old mid whole (replies_text block (answers left book))
        → AppendsFront mid.written new.written piece → AppendsFront old.written new.written whole
    reply_begun l f = front_next old whole mid new piece _ (still_due l) f

-- whether a record was refused
pub refusal_told : (left later : List (ℕ × List ℕ)) (number : ℕ) (text : List ℕ) (book : BalanceSheet)
    → left ≡ (number, text) ∷ later
    → (before refused all : Bool) (book' : BalanceSheet) → book' ≡ after (recorded text book) book
    → refused ≡ is_err (recorded text book)
    → (before || any_refused (answers left book)) ≡ all
    → ((before || refused) || any_refused (answers later book')) ≡ all
refusal_told left later number text book next before refused all book' is_after is_refused told =
    or_assoc before refused (any_refused (answers later book'))
    ∙ ap (λ b. before || (refused || any_refused (answers later b))) is_after
    ∙ ap (λ r. before || (r || any_refused (answers later (after (recorded text book) book)))) is_refused
    ∙ ap (λ (ls : List (ℕ × List ℕ)). before || any_refused (answers ls book)) (sym next)
    ∙ told

-- no record is left
pub none_left : (left : List (ℕ × List ℕ)) (book : BalanceSheet) → left ≡ [] → answers left book ≡ []
none_left left book none = ap (λ (ls : List (ℕ × List ℕ)). answers ls book) none

or_false : (b : Bool) → (b || false) ≡ b
or_false true = refl
or_false false = refl

pub told_at_end : (left : List (ℕ × List ℕ)) (book : BalanceSheet) (refused all : Bool) → left ≡ []
    → (refused || any_refused (answers left book)) ≡ all → refused ≡ all
told_at_end left book refused all none told =
    sym (or_false refused) ∙ ap (λ rs. refused || any_refused rs) (sym (none_left left book none)) ∙ told

module _ (block : BalanceSheet → List ℕ) (edits : List ℕ) (book : BalanceSheet) (old new : Sunk) (piece : List ℕ)
    (is_opening : piece ≡ opening_text block book) where
  all_due : Leaves old old (report_text block edits book) (piece ++ replies_text block (answers (records edits) book))
  all_due =
      subst (λ p. Leaves old old (report_text block edits book)
      (p ++ replies_text block (answers (records edits) book))) (sym is_opening)
      (leaves_all old (report_text block edits book))

  -- a front of the first lines was written
  pub opening_begun : AppendsFront old.written new.written piece
      → AppendsFront old.written new.written (report_text block edits book)
  opening_begun f = front_next old (report_text block edits book) old new piece
      (replies_text block (answers (records edits) book)) all_due f

  -- the first lines were written, and the replies to all records are due
  pub replies_due : (left : List (ℕ × List ℕ)) → left ≡ records edits → Appends old.written new.written piece
      → Leaves old new (report_text block edits book) (replies_text block (answers left book))
  replies_due left same appended =
      subst (λ (ls : List (ℕ × List ℕ)). Leaves old new (report_text block edits book)
      (replies_text block (answers ls book))) (sym same)
      (leaves_next old (report_text block edits book) old new piece
      (replies_text block (answers (records edits) book)) all_due appended)

-- where no record is left, no reply is due
pub replies_none : (block : BalanceSheet → List ℕ) (left : List (ℕ × List ℕ)) (book : BalanceSheet) → left ≡ []
    → replies_text block (answers left book) ≡ []
replies_none block left book none = ap (λ (ls : List (ℕ × List ℕ)). replies_text block (answers ls book)) none
