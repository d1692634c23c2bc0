-- What the words give as the code reads it, and what they cannot ask.
use Rattle.std.proofs.Common.{◌≡◌, ◌∙◌, ◌<◌, ℕ, true, false, List, Option, None, Some, option_map, is_some, ap, sym, arith, length, codes, refl, true≢false}
use Rattle.std.proofs.lemmas.Option.{none-some, same_Some}
use Rattle.std.specs.Borrow.{Bor}
use Rattle.clap.specs.Matches.{first_value}
use Rattle.clap.specs.declared.parser.matches.Found.{Found}
use Rattle.scr_explain.specs.Answer.{CanAsk, IsAsked, IsExtent, IsNamed}
use Rattle.scr_cells.specs.declared.table.TheConstants.{CELL_COUNT}
use Rattle.scr_explanation.specs.declared.account.Extent.{Extent}
use Rattle.scr_explain.specs.declared.question.Asked.{Asked}
use Rattle.scr_explain.specs.declared.question.Asked.TheVariants as asks

-- ---- a value, as it is read

module _ (read : Option (Bor (List ℕ))) (given : Option (List ℕ)) (is : option_map (λ (s : Bor (List ℕ)). s.now) read ≡ given) where
  pub not_given : read ≡ None → given ≡ None
  not_given none = sym is ∙ ap (option_map (λ (s : Bor (List ℕ)). s.now)) none

  pub is_given : (text : Bor (List ℕ)) → read ≡ Some text → given ≡ Some text.now
  is_given text some = sym is ∙ ap (option_map (λ (s : Bor (List ℕ)). s.now)) some

  pub same_presence : is_some given ≡ is_some read
  same_presence = go read is
    where
      go : (r : Option (Bor (List ℕ))) → option_map (λ (s : Bor (List ℕ)). s.now) r ≡ given → is_some given ≡ is_some r
      go None e = sym (ap is_some e)
      go (Some text) e = sym (ap is_some e)

pub absent : (given : Option (List ℕ)) → is_some given ≡ false → given ≡ None
absent None none = refl
absent (Some text) none = absurd (true≢false none)

-- ---- what cannot be asked, where no drawing is

module _ (found : Found) (undrawn : first_value found (codes "svg") ≡ None) where
  no_drawing : is_some (first_value found (codes "svg")) ≡ true → ⊥
  no_drawing some = true≢false (sym some ∙ ap is_some undrawn)

  -- the moves by a record that is too long
  pub too_long : (line : List ℕ) → first_value found (codes "record") ≡ Some line → 67108864 < length line
      → (asked : Asked) → CanAsk asked → IsAsked found asked → ⊥
  too_long line is long (asks.Account cell extent) can asked = none-some line (sym asked.1 ∙ is)
  too_long line is long (asks.Moves other) can asked =
      let same : line ≡ other.now = same_Some _ _ (sym is ∙ asked.1) in
      let as_long : length line ≡ length other.now = ap length same in
      omega (arith, as_long, can, long)
  too_long line is long asks.Drawing can asked = no_drawing asked

  -- the account of a cell, where no record is there
  pub no_account : first_value found (codes "record") ≡ None
      → ((cell : ℕ) (extent : Extent) → cell < CELL_COUNT → IsNamed found cell → IsExtent found extent → ⊥)
      → (asked : Asked) → CanAsk asked → IsAsked found asked → ⊥
  no_account none never (asks.Account cell extent) can asked = never cell extent can.0 asked.2 asked.3
  no_account none never (asks.Moves line) can asked = none-some line.now (sym none ∙ asked.1)
  no_account none never asks.Drawing can asked = no_drawing asked
