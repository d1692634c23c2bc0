-- What an engine keeps (this project's own).
use Rattle.std.specs.Prelude.{◌≡◌, []}
use Rattle.scr_sheet.specs.Validity.{Valid}
use Rattle.scr_tree.specs.declared.engine.Engine.TheInside.{Inside}
use Rattle.scr_tree.specs.Changed.{IsStateOf}
use Rattle.scr_tree.specs.Standing.{Standing, standing_on}

-- Factors, balance sheet and member lists of an engine (own).
abbrev pub standing_of : Inside → Standing
standing_of e = standing_on e.factors e.book

-- The book is valid, what is kept beside it is its own, and no number is marked.
pub record IsKept (e : Inside) : Type 0 where
  pub valid : Valid e.book.sheet
  pub state : IsStateOf e.factors e.book e.state
  pub marks : e.state.marks.list ≡ []
