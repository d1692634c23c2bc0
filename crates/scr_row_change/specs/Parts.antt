-- What one row gives to a list that is read off the rows of a table that pass a test (this project's own).
use Rattle.std.specs.Prelude.{Bool, true, not, ◌&&◌, Option, Some, None, if◌then◌else◌}

-- it gives the same before and after: nothing, or what is the same of both rows
abbrev pub gives_same : {Row : Type 0} → (test : Row → Bool) → (same : Row → Row → Bool) → Option Row
    → Option Row → Bool
gives_same test same None None = true
gives_same test same None (Some new) = not (test new)
gives_same test same (Some old) None = not (test old)
gives_same test same (Some old) (Some new) = if test old then test new && same old new else not (test new)
