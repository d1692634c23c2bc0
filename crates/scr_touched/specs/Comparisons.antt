-- Tests that tell whether a figure is touched (this project's own).
use Rattle.std.specs.Prelude.{Bool, not, ◌&&◌, ◌||◌}

-- By whether the figure is one before the record, and after it, and whether its own data and its sources are the same:
-- it is one before or after, and not the same.
abbrev pub is_touched : (before after own sources : Bool) → Bool
is_touched before after own sources = (before || after) && not ((before && after) && (own && sources))
