-- What stood in a text still stands at its front, where memory was refused for more.
use Rattle.std.proofs.Common.{◌≡◌, ◌++◌, ℕ, List, Result, Ok, Err, OnErr}
use Rattle.std.proofs.Transfers.{starts_with_of_append, starts_with_trans}
use Rattle.std.specs.Io.{StartsWith}

pub more_starts : (old more mid now : List ℕ) → mid ≡ old ++ more → StartsWith now mid → StartsWith now old
more_starts old more mid now is starts = starts_with_trans now mid old starts (starts_with_of_append mid old more is)

pub still_starts : {A E : Type 0} (r : Result A E) (old more mid now : List ℕ) → mid ≡ old ++ more → OnErr r (StartsWith now mid) → OnErr r (StartsWith now old)
still_starts (Ok a) old more mid now is starts = tt
still_starts (Err e) old more mid now is starts = more_starts old more mid now is starts
