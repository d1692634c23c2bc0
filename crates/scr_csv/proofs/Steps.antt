-- What is known of a value that may be lacking, where the want is a fault.
use Rattle.std.proofs.Common.{Option, Some, None, IfOk, IfSome}
use Rattle.std.specs.Prelude.{ok_or}

-- what holds of the value holds of the answer
pub formed_if : {A E : Type 0} (P : A → Type 0) (o : Option A) (e : E) → IfSome o P → IfOk (ok_or o e) P
formed_if P None e h = tt
formed_if P (Some a) e h = h
