-- A text that is appended in two pieces.
use Rattle.std.proofs.Common.{◌≡◌, ℕ, List, ◌++◌, append_assoc, ap, ◌∙◌}
use Rattle.std.specs.Prelude.{codes, decimal}
use Rattle.scr_run.specs.FaultTexts.{syntax_text}

two_pieces : (old mid new a b : List ℕ) → mid ≡ old ++ a → new ≡ mid ++ b → new ≡ old ++ (a ++ b)
two_pieces old mid new a b first second = second ∙ ap (λ t. t ++ b) first ∙ append_assoc old a b

pub syntax_pushed : (old mid new : List ℕ) (field : ℕ) → mid ≡ old ++ codes "syntax in field "
    → new ≡ mid ++ decimal field → new ≡ old ++ syntax_text field
unfolding syntax_text
syntax_pushed old mid new field first second = two_pieces old mid new _ _ first second
