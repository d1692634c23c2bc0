-- Two blanks more for each level.
use Rattle.std.proofs.Common.{◌≡◌, ◌∙◌, ℕ, suc, ◌+◌, ◌++◌, List, ap, sym, append_assoc, arith}
use Rattle.std.proofs.lemmas.List.{append-nil}
use Rattle.std.specs.Prelude.{codes}
use Rattle.scr_explanation.specs.Account.{indent}

pub none : (before : List ℕ) → before ≡ before ++ indent 0
unfolding indent
none before = sym (append-nil before)

pub more : (before : List ℕ) (level : ℕ) → (before ++ indent level) ++ codes "  " ≡ before ++ indent (level + 1)
unfolding indent
more before level =
    let next : suc level ≡ level + 1 = omega arith in
    append_assoc before (indent level) (codes "  ") ∙ ap (λ (n : ℕ). before ++ indent n) next
