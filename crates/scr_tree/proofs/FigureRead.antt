-- A figure that is read at a number at which one is known.
use Rattle.std.proofs.Common.{◌≡◌, ℕ, ◌<◌, Bool, List, Option, Some, None, get_or, length, slice_get, refl, sym, ap, ap₂, ◌∙◌}
use Rattle.std.specs.Option.{option_map}
use Rattle.std.proofs.lemmas.Option.{slice_get-get_or, slice_get_within}
use Rattle.scr_num.specs.declared.span.Span.{Span}
use Rattle.scr_partial_sums.specs.declared.figure.Figure.{Figure}
use Rattle.scr_partial_sums.proofs.KeptSpans.{one_span}
use Rattle.scr_tree.specs.Figures.{Worth, worth_of}

-- the number is one of the table
pub known-within : (figures : List Figure) (number : ℕ) (worth : Worth) → option_map worth_of (slice_get figures number) ≡ Some worth
    → number < length figures
known-within figures number worth has = by (slice_get figures number) refl
  where
    by : (found : Option Figure) → slice_get figures number ≡ found → number < length figures
    by None e = let clash : None ≡ Some worth = sym (ap (option_map worth_of) e) ∙ has in absurd (cc)
    by (Some figure) e = slice_get_within figures number figure e

-- and what is read there is worth what is known
pub known-read : (figures : List Figure) (number : ℕ) (worth : Worth) (figure : Figure)
    → option_map worth_of (slice_get figures number) ≡ Some worth → slice_get figures number ≡ Some figure
    → worth_of figure ≡ worth
known-read figures number worth figure has here =
    let both : Some (worth_of figure) ≡ Some worth = ap (option_map worth_of) (sym here) ∙ has in cc

-- where only a part of it is read
pub known-there : (figures : List Figure) (number : ℕ) (worth : Worth) (other : Figure) → option_map worth_of (slice_get figures number) ≡ Some worth
    → worth_of (get_or figures number other) ≡ worth
known-there figures number worth other has =
    let here = slice_get-get_or figures number other (known-within figures number worth has) in
    let both : Some (worth_of (get_or figures number other)) ≡ Some worth = ap (option_map worth_of) (sym here) ∙ has in cc

-- figures that are worth the same are the same
pub one-figure : (one other : Figure) → worth_of one ≡ worth_of other → one ≡ other
one-figure one other same =
    ap₂ (λ (s : Span) (c : Bool). record { span = s; close = c })
    (one_span one.span.low one.span.high other.span (ap (λ (w : Worth). w.worked.low) same) (ap (λ (w : Worth). w.worked.high) same) one.span.ordered)
    (ap (λ (w : Worth). w.close) same)
