-- Figures that are written one after another, of which the former ones are kept.
use Rattle.std.proofs.Common.{◌≡◌, ℕ, zero, suc, ◌+◌, ◌<◌, ◌++◌, List, [], ◌∷◌, length, set, MatchOption, Option, Some, None, slice_get, refl, sym, ap, ap₂, subst, ◌∙◌, arith}
use Rattle.std.proofs.lemmas.List.{length-set, set-get_or, set-set}
use Rattle.std.proofs.lemmas.Option.{get_or_from_slice_get, slice_get_within}
use Rattle.scr_num.specs.Rounding.{Ends, ends}
use Rattle.scr_num.specs.declared.span.Span.{Span}
use Rattle.scr_partial_sums.specs.declared.figure.Figure.{Figure}
use Rattle.scr_partial_sums.proofs.KeptSpans.{one_span}
use Rattle.scr_tree.specs.Order.{AreWithin, IsJournalKept, IsJournaled, undone}
use Rattle.scr_tree.specs.declared.journal.Former.{Former}

-- ---- places of a list

module _ {A : Type 0} where
  pub set-here : (xs : List A) (i : ℕ) (y : A) → i < length xs → slice_get (set xs i y) i ≡ Some y
  set-here [] i y l = absurd (omega (arith, l))
  set-here (x ∷ xs) zero y l = refl
  set-here (x ∷ xs) (suc i) y l = set-here xs i y (omega (arith, l))

  pub set-other : (xs : List A) (i j : ℕ) (y : A) → (j ≡ i → ⊥) → slice_get (set xs i y) j ≡ slice_get xs j
  set-other [] i j y other = refl
  set-other (x ∷ xs) zero zero y other = absurd (other refl)
  set-other (x ∷ xs) zero (suc j) y other = refl
  set-other (x ∷ xs) (suc i) zero y other = refl
  set-other (x ∷ xs) (suc i) (suc j) y other = set-other xs i j y (λ e. other (ap suc e))

  -- where the value is what stands there nothing is written
  pub same-written : (xs : List A) (i : ℕ) (x : A) → slice_get xs i ≡ Some x → set xs i x ≡ xs
  same-written xs i x is = ap (set xs i) (sym (get_or_from_slice_get xs i x x is)) ∙ set-get_or xs i x

-- ---- two figures

-- of the same ends, of which both or none rests on a choice
pub one-figure : (one other : Figure) → ends one.span ≡ ends other.span → one.close ≡ other.close → one ≡ other
one-figure one other same close =
    ap₂ (λ (span : Span) close. record { span = span; close = close })
    (one_span one.span.low one.span.high other.span (ap (λ (e : Ends). e.low) same) (ap (λ (e : Ends). e.high) same) one.span.ordered) close

-- ---- below so many

pub within-and : (former : List Former) (last : Former) (many : ℕ) → AreWithin many former → last.number < many
    → AreWithin many (former ++ last ∷ [])
within-and [] last many all low = (low, tt)
within-and (was ∷ former) last many all low = (all.0, within-and former last many all.1 low)

pub within-front : (former : List Former) (last : Former) (many : ℕ) → AreWithin many (former ++ last ∷ []) → AreWithin many former
within-front [] last many all = tt
within-front (was ∷ former) last many all = (all.0, within-front former last many all.1)

-- ---- written back

-- the last one first
pub undone-last : (former : List Former) (last : Former) (figures : List Figure)
    → undone (former ++ last ∷ []) figures ≡ undone former (set figures last.number last.figure)
undone-last [] last figures = refl
undone-last (was ∷ former) last figures = ap (λ now. set now was.number was.figure) (undone-last former last figures)

pub undone-long : (former : List Former) (figures : List Figure) → length (undone former figures) ≡ length figures
undone-long [] figures = refl
undone-long (was ∷ former) figures = length-set (undone former figures) was.number was.figure ∙ undone-long former figures

pub journaled-none : (figures : List Figure) → IsJournaled [] figures figures
journaled-none figures = record { within = tt; back = refl }

pub journaled-long : (former : List Former) (before now : List Figure) → IsJournaled former before now → length now ≡ length before
journaled-long former before now is = sym (undone-long former now) ∙ ap length is.back

-- none is left
pub none-kept : (former : List Former) → length former ≡ 0 → former ≡ []
none-kept [] none = refl
none-kept (was ∷ former) none = absurd (omega (arith, none))

pub popped-none : (popped : Option Former) (old now : ℕ) → popped ≡ None
    → MatchOption popped ((old ≡ 0) × (now ≡ 0)) (λ _. now + 1 ≡ old) → old ≡ 0
popped-none popped old now is cases = (subst (λ o. MatchOption o ((old ≡ 0) × (now ≡ 0)) (λ _. now + 1 ≡ old)) is cases).0

-- ---- one figure more

pub kept-written : (former : List Former) (old : List Figure) (number : ℕ) (was figure : Figure) → slice_get old number ≡ Some was
    → IsJournalKept former old (former ++ record { number = number; figure = was } ∷ []) (set old number figure)
kept-written former old number was figure here = λ before is. record {
  within = within-and former (record { number = number; figure = was }) (length (set old number figure))
      (subst (λ many. AreWithin many former) (sym (length-set old number figure)) is.within)
      (subst (λ many. number < many) (sym (length-set old number figure)) (slice_get_within old number was here));
  back = undone-last former (record { number = number; figure = was }) (set old number figure)
      ∙ ap (undone former) (set-set old number figure was ∙ same-written old number was here) ∙ is.back;
}
