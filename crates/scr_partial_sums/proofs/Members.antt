-- The figures of members by the places of the members.
use Rattle.std.proofs.Common.{◌≡◌, ℕ, ◌+◌, ◌<◌, List, length, get_or, slice_get, sym, ap, ◌∙◌, arith}
use Rattle.std.specs.Prelude.{All}
use Rattle.std.specs.Option.{option_map_or}
use Rattle.std.proofs.lemmas.List.{get_or-map, length-map, same_lists}
use Rattle.std.proofs.lemmas.Option.{slice_get-get_or}
use Rattle.scr_num.specs.Rounding.{ends, exact_ends}
use Rattle.std.proofs.Common.{pos}
use Rattle.scr_partial_sums.specs.Figures.{ends_at, member_number, members_ends}
use Rattle.scr_partial_sums.specs.declared.figure.Figure.{Figure}

pub members-length : (figures : List Figure) (family : ℕ) (firsts : List ℕ) → length (members_ends figures family firsts) ≡ length firsts
members-length figures family firsts = length-map firsts (λ first. ends_at figures (member_number family first))

-- the figure that stands at a number
pub ends-there : (figures : List Figure) (number : ℕ) (d : Figure) → number < length figures
    → ends_at figures number ≡ ends (get_or figures number d).span
ends-there figures number d low =
    ap (λ o. option_map_or (λ (f : Figure). ends f.span) o (exact_ends (pos 0))) (slice_get-get_or figures number d low)

pub member-at : (figures : List Figure) (family : ℕ) (firsts : List ℕ) (i : ℕ) (d : Figure) → i < length firsts
    → All (λ first. first + family < length figures) firsts
    → get_or (members_ends figures family firsts) i (ends (get_or figures (get_or firsts i 0 + family) d).span)
    ≡ ends (get_or figures (get_or firsts i 0 + family) d).span
member-at figures family firsts i d low within =
    get_or-map (λ first. ends_at figures (member_number family first)) firsts i 0 (ends (get_or figures (get_or firsts i 0 + family) d).span) low
    ∙ ends-there figures (get_or firsts i 0 + family) d (within i 0 low)

-- where the figures of members are the same, so are their ends
pub members-same : (before now : List Figure) (family : ℕ) (firsts : List ℕ)
    → All (λ first. slice_get now (member_number family first) ≡ slice_get before (member_number family first)) firsts
    → members_ends now family firsts ≡ members_ends before family firsts
members-same before now family firsts same =
    same_lists (members_ends now family firsts) (members_ends before family firsts)
    (members-length now family firsts ∙ sym (members-length before family firsts))
    (λ k d h. let low : k < length firsts = omega (arith, h, members-length now family firsts) in
    get_or-map (λ first. ends_at now (member_number family first)) firsts k 0 d low
    ∙ ap (λ o. option_map_or (λ (f : Figure). ends f.span) o (exact_ends (pos 0))) (same k 0 low)
    ∙ sym (get_or-map (λ first. ends_at before (member_number family first)) firsts k 0 d low))
