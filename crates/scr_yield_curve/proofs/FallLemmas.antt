-- The falls of the discounts, worked out place by place.
use Rattle.std.proofs.Common.{◌≡◌, ℕ, zero, suc, ◌+◌, ◌<◌, ◌≤◌, List, [], ◌∷◌, length, get_or, set, map, replicate, ℤ, pos, inl, inr, refl, sym, ◌∙◌, ap, ap₂, arith, length-set, get_or-set_same, get_or-set_other}
use Rattle.std.proofs.lemmas.Bool.{cases_eq}
use Rattle.std.proofs.lemmas.List.{get_or-map, get_or_default, length-map}
use Rattle.scr_num.specs.Rounding.{Ends, ends}
use Rattle.scr_num.specs.declared.span.Span.{Span}
use Rattle.scr_num.specs.Sizes.{IsWithin}
use Rattle.scr_yield_curve.specs.declared.table.TheConstants.{MAX_DISCOUNT}
use Rattle.scr_yield_curve.specs.Falls.{difference, differences}

-- ---- the falls of the discounts, place by place
pub length-differences : (bases : List ℤ) (froms : List Ends) (stresseds : List ℤ) (tos : List Ends) → length froms ≡ length bases → length stresseds ≡ length bases → length tos ≡ length bases
    → length (differences bases froms stresseds tos) ≡ length bases
unfolding differences
length-differences [] froms stresseds tos a b c = refl
length-differences (n ∷ bases) [] stresseds tos a b c = absurd (omega (arith, a))
length-differences (n ∷ bases) (e ∷ froms) [] tos a b c = absurd (omega (arith, b))
length-differences (n ∷ bases) (e ∷ froms) (m ∷ stresseds) [] a b c = absurd (omega (arith, c))
length-differences (n ∷ bases) (e ∷ froms) (m ∷ stresseds) (g ∷ tos) a b c =
    ap suc (length-differences bases froms stresseds tos (omega (arith, a)) (omega (arith, b)) (omega (arith, c)))

pub get_or-differences : (bases : List ℤ) (froms : List Ends) (stresseds : List ℤ) (tos : List Ends) (k : ℕ) (d : Ends) (x y : ℤ) (e f : Ends)
    → k < length bases → k < length froms → k < length stresseds → k < length tos
    → get_or (differences bases froms stresseds tos) k d ≡ difference (get_or bases k x) (get_or froms k e) (get_or stresseds k y) (get_or tos k f)
unfolding differences
get_or-differences [] froms stresseds tos k d x y e f a b c g = absurd (omega (arith, a))
get_or-differences (n ∷ bases) [] stresseds tos k d x y e f a b c g = absurd (omega (arith, b))
get_or-differences (n ∷ bases) (p ∷ froms) [] tos k d x y e f a b c g = absurd (omega (arith, c))
get_or-differences (n ∷ bases) (p ∷ froms) (m ∷ stresseds) [] k d x y e f a b c g = absurd (omega (arith, g))
get_or-differences (n ∷ bases) (p ∷ froms) (m ∷ stresseds) (q ∷ tos) zero d x y e f a b c g = refl
get_or-differences (n ∷ bases) (p ∷ froms) (m ∷ stresseds) (q ∷ tos) (suc k) d x y e f a b c g =
    get_or-differences bases froms stresseds tos k d x y e f (omega (arith, a)) (omega (arith, b)) (omega (arith, c)) (omega (arith, g))

-- those before place i
pub record AreFalls (base : List ℤ) (from : List Ends) (stressed : List ℤ) (to : List Ends) (at : List Span) (i : ℕ) : Type 0 where
  pub count : length at ≡ 100
  pub places : 0 < i → (length from ≡ 100) × (length to ≡ 100)
  pub each : (k : ℕ) (d : Span) (x y : ℤ) (e f : Ends) → k < i → ends (get_or at k d) ≡ difference (get_or base k x) (get_or from k e) (get_or stressed k y) (get_or to k f)
  pub small : (k : ℕ) (d : Span) → k < i → IsWithin MAX_DISCOUNT (ends (get_or at k d))

pub falls-more : (base : List ℤ) (from : List Ends) (stressed : List ℤ) (to : List Ends) (at : List Span) (i : ℕ) (s : Span) → i < 100 → length from ≡ 100 → length to ≡ 100
    → ((x y : ℤ) (e f : Ends) → ends s ≡ difference (get_or base i x) (get_or from i e) (get_or stressed i y) (get_or to i f)) → IsWithin MAX_DISCOUNT (ends s)
    → AreFalls base from stressed to at i → AreFalls base from stressed to (set at i s) (i + 1)
falls-more base from stressed to at i s few froms tos is small h =
    let within : i < length at = omega (arith, few, h.count) in
    record {
      count = length-set at i s ∙ h.count;
      places = λ some. (froms, tos);
      each = λ k d x y e f lt. elim (cases_eq k i) [
        | inl same ↦ rw (same, get_or-set_same at i s d within) (is x y e f)
        | inr other ↦ rw (get_or-set_other at i k s d other) (h.each k d x y e f (omega (arith, lt, other)))
      ];
      small = λ k d lt. elim (cases_eq k i) [
        | inl same ↦ rw (same, get_or-set_same at i s d within) small
        | inr other ↦ rw (get_or-set_other at i k s d other) (h.small k d (omega (arith, lt, other)))
      ];
    }

pub falls-begun : (base : List ℤ) (from : List Ends) (stressed : List ℤ) (to : List Ends) (s : Span) → AreFalls base from stressed to (replicate 100 s) 0
falls-begun base from stressed to s = record {
  count = refl;
  places = λ some. absurd (omega (arith, some));
  each = λ k d x y e f lt. absurd (omega (arith, lt));
  small = λ k d lt. absurd (omega (arith, lt));
}

-- two lists of one length with the same at each place
by-place : (xs ys : List Ends) → length xs ≡ length ys → ((k : ℕ) (d : Ends) → k < length xs → get_or xs k d ≡ get_or ys k d) → xs ≡ ys
by-place [] [] same each = refl
by-place [] (y ∷ ys) same each = absurd (omega (arith, same))
by-place (x ∷ xs) [] same each = absurd (omega (arith, same))
by-place (x ∷ xs) (y ∷ ys) same each = ap₂ (λ (z : Ends) (zs : List Ends). z ∷ zs) (each 0 x (omega arith)) (by-place xs ys (omega (arith, same)) (λ k d within. each (suc k) d (omega (arith, within))))

-- what holds whatever would stand past the end
there : (at : List Span) (k : ℕ) (d : Ends) → k < length at → {e : Ends} → ((s : Span) → ends (get_or at k s) ≡ e) → get_or (map ends at) k d ≡ e
there [] k d within h = absurd (omega (arith, within))
there (s ∷ at) k d within h = get_or-map ends (s ∷ at) k s d within ∙ h s

pub falls-all : (base : List ℤ) (from : List Ends) (stressed : List ℤ) (to : List Ends) (at : List Span) (i : ℕ) → length base ≡ 100 → length stressed ≡ 100
    → 100 ≤ i → AreFalls base from stressed to at i → map ends at ≡ differences base from stressed to
falls-all base from stressed to at i b s all h =
    let places = h.places (omega (arith, all)) in
    let f = places.0 in
    let t = places.1 in
    let count = length-differences base from stressed to (omega (arith, b, f)) (omega (arith, b, s)) (omega (arith, b, t)) in
    by-place (map ends at) (differences base from stressed to) (length-map at ends ∙ h.count ∙ sym (count ∙ b))
    (λ k d within.
    let few : k < 100 = omega (arith, within, length-map at ends, h.count) in
    let is = get_or-differences base from stressed to k d (pos 0) (pos 0) d d (omega (arith, few, b)) (omega (arith, few, f)) (omega (arith, few, s)) (omega (arith, few, t)) in
    there at k d (omega (arith, within, length-map at ends)) (λ x. h.each k x (pos 0) (pos 0) d d (omega (arith, few, all)) ∙ sym is))

-- the fall at a place, of the spans there
pub fall-at : (base : List ℤ) (from : List Span) (stressed : List ℤ) (to : List Span) (i : ℕ) (s : Ends) (p q : Span) → length base ≡ 100 → length from ≡ 100 → length stressed ≡ 100 → length to ≡ 100 → i < 100
    → s ≡ difference (get_or base i (pos 0)) (ends (get_or from i p)) (get_or stressed i (pos 0)) (ends (get_or to i q))
    → (x y : ℤ) (e f : Ends) → s ≡ difference (get_or base i x) (get_or (map ends from) i e) (get_or stressed i y) (get_or (map ends to) i f)
fall-at base from stressed to i s p q b fr st t few is x y e f =
    rw (get_or_default base i x (pos 0) (omega (arith, few, b)), get_or_default stressed i y (pos 0) (omega (arith, few, st)), get_or-map ends from i p e (omega (arith, few, fr)), get_or-map ends to i q f (omega (arith, few, t))) is
