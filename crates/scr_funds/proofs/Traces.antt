-- A trace is followed back, entry by entry.
use Rattle.std.proofs.Common.{◌≡◌, ℕ, ◌<◌, suc, zero, List, [], ◌∷◌, ◌++◌, length, reverse, Some, None, slice_get, refl, sym, ap, subst, ◌∙◌, arith}
use Rattle.std.proofs.lemmas.List.{append_assoc, reverse-append}
use Rattle.scr_funds.specs.Search.{IsTraced}
use Rattle.scr_funds.proofs.Trails.{onto}

pub within : {X : Type 0} (xs : List X) (i : ℕ) (x : X) → slice_get xs i ≡ Some x → i < length xs
within [] i x h = absurd (let clash : None ≡ Some x = h in cc)
within (y ∷ ys) zero x h = omega arith
within (y ∷ ys) (suc i) x h = let later : i < length ys = within ys i x h in omega arith

-- each place but the first has an entry
pub noted_at : (es : List (ℕ × ℕ)) (from place : ℕ) (trail : List ℕ) → IsTraced es from place trail → 0 < place
    → place < length es
noted_at es from place [] h positive = absurd (omega arith)
noted_at es from place (f ∷ r) h positive = within es place (f, h.0) h.2

-- which is that of the last fund of the trail, and names the place of what leads to it
pub one_back : (es : List (ℕ × ℕ)) (from place : ℕ) (trail : List ℕ) → IsTraced es from place trail → 0 < place
    → (fund before : ℕ) → slice_get es place ≡ Some (fund, before)
    → (before < place) × ((rest : List ℕ) × IsTraced es from before rest × (trail ≡ fund ∷ rest))
one_back es from place [] h positive fund before at = absurd (omega arith)
one_back es from place (f ∷ r) h positive fund before at =
    let clash : Some (f, h.0) ≡ Some (fund, before) = sym h.2 ∙ at in
    let same : (f, h.0) ≡ (fund, before) = cc in
    let back : h.0 ≡ before = ap (λ (e : ℕ × ℕ). e.1) same in
    (subst (λ b. b < place) back h.1, (r, subst (λ b. IsTraced es from b r) back h.3, ap (λ (e : ℕ × ℕ). e.0 ∷ r) same))

-- at the first place nothing is left of the trail
pub at_first : (es : List (ℕ × ℕ)) (from place : ℕ) (trail : List ℕ) → IsTraced es from place trail → place ≡ 0
    → trail ≡ []
at_first es from place [] h first = refl
at_first es from place (f ∷ r) h first = let l : h.0 < place = h.1 in absurd (omega arith)

pub onto-reverse : {A : Type 0} (r cs : List A) → onto r cs ≡ reverse r ++ cs
onto-reverse [] cs = refl
onto-reverse (x ∷ r) cs = onto-reverse r (x ∷ cs) ∙ sym (append_assoc (reverse r) (x ∷ []) cs)
    ∙ ap (λ l. l ++ cs) (sym (reverse-append (x ∷ []) r))
