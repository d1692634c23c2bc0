-- Numbers of a list of which the places are kept.
use Rattle.std.proofs.Common.{◌≡◌, ◌⊎◌, ℕ, zero, suc, ◌+◌, ◌<◌, true, false, nat_eq, List, [], ◌∷◌, ◌++◌, Option, Some, None, if◌then◌else◌, length, set, get_or, slice_get, refl, sym, ap, subst, ◌∙◌, inl, inr, arith}
use Rattle.std.specs.List.{IsDistinct, list_any}
use Rattle.std.proofs.lemmas.Bool.Decides.{eqb_tells}
use Rattle.std.proofs.lemmas.List.{get_or-set_same, get_or-set_other, length-set}
use Rattle.std.proofs.lemmas.Map.Keys.{IsDistinct-from_apart}
use Rattle.std.proofs.lemmas.Option.{none-some, slice_get-get_or}
use Rattle.std.specs.Option.{IfSome, is_some}
use Rattle.indexmap.specs.IndexSet.{insert_key}
use Rattle.scr_reachability.specs.Marks.{AreMarks}
use Rattle.scr_reachability.proofs.Members.{IsMember, IsMember-from_place, any-from_member, any-from_none, place_of}

pub same-marked : (list list' places places' : List ℕ) → list' ≡ list → places' ≡ places → AreMarks list places
    → AreMarks list' places'
same-marked list list' places places' e f h =
    subst (λ l. AreMarks l places') (sym e) (subst (λ ps. AreMarks list ps) (sym f) h)

-- ---- a number is marked

get-pushed : (list : List ℕ) (n p x : ℕ) → slice_get (list ++ n ∷ []) p ≡ Some x
    → (slice_get list p ≡ Some x) ⊎ ((p ≡ length list) × (x ≡ n))
get-pushed [] n zero x e = inr (refl, cc)
get-pushed [] n (suc p) x e = absurd (cc)
get-pushed (y ∷ ys) n zero x e = inl e
get-pushed (y ∷ ys) n (suc p) x e = by (get-pushed ys n p x e)
  where
    by : (slice_get ys p ≡ Some x) ⊎ ((p ≡ length ys) × (x ≡ n))
        → (slice_get ys p ≡ Some x) ⊎ ((suc p ≡ suc (length ys)) × (x ≡ n))
    by (inl k) = inl k
    by (inr k) = inr (ap suc k.0, k.1)

pub push-marked : (list later places places' : List ℕ) (n : ℕ) → n < length places
    → list_any (nat_eq n) list ≡ false → later ≡ list ++ n ∷ [] → places' ≡ set places n (length list)
    → AreMarks list places → AreMarks later places'
push-marked list later places places' n l none e f h =
    same-marked (list ++ n ∷ []) later (set places n (length list)) places' e f (record {
      within = λ p x k. let len : length (set places n (length list)) ≡ length places = length-set places n (length list) in
          let low = low p x (get-pushed list n p x k) in omega arith;
      kept = λ p x k. kept p x (get-pushed list n p x k);
    })
  where
    low : (p x : ℕ) → (slice_get list p ≡ Some x) ⊎ ((p ≡ length list) × (x ≡ n)) → x < length places
    low p x (inl k) = h.within p x k
    low p x (inr k) = omega (arith, l, k.1)

    other : (p x : ℕ) → slice_get list p ≡ Some x → x ≡ n → ⊥
    other p x k same =
        let m : IsMember n list = subst (λ z. IsMember z list) same (IsMember-from_place list p x k) in
        let t : true ≡ false = sym (any-from_member n list m) ∙ none in
        absurd (cc)

    kept : (p x : ℕ) → (slice_get list p ≡ Some x) ⊎ ((p ≡ length list) × (x ≡ n))
        → get_or (set places n (length list)) x 0 ≡ p
    kept p x (inl k) = get_or-set_other places n x (length list) 0 (other p x k) ∙ h.kept p x k
    kept p x (inr k) =
        ap (λ z. get_or (set places n (length list)) z 0) k.1 ∙ get_or-set_same places n (length list) 0 l ∙ sym k.0

pub pushed-key : (list later : List ℕ) (n : ℕ) → list_any (nat_eq n) list ≡ false → later ≡ list ++ n ∷ []
    → later ≡ insert_key nat_eq list n
pushed-key list later n none e = e ∙ sym (ap (λ b. if b then list else list ++ n ∷ []) none)

-- ---- where a number stands

-- what stands nowhere is not marked
pub nowhere : (list : List ℕ) (n : ℕ) → ((p : ℕ) → slice_get list p ≡ Some n → ⊥) → list_any (nat_eq n) list ≡ false
nowhere list n none = any-from_none n list (λ m. let at = place_of list n m in none at.0 at.1)

pub somewhere : (list : List ℕ) (n p : ℕ) → slice_get list p ≡ Some n → list_any (nat_eq n) list ≡ true
somewhere list n p at = any-from_member n list (IsMember-from_place list p n at)

pub is-marked : (list : List ℕ) (n : ℕ) (r : Option ℕ) → is_some r ≡ true → IfSome r (λ p. slice_get list p ≡ Some n)
    → insert_key nat_eq list n ≡ list
is-marked list n None e at = absurd (cc)
is-marked list n (Some p) e at = ap (λ b. if b then list else list ++ n ∷ []) (somewhere list n p at)

pub not-marked : (list : List ℕ) (n : ℕ) (r : Option ℕ) → is_some r ≡ false
    → ((p : ℕ) → slice_get list p ≡ Some n → r ≡ Some p) → list_any (nat_eq n) list ≡ false
not-marked list n None e only = nowhere list n (λ p at. none-some p (only p at))
not-marked list n (Some p) e only = absurd (cc)

pub marked-once : (list places : List ℕ) → AreMarks list places → IsDistinct nat_eq list
marked-once list places h = IsDistinct-from_apart nat_eq list (λ i j d less within. apart i j d less within)
  where
    apart : (i j d : ℕ) → i < j → j < length list → nat_eq (get_or list i d) (get_or list j d) ≡ false
    apart i j d less within = by (eqb_tells (get_or list i d) (get_or list j d))
      where
        first : slice_get list i ≡ Some (get_or list i d)
        first = slice_get-get_or list i d (omega arith)

        second : slice_get list j ≡ Some (get_or list j d)
        second = slice_get-get_or list j d within

        by : ((nat_eq (get_or list i d) (get_or list j d) ≡ true) × (get_or list i d ≡ get_or list j d))
            ⊎ ((nat_eq (get_or list i d) (get_or list j d) ≡ false) × (get_or list i d ≡ get_or list j d → ⊥))
            → nat_eq (get_or list i d) (get_or list j d) ≡ false
        by (inr f) = f.0
        by (inl t) =
            let same : i ≡ j = sym (h.kept i (get_or list i d) first) ∙ ap (λ n. get_or places n 0) t.1
            ∙ h.kept j (get_or list j d) second in
            absurd (omega (arith, same, less))
