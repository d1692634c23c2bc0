-- Names that change places, that come or leave, and that go back where they were.
use Rattle.std.proofs.Common.{◌≡◌, ℕ, ◌+◌, ◌-◌, ◌<◌, ◌≤◌, Bool, true, false, List, [], ◌∷◌, ◌++◌, length, get_or, set, take, cond, eqb, refl, sym, ap, ◌∙◌, arith}
use Rattle.std.specs.List.{swap}
use Rattle.std.proofs.lemmas.Bool.Decides.{Decides-eqb, nat_tests}
use Rattle.std.proofs.Math.Seq.{take-set-lt}
use Rattle.std.proofs.lemmas.List.{length-take, length_push, take-set-le, take_at, take_more, take_all, get_or-take, get_or-set_same, set-set, set-get_or, length-set, length-append, get_or_append_left, get_or_at, set-append_left, set_at}
use Rattle.std.proofs.lemmas.List.Edits.{swap_is}
use Rattle.scr_member_lists.specs.Members.{come, left, back_at}

pub swap-come : (roll : List (List ℕ)) (name : List ℕ) (place last : ℕ) → place ≤ length roll → last ≡ length roll
    → swap (come name roll) place last ≡ back_at place name roll
swap-come roll name place last within is =
    sym (swap_is (come name roll) place last [] (omega (arith, length-append roll (name ∷ []))) (omega (arith, length-append roll (name ∷ []))))
    ∙ ap (λ x. set (set (come name roll) place x) last (get_or (come name roll) place [])) (get_or_at roll name [] [] last (sym is))
    ∙ by (eqb place (length roll)) refl
  where
    at_end : length roll ≡ place → set (set (come name roll) place name) last (get_or (come name roll) place []) ≡ come name roll
    at_end same =
        ap (λ x. set (set (come name roll) place name) last x) (get_or_at roll name [] [] place same)
        ∙ ap (λ xs. set xs last name) (set_at roll name [] name place same)
        ∙ set_at roll name [] name last (sym is)

    inside : place < length roll → set (set (come name roll) place name) last (get_or (come name roll) place []) ≡ come (get_or roll place []) (set roll place name)
    inside before =
        ap (λ x. set (set (come name roll) place name) last x) (get_or_append_left roll (name ∷ []) [] place before)
        ∙ ap (λ xs. set xs last (get_or roll place [])) (set-append_left roll (name ∷ []) place name before)
        ∙ set_at (set roll place name) name [] (get_or roll place []) last (length-set roll place name ∙ sym is)

    by : (t : Bool) → eqb place (length roll) ≡ t → set (set (come name roll) place name) last (get_or (come name roll) place []) ≡ back_at place name roll
    by true e = at_end (sym ((Decides-eqb place (length roll)).0 e)) ∙ sym (ap (λ t. cond t (come name roll) (come (get_or roll place []) (set roll place name))) e)
    by false e = inside (grind (arith, nat_tests, e)) ∙ sym (ap (λ t. cond t (come name roll) (come (get_or roll place []) (set roll place name))) e)

-- ---- what came or left goes back

-- the last of what came leaves again
pub left-come : (name : List ℕ) (roll : List (List ℕ)) → left (length roll) (come name roll) ≡ roll
left-come name roll =
    ap (λ n. take (n - 1) (set (come name roll) (length roll) (get_or (come name roll) (n - 1) []))) (length_push roll name)
    ∙ ap (λ n. take n (set (come name roll) (length roll) (get_or (come name roll) n []))) less
    ∙ take-set-le (length roll) (come name roll) (length roll) (get_or (come name roll) (length roll) []) (omega arith)
    ∙ take_at roll (name ∷ []) (length roll) refl
  where
    less : length roll + 1 - 1 ≡ length roll
    less = omega arith

module _ (place : ℕ) (roll : List (List ℕ)) (within : place < length roll) where
  abbrev name : List ℕ
  name = get_or roll place []

  abbrev last : List ℕ
  last = get_or roll (length roll - 1) []

  abbrev rest : List (List ℕ)
  rest = take (length roll - 1) roll

  long : length (left place roll) ≡ length roll - 1
  long = length-take (length roll - 1) (set roll place last) ∙ (omega (arith, length-set roll place last))

  -- the roll is its places but the last, and the last
  whole : rest ++ last ∷ [] ≡ roll
  whole = sym (take_more roll (length roll - 1) [] (omega arith)) ∙ take_all (length roll - 1 + 1) roll (omega arith)

  at_end : place ≡ length (left place roll) → come name (left place roll) ≡ roll
  at_end same =
      let ends : place ≡ length roll - 1 = same ∙ long in
      ap (λ xs. xs ++ name ∷ []) (take-set-le (length roll - 1) roll place last (omega arith))
      ∙ ap (λ n. rest ++ get_or roll n [] ∷ []) ends ∙ whole

  inside : place < length roll - 1 → come (get_or (left place roll) place []) (set (left place roll) place name) ≡ roll
  inside before =
      ap (λ x. set (left place roll) place name ++ x ∷ [])
      (get_or-take (length roll - 1) (set roll place last) place [] before ∙ get_or-set_same roll place last [] within)
      ∙ ap (λ xs. xs ++ last ∷ []) (sym (take-set-lt (length roll - 1) (set roll place last) place name before)
      ∙ ap (take (length roll - 1)) (set-set roll place last name ∙ set-get_or roll place []))
      ∙ whole

  abbrev either : Bool → List (List ℕ)
  either t = cond t (come name (left place roll)) (come (get_or (left place roll) place []) (set (left place roll) place name))

  by : (t : Bool) → eqb place (length (left place roll)) ≡ t → either (eqb place (length (left place roll))) ≡ roll
  by true e = ap either e ∙ at_end ((Decides-eqb place (length (left place roll))).0 e)
  by false e = ap either e ∙ inside (grind (arith, nat_tests, e, long))

  pub back_at-left : back_at place name (left place roll) ≡ roll
  back_at-left = by (eqb place (length (left place roll))) refl
