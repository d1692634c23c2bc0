-- Numbers beside the members of a list move as the members do.
use Rattle.std.proofs.Common.{◌≡◌, ◌≢◌, ◌⊎◌, inl, inr, ℕ, ◌+◌, ◌-◌, ◌<◌, ◌≤◌, true, false, List, [], ◌∷◌, length, get_or, map, set, take, sym, ap, subst, ◌∙◌, arith}
use Rattle.std.specs.Prelude.{◌==◌, if◌then◌else◌}
use Rattle.std.proofs.lemmas.Bool.{cases_Bool, cases_eq, eqb-false, eqb-true}
use Rattle.std.proofs.lemmas.List.{get_or-map, get_or_append_left, get_or_at, length-map, length-set, length-take, length_push, map-set, map_push, set-append_left, set_at, take-map}
use Rattle.std.specs.List.{swap}
use Rattle.std.proofs.lemmas.List.Edits.{swap_is}
use Rattle.scr_member_lists.specs.Members as members
use Rattle.scr_sum_slots.specs.Parts.{NumberList, list_at}
use Rattle.scr_sum_slots.specs.Firsts.{Becomes, back_at, first_at, joined, left}
use Rattle.scr_sum_slots.specs.Moves.{AreOthers, Roomier}

pub swap-back : (firsts : List ℕ) (first place last : ℕ) → place ≤ length firsts → last ≡ length firsts
    → swap (joined first firsts) place last ≡ back_at place first firsts
swap-back firsts first place last within is =
    sym (swap_is (joined first firsts) place last 0 (omega (arith, length_push firsts first)) (omega (arith, length_push firsts first, is)))
    ∙ ap (λ x. set (set (joined first firsts) place x) last (get_or (joined first firsts) place 0)) (get_or_at firsts first [] 0 last (sym is))
    ∙ by (cases_Bool (place == length firsts))
  where
    at_end : length firsts ≡ place → set (set (joined first firsts) place first) last (get_or (joined first firsts) place 0) ≡ joined first firsts
    at_end same =
        ap (λ x. set (set (joined first firsts) place first) last x) (get_or_at firsts first [] 0 place same)
        ∙ ap (λ xs. set xs last first) (set_at firsts first [] first place same)
        ∙ set_at firsts first [] first last (sym is)

    inside : place < length firsts
        → set (set (joined first firsts) place first) last (get_or (joined first firsts) place 0) ≡ joined (get_or firsts place 0) (set firsts place first)
    inside before =
        ap (λ x. set (set (joined first firsts) place first) last x) (get_or_append_left firsts (first ∷ []) 0 place before)
        ∙ ap (λ xs. set xs last (get_or firsts place 0)) (set-append_left firsts (first ∷ []) place first before)
        ∙ set_at (set firsts place first) first [] (get_or firsts place 0) last (length-set firsts place first ∙ sym is)

    by : (place == length firsts ≡ true) ⊎ (place == length firsts ≡ false)
        → set (set (joined first firsts) place first) last (get_or (joined first firsts) place 0) ≡ back_at place first firsts
    by (inl e) =
        at_end (sym (eqb-true place (length firsts) e))
        ∙ sym (ap (λ t. if t then joined first firsts else joined (get_or firsts place 0) (set firsts place first)) e)
    by (inr f) =
        (let ne = eqb-false place (length firsts) f in inside (omega (arith, within, ne)))
        ∙ sym (ap (λ t. if t then joined first firsts else joined (get_or firsts place 0) (set firsts place first)) f)

module _ (first : List ℕ → ℕ) where
  pub came : (name : List ℕ) (roll : List (List ℕ)) → map first (members.come name roll) ≡ joined (first name) (map first roll)
  came name roll = map_push first roll name

  pub gone : (place : ℕ) (roll : List (List ℕ)) → place < length roll
      → map first (members.left place roll) ≡ left place (map first roll)
  gone place roll low =
      let last : ℕ = length roll - 1 in
      let long = length-map roll first in
      let end : ℕ = length (map first roll) - 1 in
      let same : last ≡ end = omega (arith, long) in
      sym (take-map first last (set roll place (members.name_at last roll)))
      ∙ ap (take last) (map-set first roll place (members.name_at last roll))
      ∙ ap (λ x. take last (set (map first roll) place x)) (sym (get_or-map first roll last [] 0 (omega (arith, low))))
      ∙ ap (λ n. take n (set (map first roll) place (first_at n (map first roll)))) same

  pub returned : (place : ℕ) (name : List ℕ) (roll : List (List ℕ)) → place ≤ length roll
      → map first (members.back_at place name roll) ≡ back_at place (first name) (map first roll)
  returned place name roll most = by (cases_Bool (place == length roll))
    where
      long : length (map first roll) ≡ length roll
      long = length-map roll first

      by : (place == length roll ≡ true) ⊎ (place == length roll ≡ false)
          → map first (members.back_at place name roll) ≡ back_at place (first name) (map first roll)
      by (inl e) =
          ap (λ t. map first (if t then members.come name roll else members.come (members.name_at place roll) (set roll place name))) e
          ∙ came name roll
          ∙ ap (λ t. if t then joined (first name) (map first roll) else joined (first_at place (map first roll)) (set (map first roll) place (first name)))
          (sym (ap (λ n. place == n) long ∙ e))
      by (inr f) =
          let low : place < length roll = let ne = eqb-false place (length roll) f in omega (arith, most, ne) in
          ap (λ t. map first (if t then members.come name roll else members.come (members.name_at place roll) (set roll place name))) f
          ∙ came (members.name_at place roll) (set roll place name)
          ∙ ap (joined (first (members.name_at place roll))) (map-set first roll place name)
          ∙ ap (λ x. joined x (set (map first roll) place (first name))) (sym (get_or-map first roll place [] 0 low))
          ∙ ap (λ t. if t then joined (first name) (map first roll) else joined (first_at place (map first roll)) (set (map first roll) place (first name)))
          (sym (ap (λ n. place == n) long ∙ f))

-- ---- what a list becomes

pub length-left : (place : ℕ) (firsts : List ℕ) → length (left place firsts) ≡ length firsts - 1
length-left place firsts =
    let set_length = length-set firsts place (first_at (length firsts - 1) firsts) in
    let cut = length-take (length firsts - 1) (set firsts place (first_at (length firsts - 1) firsts)) in
    omega (arith, set_length, cut)

pub length-back : (place first : ℕ) (firsts : List ℕ) → length (back_at place first firsts) ≡ length firsts + 1
length-back place first firsts = by (cases_Bool (place == length firsts))
  where
    by : (place == length firsts ≡ true) ⊎ (place == length firsts ≡ false) → length (back_at place first firsts) ≡ length firsts + 1
    by (inl e) =
        ap (λ t. length (if t then joined first firsts else joined (first_at place firsts) (set firsts place first))) e
        ∙ length_push firsts first
    by (inr f) =
        ap (λ t. length (if t then joined first firsts else joined (first_at place firsts) (set firsts place first))) f
        ∙ length_push (set firsts place first) (first_at place firsts) ∙ ap (λ n. n + 1) (length-set firsts place first)

pub becomes : (list : ℕ) (numbers : List ℕ) (before now : List NumberList) → AreOthers list before now → (list_at list now).items ≡ numbers
    → length (list_at list before).items + (list_at list before).room ≤ length numbers + (list_at list now).room
    → Becomes list numbers (record { lists = before }) (record { lists = now })
becomes list numbers before now others own room = record {
  own = own;
  others = λ other ne. ap (λ (l : NumberList). l.items) (others.others other ne);
  room = λ other. by other (cases_eq other list);
}
  where
    by : (other : ℕ) → (other ≡ list) ⊎ (other ≢ list)
        → length (list_at other before).items + (list_at other before).room ≤ length (list_at other now).items + (list_at other now).room
    by other (inl e) =
        subst (λ l. length (list_at l before).items + (list_at l before).room ≤ length (list_at l now).items + (list_at l now).room) (sym e)
        (omega (arith, room, ap length own))
    by other (inr ne) =
        let same = others.others other ne in
        omega (arith, ap (λ (l : NumberList). length l.items) same, ap (λ (l : NumberList). l.room) same)

pub becomes-roomier : (list : ℕ) (before now : List NumberList) → Roomier before now
    → Becomes list (list_at list before).items (record { lists = before }) (record { lists = now })
becomes-roomier list before now roomier = record {
  own = roomier.slots list;
  others = λ other ne. roomier.slots other;
  room = λ other. let more = roomier.room other in omega (arith, more, ap length (roomier.slots other));
}
