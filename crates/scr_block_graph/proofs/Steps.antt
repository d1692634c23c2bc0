-- Which Blocks of a list change as the row of a record comes to it, leaves it or does neither.
use Rattle.std.proofs.Common.{◌≡◌, ◌↔◌, ℕ, ◌+◌, ◌-◌, ◌<◌, ◌≤◌, Bool, true, false, eqb, ltb, Decides, Contains, List, [], ◌∷◌, ◌++◌, Some, length, get_or, set, slice_get, refl, sym, ap, subst, ◌∙◌, arith}
use Rattle.std.specs.List.{IsDistinct, list_any, position_or_len}
use Rattle.std.proofs.lemmas.Bool.Decides.{Decides-eqb, nat_tests}
use Rattle.std.proofs.lemmas.List.{get_or-set_other, get_or-set_same, get_or-take, length-set, length-take, length_push}
use Rattle.std.proofs.lemmas.Map.Keys.{apart_from_distinct}
use Rattle.std.proofs.lemmas.Option.{get_or_from_slice_get, slice_get-get_or}
use Rattle.scr_tables.specs.Names.{same_name}
use Rattle.scr_member_lists.specs.Members.{has, left, moved}
use Rattle.scr_sum_tree.specs.Blocks.{HasEachOnce, top_count, tops}
use Rattle.scr_sum_tree.specs.ChangedBlocks.{IsChangedBlock, Leaves, coming, leaving}
use Rattle.scr_sum_tree.specs.Readers.{AreApart}
use Rattle.scr_sum_tree.specs.declared.blocks.Level.{Level}
use Rattle.scr_sum_tree.specs.declared.blocks.Level.TheVariants as levels
use Rattle.scr_sum_tree.proofs.BlockChanges.{came-told, went-told}
use Rattle.scr_sum_tree.proofs.ChangedLists.{coming-few, coming-listed, coming-once, leaving-few, leaving-listed, leaving-once}
use Rattle.scr_sum_tree.proofs.SameMembers.{figures-once}
use Rattle.scr_sum_tree.proofs.TopChanges.{tops-told}
use Rattle.scr_block_graph.specs.Turns.{changed_at, count_after, step_of}

-- ---- one that leaves

-- a member stands at a place
pub place-within : {X : Type 0} (p : X → Bool) (xs : List X) → ltb (position_or_len p xs) (length xs) ≡ list_any p xs
place-within p [] = refl
place-within p (x ∷ xs) = by (p x) (place-within p xs) refl
  where
    by : (b : Bool) → ltb (position_or_len p xs) (length xs) ≡ list_any p xs → p x ≡ b → ltb (position_or_len p (x ∷ xs)) (length (x ∷ xs)) ≡ list_any p (x ∷ xs)
    by true rest h = grind (arith, nat_tests, h)
    by false rest h = grind (arith, nat_tests, h, rest)

module _ (place : ℕ) (roll : List (List ℕ)) (within : place < length roll) where
  abbrev last : List ℕ
  last = get_or roll (length roll - 1) []

  long : length (left place roll) ≡ length roll - 1
  long = length-take (length roll - 1) (set roll place last) ∙ (omega (arith, length-set roll place last))

  at : (k : ℕ) → k < length (left place roll) → slice_get (left place roll) k ≡ Some (get_or (set roll place last) k [])
  at k h = slice_get-get_or (left place roll) k [] h ∙ ap Some (get_or-take (length roll - 1) (set roll place last) k [] (omega (arith, h, long)))

  pub left-leaves : Leaves place roll (left place roll)
  left-leaves = record {
    within = within;
    fewer = omega (arith, long, within);
    taken = λ h. at place h ∙ ap Some (get_or-set_same roll place last [] within ∙ ap (λ n. get_or roll n []) (sym long))
        ∙ sym (slice_get-get_or roll (length (left place roll)) [] (omega (arith, long, within)));
    kept = λ k h other. at k h ∙ ap Some (get_or-set_other roll place k last [] other) ∙ sym (slice_get-get_or roll k [] (omega (arith, h, long)));
  }

-- ---- what changes

none-there : (i : ℕ) → Contains {X = ℕ} [] i → ⊥
none-there i h = omega (arith, h.1)

-- numbers that are told apart stand at places of their own
pub numbers-once : (list : List ℕ) → IsDistinct eqb list → HasEachOnce list
numbers-once list distinct j k before inside same =
    let apart = apart_from_distinct eqb list j k 0 distinct before inside in
    let equal : get_or list j 0 ≡ get_or list k 0 =
    sym (get_or_from_slice_get list k (get_or list j 0) 0 (sym same ∙ slice_get-get_or list j 0 (omega (arith, before, inside)))) in
    let never : false ≡ true = sym apart ∙ (Decides-eqb (get_or list j 0) (get_or list k 0)).1 equal in
    absurd (cc)

module _ {Node : Type 0} (member : List ℕ → Node) (block : Level → ℕ → Node) (apart : AreApart member block)
    (roll : List (List ℕ)) (once : IsDistinct same_name roll) (name : List ℕ) where
  abbrev place : ℕ
  place = position_or_len (same_name name) roll

  abbrev Told : (was is : Bool) → Level → ℕ → Type 0
  Told was is level i = Contains (changed_at (length roll) (step_of was is place) level) i
      ↔ IsChangedBlock member block roll (moved name was is roll) level i

  pub there : has name roll ≡ true → place < length roll
  there known = let is = place-within (same_name name) roll ∙ known in grind (arith, nat_tests, is)

  stays : (level : Level) (i : ℕ) → Contains {X = ℕ} [] i ↔ IsChangedBlock member block roll roll level i
  stays level i = ((λ h. absurd (none-there i h)), (λ h. absurd (h.changed (record { live = refl; sources = refl }))))

  pub steps-told : (was is : Bool) → has name roll ≡ was → (level : Level) (i : ℕ) → Told was is level i
  steps-told true true known level i = stays level i
  steps-told false false known level i = stays level i
  steps-told false true known level i =
      let told = came-told member block roll name level i in
      let listed = coming-listed (length roll) level i in
      ((λ h. told.0 (listed.1 h)), (λ h. listed.0 (told.1 h)))
  steps-told true false known level i =
      let told = went-told member block roll (left place roll) place (left-leaves place roll (there known))
      (figures-once member apart.members roll once) level i in
      let listed = leaving-listed (length roll) place (there known) level i in
      ((λ h. told.0 (listed.1 h)), (λ h. listed.0 (told.1 h)))

  pub steps-length : (was is : Bool) → has name roll ≡ was → length (moved name was is roll) ≡ count_after (length roll) (step_of was is place)
  steps-length true true known = refl
  steps-length false false known = refl
  steps-length false true known = length_push roll name
  steps-length true false known = long place roll (there known)

  pub steps-tops : (was is : Bool) → has name roll ≡ was
      → Decides (eqb (top_count (length roll)) (top_count (count_after (length roll) (step_of was is place))))
      (tops member block roll ≡ tops member block (moved name was is roll))
  steps-tops true true known = ((λ t. refl), (λ h. (Decides-eqb (top_count (length roll)) (top_count (length roll))).1 refl))
  steps-tops false false known = ((λ t. refl), (λ h. (Decides-eqb (top_count (length roll)) (top_count (length roll))).1 refl))
  steps-tops false true known =
      subst (λ n. Decides (eqb (top_count (length roll)) (top_count n)) (tops member block roll ≡ tops member block (roll ++ name ∷ [])))
      (length_push roll name)
      (tops-told member block roll (roll ++ name ∷ []) (length_push roll name))
  steps-tops true false known =
      let leaves = left-leaves place roll (there known) in
      let told = tops-told member block (left place roll) roll leaves.fewer in
      subst (λ n. Decides (eqb (top_count (length roll)) (top_count n)) (tops member block roll ≡ tops member block (left place roll)))
      (long place roll (there known))
      (turned (top_count (length (left place roll))) (top_count (length roll)) told)
    where
      turned : (a b : ℕ) → Decides (eqb a b) (tops member block (left place roll) ≡ tops member block roll)
          → Decides (eqb b a) (tops member block roll ≡ tops member block (left place roll))
      turned a b told = (
        λ t. sym (told.0 ((Decides-eqb a b).1 (sym ((Decides-eqb b a).0 t)))),
        λ h. (Decides-eqb b a).1 (sym ((Decides-eqb a b).0 (told.1 (sym h)))),
      )

pub changed-once : (count : ℕ) (was is : Bool) (place : ℕ) (level : Level) → HasEachOnce (changed_at count (step_of was is place) level)
changed-once count true true place level = λ j k before inside same. omega (arith, inside)
changed-once count false false place level = λ j k before inside same. omega (arith, inside)
changed-once count false true place level = numbers-once (coming count level) (coming-once count level)
changed-once count true false place level = numbers-once (leaving count place level) (leaving-once count place level)

pub changed-few : (count : ℕ) (was is : Bool) (place : ℕ)
    → length (changed_at count (step_of was is place) levels.First) + length (changed_at count (step_of was is place) levels.Second) ≤ 4
changed-few count true true place = omega arith
changed-few count false false place = omega arith
changed-few count false true place = omega (arith, coming-few count)
changed-few count true false place = omega (arith, leaving-few count place)
