-- Where the lists of a book have just its members, so have they as a record leaves it.
use Rattle.std.proofs.Common.{◌≡◌, ◌≢◌, ◌⊎◌, inl, inr, ℕ, ◌<◌, Bool, true, false, cond, List, [], length, get_or, slice_get, refl, sym, ap, ap₂, ◌∙◌, arith}
use Rattle.std.specs.Cmp.Lexicographic.{nat_list_eq_equiv}
use Rattle.std.specs.List.{IsDistinct, position_or_len}
use Rattle.std.proofs.lemmas.Bool.{cases_eq}
use Rattle.std.proofs.lemmas.Map.Keys.{IsDistinct-from_apart, IsDistinct-push, apart_from_distinct}
use Rattle.std.proofs.lemmas.Option.{get_or_from_slice_get, slice_get-get_or}
use Rattle.scr_tables.specs.Names.{same_name}
use Rattle.scr_tables.proofs.TableRows.{same_name-flip, same_name-is}
use Rattle.scr_member_lists.specs.Members.{has, left, moved, name_at}
use Rattle.scr_member_lists.proofs.SeatReturns.{found, has-moved}
use Rattle.scr_sum_tree.specs.ChangedBlocks.{Leaves}
use Rattle.scr_sheet.specs.Members.{edit_name, is_member}
use Rattle.scr_sheet.specs.Records.{applied}
use Rattle.scr_sheet.specs.declared.{edit.Edit.Edit, roll.Roll.Roll, sheet.BalanceSheet.BalanceSheet}
use Rattle.scr_sheet.proofs.Membership.{member-other}
use Rattle.scr_block_graph.specs.Graph.{AreRolls, Rolled}
use Rattle.scr_block_graph.specs.Touched.{applied_in}
use Rattle.scr_block_graph.proofs.Steps.{left-leaves}

-- ---- one that leaves

module _ (roll : List (List ℕ)) (distinct : IsDistinct same_name roll) (place : ℕ) (within : place < length roll) where
  abbrev fewer : List (List ℕ)
  fewer = left place roll

  apart : (i j : ℕ) → i < j → j < length roll → same_name (name_at i roll) (name_at j roll) ≡ false
  apart i j before inside = apart_from_distinct same_name roll i j [] distinct before inside

  leaves : Leaves place roll fewer
  leaves = left-leaves place roll within

  inside-then : length fewer < length roll
  inside-then = omega (arith, leaves.fewer)

  same-at : (j k : ℕ) → slice_get fewer j ≡ slice_get roll k → k < length roll → name_at j fewer ≡ name_at k roll
  same-at j k same inside = get_or_from_slice_get fewer j (name_at k roll) [] (same ∙ slice_get-get_or roll k [] inside)

  -- the last stands at the place, and all others where they stood
  at-place : place < length fewer → name_at place fewer ≡ name_at (length fewer) roll
  at-place before = same-at place (length fewer) (leaves.taken before) inside-then

  at-other : (k : ℕ) → k < length fewer → k ≢ place → name_at k fewer ≡ name_at k roll
  at-other k inside other = same-at k k (leaves.kept k inside other) (omega (arith, inside, inside-then))

  left-apart : (i j : ℕ) → i < j → j < length fewer → same_name (name_at i fewer) (name_at j fewer) ≡ false
  left-apart i j before inside = by (cases_eq i place) (cases_eq j place)
    where
      pair : (a b c d : List ℕ) → a ≡ c → b ≡ d → same_name c d ≡ false → same_name a b ≡ false
      pair a b c d e f h = ap₂ same_name e f ∙ h

      by : ((i ≡ place) ⊎ (i ≢ place)) → ((j ≡ place) ⊎ (j ≢ place)) → same_name (name_at i fewer) (name_at j fewer) ≡ false
      by (inl e) (inl d) = absurd (omega (arith, before, e, d))
      by (inl e) (inr d) =
          pair (name_at i fewer) (name_at j fewer) (name_at (length fewer) roll) (name_at j roll)
          (ap (λ k. name_at k fewer) e ∙ at-place (omega (arith, inside, before, e))) (at-other j inside d)
          (same_name-flip (name_at (length fewer) roll) (name_at j roll) ∙ apart j (length fewer) inside inside-then)
      by (inr e) (inl d) =
          pair (name_at i fewer) (name_at j fewer) (name_at i roll) (name_at (length fewer) roll)
          (at-other i (omega (arith, before, inside)) e) (ap (λ k. name_at k fewer) d ∙ at-place (omega (arith, inside, d)))
          (apart i (length fewer) (omega (arith, before, inside)) inside-then)
      by (inr e) (inr d) =
          pair (name_at i fewer) (name_at j fewer) (name_at i roll) (name_at j roll)
          (at-other i (omega (arith, before, inside)) e) (at-other j inside d)
          (apart i j before (omega (arith, inside, inside-then)))

  left-distinct : IsDistinct same_name fewer
  left-distinct = IsDistinct-from_apart same_name fewer
      (λ i j d before inside.
      ap₂ same_name (any i d (omega (arith, before, inside))) (any j d inside) ∙ left-apart i j before inside)
    where
      any : (k : ℕ) (d : List ℕ) → k < length fewer → get_or fewer k d ≡ name_at k fewer
      any k d inside = get_or_from_slice_get fewer k (name_at k fewer) d (slice_get-get_or fewer k [] inside)

-- ---- all lists

module _ (edit : Edit) (book : Rolled) (rolls : AreRolls book) where
  abbrev name : List ℕ
  name = edit_name edit

  abbrev then : BalanceSheet
  then = applied edit book.sheet

  moved-members : (roll : Roll) (x : List ℕ)
      → has x (moved name (is_member roll name book.sheet) (is_member roll name then) (book.rolls roll)) ≡ is_member roll x then
  moved-members roll x =
      ap (λ was. has x (moved name was (is_member roll name then) (book.rolls roll))) (sym (rolls.members roll name))
      ∙ has-moved (book.rolls roll) (rolls.once roll) name x (is_member roll name then)
      ∙ by (same_name name x) refl
    where
      by : (t : Bool) → same_name name x ≡ t → cond t (is_member roll name then) (has x (book.rolls roll)) ≡ is_member roll x then
      by true e = ap (λ n. is_member roll n then) (same_name-is name x e)
      by false e = rolls.members roll x ∙ sym (member-other book.sheet roll x edit e)

  moved-once : (roll : Roll) (was is : Bool) → has name (book.rolls roll) ≡ was → IsDistinct same_name (moved name was is (book.rolls roll))
  moved-once roll true true known = rolls.once roll
  moved-once roll false false known = rolls.once roll
  moved-once roll false true known = IsDistinct-push nat_list_eq_equiv (book.rolls roll) name (rolls.once roll) known
  moved-once roll true false known =
      left-distinct (book.rolls roll) (rolls.once roll) (position_or_len (same_name name) (book.rolls roll))
      (found (book.rolls roll) (rolls.once roll) name known).within

  pub after-rolls : AreRolls (applied_in edit book)
  after-rolls = record {
    members = moved-members;
    once = λ roll. moved-once roll (is_member roll name book.sheet) (is_member roll name then) (rolls.members roll name);
  }
