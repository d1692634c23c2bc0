-- How many parts lists have, by the numbers of these among those of all tables.
use Rattle.std.proofs.Common.{◌≡◌, ◌≢◌, ◌⊎◌, inl, inr, ℕ, ◌+◌, ◌^◌, ◌<◌, ◌≤◌, ◌∷◌, Bool, true, false, cond, ltb, List, [], length, max, Some, refl, sym, ap, subst, ◌∙◌, arith}
use Rattle.std.specs.Prelude.{slice_get}
use Rattle.std.proofs.lemmas.Bool.{cases_eq, cases_lt}
use Rattle.std.proofs.lemmas.Bool.Decides.{nat_tests}
use Rattle.std.proofs.lemmas.List.{get_or_past}
use Rattle.scr_sum_tree.specs.Blocks.{blocks_at, blocks_over, parts}
use Rattle.scr_sum_tree.specs.declared.blocks.Level.{Level}
use Rattle.scr_sum_tree.specs.declared.blocks.Level.TheVariants as levels
use Rattle.scr_sum_slots.specs.Firsts.{FirstLists, firsts_in}
use Rattle.scr_sum_slots.specs.Moves.{KeepsOthers}
use Rattle.scr_sum_slots.specs.Parts.{NumberList, Parted, count_of, no_numbers, slot_of, slots_of}
use Rattle.scr_sum_slots.specs.declared.parts.Part.{Part}
use Rattle.scr_sheet.specs.declared.keys.Table.{Table}
use Rattle.scr_sheet.specs.declared.keys.Table.TheVariants as tables
use Rattle.scr_member_index.specs.Lists.{list_in, table_place}
use Rattle.scr_member_index.specs.Parting.{AreGrown, IsGrown}

-- ---- numbers of lists

few-places : (table : Table) → table_place table < 4
few-places tables.Security = omega arith
few-places tables.Liability = omega arith
few-places tables.Fund = omega arith
few-places tables.Group = omega arith
few-places tables.Bank = omega arith
few-places tables.Rein = omega arith
few-places tables.Curve = omega arith

-- lists of one table are told apart by their numbers, and those of two by their tables
pub list-apart : (table : Table) (number other : ℕ) → number ≢ other → list_in table number ≢ list_in table other
list-apart table number other ne e = omega (arith, ne, e)

pub table-apart : (table another : Table) → table_place table ≢ table_place another → (number other : ℕ) → list_in table number ≢ list_in another other
table-apart table another ne number other e =
    let one = few-places table in
    let two = few-places another in
    omega (arith, one, two, ne, e)

-- ---- lists without parts

some-first : (slots : List ℕ) → (length slots ≡ 0) ⊎ ((slot : ℕ) × (slice_get slots 0 ≡ Some slot))
some-first [] = inl refl
some-first (slot ∷ slots) = inr (slot, refl)

-- a list beyond the numbers of those with parts has none
pub no-parts : (parts : Parted) (list : ℕ) → 2 ^ 31 ≤ list → ((part : Part) (slot : ℕ) → slot_of part parts ≡ Some slot → part.list < 2 ^ 31)
    → (level : Level) → count_of list level parts ≡ 0
no-parts parts list far few level = by (some-first (slots_of list level parts))
  where
    by : (length (slots_of list level parts) ≡ 0) ⊎ ((slot : ℕ) × (slice_get (slots_of list level parts) 0 ≡ Some slot)) → count_of list level parts ≡ 0
    by (inl none) = none
    by (inr some) = let low = few (record { list = list; level = level; index = 0 }) some.0 some.1 in absurd (omega (arith, low, far))

few-over : (count : ℕ) → count ≤ 32 → blocks_over count ≡ 0
few-over count few = by (ltb 32 count) refl
  where
    by : (t : Bool) → ltb 32 count ≡ t → blocks_over count ≡ 0
    by true e = let many : 32 < count = grind (arith, nat_tests, e) in absurd (omega (arith, many, few))
    by false e = ap (λ t. cond t (parts count) 0) e

-- a list of 32 members or fewer has no Block
pub few-blocks : (members : ℕ) → members ≤ 32 → (level : Level) → blocks_at members level ≡ 0
few-blocks members few levels.First = few-over members few
few-blocks members few levels.Second = few-over (parts members) (omega (arith, few))

-- ---- all lists of a table, one by one

pub record AreGrownTo (table : Table) (firsts : FirstLists) (k : ℕ) (before now : Parted) : Type 0 where
  pub done : (number : ℕ) → number < k → IsGrown (list_in table number) (length (firsts_in number firsts)) before now
  pub rest : (list : ℕ) → ((number : ℕ) → number < k → list ≢ list_in table number) → (level : Level) → count_of list level now ≡ count_of list level before

pub none-grown : (table : Table) (firsts : FirstLists) (parts : Parted) → AreGrownTo table firsts 0 parts parts
none-grown table firsts parts = record {
  done = λ number low. absurd (omega (arith, low));
  rest = λ list apart level. refl;
}

pub grown-more : (table : Table) (firsts : FirstLists) (k : ℕ) (before mid now : Parted) → AreGrownTo table firsts k before mid
    → IsGrown (list_in table k) (length (firsts_in k firsts)) mid now → KeepsOthers (list_in table k) mid now → AreGrownTo table firsts (k + 1) before now
grown-more table firsts k before mid now were own others = record {
  done = λ number low level. done number low level (cases_eq number k);
  rest = λ list apart level.
      others list level (apart k (omega arith)) ∙ were.rest list (λ number low. apart number (omega (arith, low))) level;
}
  where
    done : (number : ℕ) → number < k + 1 → (level : Level) → (number ≡ k) ⊎ (number ≢ k)
        → count_of (list_in table number) level now ≡ max (count_of (list_in table number) level before) (blocks_at (length (firsts_in number firsts)) level)
    done number low level (inl e) =
        subst (λ (n : ℕ). count_of (list_in table n) level now ≡ max (count_of (list_in table n) level before) (blocks_at (length (firsts_in n firsts)) level)) (sym e)
        (own level
        ∙ ap (λ n. max n (blocks_at (length (firsts_in k firsts)) level))
        (were.rest (list_in table k) (λ n less. list-apart table k n (apart-less n less)) level))
      where
        apart-less : (n : ℕ) → n < k → k ≢ n
        apart-less n less same = omega (arith, less, same)
    done number low level (inr ne) =
        others (list_in table number) level (list-apart table number k ne) ∙ were.done number (omega (arith, low, ne)) level

pub grown-all : (table : Table) (firsts : FirstLists) (k : ℕ) (before now : Parted) → length firsts.lists ≤ k → AreGrownTo table firsts k before now
    → AreGrown table firsts before now
grown-all table firsts k before now all grown = record {
  own = λ number level. by number level (cases_lt number k);
  others = λ list apart. grown.rest list (λ number low. apart number);
}
  where
    by : (number : ℕ) (level : Level) → (number < k) ⊎ (k ≤ number)
        → count_of (list_in table number) level now ≡ max (count_of (list_in table number) level before) (blocks_at (length (firsts_in number firsts)) level)
    by number level (inl low) = grown.done number low level
    by number level (inr past) =
        let none : length (firsts_in number firsts) ≡ 0 =
        ap (λ (list : NumberList). length list.items) (get_or_past firsts.lists number no_numbers (omega (arith, all, past))) in
        let same = grown.rest (list_in table number) (λ n low. list-apart table number n (apart-past n low)) level in
        let no_block = few-blocks (length (firsts_in number firsts)) (omega (arith, none)) level in
        omega (arith, same, no_block)
      where
        apart-past : (n : ℕ) → n < k → number ≢ n
        apart-past n low e = omega (arith, low, e, past)
