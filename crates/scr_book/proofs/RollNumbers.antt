-- Which rolls a row stands in by its numbers: those of which it is a member.
use Rattle.std.proofs.Common.{◌≡◌, ℕ, ◌+◌, ◌<◌, Bool, true, false, ◌&&◌, List, [], ◌∷◌, ◌++◌, map, set, eqb, Option, Some, None, refl, sym, ap, ◌∙◌, arith}
use Rattle.std.specs.Prelude.{if◌then◌else◌}
use Rattle.std.specs.Option.{option_map, option_map_or}
use Rattle.std.proofs.lemmas.Bool.Decides.{Decides-eqb, nat_tests}
use Rattle.scr_tables.specs.Names.{same_name}
use Rattle.scr_tables.proofs.TableRows.{same_name-is, same_name-itself, same_or_other}
use Rattle.scr_member_lists.specs.Owned.{Owned, number_of}
use Rattle.scr_member_lists.specs.Seatings.{NOWHERE, target}
use Rattle.scr_sheet.specs.CashFlows.{all_projections}
use Rattle.scr_sheet.specs.Members.{has_flows, has_group, has_liability, has_security, is_kind, is_of_class, is_paying, table_of}
use Rattle.scr_sheet.specs.declared.{keys.Projection.Projection, roll.Roll.Roll, rows.Class.Class, rows.Liability.Liability, rows.LiabilityKind.LiabilityKind, rows.Position.Position}
use Rattle.scr_sheet.specs.declared.keys.Projection.TheVariants as projections
use Rattle.scr_sheet.specs.declared.keys.Table.TheVariants as tables
use Rattle.scr_sheet.specs.declared.roll.Roll.TheVariants as rolls
use Rattle.scr_sheet.specs.declared.rows.Class.TheVariants as classes
use Rattle.scr_sheet.specs.declared.rows.LiabilityKind.TheVariants as kinds
use Rattle.scr_book.specs.Rolls.{AreNumbered, GroupNumber, KeptRolls, class_number, kind_number, liability_rolls, number_of_roll, same_table, seat_of_roll, security_rolls}
use Rattle.scr_book.specs.Sums.{place_of}

-- ---- numbers that are apart

-- no two classes have one number
pub class-apart : (class of : Class) → eqb (class_number of) (class_number class) ≡ is_of_class class of
class-apart classes.Type1Equity classes.Type1Equity = refl
class-apart classes.Type1Strategic classes.Type1Strategic = refl
class-apart classes.Type2Equity classes.Type2Equity = refl
class-apart classes.Type2Strategic classes.Type2Strategic = refl
class-apart classes.Infrastructure classes.Infrastructure = refl
class-apart classes.InfrastructureCorporate classes.InfrastructureCorporate = refl
class-apart classes.Property classes.Property = refl
class-apart classes.Bond classes.Bond = refl
class-apart classes.Government classes.Government = refl
class-apart classes.Other classes.Other = refl
class-apart class of = refl

pub kind-apart : (kind of : LiabilityKind) → eqb (kind_number of) (kind_number kind) ≡ is_kind kind of
kind-apart kinds.Life kinds.Life = refl
kind-apart kinds.Health kinds.Health = refl
kind-apart kinds.Other kinds.Other = refl
kind-apart kind of = refl

-- a number more on both sides tells the same
pub more-apart : (a b c : ℕ) → eqb (a + c) (b + c) ≡ eqb a b
more-apart a b c = by (eqb a b) refl
  where
    by : (t : Bool) → eqb a b ≡ t → eqb (a + c) (b + c) ≡ eqb a b
    by true e = let is : a ≡ b = (Decides-eqb a b).0 e in (Decides-eqb (a + c) (b + c)).1 (omega (arith, is)) ∙ sym e
    by false e = grind (arith, nat_tests, e)

-- nowhere is no number
pub nowhere-apart : (n : ℕ) → n < NOWHERE → eqb NOWHERE n ≡ false
nowhere-apart n few = grind (arith, nat_tests, few)

-- two names have one number exactly where they are one
pub owner-apart : (owned : Owned) → ((one two : List ℕ) (number : ℕ) → number_of one owned ≡ Some number → number_of two owned ≡ Some number → one ≡ two)
    → (a b : List ℕ) (m n : ℕ) → number_of a owned ≡ Some m → number_of b owned ≡ Some n → eqb m n ≡ same_name b a
owner-apart owned apart a b m n ha hb =
    same_or_other b a
    (λ e. let one : b ≡ a = same_name-is b a e in
    let found : number_of a owned ≡ Some n = ap (λ x. number_of x owned) (sym one) ∙ hb in
    let is : m ≡ n = cc in
    (Decides-eqb m n).1 is ∙ sym e)
    (λ e. by e (eqb m n) refl)
  where
    by : same_name b a ≡ false → (t : Bool) → eqb m n ≡ t → eqb m n ≡ same_name b a
    by e false h = h ∙ sym e
    by e true h =
        let is : m ≡ n = (Decides-eqb m n).0 h in
        let one : b ≡ a = apart b a n hb (ha ∙ ap (λ k. Some k) is) in
        let never : true ≡ false = sym (same_name-itself a) ∙ ap (λ x. same_name x a) (sym one) ∙ e in
        absurd (cc)

-- ---- a security

module _ (kept : KeptRolls) (numbered : AreNumbered kept) (few : (roll : Roll) (n : ℕ) → number_of_roll roll kept ≡ Some n → n < NOWHERE)
    (p : Position) (group assets : ℕ) (is_group : GroupNumber p.security.group group kept)
    (is_assets : number_of p.security.currency kept.of_assets ≡ Some assets) where
  abbrev numbers : List ℕ
  numbers = class_number p.security.class ∷ (if has_group p then 10 else NOWHERE) ∷ group ∷ assets ∷ (assets + 1) ∷ []

  abbrev aims : Bool → List ℕ
  aims b = if b then numbers else set numbers 4 NOWHERE

  grouped-is : (b : Bool) → eqb (if b then 10 else NOWHERE) 10 ≡ b
  grouped-is true = refl
  grouped-is false = refl

  group-is : (of : Option (List ℕ)) → GroupNumber of group kept → (g : List ℕ) (n : ℕ) → number_of g kept.of_groups ≡ Some n → eqb group n ≡ option_map_or (same_name g) of false
  group-is None none g n e = ap (λ m. eqb m n) none ∙ nowhere-apart n (few (rolls.Group g) n e)
  group-is (Some h) found g n e = owner-apart kept.of_groups numbered.groups h g group n found e

  paying-is : (b : Bool) (c : List ℕ) (k : ℕ) → number_of c kept.of_assets ≡ Some k → eqb (if b then assets + 1 else NOWHERE) (k + 1) ≡ (same_name c p.security.currency && b)
  paying-is true c k e =
      more-apart assets k 1 ∙ owner-apart kept.of_assets numbered.assets p.security.currency c assets k is_assets e ∙ and-true (same_name c p.security.currency)
    where
      and-true : (t : Bool) → t ≡ (t && true)
      and-true true = refl
      and-true false = refl
  paying-is false c k e =
      nowhere-apart (k + 1) (few (rolls.Flows c) (k + 1) (ap (λ o. option_map (λ n. n + 1) o) e)) ∙ and-false (same_name c p.security.currency)
    where
      and-false : (t : Bool) → false ≡ (t && false)
      and-false true = refl
      and-false false = refl

  seat-class : (b : Bool) → target 0 (aims b) ≡ class_number p.security.class
  seat-class true = refl
  seat-class false = refl

  seat-grouped : (b : Bool) → target 1 (aims b) ≡ (if has_group p then 10 else NOWHERE)
  seat-grouped true = refl
  seat-grouped false = refl

  seat-group : (b : Bool) → target 2 (aims b) ≡ group
  seat-group true = refl
  seat-group false = refl

  seat-assets : (b : Bool) → target 3 (aims b) ≡ assets
  seat-assets true = refl
  seat-assets false = refl

  seat-flows : (b : Bool) → target 4 (aims b) ≡ (if b then assets + 1 else NOWHERE)
  seat-flows true = refl
  seat-flows false = refl

  pub security-own : (roll : Roll) (n : ℕ) → same_table (table_of roll) tables.Security ≡ true → number_of_roll roll kept ≡ Some n
      → eqb (target (seat_of_roll roll) (security_rolls numbers (Some p))) n ≡ has_security roll p
  security-own (rolls.Class class) n same e =
      let is : class_number class ≡ n = cc in
      ap (λ m. eqb m n) (seat-class (is_paying p)) ∙ ap (eqb (class_number p.security.class)) (sym is) ∙ class-apart class p.security.class
  security-own rolls.Bonds n same e =
      let is : class_number classes.Bond ≡ n = cc in
      ap (λ m. eqb m n) (seat-class (is_paying p)) ∙ ap (eqb (class_number p.security.class)) (sym is) ∙ class-apart classes.Bond p.security.class
  security-own rolls.Grouped n same e =
      let is : 10 ≡ n = cc in
      ap (λ m. eqb m n) (seat-grouped (is_paying p)) ∙ ap (eqb (if has_group p then 10 else NOWHERE)) (sym is) ∙ grouped-is (has_group p)
  security-own (rolls.Group g) n same e = ap (λ m. eqb m n) (seat-group (is_paying p)) ∙ group-is p.security.group is_group g n e
  security-own (rolls.Assets c) n same e =
      ap (λ m. eqb m n) (seat-assets (is_paying p)) ∙ owner-apart kept.of_assets numbered.assets p.security.currency c assets n is_assets e
  security-own (rolls.Flows c) n same e = by (number_of c kept.of_assets) refl e
    where
      by : (found : Option ℕ) → number_of c kept.of_assets ≡ found → option_map (λ k. k + 1) found ≡ Some n
          → eqb (target 4 (security_rolls numbers (Some p))) n ≡ (same_name c p.security.currency && is_paying p)
      by None h none = absurd (cc)
      by (Some k) h some =
          let is : k + 1 ≡ n = cc in
          ap (λ m. eqb m n) (seat-flows (is_paying p)) ∙ ap (eqb (if is_paying p then assets + 1 else NOWHERE)) (sym is) ∙ paying-is (is_paying p) c k h
  security-own rolls.Closed n same e = absurd (cc)
  security-own (rolls.Lines c) n same e = absurd (cc)
  security-own (rolls.Losses kind projection) n same e = absurd (cc)
  security-own rolls.Groups n same e = absurd (cc)

-- ---- a liability

-- the roll in which a list of ten by projection, and one more, has a projection
pub at-projection : (f : Projection → ℕ) (last : ℕ) (p : Projection) → target (place_of p) (map f all_projections ++ last ∷ []) ≡ f p
at-projection f last projections.Base = refl
at-projection f last projections.Mortality = refl
at-projection f last projections.Longevity = refl
at-projection f last projections.Disability = refl
at-projection f last projections.Expense = refl
at-projection f last projections.Revision = refl
at-projection f last projections.LapseUp = refl
at-projection f last projections.LapseDown = refl
at-projection f last projections.LapseMass = refl
at-projection f last projections.Catastrophe = refl

module _ (kept : KeptRolls) (numbered : AreNumbered kept) (few : (roll : Roll) (n : ℕ) → number_of_roll roll kept ≡ Some n → n < NOWHERE)
    (l : Liability) (lines : ℕ) (is_lines : number_of l.currency kept.of_lines ≡ Some lines) where
  loss-is : (b : Bool) (kind : LiabilityKind) (p : Projection) → eqb (if b then kind_number l.kind + place_of p else NOWHERE) (kind_number kind + place_of p) ≡ (is_kind kind l.kind && b)
  loss-is true kind p = more-apart (kind_number l.kind) (kind_number kind) (place_of p) ∙ kind-apart kind l.kind ∙ and-true (is_kind kind l.kind)
    where
      and-true : (t : Bool) → t ≡ (t && true)
      and-true true = refl
      and-true false = refl
  loss-is false kind p = nowhere-apart (kind_number kind + place_of p) (few (rolls.Losses kind p) (kind_number kind + place_of p) refl) ∙ and-false (is_kind kind l.kind)
    where
      and-false : (t : Bool) → false ≡ (t && false)
      and-false true = refl
      and-false false = refl

  pub liability-own : (roll : Roll) (n : ℕ) → same_table (table_of roll) tables.Liability ≡ true → number_of_roll roll kept ≡ Some n
      → eqb (target (seat_of_roll roll) (liability_rolls lines (kind_number l.kind) (Some l))) n ≡ has_liability roll l
  liability-own (rolls.Lines c) n same e = owner-apart kept.of_lines numbered.lines l.currency c lines n is_lines e
  liability-own (rolls.Losses kind p) n same e =
      let is : kind_number kind + place_of p ≡ n = cc in
      ap (λ m. eqb m n) (at-projection (λ q. if has_flows q l then kind_number l.kind + place_of q else NOWHERE) lines p)
      ∙ ap (eqb (if has_flows p l then kind_number l.kind + place_of p else NOWHERE)) (sym is) ∙ loss-is (has_flows p l) kind p
  liability-own (rolls.Class class) n same e = absurd (cc)
  liability-own rolls.Bonds n same e = absurd (cc)
  liability-own rolls.Grouped n same e = absurd (cc)
  liability-own (rolls.Group g) n same e = absurd (cc)
  liability-own (rolls.Assets c) n same e = absurd (cc)
  liability-own (rolls.Flows c) n same e = absurd (cc)
  liability-own rolls.Closed n same e = absurd (cc)
  liability-own rolls.Groups n same e = absurd (cc)
