-- What is reckoned from the figures of a security, of the points whose sources are not linked.
use Rattle.std.proofs.Common.{◌≡◌, ◌⊎◌, inl, inr, ℕ, ◌+◌, ◌<◌, true, false, ◌&&◌, Contains, List, map, Option, Some, None, is_some, slice_get, refl, sym, ap, subst, ◌∙◌, arith}
use Rattle.std.specs.Option.{option_map_or}
use Rattle.std.proofs.lemmas.Bool.{and_parts}
use Rattle.std.proofs.lemmas.Option.{same_Some}
use Rattle.scr_tables.specs.Names.{same_name}
use Rattle.scr_tables.proofs.TableRows.{same_name-is, same_name-itself}
use Rattle.scr_figure_ids.specs.Families.{security_family}
use Rattle.scr_figure_ids.specs.Numbers.{StandsAt}
use Rattle.scr_member_index.specs.declared.lists.Lists.{Lists}
use Rattle.scr_ids.specs.Ranges.{IsAt, Numbered}
use Rattle.scr_ids.specs.declared.table.Table.TheVariants as ranged
use Rattle.scr_book.specs.RolledSheets.{RolledSheet}
use Rattle.scr_sheet.specs.BalanceSheet.{position_name, position_of}
use Rattle.scr_sheet.specs.Members.{has_class, has_security, is_member, is_member_in, is_of_class, is_paying, table_of}
use Rattle.scr_sheet.specs.Validity.{Valid}
use Rattle.scr_sheet.specs.declared.keys.Table.TheVariants as tables
use Rattle.scr_sheet.specs.declared.roll.Roll.{Roll}
use Rattle.scr_sheet.specs.declared.rows.Class.{Class}
use Rattle.scr_sheet.specs.declared.rows.Class.TheVariants as classes
use Rattle.scr_sheet.specs.declared.rows.Position.{Position}
use Rattle.scr_nodes.specs.Live.{is_live}
use Rattle.scr_nodes.specs.Numbers.{direction_place}
use Rattle.scr_nodes.specs.declared.node.Direction.{Direction}
use Rattle.scr_nodes.specs.declared.node.Direction.TheVariants as directions
use Rattle.scr_nodes.specs.declared.node.Node.{Node}
use Rattle.scr_nodes.specs.declared.node.Node.TheVariants as nodes
use Rattle.scr_nodes.specs.declared.node.OfSecurity.{OfSecurity}
use Rattle.scr_nodes.specs.declared.node.OfSecurity.TheVariants as of_securities
use Rattle.scr_nodes.proofs.OwnRows.{own-securities}
use Rattle.scr_block_graph.specs.Books.{rolled_of}
use Rattle.scr_block_graph.specs.Graph.{roll_in}
use Rattle.scr_block_graph.specs.Sums.{member_of, roll_of}
use Rattle.scr_block_graph.specs.declared.point.Point.TheVariants as points
use Rattle.scr_block_graph.specs.declared.sum.Sum.{Sum}
use Rattle.scr_block_graph.specs.declared.sum.Sum.TheVariants as sums
use Rattle.scr_tree.specs.Marking.{AreMarkedMore, IsMemberReaderAt, IsPlainDependantAt}
use Rattle.scr_tree.specs.Points.{AreNumbersOf}
use Rattle.scr_tree.proofs.Dependants.{ByMember, ByRow, member-as, plain-cases, plain-member, plain-row, reader-as}
use Rattle.scr_tree.proofs.FirstRows.{each-get, got-map}
use Rattle.scr_tree.proofs.MarkedMore.{marked-as, marked-then}
use Rattle.scr_tree.proofs.MemberSeats.{is-member, member-is}
use Rattle.scr_tree.proofs.PlainReaders.{Adds, RowReads}
use Rattle.scr_tree.proofs.RollSeats.{class-told, group-told}

class-itself : (class : Class) → is_of_class class class ≡ true
class-itself classes.Type1Equity = refl
class-itself classes.Type1Strategic = refl
class-itself classes.Type2Equity = refl
class-itself classes.Type2Strategic = refl
class-itself classes.Infrastructure = refl
class-itself classes.InfrastructureCorporate = refl
class-itself classes.Property = refl
class-itself classes.Bond = refl
class-itself classes.Government = refl
class-itself classes.Other = refl

module _ (book : RolledSheet) (places : Numbered) (lists : Lists) (numbers : AreNumbersOf book places lists) (valid : Valid book.sheet)
    (row : ℕ) (position : Position) (got : slice_get book.sheet.securities row ≡ Some position) where
  abbrev pub name : List ℕ
  name = position.security.name

  pub security-named : slice_get (map position_name book.sheet.securities) row ≡ Some name
  security-named = got-map position_name book.sheet.securities row position got

  known : position_of name book.sheet.securities ≡ Some position
  known = each-get (λ p. position_of (position_name p) book.sheet.securities ≡ Some p) book.sheet.securities row position
      (own-securities book.sheet valid) got

  pub security-stands : (what : OfSecurity) (number : ℕ) → IsAt places ranged.Security row (security_family what) number
      → StandsAt book.sheet places (nodes.Security name what) number
  security-stands what number at = record { k = row; row = security-named; at = at }

  -- a number of the same row
  pub along : (j i number : ℕ) → i < 6 → IsAt places ranged.Security row j number → (other : ℕ) → number + i ≡ other + j
      → IsAt places ranged.Security row i other
  along j i number few at other e = record {
    row = at.row;
    family = few;
    is = (let is = at.is in omega (arith, is, e));
  }

  -- it is below the size
  pub next-within : (what : OfSecurity) (i j number : ℕ) → security_family what ≡ i → i < 6 → IsAt places ranged.Security row j number → (other : ℕ)
      → number + i ≡ other + j → other < places.size
  next-within what i j number own few at other e =
      numbers.numbers.within (points.Figure (nodes.Security name what)) other
      (security-stands what other (subst (λ f. IsAt places ranged.Security row f other) (sym own) (along j i number few at other e)))

  -- ---- members

  passes : (roll : Roll) → table_of roll ≡ tables.Security → is_member roll name book.sheet ≡ has_security roll position
  passes roll of =
      ap (λ table. is_member_in table roll name book.sheet) of ∙ ap (λ found. option_map_or (has_security roll) found false) known

  pub passing : (sum : Sum) → table_of (roll_of sum) ≡ tables.Security → Contains (roll_in (rolled_of book) sum) name
      → has_security (roll_of sum) position ≡ true
  passing sum of h = sym (passes (roll_of sum) of) ∙ member-is book numbers.rolls sum name h

  pub member : (sum : Sum) → table_of (roll_of sum) ≡ tables.Security → has_security (roll_of sum) position ≡ true
      → Contains (roll_in (rolled_of book) sum) name
  member sum of e = is-member book numbers.rolls sum name (passes (roll_of sum) of ∙ e)

  pub of-class : Contains (roll_in (rolled_of book) (sums.Class position.security.class)) name
  of-class = member (sums.Class position.security.class) refl (class-itself position.security.class)

  pub of-assets : Contains (roll_in (rolled_of book) (sums.Assets position.security.currency)) name
  of-assets = member (sums.Assets position.security.currency) refl (same_name-itself position.security.currency)

  pub of-grouped : (group : List ℕ) → position.security.group ≡ Some group → Contains (roll_in (rolled_of book) sums.Grouped) name
  of-grouped group e = member sums.Grouped refl (ap is_some e)

  pub of-group : (group : List ℕ) → position.security.group ≡ Some group → Contains (roll_in (rolled_of book) (sums.Group group)) name
  of-group group e =
      member (sums.Group group) refl (ap (λ (g : Option (List ℕ)). option_map_or (same_name group) g false) e ∙ same_name-itself group)

  pub of-rates : (direction : Direction) → is_live book.sheet (nodes.Security name (of_securities.Rate direction)) ≡ true
      → Contains (roll_in (rolled_of book) (sums.Rates position.security.currency direction)) name
  of-rates direction live =
      member (sums.Rates position.security.currency direction) refl
      (ap (λ t. t && is_paying position) (same_name-itself position.security.currency)
      ∙ sym (ap (λ found. option_map_or is_paying found false) known) ∙ live)

  pub of-bonds : is_live book.sheet (nodes.Security name of_securities.Spread) ≡ true → Contains (roll_in (rolled_of book) sums.Spreads) name
  of-bonds live =
      member sums.Spreads refl (sym (ap (λ found. option_map_or (has_class classes.Bond) found false) known) ∙ live)

  -- ---- what is reckoned from the total

  module _ (number : ℕ) (at : IsAt places ranged.Security row 0 number) where
    abbrev Plain : ℕ → Type 0
    Plain other = IsPlainDependantAt book places lists number other

    abbrev Reads : Sum → ℕ → Type 0
    Reads sum other = IsMemberReaderAt book places lists sum name other

    -- the losses and the spread that the security has, and what adds it up whatever its group
    abbrev Own : ℕ → Type 0
    Own other =
        (((((is_paying position ≡ true) × (number + 3 ≡ other)) ⊎ ((is_paying position ≡ true) × (number + 4 ≡ other)))
        ⊎ ((has_class classes.Bond position ≡ true) × (number + 5 ≡ other)))
        ⊎ Reads (sums.Class position.security.class) other)
        ⊎ Reads (sums.Assets position.security.currency) other

    abbrev Grouped : List ℕ → ℕ → Type 0
    Grouped group other = (Own other ⊎ Reads sums.Grouped other) ⊎ Reads (sums.Group group) other

    from : StandsAt book.sheet places (nodes.Security name of_securities.Total) number
    from = security-stands of_securities.Total number at

    to-member : (sum : Sum) → member_of sum name ≡ nodes.Security name of_securities.Total → (other : ℕ) → Reads sum other → Plain other
    to-member sum is other r = plain-member book places lists numbers (nodes.Security name of_securities.Total) number from sum name is other r

    to-rate : (direction : Direction) (other : ℕ) → is_paying position ≡ true → IsAt places ranged.Security row (3 + direction_place direction) other → Plain other
    to-rate direction other pays there =
        plain-row book places lists numbers (nodes.Security name of_securities.Total) number from
        (nodes.Security name (of_securities.Rate direction)) other (security-stands (of_securities.Rate direction) other there)
        (ap (λ found. option_map_or is_paying found false) known ∙ pays) (λ e. absurd (cc)) (0, omega arith, refl)

    to-spread : (other : ℕ) → has_class classes.Bond position ≡ true → IsAt places ranged.Security row 5 other → Plain other
    to-spread other bond there =
        plain-row book places lists numbers (nodes.Security name of_securities.Total) number from
        (nodes.Security name of_securities.Spread) other (security-stands of_securities.Spread other there)
        (ap (λ found. option_map_or (has_class classes.Bond) found false) known ∙ bond) (λ e. absurd (cc)) (0, omega arith, refl)

    own-plain : (other : ℕ) → Own other → Plain other
    own-plain other (inl (inl (inl (inl (pays, e))))) =
        to-rate directions.Up other pays (along 0 3 number (omega arith) at other (omega (arith, e)))
    own-plain other (inl (inl (inl (inr (pays, e))))) =
        to-rate directions.Down other pays (along 0 4 number (omega arith) at other (omega (arith, e)))
    own-plain other (inl (inl (inr (bond, e)))) = to-spread other bond (along 0 5 number (omega arith) at other (omega (arith, e)))
    own-plain other (inl (inr r)) = to-member (sums.Class position.security.class) refl other r
    own-plain other (inr r) = to-member (sums.Assets position.security.currency) refl other r

    grouped-plain : (group : List ℕ) (other : ℕ) → Grouped group other → Plain other
    grouped-plain group other (inl (inl o)) = own-plain other o
    grouped-plain group other (inl (inr r)) = to-member sums.Grouped refl other r
    grouped-plain group other (inr r) = to-member (sums.Group group) refl other r

    -- the other way
    there : (j other : ℕ) (what : OfSecurity) → security_family what ≡ j → StandsAt book.sheet places (nodes.Security name what) other → j < 6 → number + j ≡ other
    there j other what family s few =
        numbers.numbers.only (points.Figure (nodes.Security name what)) (number + j) other
        (security-stands what (number + j)
        (subst (λ i. IsAt places ranged.Security row i (number + j)) (sym family) (along 0 j number few at (number + j) (omega arith)))) s

    of-row : (other : ℕ) → ByRow book places lists numbers (nodes.Security name of_securities.Total) other → Own other
    of-row other r = by r.reads
      where
        is-live : (what : OfSecurity) → r.node ≡ nodes.Security name what → is_live book.sheet (nodes.Security name what) ≡ true
        is-live what e = subst (λ n. is_live book.sheet n ≡ true) e r.live

        stood : (what : OfSecurity) → r.node ≡ nodes.Security name what → StandsAt book.sheet places (nodes.Security name what) other
        stood what e = subst (λ n. StandsAt book.sheet places n other) e r.at

        paying : (direction : Direction) → r.node ≡ nodes.Security name (of_securities.Rate direction) → is_paying position ≡ true
        paying direction e = sym (ap (λ found. option_map_or is_paying found false) known) ∙ is-live (of_securities.Rate direction) e

        rate : (direction : Direction) → r.node ≡ nodes.Security name (of_securities.Rate direction) → Own other
        rate directions.Up e =
            inl (inl (inl (inl (paying directions.Up e, there 3 other (of_securities.Rate directions.Up) refl (stood (of_securities.Rate directions.Up) e) (omega arith)))))
        rate directions.Down e =
            inl (inl (inl (inr (paying directions.Down e, there 4 other (of_securities.Rate directions.Down) refl (stood (of_securities.Rate directions.Down) e) (omega arith)))))

        by : RowReads (nodes.Security name of_securities.Total) r.node → Own other
        by (inl (direction, e)) = rate direction e
        by (inr e) = inl (inl (inr (
          sym (ap (λ found. option_map_or (has_class classes.Bond) found false) known) ∙ is-live of_securities.Spread e,
          there 5 other of_securities.Spread refl (stood of_securities.Spread e) (omega arith),
        )))

    module _ (other : ℕ) (m : ByMember book places lists numbers (nodes.Security name of_securities.Total) other) where
      in_sum : (sum : Sum) → m.name ≡ name → m.sum ≡ sum → Contains (roll_in (rolled_of book) sum) name
      in_sum sum called e = member-as book places lists numbers m.sum sum m.name name e called m.member

      read : (sum : Sum) → m.name ≡ name → m.sum ≡ sum → Reads sum other
      read sum called e = reader-as book places lists numbers m.sum sum m.name name other e called m.reader

      class-read : m.name ≡ name → (class : Class) → m.sum ≡ sums.Class class → Own other
      class-read called class e =
          inl (inr (read (sums.Class position.security.class) called
          (e ∙ ap sums.Class (class-told class position.security.class (passing (sums.Class class) refl (in_sum (sums.Class class) called e))))))

      assets-read : m.name ≡ name → (currency : List ℕ) → m.sum ≡ sums.Assets currency → Own other
      assets-read called currency e =
          inr (read (sums.Assets position.security.currency) called
          (e ∙ ap sums.Assets (same_name-is currency position.security.currency (passing (sums.Assets currency) refl (in_sum (sums.Assets currency) called e)))))

      group-of : m.name ≡ name → (group : List ℕ) → m.sum ≡ sums.Group group → position.security.group ≡ Some group
      group-of called group e = group-told group position.security.group (passing (sums.Group group) refl (in_sum (sums.Group group) called e))

      alone : position.security.group ≡ None → Adds (nodes.Security name of_securities.Total) m.sum m.name → Own other
      alone none (called, inl (class, e)) = class-read called class e
      alone none (called, inr (inl e)) =
          absurd (let clash : false ≡ true = sym (ap is_some none) ∙ passing sums.Grouped refl (in_sum sums.Grouped called e) in cc)
      alone none (called, inr (inr (inl (group, e)))) =
          absurd (let clash : ◌≡◌ {A = Option (List ℕ)} None (Some group) = sym none ∙ group-of called group e in cc)
      alone none (called, inr (inr (inr (currency, e)))) = assets-read called currency e

      with-group : (own : List ℕ) → position.security.group ≡ Some own → Adds (nodes.Security name of_securities.Total) m.sum m.name → Grouped own other
      with-group own is (called, inl (class, e)) = inl (inl (class-read called class e))
      with-group own is (called, inr (inl e)) = inl (inr (read sums.Grouped called e))
      with-group own is (called, inr (inr (inl (group, e)))) =
          let same : group ≡ own = same_Some group own (sym (group-of called group e) ∙ is) in
          inr (read (sums.Group own) called (e ∙ ap sums.Group same))
      with-group own is (called, inr (inr (inr (currency, e)))) = inl (inl (assets-read called currency e))

    plain-own : position.security.group ≡ None → (other : ℕ) → Plain other → Own other
    plain-own none other p = by (plain-cases book places lists numbers (nodes.Security name of_securities.Total) number from other p)
      where
        by : ByMember book places lists numbers (nodes.Security name of_securities.Total) other
            ⊎ ByRow book places lists numbers (nodes.Security name of_securities.Total) other → Own other
        by (inl m) = alone other m none m.adds
        by (inr r) = of-row other r

    plain-grouped : (group : List ℕ) → position.security.group ≡ Some group → (other : ℕ) → Plain other → Grouped group other
    plain-grouped group is other p = by (plain-cases book places lists numbers (nodes.Security name of_securities.Total) number from other p)
      where
        by : ByMember book places lists numbers (nodes.Security name of_securities.Total) other
            ⊎ ByRow book places lists numbers (nodes.Security name of_securities.Total) other → Grouped group other
        by (inl m) = with-group other m group is m.adds
        by (inr r) = inl (inl (of-row other r))

    -- marks, one call after another
    module _ (m0 m1 m2 m3 m4 m5 : List ℕ)
        (one : AreMarkedMore (λ other. (is_paying position ≡ true) × (number + 3 ≡ other)) m0 m1)
        (two : AreMarkedMore (λ other. (is_paying position ≡ true) × (number + 4 ≡ other)) m1 m2)
        (three : AreMarkedMore (λ other. (has_class classes.Bond position ≡ true) × (number + 5 ≡ other)) m2 m3)
        (four : AreMarkedMore (Reads (sums.Class position.security.class)) m3 m4)
        (five : AreMarkedMore (Reads (sums.Assets position.security.currency)) m4 m5) where
      own-marked : AreMarkedMore Own m0 m5
      own-marked =
          marked-then _ _ m0 m4 m5 (marked-then _ _ m0 m3 m4 (marked-then _ _ m0 m2 m3 (marked-then _ _ m0 m1 m2 one two) three) four) five

      pub total-alone : position.security.group ≡ None → AreMarkedMore Plain m0 m5
      total-alone none = marked-as Own Plain m0 m5 own-plain (plain-own none) own-marked

      pub total-grouped : (group : List ℕ) → position.security.group ≡ Some group → (m6 m7 : List ℕ) → AreMarkedMore (Reads sums.Grouped) m5 m6
          → AreMarkedMore (Reads (sums.Group group)) m6 m7 → AreMarkedMore Plain m0 m7
      total-grouped group is m6 m7 six seven =
          marked-as (Grouped group) Plain m0 m7 (grouped-plain group) (plain-grouped group is)
          (marked-then _ _ m0 m6 m7 (marked-then _ _ m0 m5 m6 own-marked six) seven)

  -- ---- what is reckoned from the other figures

  -- the loss of one unit: the loss of the security
  pub unit-marked : (direction : Direction) (number : ℕ) → IsAt places ranged.Security row (1 + direction_place direction) number
      → is_live book.sheet (nodes.Security name (of_securities.UnitLoss direction)) ≡ true → (old new : List ℕ)
      → AreMarkedMore (λ other. number + 2 ≡ other) old new → AreMarkedMore (IsPlainDependantAt book places lists number) old new
  unit-marked direction number at live old new is = marked-as _ _ old new to back is
    where
      unit : Node
      unit = nodes.Security name (of_securities.UnitLoss direction)

      rate : Node
      rate = nodes.Security name (of_securities.Rate direction)

      from : StandsAt book.sheet places unit number
      from = security-stands (of_securities.UnitLoss direction) number at

      few : 3 + direction_place direction < 6
      few = by direction
        where
          by : (d : Direction) → 3 + direction_place d < 6
          by directions.Up = omega arith
          by directions.Down = omega arith

      stood : StandsAt book.sheet places rate (number + 2)
      stood = security-stands (of_securities.Rate direction) (number + 2)
          (along (1 + direction_place direction) (3 + direction_place direction) number few at (number + 2) (omega arith))

      to : (other : ℕ) → number + 2 ≡ other → IsPlainDependantAt book places lists number other
      to other e =
          plain-row book places lists numbers unit number from rate other (subst (StandsAt book.sheet places rate) e stood) live (λ e. absurd (cc))
          (1, omega arith, refl)

      back : (other : ℕ) → IsPlainDependantAt book places lists number other → number + 2 ≡ other
      back other p = by (plain-cases book places lists numbers unit number from other p)
        where
          by : ByMember book places lists numbers unit other ⊎ ByRow book places lists numbers unit other → number + 2 ≡ other
          by (inl m) = absurd m.adds
          by (inr r) = numbers.numbers.only (points.Figure rate) (number + 2) other stood (subst (λ n. StandsAt book.sheet places n other) r.reads r.at)

  pub rate-marked : (direction : Direction) (number : ℕ) → IsAt places ranged.Security row (3 + direction_place direction) number → (old new : List ℕ)
      → AreMarkedMore (IsMemberReaderAt book places lists (sums.Rates position.security.currency direction) name) old new
      → AreMarkedMore (IsPlainDependantAt book places lists number) old new
  rate-marked direction number at old new is =
      marked-as _ _ old new (plain-member book places lists numbers rate number from (sums.Rates position.security.currency direction) name refl) back is
    where
      rate : Node
      rate = nodes.Security name (of_securities.Rate direction)

      from : StandsAt book.sheet places rate number
      from = security-stands (of_securities.Rate direction) number at

      back : (other : ℕ) → IsPlainDependantAt book places lists number other
          → IsMemberReaderAt book places lists (sums.Rates position.security.currency direction) name other
      back other p = by (plain-cases book places lists numbers rate number from other p)
        where
          by : ByMember book places lists numbers rate other ⊎ ByRow book places lists numbers rate other
              → IsMemberReaderAt book places lists (sums.Rates position.security.currency direction) name other
          by (inl m) =
              let called : m.name ≡ name = m.adds.0 in
              let currency : List ℕ = m.adds.1.0 in
              let e : m.sum ≡ sums.Rates currency direction = m.adds.1.1 in
              let pays = passing (sums.Rates currency direction) refl
              (member-as book places lists numbers m.sum (sums.Rates currency direction) m.name name e called m.member) in
              let same : currency ≡ position.security.currency = same_name-is currency position.security.currency
              (and_parts (same_name currency position.security.currency) (is_paying position) pays).0 in
              reader-as book places lists numbers m.sum (sums.Rates position.security.currency direction) m.name name other
              (e ∙ ap (λ (c : List ℕ). sums.Rates c direction) same) called m.reader
          by (inr r) = absurd r.reads

  pub spread-marked : (number : ℕ) → IsAt places ranged.Security row 5 number → (old new : List ℕ)
      → AreMarkedMore (IsMemberReaderAt book places lists sums.Spreads name) old new
      → AreMarkedMore (IsPlainDependantAt book places lists number) old new
  spread-marked number at old new is =
      marked-as _ _ old new (plain-member book places lists numbers spread number from sums.Spreads name refl) back is
    where
      spread : Node
      spread = nodes.Security name of_securities.Spread

      from : StandsAt book.sheet places spread number
      from = security-stands of_securities.Spread number at

      back : (other : ℕ) → IsPlainDependantAt book places lists number other → IsMemberReaderAt book places lists sums.Spreads name other
      back other p = by (plain-cases book places lists numbers spread number from other p)
        where
          by : ByMember book places lists numbers spread other ⊎ ByRow book places lists numbers spread other → IsMemberReaderAt book places lists sums.Spreads name other
          by (inl m) = reader-as book places lists numbers m.sum sums.Spreads m.name name other m.adds.1 m.adds.0 m.reader
          by (inr r) = absurd r.reads
