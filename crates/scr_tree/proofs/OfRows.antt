-- What is reckoned from the figures of a fund, a liability and a group, of the points whose sources are not linked.
use Rattle.std.proofs.Common.{◌≡◌, ◌⊎◌, inl, inr, ℕ, zero, suc, ◌+◌, ◌<◌, ◌≤◌, true, false, ◌&&◌, Contains, List, map, Some, slice_get, refl, sym, ap, subst, ◌∙◌, arith}
use Rattle.std.specs.Option.{option_map_or}
use Rattle.std.proofs.lemmas.Bool.{and_parts}
use Rattle.scr_tables.proofs.TableRows.{same_name-is, same_name-itself}
use Rattle.scr_figure_ids.specs.Families.{group_family, liability_family}
use Rattle.scr_figure_ids.specs.Numbers.{StandsAt}
use Rattle.scr_member_index.specs.declared.lists.Lists.{Lists}
use Rattle.scr_ids.specs.Ranges.{IsAt, Numbered, count, first}
use Rattle.scr_ids.specs.declared.table.Table.TheVariants as ranged
use Rattle.scr_book.specs.RolledSheets.{RolledSheet}
use Rattle.scr_book.specs.Sums.{place_of}
use Rattle.scr_sheet.specs.BalanceSheet.{group_name, liability_name, stake_name, stake_of}
use Rattle.scr_sheet.specs.Members.{has_flows, has_liability, is_closed, is_kind, is_member, is_member_in, table_of}
use Rattle.scr_sheet.specs.Validity.{Valid}
use Rattle.scr_sheet.specs.declared.keys.Projection.{Projection}
use Rattle.scr_sheet.specs.declared.keys.Projection.TheVariants as projections
use Rattle.scr_sheet.specs.declared.keys.Table.TheVariants as tables
use Rattle.scr_sheet.specs.declared.roll.Roll.{Roll}
use Rattle.scr_sheet.specs.declared.roll.Roll.TheVariants as rolls
use Rattle.scr_sheet.specs.declared.rows.Liability.{Liability}
use Rattle.scr_sheet.specs.declared.rows.LiabilityKind.{LiabilityKind}
use Rattle.scr_sheet.specs.declared.rows.LiabilityKind.TheVariants as kinds
use Rattle.scr_sheet.specs.declared.rows.Stake.{Stake}
use Rattle.scr_nodes.specs.Live.{is_live}
use Rattle.scr_nodes.specs.Numbers.{direction_place}
use Rattle.scr_nodes.specs.Rows.{is_stress, liability_of}
use Rattle.scr_nodes.specs.declared.node.Biometric.{Biometric}
use Rattle.scr_nodes.specs.declared.node.Biometric.TheVariants as biometrics
use Rattle.scr_nodes.specs.declared.node.Direction.{Direction}
use Rattle.scr_nodes.specs.declared.node.Node.{Node}
use Rattle.scr_nodes.specs.declared.node.Node.TheVariants as nodes
use Rattle.scr_nodes.specs.declared.node.OfFund.TheVariants as of_funds
use Rattle.scr_nodes.specs.declared.node.OfGroup.{OfGroup}
use Rattle.scr_nodes.specs.declared.node.OfGroup.TheVariants as of_groups
use Rattle.scr_nodes.specs.declared.node.OfLiability.{OfLiability}
use Rattle.scr_nodes.specs.declared.node.OfLiability.TheVariants as of_liabilities
use Rattle.scr_nodes.proofs.OwnRows.{own-funds, own-liabilities}
use Rattle.scr_block_graph.specs.Books.{rolled_of}
use Rattle.scr_block_graph.specs.Graph.{roll_in}
use Rattle.scr_block_graph.specs.Sums.{kind_of, member_of, roll_of}
use Rattle.scr_block_graph.specs.declared.point.Point.TheVariants as points
use Rattle.scr_block_graph.specs.declared.sum.Sum.{Sum}
use Rattle.scr_block_graph.specs.declared.sum.Sum.TheVariants as sums
use Rattle.scr_tree.specs.Marking.{AreMarkedMore, IsLeftToAssets, IsMemberReaderAt, IsPlainDependantAt, assets}
use Rattle.scr_tree.specs.Points.{AreNumbersOf, StandsIn}
use Rattle.scr_tree.proofs.Dependants.{ByMember, ByRow, member-as, plain-cases, plain-member, plain-row, reader-as}
use Rattle.scr_tree.proofs.FirstRows.{each-get, got-map}
use Rattle.scr_tree.proofs.MarkedMore.{marked-as, marked-none}
use Rattle.scr_tree.proofs.MemberSeats.{is-member, member-is}

-- ---- funds

module _ (book : RolledSheet) (places : Numbered) (lists : Lists) (numbers : AreNumbersOf book places lists) (valid : Valid book.sheet)
    (row : ℕ) (stake : Stake) (got : slice_get book.sheet.funds row ≡ Some stake) where
  abbrev pub fund : List ℕ
  fund = stake.fund.name

  pub fund-named : slice_get (map stake_name book.sheet.funds) row ≡ Some fund
  fund-named = got-map stake_name book.sheet.funds row stake got

  known-fund : stake_of fund book.sheet.funds ≡ Some stake
  known-fund = each-get (λ s. stake_of (stake_name s) book.sheet.funds ≡ Some s) book.sheet.funds row stake (own-funds book.sheet valid) got

  closed-is : is_member rolls.Closed fund book.sheet ≡ is_closed stake
  closed-is = ap (λ found. option_map_or is_closed found false) known-fund

  pub of-closed : is_closed stake ≡ true → Contains (roll_in (rolled_of book) sums.Closed) fund
  of-closed closed = is-member book numbers.rolls sums.Closed fund (closed-is ∙ closed)

  module _ (number : ℕ) (at : IsAt places ranged.Fund row 0 number) where
    abbrev total : Node
    total = nodes.Fund fund of_funds.Total

    from : StandsAt book.sheet places total number
    from = record { k = row; row = fund-named; at = at }

    pub fund-marked : (old new : List ℕ) → AreMarkedMore (IsMemberReaderAt book places lists sums.Closed fund) old new
        → AreMarkedMore (IsPlainDependantAt book places lists number) old new
    fund-marked old new is = marked-as _ _ old new (plain-member book places lists numbers total number from sums.Closed fund refl) back is
      where
        back : (other : ℕ) → IsPlainDependantAt book places lists number other → IsMemberReaderAt book places lists sums.Closed fund other
        back other p = by (plain-cases book places lists numbers total number from other p)
          where
            by : ByMember book places lists numbers total other ⊎ ByRow book places lists numbers total other → IsMemberReaderAt book places lists sums.Closed fund other
            by (inl m) = reader-as book places lists numbers m.sum sums.Closed m.name fund other m.adds.1 m.adds.0 m.reader
            by (inr r) = absurd r.reads

    pub fund-open : is_closed stake ≡ false → (list : List ℕ) → AreMarkedMore (IsPlainDependantAt book places lists number) list list
    fund-open holds list = marked-none (IsPlainDependantAt book places lists number) list none
      where
        none : (other : ℕ) → IsPlainDependantAt book places lists number other → ⊥
        none other p = by (plain-cases book places lists numbers total number from other p)
          where
            by : ByMember book places lists numbers total other ⊎ ByRow book places lists numbers total other → ⊥
            by (inl m) =
                let closed = sym closed-is
                ∙ member-is book numbers.rolls sums.Closed fund (member-as book places lists numbers m.sum sums.Closed m.name fund m.adds.1 m.adds.0 m.member) in
                let clash : false ≡ true = sym holds ∙ closed in absurd (cc)
            by (inr r) = r.reads

-- ---- liabilities

-- the stress that has a seat
pub record StressAt (seat : ℕ) : Type 0 where
  pub projection : Projection
  pub place : place_of projection ≡ seat
  pub family : liability_family (of_liabilities.Loss projection) ≡ 2 + seat

stress : (projection : Projection) → liability_family (of_liabilities.Loss projection) ≡ 2 + place_of projection → StressAt (place_of projection)
stress projection e = record { projection = projection; place = refl; family = e }

pub stress-at : (seat : ℕ) → 1 ≤ seat → seat < 10 → StressAt seat
stress-at zero low high = absurd (omega (arith, low))
stress-at (suc zero) low high = stress projections.Mortality refl
stress-at (suc (suc zero)) low high = stress projections.Longevity refl
stress-at (suc (suc (suc zero))) low high = stress projections.Disability refl
stress-at (suc (suc (suc (suc zero)))) low high = stress projections.Expense refl
stress-at (suc (suc (suc (suc (suc zero))))) low high = stress projections.Revision refl
stress-at (suc (suc (suc (suc (suc (suc zero)))))) low high = stress projections.LapseUp refl
stress-at (suc (suc (suc (suc (suc (suc (suc zero))))))) low high = stress projections.LapseDown refl
stress-at (suc (suc (suc (suc (suc (suc (suc (suc zero)))))))) low high = stress projections.LapseMass refl
stress-at (suc (suc (suc (suc (suc (suc (suc (suc (suc zero))))))))) low high = stress projections.Catastrophe refl
stress-at (suc (suc (suc (suc (suc (suc (suc (suc (suc (suc seat)))))))))) low high = absurd (omega (arith, high))

-- a kind is that of one kind of obligations
biometric-is : (one other : Biometric) → is_kind (kind_of one) (kind_of other) ≡ true → one ≡ other
biometric-is biometrics.Life biometrics.Life e = refl
biometric-is biometrics.Health biometrics.Health e = refl
biometric-is one other e = absurd (cc)

kind-itself : (biometric : Biometric) → is_kind (kind_of biometric) (kind_of biometric) ≡ true
kind-itself biometrics.Life = refl
kind-itself biometrics.Health = refl

no-kind : (biometric : Biometric) → is_kind (kind_of biometric) kinds.Other ≡ true → ⊥
no-kind biometrics.Life e = absurd (cc)
no-kind biometrics.Health e = absurd (cc)

module _ (book : RolledSheet) (places : Numbered) (lists : Lists) (numbers : AreNumbersOf book places lists) (valid : Valid book.sheet)
    (row : ℕ) (liability : Liability) (got : slice_get book.sheet.liabilities row ≡ Some liability) where
  abbrev pub line : List ℕ
  line = liability.name

  pub line-named : slice_get (map liability_name book.sheet.liabilities) row ≡ Some line
  line-named = got-map liability_name book.sheet.liabilities row liability got

  known-line : liability_of line book.sheet.liabilities ≡ Some liability
  known-line = each-get (λ l. liability_of (liability_name l) book.sheet.liabilities ≡ Some l) book.sheet.liabilities row liability
      (own-liabilities book.sheet valid) got

  pub line-stands : (what : OfLiability) (number : ℕ) → IsAt places ranged.Liability row (liability_family what) number
      → StandsAt book.sheet places (nodes.Liability line what) number
  line-stands what number at = record { k = row; row = line-named; at = at }

  line-passes : (roll : Roll) → table_of roll ≡ tables.Liability → is_member roll line book.sheet ≡ has_liability roll liability
  line-passes roll of =
      ap (λ table. is_member_in table roll line book.sheet) of ∙ ap (λ found. option_map_or (has_liability roll) found false) known-line

  line-passing : (sum : Sum) → table_of (roll_of sum) ≡ tables.Liability → Contains (roll_in (rolled_of book) sum) line
      → has_liability (roll_of sum) liability ≡ true
  line-passing sum of h = sym (line-passes (roll_of sum) of) ∙ member-is book numbers.rolls sum line h

  line-member : (sum : Sum) → table_of (roll_of sum) ≡ tables.Liability → has_liability (roll_of sum) liability ≡ true
      → Contains (roll_in (rolled_of book) sum) line
  line-member sum of e = is-member book numbers.rolls sum line (line-passes (roll_of sum) of ∙ e)

  pub of-costs : (direction : Direction) → Contains (roll_in (rolled_of book) (sums.Costs liability.currency direction)) line
  of-costs direction = line-member (sums.Costs liability.currency direction) refl (same_name-itself liability.currency)

  pub of-presents : Contains (roll_in (rolled_of book) (sums.Presents liability.currency)) line
  of-presents = line-member (sums.Presents liability.currency) refl (same_name-itself liability.currency)

  pub of-losses : (biometric : Biometric) → liability.kind ≡ kind_of biometric → (projection : Projection)
      → is_live book.sheet (nodes.Liability line (of_liabilities.Loss projection)) ≡ true
      → Contains (roll_in (rolled_of book) (sums.Losses biometric projection)) line
  of-losses biometric kind projection live =
      line-member (sums.Losses biometric projection) refl
      (ap (λ (k : LiabilityKind). is_kind (kind_of biometric) k && has_flows projection liability) kind
      ∙ ap (λ t. t && has_flows projection liability) (kind-itself biometric)
      ∙ sym (ap (λ found. option_map_or (has_flows projection) found false) known-line)
      ∙ (and_parts (is_stress projection) (option_map_or (has_flows projection) (liability_of line book.sheet.liabilities) false) live).1)

  -- what adds up a figure, where all sums that add it up are one
  module _ (what : OfLiability) (sum : Sum) (number : ℕ) (at : IsAt places ranged.Liability row (liability_family what) number)
      (is : member_of sum line ≡ nodes.Liability line what)
      (one : (other : ℕ) → ByMember book places lists numbers (nodes.Liability line what) other → IsMemberReaderAt book places lists sum line other)
      (alone : (other : ℕ) → ByRow book places lists numbers (nodes.Liability line what) other → ⊥) where
    line-marked : (old new : List ℕ) → AreMarkedMore (IsMemberReaderAt book places lists sum line) old new
        → AreMarkedMore (IsPlainDependantAt book places lists number) old new
    line-marked old new marked =
        marked-as _ _ old new (plain-member book places lists numbers (nodes.Liability line what) number (line-stands what number at) sum line is) back marked
      where
        back : (other : ℕ) → IsPlainDependantAt book places lists number other → IsMemberReaderAt book places lists sum line other
        back other p = by (plain-cases book places lists numbers (nodes.Liability line what) number (line-stands what number at) other p)
          where
            by : ByMember book places lists numbers (nodes.Liability line what) other ⊎ ByRow book places lists numbers (nodes.Liability line what) other
                → IsMemberReaderAt book places lists sum line other
            by (inl m) = one other m
            by (inr r) = absurd (alone other r)

  pub costs-marked : (direction : Direction) (number : ℕ) → IsAt places ranged.Liability row (direction_place direction) number → (old new : List ℕ)
      → AreMarkedMore (IsMemberReaderAt book places lists (sums.Costs liability.currency direction) line) old new
      → AreMarkedMore (IsPlainDependantAt book places lists number) old new
  costs-marked direction number at =
      line-marked (of_liabilities.Rate direction) (sums.Costs liability.currency direction) number at refl one (λ other r. r.reads)
    where
      one : (other : ℕ) → ByMember book places lists numbers (nodes.Liability line (of_liabilities.Rate direction)) other
          → IsMemberReaderAt book places lists (sums.Costs liability.currency direction) line other
      one other m =
          let currency : List ℕ = m.adds.1.0 in
          let e : m.sum ≡ sums.Costs currency direction = m.adds.1.1 in
          let same : currency ≡ liability.currency = same_name-is currency liability.currency
          (line-passing (sums.Costs currency direction) refl
          (member-as book places lists numbers m.sum (sums.Costs currency direction) m.name line e m.adds.0 m.member)) in
          reader-as book places lists numbers m.sum (sums.Costs liability.currency direction) m.name line other
          (e ∙ ap (λ (c : List ℕ). sums.Costs c direction) same) m.adds.0 m.reader

  pub presents-marked : (number : ℕ) → IsAt places ranged.Liability row 2 number → (old new : List ℕ)
      → AreMarkedMore (IsMemberReaderAt book places lists (sums.Presents liability.currency) line) old new
      → AreMarkedMore (IsPlainDependantAt book places lists number) old new
  presents-marked number at =
      line-marked of_liabilities.Present (sums.Presents liability.currency) number at refl one (λ other r. r.reads)
    where
      one : (other : ℕ) → ByMember book places lists numbers (nodes.Liability line of_liabilities.Present) other
          → IsMemberReaderAt book places lists (sums.Presents liability.currency) line other
      one other m =
          let currency : List ℕ = m.adds.1.0 in
          let e : m.sum ≡ sums.Presents currency = m.adds.1.1 in
          let same : currency ≡ liability.currency = same_name-is currency liability.currency
          (line-passing (sums.Presents currency) refl
          (member-as book places lists numbers m.sum (sums.Presents currency) m.name line e m.adds.0 m.member)) in
          reader-as book places lists numbers m.sum (sums.Presents liability.currency) m.name line other (e ∙ ap sums.Presents same) m.adds.0 m.reader

  module _ (projection : Projection) (number : ℕ) (at : IsAt places ranged.Liability row (liability_family (of_liabilities.Loss projection)) number) where
    loss-kind : (other : ℕ) (m : ByMember book places lists numbers (nodes.Liability line (of_liabilities.Loss projection)) other)
        → (biometric : Biometric) → m.sum ≡ sums.Losses biometric projection → m.name ≡ line → is_kind (kind_of biometric) liability.kind ≡ true
    loss-kind other m biometric e called =
        (and_parts (is_kind (kind_of biometric) liability.kind) (has_flows projection liability)
        (line-passing (sums.Losses biometric projection) refl
        (member-as book places lists numbers m.sum (sums.Losses biometric projection) m.name line e called m.member))).0

    pub losses-marked : (biometric : Biometric) → liability.kind ≡ kind_of biometric → (old new : List ℕ)
        → AreMarkedMore (IsMemberReaderAt book places lists (sums.Losses biometric projection) line) old new
        → AreMarkedMore (IsPlainDependantAt book places lists number) old new
    losses-marked biometric kind =
        line-marked (of_liabilities.Loss projection) (sums.Losses biometric projection) number at refl one (λ other r. r.reads)
      where
        one : (other : ℕ) → ByMember book places lists numbers (nodes.Liability line (of_liabilities.Loss projection)) other
            → IsMemberReaderAt book places lists (sums.Losses biometric projection) line other
        one other m =
            let told : Biometric = m.adds.1.0 in
            let e : m.sum ≡ sums.Losses told projection = m.adds.1.1 in
            let same : told ≡ biometric =
            biometric-is told biometric (ap (is_kind (kind_of told)) (sym kind) ∙ loss-kind other m told e m.adds.0) in
            reader-as book places lists numbers m.sum (sums.Losses biometric projection) m.name line other
            (e ∙ ap (λ (b : Biometric). sums.Losses b projection) same) m.adds.0 m.reader

    -- no sum adds up the losses of other liabilities
    pub losses-none : liability.kind ≡ kinds.Other → (list : List ℕ) → AreMarkedMore (IsPlainDependantAt book places lists number) list list
    losses-none kind list = marked-none (IsPlainDependantAt book places lists number) list none
      where
        none : (other : ℕ) → IsPlainDependantAt book places lists number other → ⊥
        none other p = by (plain-cases book places lists numbers (nodes.Liability line (of_liabilities.Loss projection)) number
            (line-stands (of_liabilities.Loss projection) number at) other p)
          where
            by : ByMember book places lists numbers (nodes.Liability line (of_liabilities.Loss projection)) other
                ⊎ ByRow book places lists numbers (nodes.Liability line (of_liabilities.Loss projection)) other → ⊥
            by (inl m) =
                let told : Biometric = m.adds.1.0 in
                no-kind told (ap (is_kind (kind_of told)) (sym kind) ∙ loss-kind other m told m.adds.1.1 m.adds.0)
            by (inr r) = r.reads

-- ---- groups

module _ (book : RolledSheet) (places : Numbered) (lists : Lists) (numbers : AreNumbersOf book places lists) where
  -- the assets have the last number of the whole sheet
  pub assets-stand : StandsIn book places lists assets 153
  assets-stand = record {
    k = 0;
    row = refl;
    at = record {
      row = (let one : count places ranged.Whole ≡ 1 = numbers.numbered.rows ranged.Whole refl in omega (arith, one));
      family = omega arith;
      is = (let none : first places ranged.Whole 0 ≡ 0 = numbers.numbered.whole in omega (arith, none));
    };
  }

  -- each group is a member of the list of groups
  pub of-squares : (name : List ℕ) → is_live book.sheet (nodes.Group name of_groups.ConcentrationSquare) ≡ true
      → Contains (roll_in (rolled_of book) sums.Squares) name
  of-squares name live = is-member book numbers.rolls sums.Squares name live

  pub assets-only : (number : ℕ) → StandsIn book places lists assets number → number ≡ 153
  assets-only number at = numbers.numbers.only assets number 153 at assets-stand

  module _ (row : ℕ) (name : List ℕ) (named : slice_get (map group_name book.sheet.groups) row ≡ Some name) where
    pub group-stands : (what : OfGroup) (number : ℕ) → IsAt places ranged.Group row (group_family what) number
        → StandsAt book.sheet places (nodes.Group name what) number
    group-stands what number at = record { k = row; row = named; at = at }

    -- the square behind the total
    pub square-next : (number : ℕ) → IsAt places ranged.Group row 0 number → StandsAt book.sheet places (nodes.Group name of_groups.ConcentrationSquare) (number + 1)
    square-next number at =
        group-stands of_groups.ConcentrationSquare (number + 1)
        (record { row = at.row; family = omega arith; is = (let is = at.is in omega (arith, is)) })

    abbrev Kept : ℕ → List ℕ → ℕ → Type 0
    Kept number old other = IsPlainDependantAt book places lists number other × (IsLeftToAssets book places lists old number → ⊥)

    pub total-marked : (number : ℕ) → IsAt places ranged.Group row 0 number → is_live book.sheet (nodes.Group name of_groups.Total) ≡ true
        → (old new : List ℕ) → AreMarkedMore (λ other. number + 1 ≡ other) old new → AreMarkedMore (Kept number old) old new
    total-marked number at live old new is = marked-as _ _ old new to back is
      where
        total : Node
        total = nodes.Group name of_groups.Total

        from : StandsAt book.sheet places total number
        from = group-stands of_groups.Total number at

        no-square : IsLeftToAssets book places lists old number → ⊥
        no-square left =
            let same : points.Figure (nodes.Group left.is.0 of_groups.ConcentrationSquare) ≡ points.Figure total =
            sym left.is.1 ∙ numbers.numbers.exact number left.square (points.Figure total) left.at from in
            absurd (cc)

        to : (other : ℕ) → number + 1 ≡ other → Kept number old other
        to other e = (
          plain-row book places lists numbers total number from (nodes.Group name of_groups.ConcentrationSquare) other
              (subst (StandsAt book.sheet places (nodes.Group name of_groups.ConcentrationSquare)) e (square-next number at)) live
              (λ e. absurd (cc)) (1, omega arith, refl),
          no-square,
        )

        back : (other : ℕ) → Kept number old other → number + 1 ≡ other
        back other p = by (plain-cases book places lists numbers total number from other p.0)
          where
            by : ByMember book places lists numbers total other ⊎ ByRow book places lists numbers total other → number + 1 ≡ other
            by (inl m) = absurd m.adds
            by (inr r) =
                numbers.numbers.only (points.Figure (nodes.Group name of_groups.ConcentrationSquare)) (number + 1) other (square-next number at)
                (subst (λ n. StandsAt book.sheet places n other) r.reads r.at)

    module _ (number : ℕ) (at : IsAt places ranged.Group row 1 number) where
      abbrev square : Node
      square = nodes.Group name of_groups.ConcentrationSquare

      square-from : StandsAt book.sheet places square number
      square-from = group-stands of_groups.ConcentrationSquare number at

      pub square-marked : (old new : List ℕ) → (Contains old 153 → ⊥) → AreMarkedMore (IsMemberReaderAt book places lists sums.Squares name) old new
          → AreMarkedMore (Kept number old) old new
      square-marked old new apart is = marked-as _ _ old new to back is
        where
          to : (other : ℕ) → IsMemberReaderAt book places lists sums.Squares name other → Kept number old other
          to other r = (
            plain-member book places lists numbers square number square-from sums.Squares name refl other r,
            λ left. apart (subst (Contains old) (assets-only left.assets_at left.there) left.marked),
          )

          back : (other : ℕ) → Kept number old other → IsMemberReaderAt book places lists sums.Squares name other
          back other p = by (plain-cases book places lists numbers square number square-from other p.0)
            where
              by : ByMember book places lists numbers square other ⊎ ByRow book places lists numbers square other
                  → IsMemberReaderAt book places lists sums.Squares name other
              by (inl m) = reader-as book places lists numbers m.sum sums.Squares m.name name other m.adds.1 m.adds.0 m.reader
              by (inr r) = absurd r.reads

      -- where the assets are marked
      pub square-left : (list : List ℕ) → Contains list 153 → AreMarkedMore (Kept number list) list list
      square-left list has = marked-none (Kept number list) list (λ other p. p.1 (record {
        square = points.Figure square;
        is = (name, refl);
        at = square-from;
        assets_at = 153;
        there = assets-stand;
        marked = has;
      }))

    pub loss-marked : (number : ℕ) → IsAt places ranged.Group row 2 number → (list : List ℕ) → AreMarkedMore (Kept number list) list list
    loss-marked number at list = marked-none (Kept number list) list none
      where
        loss : Node
        loss = nodes.Group name of_groups.Loss

        none : (other : ℕ) → Kept number list other → ⊥
        none other p = by (plain-cases book places lists numbers loss number (group-stands of_groups.Loss number at) other p.0)
          where
            by : ByMember book places lists numbers loss other ⊎ ByRow book places lists numbers loss other → ⊥
            by (inl m) = m.adds
            by (inr r) = r.reads
