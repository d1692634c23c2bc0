-- What is held of the securities and the closed funds of a valid sheet, directly and through funds, is all that is held.
use Rattle.std.proofs.Common.{◌≡◌, ℕ, suc, ◌+◌, ◌^◌, ◌<◌, ◌≤◌, ℤ, pos, negsuc, Bool, true, List, [], ◌∷◌, map, length, filter, sum, sum_by, nat_eq, None, if◌then◌else◌, Contains, refl, sym, ap, subst, ◌∙◌, arith}
use Rattle.std.specs.List.{All, AllByRecursion, IsDistinct}
use Rattle.std.specs.Option.{option_map_or}
use Rattle.std.proofs.lemmas.Bool.{ne_eqb}
use Rattle.std.proofs.lemmas.Int.{ints}
use Rattle.std.proofs.lemmas.List.Elements.{All-from_recursion}
use Rattle.std.proofs.lemmas.List.Sums.{sum_by-cons, sum_by-append}
use Rattle.scr_funds.specs.Chains.{IsAcyclic}
use Rattle.scr_funds.specs.LookThrough.{Shared, is_last, names_in, part_in}
use Rattle.scr_funds.proofs.BoundedTotals.{total-within}
use Rattle.scr_funds.proofs.Cycles.{acyclic_weaker}
use Rattle.scr_funds.proofs.LookThroughLaws.{total_is, totals_whole, names_in-own}
use Rattle.scr_funds.proofs.Members.{IsMember, IsMember-left, IsMember-mapped, Contains-from_IsMember, at_member, each-from_members}
use Rattle.scr_funds.proofs.SumsBy.{sum_by-same, sum_by-map, sum_by-filter}
use Rattle.scr_tables.specs.Names.{same_name}
use Rattle.scr_tables.specs.Tables.{has_row}
use Rattle.scr_tables.proofs.TableRows.{All-map, same_name-is, same_name-itself}
use Rattle.scr_sheet.specs.Records.{natural}
use Rattle.scr_sheet.specs.Forms.{IsName}
use Rattle.scr_sheet.specs.Totals.{shared, shared_funds, total_of, parts_of_funds, closed_total, securities_total}
use Rattle.scr_sheet.specs.Members.{is_closed}
use Rattle.scr_sheet.specs.BalanceSheet.{stake_name, position_name, stake_of, held_of, held_total, components_of}
use Rattle.scr_sheet.specs.declared.{sheet.BalanceSheet.BalanceSheet, rows.Position.Position, rows.Stake.Stake}
use Rattle.scr_sheet.specs.Validity.{Valid, IsHeld, IsStake, IsBetween}
use Rattle.scr_profile.specs.declared.limits.TheConstants.{MAX_HELD, MIN_WEIGHT, MAX_WEIGHT}
use Rattle.scr_sheet.proofs.Holds.{distinct-funds, no_fund}
use Rattle.scr_sheet.proofs.HeldNames.{held_names, security-member, fund-member, held-member, names-once, held-sum}

pub each-map : {A B : Type 0} (P : B → Type 0) (f : A → B) (xs : List A) → AllByRecursion (λ x. P (f x)) xs → AllByRecursion P (map f xs)
each-map P f [] all = tt
each-map P f (x ∷ xs) all = (all.0, each-map P f xs all.1)

-- a weight of the sheet is above 0 and not too great
pub weight-within : (z : ℤ) → IsBetween MIN_WEIGHT MAX_WEIGHT z → (1 ≤ natural z) × (natural z ≤ 10 ^ 9)
weight-within (pos n) h = (omega (arith, ints, h.0), omega (arith, ints, h.1))
weight-within (negsuc n) h = absurd (omega (arith, ints, h.0))

-- a component's name and its weight
abbrev pub weighted : List ℕ × ℤ → List ℕ × ℕ
weighted c = (c.0, natural c.1)

abbrev component_name : List ℕ × ℤ → List ℕ
component_name c = c.0

components-names : (cs : List (List ℕ × ℤ)) → map (λ c. c.0) (map weighted cs) ≡ map component_name cs
components-names [] = refl
components-names (c ∷ cs) = ap (λ names. c.0 ∷ names) (components-names cs)

-- what a name has as components among the funds is what the sheet says
pub names-in-is : (stakes : List Stake) (x : List ℕ) → names_in same_name (map shared stakes) x ≡ components_of stakes x
names-in-is [] x = refl
names-in-is (s ∷ stakes) x = let rest = names-in-is stakes x in grind (arith, rest, components-names s.fund.components)

pub acyclic-names : (sheet : BalanceSheet) → Valid sheet → IsAcyclic (names_in same_name (shared_funds sheet))
acyclic-names sheet valid =
    acyclic_weaker (components_of sheet.funds) (names_in same_name (shared_funds sheet))
    (λ a c h. subst (λ row. Contains row c) (names-in-is sheet.funds a) h) valid.acyclic

shared-names : (stakes : List Stake) → map (λ (fund : Shared (List ℕ)). fund.0) (map shared stakes) ≡ map stake_name stakes
shared-names [] = refl
shared-names (s ∷ stakes) = ap (λ names. stake_name s ∷ names) (shared-names stakes)

-- the same fund with other components
abbrev pub with_components : List (List ℕ × ℤ) → Stake → Stake
with_components components s = record { fund = record { name = s.fund.name; components = components }; held = s.held }

-- a closed fund is one without components
closed-is : (components : List (List ℕ × ℤ)) (s : Stake) → nat_eq (length (map (λ c. c.0) (shared (with_components components s)).1)) 0 ≡ is_closed (with_components components s)
closed-is [] s = refl
closed-is (c ∷ components) s = ne_eqb (length (map (λ d. d.0) (shared (with_components (c ∷ components) s)).1)) 0 (λ e. let none : suc (length (map (λ d. d.0) (shared (with_components components s)).1)) ≡ 0 = e in omega (arith, none))

module _ (sheet : BalanceSheet) (valid : Valid sheet) where
  -- ---- no cent is lost

  funds-once : IsDistinct same_name (map (λ (fund : Shared (List ℕ)). fund.0) (shared_funds sheet))
  funds-once = subst (IsDistinct same_name) (sym (shared-names sheet.funds)) (distinct-funds sheet valid.named_once)

  abbrev last : List ℕ → Bool
  last name = is_last same_name (shared_funds sheet) name

  -- a fund of the sheet ends a chain where it is closed, and each security does
  fund-last : (s : Stake) → IsMember s sheet.funds → last (stake_name s) ≡ is_closed s
  fund-last s m =
      ap (λ (names : List (List ℕ)). nat_eq (length names) 0)
      (names_in-own same_name same_name-is same_name-itself (shared_funds sheet) funds-once (shared s) (IsMember-mapped shared sheet.funds s m))
      ∙ closed-is s.fund.components s

  security-last : (p : Position) → IsMember p sheet.securities → last (position_name p) ≡ true
  security-last p m =
      ap (λ (names : List (List ℕ)). nat_eq (length names) 0)
      (names-in-is sheet.funds (position_name p)
      ∙ ap (λ found. option_map_or (λ (s : Stake). map (λ (c : List ℕ × ℤ). c.0) s.fund.components) found [])
      (at_member (λ q. stake_of (position_name q) sheet.funds ≡ None) sheet.securities p (no_fund sheet valid.named_once) m))

  fund-listed : AllByRecursion (λ s. Contains (held_names sheet) (stake_name s)) sheet.funds
  fund-listed = each-from_members (λ s. Contains (held_names sheet) (stake_name s)) sheet.funds
      (λ s m. Contains-from_IsMember (held_names sheet) (stake_name s) (IsMember-left (map stake_name sheet.funds) (map position_name sheet.securities) (stake_name s) (IsMember-mapped stake_name sheet.funds s m)))

  components-listed : (s : Stake) → AllByRecursion (λ c. IsHeld sheet c.0) s.fund.components → All (λ c. Contains (held_names sheet) c.0) (shared s).1
  components-listed s held = All-from_recursion (λ (c : List ℕ × ℕ). Contains (held_names sheet) c.0) (shared s).1
      (each-map (λ (c : List ℕ × ℕ). Contains (held_names sheet) c.0) weighted s.fund.components
      (All-map (λ (c : List ℕ × ℤ). IsHeld sheet c.0) (λ (c : List ℕ × ℤ). Contains (held_names sheet) c.0) s.fund.components
      (λ c h. Contains-from_IsMember (held_names sheet) c.0 (held-member sheet c.0 h)) held))

  weights-positive : (components : List (List ℕ × ℤ)) → AllByRecursion (λ c. IsName c.0 × IsBetween MIN_WEIGHT MAX_WEIGHT c.1) components
      → 0 < length (map weighted components) → 0 < sum (map (λ (c : List ℕ × ℕ). c.1) (map weighted components))
  weights-positive [] weights l = absurd (omega arith)
  weights-positive (c ∷ components) weights l =
      let first : 1 ≤ natural c.1 = (weight-within c.1 weights.0.1).0 in
      omega (arith, first, sum_by-cons (λ n. n) (natural c.1) (map (λ (d : List ℕ × ℕ). d.1) (map weighted components)))

  listed_funds : All (λ (fund : Shared (List ℕ)). Contains (held_names sheet) fund.0) (shared_funds sheet)
  listed_funds = All-from_recursion (λ (fund : Shared (List ℕ)). Contains (held_names sheet) fund.0) (shared_funds sheet)
      (each-map (λ (fund : Shared (List ℕ)). Contains (held_names sheet) fund.0) shared sheet.funds fund-listed)

  listed_components : All (λ (fund : Shared (List ℕ)). All (λ c. Contains (held_names sheet) c.0) fund.1) (shared_funds sheet)
  listed_components = All-from_recursion (λ (fund : Shared (List ℕ)). All (λ c. Contains (held_names sheet) c.0) fund.1) (shared_funds sheet)
      (each-map (λ (fund : Shared (List ℕ)). All (λ c. Contains (held_names sheet) c.0) fund.1) shared sheet.funds
      (All-map (λ s. AllByRecursion (λ c. IsHeld sheet c.0) s.fund.components) (λ s. All (λ c. Contains (held_names sheet) c.0) (shared s).1) sheet.funds components-listed valid.known.components))

  -- all that is held directly, in the totals of the names at which chains end
  last-totals : sum_by (total_of sheet) (filter (is_last same_name (shared_funds sheet)) (held_names sheet)) ≡ sum_by (held_of sheet) (held_names sheet)
  last-totals =
      totals_whole same_name same_name-is same_name-itself (held_of sheet) (shared_funds sheet) funds-once (acyclic-names sheet valid)
      (held_names sheet) (names-once sheet valid.named_once) listed_funds listed_components
      (All-from_recursion (λ (fund : Shared (List ℕ)). 0 < length fund.1 → 0 < sum (map (λ c. c.1) fund.1)) (shared_funds sheet)
      (each-map (λ (fund : Shared (List ℕ)). 0 < length fund.1 → 0 < sum (map (λ c. c.1) fund.1)) shared sheet.funds
      (All-map IsStake (λ s. 0 < length (shared s).1 → 0 < sum (map (λ c. c.1) (shared s).1)) sheet.funds (λ s formed. weights-positive s.fund.components formed.1) valid.funds)))

  -- what is held of the securities and the closed funds is all that is held
  pub all-seen : securities_total sheet + closed_total sheet ≡ held_total sheet
  all-seen =
      let filtered = sum_by-filter (total_of sheet) last (held_names sheet) in
      let two = sum_by-append at_last (map stake_name sheet.funds) (map position_name sheet.securities) in
      let funds : sum_by at_last (map stake_name sheet.funds) ≡ closed_total sheet =
      sum_by-map at_last stake_name sheet.funds
      ∙ sum_by-same (λ s. at_last (stake_name s)) (λ s. if is_closed s then total_of sheet s.fund.name else 0) sheet.funds
      (λ s m. ap (λ b. if b then total_of sheet s.fund.name else 0) (fund-last s m)) in
      let securities : sum_by at_last (map position_name sheet.securities) ≡ securities_total sheet =
      sum_by-map at_last position_name sheet.securities
      ∙ sum_by-same (λ p. at_last (position_name p)) (λ p. total_of sheet p.security.name) sheet.securities
      (λ p m. ap (λ b. if b then total_of sheet p.security.name else 0) (security-last p m)) in
      omega (arith, filtered, two, funds, securities, held-sum sheet valid, last-totals)
    where
      at_last : List ℕ → ℕ
      at_last name = if last name then total_of sheet name else 0

  -- what is held directly, and its parts in all funds
  pub total-equation : (name : List ℕ) → total_of sheet name ≡ held_of sheet name + parts_of_funds sheet name
  total-equation name =
      total_is same_name same_name-is same_name-itself (held_of sheet) (shared_funds sheet) funds-once (acyclic-names sheet valid) name
      ∙ ap (λ n. held_of sheet name + n) (sum_by-map (λ (fund : Shared (List ℕ)). part_in same_name (total_of sheet fund.0) fund.1 name) shared sheet.funds)

  -- no total is above all that is held
  small : (name : List ℕ) → IsMember name (held_names sheet) → total_of sheet name ≤ held_total sheet
  small name m =
      subst (λ n. total_of sheet name ≤ n) (held-sum sheet valid)
      (total-within same_name same_name-is same_name-itself (held_of sheet) (shared_funds sheet) funds-once (acyclic-names sheet valid) (held_names sheet)
      (names-once sheet valid.named_once) listed_funds listed_components name (Contains-from_IsMember (held_names sheet) name m))

  pub total-small : (name : List ℕ) → IsHeld sheet name → total_of sheet name ≤ held_total sheet
  total-small name held = small name (held-member sheet name held)

  -- ---- and so all is within what may be held

  pub fund-small : (name : List ℕ) → has_row stake_name name sheet.funds ≡ true → total_of sheet name ≤ MAX_HELD
  fund-small name has = let all : held_total sheet ≤ MAX_HELD = valid.within.held in omega (arith, all, small name (fund-member sheet name has))

  pub security-small : (name : List ℕ) → has_row position_name name sheet.securities ≡ true → total_of sheet name ≤ MAX_HELD
  security-small name has = let all : held_total sheet ≤ MAX_HELD = valid.within.held in omega (arith, all, small name (security-member sheet name has))
