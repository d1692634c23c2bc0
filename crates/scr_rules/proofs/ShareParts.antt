-- The parts of a name in the funds that hold it, by shares, are its parts in all funds.
use Rattle.std.proofs.Common.{◌≡◌, ℕ, suc, ◌+◌, ◌-◌, ◌*◌, ◌/◌, ◌^◌, ◌<◌, ◌≤◌, ℤ, pos, Bool, true, false, ◌||◌, List, [], ◌∷◌, ◌++◌, map, length, filter, take, sum, sum_by, if◌then◌else◌, refl, sym, ap, ap₂, ◌∙◌, append_assoc, arith}
use Rattle.std.specs.List.{AllByRecursion, IsDistinct, list_any, range_with_len}
use Rattle.std.proofs.lemmas.Bool.{true≢false}
use Rattle.std.proofs.lemmas.List.{length-append, length-map}
use Rattle.std.proofs.lemmas.List.Sums.{sum_by-cons, sum_by-append}
use Rattle.scr_num.specs.Rounding.{Ends, exact_ends, or_zero}
use Rattle.scr_funds.specs.LookThrough.{falling_to, part_in, parts_of}
use Rattle.scr_funds.specs.Parts as funds
use Rattle.scr_tables.specs.Names.{same_name}
use Rattle.scr_tables.proofs.TableRows.{same_name-is, same_or_other}
use Rattle.scr_sheet.specs.Records.{natural}
use Rattle.scr_sheet.specs.Forms.{IsName}
use Rattle.scr_sheet.specs.Totals.{shared}
use Rattle.scr_sheet.specs.BalanceSheet.{stake_name}
use Rattle.scr_sheet.specs.Validity.{IsStake, IsBetween}
use Rattle.scr_sheet.specs.declared.rows.Stake.{Stake}
use Rattle.scr_profile.specs.declared.limits.TheConstants.{MIN_WEIGHT, MAX_WEIGHT}
use Rattle.scr_nodes.specs.Rows.{is_component, holds, weights_before, weights_through, share_in}
use Rattle.scr_nodes.specs.Sources.{fund_total}
use Rattle.scr_nodes.specs.declared.node.Node.{Node}
use Rattle.scr_rules.specs.Fits.{IsShare}
use Rattle.scr_rules.specs.Rules.{part_of, parts_held}
use Rattle.scr_sheet.proofs.SeenThrough.{weighted, weight-within}

abbrev names_of : List (List ℕ × ℤ) → List (List ℕ)
names_of cs = map (λ c. c.0) (map weighted cs)

abbrev weights_of : List (List ℕ × ℤ) → List ℕ
weights_of cs = map (λ c. c.1) (map weighted cs)

-- ---- the weights in front of a component, and those with it
take-front : (front : List ℕ) (rest : List ℕ) → take (length front) (front ++ rest) ≡ front
take-front [] rest = refl
take-front (x ∷ front) rest = ap (λ xs. x ∷ xs) (take-front front rest)

take-next : (front : List ℕ) (x : ℕ) (rest : List ℕ) → take (length front + 1) (front ++ x ∷ rest) ≡ front ++ x ∷ []
take-next [] x rest = refl
take-next (y ∷ front) x rest = ap (λ n. take n (y ∷ (front ++ x ∷ rest))) same ∙ ap (λ xs. y ∷ xs) (take-next front x rest)
  where
    same : length (y ∷ front) + 1 ≡ suc (length front + 1)
    same = omega arith

sum-front : (front : List ℕ) (x : ℕ) → sum (front ++ x ∷ []) ≡ sum front + x
sum-front front x = let two = sum_by-append (λ n. n) front (x ∷ []) in omega (arith, two)

module _ (name : List ℕ) (value : ℕ) where
  -- what falls to the name among components behind others of these weights
  abbrev falls : List ℕ → List (List ℕ × ℤ) → ℕ
  falls front cs =
      falling_to same_name name (names_of cs) (map (funds.part_of value (front ++ weights_of cs)) (range_with_len (length front) (length cs)))

  -- nothing, where none of them has the name
  absent : (cs : List (List ℕ × ℤ)) (parts : List ℕ) → list_any (is_component name) cs ≡ false → falling_to same_name name (names_of cs) parts ≡ 0
  absent [] parts none = refl
  absent (c ∷ cs) [] none = refl
  absent (c ∷ cs) (part ∷ parts) none = by (same_name name c.0) none (absent cs parts)
    where
      by : (b : Bool) → (b || list_any (is_component name) cs) ≡ false
          → (list_any (is_component name) cs ≡ false → falling_to same_name name (names_of cs) parts ≡ 0)
          → (if b then part else 0) + falling_to same_name name (names_of cs) parts ≡ 0
      by true none rest = absurd (true≢false none)
      by false none rest = let zero_ = rest none in omega (arith, zero_)

  -- the others have other names
  others : (c : List ℕ × ℤ) (cs : List (List ℕ × ℤ)) → same_name name c.0 ≡ true → AllByRecursion (λ n. same_name c.0 n ≡ false) (map (λ d. d.0) cs)
      → list_any (is_component name) cs ≡ false
  others c [] same apart = refl
  others c (d ∷ cs) same apart =
      let other : same_name name d.0 ≡ false = ap (λ n. same_name n d.0) (same_name-is name c.0 same) ∙ apart.0 in
      by (same_name name d.0) other (others c cs same apart.1)
    where
      by : (b : Bool) → b ≡ false → list_any (is_component name) cs ≡ false → (b || list_any (is_component name) cs) ≡ false
      by true e rest = absurd (true≢false e)
      by false e rest = rest

  -- the part by weights before and through
  abbrev share_of : ℕ → List (List ℕ × ℤ) → ℕ → ℕ
  share_of front cs all =
      value * (front + weights_through name cs) / all - value * (front + weights_before name cs) / all

  present : (front : List ℕ) (cs : List (List ℕ × ℤ)) → IsDistinct same_name (map (λ c. c.0) cs) → list_any (is_component name) cs ≡ true
      → falls front cs ≡ share_of (sum front) cs (sum (front ++ weights_of cs))
  unfolding IsDistinct
  present front [] apart some = absurd (true≢false (sym some))
  present front (c ∷ cs) apart some =
      same_or_other name c.0
      (λ same.
      let all = sum (front ++ natural c.1 ∷ weights_of cs) in
      let here : funds.part_of value (front ++ natural c.1 ∷ weights_of cs) (length front) ≡ value * (sum front + natural c.1) / all - value * sum front / all =
      ap₂ (λ (x : ℕ) (y : ℕ). value * x / all - value * y / all)
      (ap sum (take-next front (natural c.1) (weights_of cs)) ∙ sum-front front (natural c.1)) (ap sum (take-front front (natural c.1 ∷ weights_of cs))) in
      let rest = absent cs (map (funds.part_of value (front ++ natural c.1 ∷ weights_of cs)) (range_with_len (length front + 1) (length cs))) (others c cs same apart.0) in
      first (same_name name c.0) same (funds.part_of value (front ++ natural c.1 ∷ weights_of cs) (length front))
      (falling_to same_name name (names_of cs) (map (funds.part_of value (front ++ natural c.1 ∷ weights_of cs)) (range_with_len (length front + 1) (length cs)))) all here rest)
      (λ other.
      let moved = next-front in
      later (same_name name c.0) other (funds.part_of value (front ++ natural c.1 ∷ weights_of cs) (length front))
      (falling_to same_name name (names_of cs) (map (funds.part_of value (front ++ natural c.1 ∷ weights_of cs)) (range_with_len (length front + 1) (length cs))))
      (sum (front ++ natural c.1 ∷ weights_of cs))
      (moved ∙ present (front ++ natural c.1 ∷ []) cs apart.1 (only other some)
      ∙ ap₂ (λ (f : ℕ) (a : ℕ). share_of f cs a) (sum-front front (natural c.1)) (ap sum joined)))
    where
      joined : (front ++ natural c.1 ∷ []) ++ weights_of cs ≡ front ++ natural c.1 ∷ weights_of cs
      joined = append_assoc front (natural c.1 ∷ []) (weights_of cs)

      counted : length (front ++ natural c.1 ∷ []) ≡ length front + 1
      counted = length-append front (natural c.1 ∷ [])

      next-front : falling_to same_name name (names_of cs) (map (funds.part_of value (front ++ natural c.1 ∷ weights_of cs)) (range_with_len (length front + 1) (length cs)))
          ≡ falls (front ++ natural c.1 ∷ []) cs
      next-front =
          ap₂ (λ (w : List ℕ) (n : ℕ). falling_to same_name name (names_of cs) (map (funds.part_of value w) (range_with_len n (length cs)))) (sym joined) (sym counted)

      only : same_name name c.0 ≡ false → (same_name name c.0 || list_any (is_component name) cs) ≡ true → list_any (is_component name) cs ≡ true
      only other some = by (same_name name c.0) other some
        where
          by : (b : Bool) → b ≡ false → (b || list_any (is_component name) cs) ≡ true → list_any (is_component name) cs ≡ true
          by true e h = absurd (true≢false e)
          by false e h = h

      first : (b : Bool) → b ≡ true → (part rest all : ℕ) → part ≡ value * (sum front + natural c.1) / all - value * sum front / all → rest ≡ 0
          → (if b then part else 0) + rest
          ≡ value * (sum front + (natural c.1 + (if b then 0 else weights_through name cs))) / all - value * (sum front + (if b then 0 else natural c.1 + weights_before name cs)) / all
      first true e part rest all here none =
          let a : sum front + (natural c.1 + 0) ≡ sum front + natural c.1 = omega arith in
          let b : sum front + 0 ≡ sum front = omega arith in
          let whole : part + rest ≡ part = omega (arith, none) in
          whole ∙ here ∙ ap₂ (λ (x : ℕ) (y : ℕ). value * x / all - value * y / all) (sym a) (sym b)
      first false e part rest all here none = absurd (true≢false (sym e))

      later : (b : Bool) → b ≡ false → (part rest all : ℕ) → rest ≡ share_of (sum front + natural c.1) cs all
          → (if b then part else 0) + rest
          ≡ value * (sum front + (natural c.1 + (if b then 0 else weights_through name cs))) / all - value * (sum front + (if b then 0 else natural c.1 + weights_before name cs)) / all
      later true e part rest all is = absurd (true≢false e)
      later false e part rest all is =
          let a : sum front + natural c.1 + weights_through name cs ≡ sum front + (natural c.1 + weights_through name cs) = omega arith in
          let b : sum front + natural c.1 + weights_before name cs ≡ sum front + (natural c.1 + weights_before name cs) = omega arith in
          let none : 0 + rest ≡ rest = omega arith in
          none ∙ is ∙ ap₂ (λ (x : ℕ) (y : ℕ). value * x / all - value * y / all) a b

-- ---- all weights of a fund
weights-sum : (cs : List (List ℕ × ℤ)) → sum (weights_of cs) ≡ sum_by (λ c. natural c.1) cs
weights-sum [] = refl
weights-sum (c ∷ cs) =
    sum_by-cons (λ n. n) (natural c.1) (weights_of cs) ∙ ap (λ n. natural c.1 + n) (weights-sum cs) ∙ sym (sum_by-cons (λ (d : List ℕ × ℤ). natural d.1) c cs)

length-parts : (value : ℕ) (cs : List (List ℕ × ℤ)) → parts_of value (weights_of cs) ≡ map (funds.part_of value (weights_of cs)) (range_with_len 0 (length cs))
length-parts value cs =
    ap (λ n. map (funds.part_of value (weights_of cs)) (range_with_len 0 n)) (length-map (map weighted cs) (λ c. c.1) ∙ length-map cs weighted)

-- the part in one fund
pub held-part : (name : List ℕ) (value : ℕ) (s : Stake) → IsStake s → holds name s ≡ true → part_in same_name value (shared s).1 name ≡ part_of value (share_in name s)
held-part name value s formed held =
    let cs = s.fund.components in
    ap (falling_to same_name name (names_of cs)) (length-parts value cs)
    ∙ present name value [] cs formed.3 held
    ∙ ap₂ (λ (f : ℕ) (a : ℕ). value * f / a - value * (0 + weights_before name cs) / a) zero-through (weights-sum cs)
    ∙ ap (λ (f : ℕ). value * weights_through name cs / sum_by (λ c. natural c.1) cs - value * f / sum_by (λ c. natural c.1) cs) zero-before
  where
    zero-through : 0 + weights_through name s.fund.components ≡ weights_through name s.fund.components
    zero-through = omega arith

    zero-before : 0 + weights_before name s.fund.components ≡ weights_before name s.fund.components
    zero-before = omega arith

other-part : (name : List ℕ) (value : ℕ) (s : Stake) → holds name s ≡ false → part_in same_name value (shared s).1 name ≡ 0
other-part name value s none = absent name value s.fund.components (parts_of value (weights_of s.fund.components)) none

-- ---- over all funds
pub parts-held : (name : List ℕ) (worth : Node → Ends) (cents : List ℕ → ℕ) (stakes : List Stake) → AllByRecursion IsStake stakes
    → AllByRecursion (λ s. worth (fund_total s) ≡ exact_ends (pos (cents (stake_name s)))) stakes
    → parts_held (map (share_in name) (filter (holds name) stakes)) (map worth (map fund_total (filter (holds name) stakes)))
    ≡ sum_by (λ s. part_in same_name (cents (stake_name s)) (shared s).1 name) stakes
parts-held name worth cents [] formed are = refl
parts-held name worth cents (s ∷ stakes) formed are =
    by (holds name s) refl (parts-held name worth cents stakes formed.1 are.1)
    ∙ sym (sum_by-cons (λ (t : Stake). part_in same_name (cents (stake_name t)) (shared t).1 name) s stakes)
  where
    by : (b : Bool) → holds name s ≡ b
        → parts_held (map (share_in name) (filter (holds name) stakes)) (map worth (map fund_total (filter (holds name) stakes)))
        ≡ sum_by (λ t. part_in same_name (cents (stake_name t)) (shared t).1 name) stakes
        → parts_held (map (share_in name) (if b then s ∷ filter (holds name) stakes else filter (holds name) stakes))
        (map worth (map fund_total (if b then s ∷ filter (holds name) stakes else filter (holds name) stakes)))
        ≡ part_in same_name (cents (stake_name s)) (shared s).1 name + sum_by (λ t. part_in same_name (cents (stake_name t)) (shared t).1 name) stakes
    by true held rest =
        ap₂ (λ (x : ℕ) (y : ℕ). x + y)
        (ap (λ (e : Ends). part_of (amount e) (share_in name s)) are.0 ∙ sym (held-part name (cents (stake_name s)) s formed.0 held)) rest
      where
        amount : Ends → ℕ
        amount e = or_zero e.low
    by false none rest = let here = other-part name (cents (stake_name s)) s none in rest ∙ whole here
      where
        whole : part_in same_name (cents (stake_name s)) (shared s).1 name ≡ 0
            → sum_by (λ t. part_in same_name (cents (stake_name t)) (shared t).1 name) stakes
            ≡ part_in same_name (cents (stake_name s)) (shared s).1 name + sum_by (λ t. part_in same_name (cents (stake_name t)) (shared t).1 name) stakes
        whole h = omega (arith, h)

-- ---- a share is one by weights
before-through : (name : List ℕ) (cs : List (List ℕ × ℤ)) → weights_before name cs ≤ weights_through name cs
before-through name [] = omega arith
before-through name (c ∷ cs) = by (is_component name c) (before-through name cs)
  where
    by : (b : Bool) → weights_before name cs ≤ weights_through name cs
        → (if b then 0 else natural c.1 + weights_before name cs) ≤ natural c.1 + (if b then 0 else weights_through name cs)
    by true h = omega arith
    by false h = omega (arith, h)

pub through-all : (name : List ℕ) (cs : List (List ℕ × ℤ)) → weights_through name cs ≤ sum_by (λ c. natural c.1) cs
through-all name [] = omega arith
through-all name (c ∷ cs) = by (is_component name c) (through-all name cs)
  where
    by : (b : Bool) → weights_through name cs ≤ sum_by (λ d. natural d.1) cs → natural c.1 + (if b then 0 else weights_through name cs) ≤ sum_by (λ d. natural d.1) (c ∷ cs)
    by true h = omega (arith, sum_by-cons (λ (d : List ℕ × ℤ). natural d.1) c cs)
    by false h = omega (arith, h, sum_by-cons (λ (d : List ℕ × ℤ). natural d.1) c cs)

pub weights-small : (cs : List (List ℕ × ℤ)) → AllByRecursion (λ c. IsName c.0 × IsBetween MIN_WEIGHT MAX_WEIGHT c.1) cs → sum_by (λ c. natural c.1) cs ≤ length cs * 10 ^ 9
weights-small [] all = omega arith
weights-small (c ∷ cs) all =
    let first = (weight-within c.1 all.0.1).1 in omega (arith, first, weights-small cs all.1, sum_by-cons (λ (d : List ℕ × ℤ). natural d.1) c cs)

some-weight : (name : List ℕ) (cs : List (List ℕ × ℤ)) → AllByRecursion (λ c. IsName c.0 × IsBetween MIN_WEIGHT MAX_WEIGHT c.1) cs → list_any (is_component name) cs ≡ true
    → 0 < sum_by (λ c. natural c.1) cs
some-weight name [] all held = absurd (true≢false (sym held))
some-weight name (c ∷ cs) all held =
    let first = (weight-within c.1 all.0.1).0 in omega (arith, first, sum_by-cons (λ (d : List ℕ × ℤ). natural d.1) c cs)

pub share-fits : (name : List ℕ) (s : Stake) → IsStake s → holds name s ≡ true → IsShare (share_in name s)
share-fits name s formed held =
    let cs = s.fund.components in
    let small = weights-small cs formed.1 in
    let few : length cs ≤ 1000 = formed.2 in
    record {
      in_order = before-through name cs;
      within = through-all name cs;
      some = some-weight name cs formed.1 held;
      small = omega (arith, small, few);
    }

pub shares-fit : (name : List ℕ) (stakes : List Stake) → AllByRecursion IsStake stakes → AllByRecursion IsShare (map (share_in name) (filter (holds name) stakes))
shares-fit name [] formed = tt
shares-fit name (s ∷ stakes) formed = by (holds name s) refl (shares-fit name stakes formed.1)
  where
    by : (b : Bool) → holds name s ≡ b → AllByRecursion IsShare (map (share_in name) (filter (holds name) stakes))
        → AllByRecursion IsShare (map (share_in name) (if b then s ∷ filter (holds name) stakes else filter (holds name) stakes))
    by true held rest = (share-fits name s formed.0 held, rest)
    by false none rest = rest
