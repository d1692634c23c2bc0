-- One fund hands out what it has: what each step wants, and how far it leads.
use Rattle.std.proofs.Common.{◌≡◌, ℕ, zero, suc, ◌+◌, ◌*◌, ◌^◌, ◌<◌, ◌≤◌, List, [], ◌∷◌, Vec, map, length, get_or, take, sum, sum_by, nat_eq, if◌then◌else◌, All, refl, sym, ap, subst, ◌∙◌, arith}
use Rattle.std.specs.Global.{Global}
use Rattle.std.specs.List.{range_with_len}
use Rattle.std.proofs.lemmas.Bool.{cond_both}
use Rattle.std.proofs.lemmas.List.{length-map}
use Rattle.std.proofs.lemmas.List.Elements.{All-from_get_or}
use Rattle.std.proofs.lemmas.List.FromFn.{length-map-range_with_len}
use Rattle.scr_funds.specs.ByNumber.{IsRow, numbered, weighted_rows}
use Rattle.scr_funds.specs.Chains.{IsAcyclic}
use Rattle.scr_funds.specs.HandedOn.{AreReady, times}
use Rattle.scr_funds.specs.LookThrough.{Weighted, falling_to, names_in, parts_of}
use Rattle.scr_funds.specs.Parts.{part_of}
use Rattle.scr_funds.proofs.HandedOut.{Passed, worth, weights-some, ready_one, small, done_settled, fund_below, fund_counted, passed_next, ended-values, ended-within, passed_none}
use Rattle.scr_funds.proofs.LookThroughLaws.{member_or_not, passed-whole}
use Rattle.scr_funds.proofs.Ranges.{nat_is_same, nat_same_self}
use Rattle.scr_funds.proofs.RowSteps.{row-at, row_sound}

-- what stands at a place, whatever stands for what is past the end
at-any : {X : Type 0} (xs : List X) (i : ℕ) (d e : X) → i < length xs → get_or xs i d ≡ get_or xs i e
at-any [] i d e l = absurd (omega arith)
at-any (x ∷ xs) zero d e l = refl
at-any (x ∷ xs) (suc i) d e l = at-any xs i d e (omega arith)

parts-at_most : (value : ℕ) (row : Weighted ℕ) → All (λ c. 1 ≤ c.1) row
    → sum (parts_of value (map (λ c. c.1) row)) ≤ value
parts-at_most value row positive =
    let whole = passed-whole value row (weights-some row positive) in
    let most : (if nat_eq (length (map (λ c. c.0) row)) 0 then 0 else value) ≤ value =
    cond_both (nat_eq (length (map (λ c. c.0) row)) 0) 0 value (λ n. n ≤ value) (λ e. omega arith) (λ e. omega arith) in
    omega (arith, whole, most)

parts-count : (value : ℕ) (row : Weighted ℕ) → length (parts_of value (map (λ c. c.1) row)) ≡ length row
parts-count value row =
    length-map-range_with_len (part_of value (map (λ c. c.1) row)) 0 (length (map {A = ℕ × ℕ} {B = ℕ} (λ c. c.1) row))
    ∙ length-map {A = ℕ × ℕ} {B = ℕ} row (λ c. c.1)

-- The funds may be shared out, and so far they have been.
pub record Turn (held : List ℕ) (funds : List (Vec (ℕ × ℕ) Global)) (values waiting ready : List ℕ)
    (place : ℕ) : Type 0 where
  pub fewer : length funds ≤ length held
  pub rows : All (IsRow (length held)) (weighted_rows funds)
  pub acyclic : IsAcyclic (names_in nat_eq (numbered (weighted_rows funds)))
  pub passed : Passed held (weighted_rows funds) values waiting ready place

rows_count : (funds : List (Vec (ℕ × ℕ) Global)) → length (weighted_rows funds) ≡ length funds
rows_count funds = length-map {A = Vec (ℕ × ℕ) Global} {B = Weighted ℕ} funds (λ row. row.items)

module _ {held : List ℕ} {funds : List (Vec (ℕ × ℕ) Global)} {values waiting ready : List ℕ} {place : ℕ}
    (turn : Turn held funds values waiting ready place) where
  fewer_rows : length (weighted_rows funds) ≤ length held
  fewer_rows = let fewer = turn.fewer in omega (arith, fewer, rows_count funds)

  pub one_ready : place < length funds → place < length ready
  one_ready l = ready_one held (weighted_rows funds) fewer_rows turn.rows turn.acyclic values waiting ready place
      turn.passed (omega (arith, rows_count funds))

  -- nothing has more than is held in all
  each_small : (x : ℕ) → x < length held → get_or values x 0 ≤ sum held
  each_small x l = member_or_not nat_eq nat_is_same nat_same_self x (take place ready)
      (λ m. subst (λ n. n ≤ sum held)
      (sym (done_settled held (weighted_rows funds) fewer_rows turn.rows turn.acyclic values waiting ready place
      turn.passed x m)) (turn.passed.within x m))
      (λ n. small held (weighted_rows funds) fewer_rows turn.rows turn.acyclic values waiting ready place turn.passed x
      l n)

  module _ (next : place < length funds) {fund : ℕ} (at : fund ≡ get_or ready place fund) where
    same_fund : fund ≡ get_or ready place 0
    same_fund = at ∙ at-any ready place fund 0 (one_ready next)

    pub fund_is : fund < length funds
    fund_is =
        let below = fund_below held (weighted_rows funds) fewer_rows turn.rows turn.acyclic values waiting ready place
        turn.passed (one_ready next) in
        omega (arith, below, same_fund, rows_count funds)

    pub fund_small : get_or values fund 0 ≤ sum held
    fund_small = let fewer = turn.fewer in let below : fund < length funds = fund_is in each_small fund (omega arith)

    module _ {kept : Vec (ℕ × ℕ) Global} (is : kept ≡ get_or funds fund kept) {row : Weighted ℕ}
        (lent : row ≡ kept.items) where
      same_row : row ≡ get_or (weighted_rows funds) (get_or ready place 0) []
      same_row = lent ∙ sym (row-at funds fund kept fund_is is) ∙ ap (λ k. get_or (weighted_rows funds) k []) same_fund

      pub row_is : IsRow (length held) row
      row_is = subst (IsRow (length held)) (sym lent) (row_sound (length held) funds fund kept fund_is is turn.rows)

      pub row_counted : (x : ℕ) → times x row ≤ get_or waiting x 0
      row_counted x = subst (λ r. times x r ≤ get_or waiting x 0) (sym same_row)
          (fund_counted held (weighted_rows funds) fewer_rows turn.rows turn.acyclic values waiting ready place
          turn.passed (one_ready next) x)

      module _ {parts : List ℕ} (shared : parts ≡ parts_of (get_or values fund 0) (map (λ c. c.1) row)) where
        pub as_many : length parts ≡ length row
        as_many = ap length shared ∙ parts-count (get_or values fund 0) row

        pub parts_fit : sum held ≤ 5 * 10 ^ 13 → length values ≡ length held
            → All (λ value. value + sum parts < 2 ^ 64) values
        parts_fit most l = All-from_get_or (λ value. value + sum parts < 2 ^ 64) values 0 each
          where
            each : (k : ℕ) → k < length values → get_or values k 0 + sum parts < 2 ^ 64
            each k m =
                let own = each_small k (omega arith) in
                let all = fund_small in
                let given = parts-at_most (get_or values fund 0) row (row_is.positive) in
                omega (arith, own, all, given, ap sum shared)

        pub turn_next : (values' waiting' ready' : List ℕ)
            → ((x : ℕ) → x < length held → get_or values' x 0
            ≡ get_or values x 0 + falling_to nat_eq x (map (λ c. c.0) row) parts)
            → ((x : ℕ) → get_or waiting' x 0 + times x row ≡ get_or waiting x 0)
            → AreReady (length funds) waiting' ready' → take (length ready) ready' ≡ ready
            → Turn held funds values' waiting' ready' (place + 1)
        turn_next values' waiting' ready' added released now front = record {
          fewer = turn.fewer;
          rows = turn.rows;
          acyclic = turn.acyclic;
          passed = passed_next held (weighted_rows funds) fewer_rows turn.rows turn.acyclic values waiting ready place
              turn.passed (one_ready next) values' waiting' ready' parts
              (shared ∙ ap (λ r. parts_of (get_or values fund 0) (map (λ c. c.1) r)) same_row
              ∙ ap (λ k. parts_of (get_or values k 0)
              (map (λ c. c.1) (get_or (weighted_rows funds) (get_or ready place 0) []))) same_fund)
              (λ x l. added x l ∙ ap (λ r. get_or values x 0 + falling_to nat_eq x (map (λ c. c.0) r) parts) same_row)
              (λ x. ap (λ r. get_or waiting' x 0 + times x r) (sym same_row) ∙ released x)
              (subst (λ n. AreReady n waiting' ready') (sym (rows_count funds)) now) front;
        }

  module _ (all_done : place ≡ length funds) (lengths : length values ≡ length held) where
    pub end-values : values ≡ map (worth held (weighted_rows funds)) (range_with_len 0 (length held))
    end-values = ended-values held (weighted_rows funds) fewer_rows turn.rows turn.acyclic values waiting ready place
        turn.passed (all_done ∙ sym (rows_count funds)) lengths

    pub end-within : All (λ value. value ≤ sum held) values
    end-within = ended-within held (weighted_rows funds) fewer_rows turn.rows turn.acyclic values waiting ready place
        turn.passed (all_done ∙ sym (rows_count funds)) lengths

-- none has handed out yet
pub first_turn : (held : List ℕ) (funds : List (Vec (ℕ × ℕ) Global)) (waiting ready : List ℕ)
    → length funds ≤ length held → All (IsRow (length held)) (weighted_rows funds)
    → IsAcyclic (names_in nat_eq (numbered (weighted_rows funds)))
    → ((x : ℕ) → x < length held → get_or waiting x 0 ≡ sum_by (times x) (weighted_rows funds))
    → AreReady (length funds) waiting ready → Turn held funds held waiting ready 0
first_turn held funds waiting ready fewer rows acyclic counted sound = record {
  fewer = fewer;
  rows = rows;
  acyclic = acyclic;
  passed = passed_none held (weighted_rows funds) (omega (arith, fewer, rows_count funds)) rows acyclic waiting ready
      counted (subst (λ n. AreReady n waiting ready) (sym (rows_count funds)) sound);
}
