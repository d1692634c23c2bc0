use Rattle.std.proofs.Common.{◌≡◌, ◌⊎◌, ℕ, Vec, [], ◌+◌, ◌<◌, ◌≤◌, All, Contains, length, inl, inr, sym, subst, ◌∙◌, arith}
use Rattle.std.specs.Global.{Global}
use Rattle.std.proofs.lemmas.Bool.{cases_lt}
use Rattle.std.proofs.lemmas.List.{get_or_past, length-map}
use Rattle.std.proofs.lemmas.List.Elements.{All-contains}
use Rattle.scr_funds.specs.Components.{components_of}
use Rattle.scr_funds.specs.Ranks.{rank_of}
use Rattle.scr_funds.specs.Search.{rows_of}
use Rattle.scr_funds.proofs.Members.{IsMember-from_Contains}
use Rattle.scr_funds.proofs.Ranked.{row_at}
use Rattle.scr_funds.proofs.ranks.are_ranked.Goals as goal

pub loop-fund-preserved : goal.loop-fund-preserved
loop-fund-preserved c = λ fund l. by fund l (cases_lt fund c.loop-fund.fund)
  where
    row : components_of (rows_of c.args.rows.now) c.loop-fund.fund ≡ c.deref.result.now
    row = row_at c.args.rows.now c.loop-fund.fund c.index-rows-fund.result c.loop-fund-test.true c.index-rows-fund.is
        ∙ sym c.deref.ensures.value

    here : All (λ component. rank_of c.args.ranks.now component < rank_of c.args.ranks.now c.loop-fund.fund)
        (components_of (rows_of c.args.rows.now) c.loop-fund.fund)
    here = subst (All (λ component. rank_of c.args.ranks.now component < rank_of c.args.ranks.now c.loop-fund.fund))
        (sym row) (c.is_above.ensures c.if-not-is_above.false)

    by : (fund : ℕ) → fund < c.loop-fund.fund + 1 → (fund < c.loop-fund.fund) ⊎ (c.loop-fund.fund ≤ fund)
        → All (λ component. rank_of c.args.ranks.now component < rank_of c.args.ranks.now fund)
        (components_of (rows_of c.args.rows.now) fund)
    by fund l (inl before) = c.loop-fund.invariant fund before
    by fund l (inr after) =
        let is : c.loop-fund.fund ≡ fund = omega arith in
        subst (λ f. All (λ component. rank_of c.args.ranks.now component < rank_of c.args.ranks.now f)
        (components_of (rows_of c.args.rows.now) f)) is here

pub returns : goal.returns
returns c = λ same holder component h. by holder component h (cases_lt holder (length c.args.rows.now))
  where
    by : (holder component : ℕ) → Contains (components_of (rows_of c.args.rows.now) holder) component
        → (holder < length c.args.rows.now) ⊎ (length c.args.rows.now ≤ holder)
        → rank_of c.args.ranks.now component < rank_of c.args.ranks.now holder
    by holder component h (inl l) =
        All-contains (λ c'. rank_of c.args.ranks.now c' < rank_of c.args.ranks.now holder)
        (components_of (rows_of c.args.rows.now) holder) component
        (c.loop-fund.invariant holder (omega (arith, l, c.loop-fund-test.false))) h
    by holder component h (inr l) =
        let count : length (rows_of c.args.rows.now) ≡ length c.args.rows.now =
        length-map c.args.rows.now (λ (row : Vec ℕ Global). row.items) in
        absurd (IsMember-from_Contains [] component (subst (λ row. Contains row component)
        (get_or_past (rows_of c.args.rows.now) holder [] (omega (arith, count, l))) h))
