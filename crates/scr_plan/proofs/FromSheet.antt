-- What leads to what is touched in the graph of the balance sheet leads there in that of the book.
use Rattle.std.proofs.Common.{◌≡◌, ◌↔◌, ◌⊎◌, inl, inr, ℕ, ◌<◌, Bool, true, false, ◌||◌, Contains, List, ◌++◌, Option, Some, None, is_some, filter, length, map, refl, sym, ap, ap₂, subst, ◌∙◌}
use Rattle.std.specs.List.{position_or_len}
use Rattle.std.proofs.lemmas.Bool.Decides.{Decides-eqb}
use Rattle.std.proofs.lemmas.List.{length-map}
use Rattle.std.proofs.lemmas.Option.{same_Some}
use Rattle.scr_funds.proofs.Members.{Contains-from_IsMember, IsMember, IsMember-cases, IsMember-from_Contains, IsMember-map, IsMember-mapped}
use Rattle.scr_tables.specs.Names.{same_name}
use Rattle.scr_member_lists.specs.Members.{moved}
use Rattle.scr_member_lists.proofs.Settled.{moved-same}
use Rattle.scr_sum_tree.specs.Blocks.{is_block, top_count}
use Rattle.scr_sum_tree.specs.declared.blocks.Level.{Level}
use Rattle.scr_sum_tree.proofs.ChangedLists.{coming-listed, leaving-listed}
use Rattle.scr_factors.specs.Values.{FactorValues}
use Rattle.scr_sheet.specs.BalanceSheet.{position_name}
use Rattle.scr_sheet.specs.Members.{edit_name, is_member}
use Rattle.scr_sheet.specs.declared.edit.Edit.{Edit}
use Rattle.scr_nodes.specs.Changed.{IsChanged}
use Rattle.scr_nodes.specs.Live.{is_live}
use Rattle.scr_nodes.specs.Own.Own.{Foreign}
use Rattle.scr_nodes.specs.OwnOf.{own_of}
use Rattle.scr_nodes.specs.Rows.{is_held_in}
use Rattle.scr_nodes.specs.Sources.{sources_of}
use Rattle.scr_nodes.specs.declared.node.Measure.TheVariants as measures
use Rattle.scr_nodes.specs.declared.node.Node.{Node}
use Rattle.scr_nodes.specs.declared.node.Node.TheVariants as nodes
use Rattle.scr_nodes.specs.declared.node.OfCurrency.TheVariants as of_currencies
use Rattle.scr_nodes.specs.declared.node.OfGroup.TheVariants as of_groups
use Rattle.scr_nodes.specs.declared.node.Whole.TheVariants as wholes
use Rattle.scr_reachability.specs.Leading.{Leads}
use Rattle.scr_reachability.specs.Leading.Leads.{touched, above}
use Rattle.scr_block_graph.specs.Changed.{IsSameIn}
use Rattle.scr_block_graph.specs.Graph.{IsRoll, Rolled, block_point, listed, member_point, reads, roll_in, tops_of}
use Rattle.scr_block_graph.specs.Sums.{first_sum, member_of, names_listed, roll_of, second_sum}
use Rattle.scr_block_graph.specs.Told.{is_kept}
use Rattle.scr_block_graph.specs.Touched.{IsTouchedIn, applied_in}
use Rattle.scr_block_graph.specs.Turns.{changed_blocks, changed_by, count_after, step_of, turn_of}
use Rattle.scr_block_graph.specs.declared.point.Point.{Point}
use Rattle.scr_block_graph.specs.declared.point.Point.TheVariants as points
use Rattle.scr_block_graph.specs.declared.sum.Sum.{Sum}
use Rattle.scr_block_graph.specs.declared.sum.Sum.TheVariants as sums
use Rattle.scr_block_graph.proofs.Apart.{points-apart}
use Rattle.scr_block_graph.proofs.Fewer.{member-at}
use Rattle.scr_block_graph.proofs.Kept.{plain-out, same-still, sources-plain, still-same}
use Rattle.scr_block_graph.proofs.Listed.{sources-listed}
use Rattle.scr_block_graph.proofs.Lives.{is-named, named}
use Rattle.scr_block_graph.proofs.Members.{listed-members}
use Rattle.scr_block_graph.proofs.Regroup.{summed-same}
use Rattle.scr_block_graph.proofs.Steps.{there}
use Rattle.scr_block_graph.proofs.Turned.{length-after, tops-stay, turned-told}
use Rattle.scr_plan.specs.Ways.{AreKept, IsFigureReached, IsPointReached, book_graph, sheet_graph}
use Rattle.scr_plan.proofs.Alike.{live-reads}
use Rattle.scr_plan.proofs.Lists.{after-rolls}
use Rattle.scr_plan.proofs.Rows.{names-stay}
use Rattle.scr_plan.proofs.Stale.{comes, leaves}
use Rattle.scr_plan.proofs.ToSheet.{figure-way}
use Rattle.scr_plan.proofs.Up.{Reads, block-up, member-up}

last-holds : (a b : Bool) → a ≡ b → (a || b) ≡ true → b ≡ true
last-holds true b e h = sym e
last-holds false b e h = h

module _ (factors : FactorValues) (edit : Edit) (book : Rolled) (kept : AreKept edit book) where
  abbrev later : Rolled
  later = applied_in edit book

  abbrev IsLedIn : Point → Type 0
  IsLedIn point = Leads (book_graph later) (IsTouchedIn factors book edit) point

  own-roll : (sum : Sum) → IsRoll book (roll_of sum)
  own-roll sum = record { members = kept.rolls.members (roll_of sum); once = kept.rolls.once (roll_of sum) }

  -- ---- where the lists of its sums stay, a figure does

  listed-stays : (sum : Option Sum) → ((s : Sum) → sum ≡ Some s → roll_in book s ≡ roll_in later s) → listed book.sheet sum ≡ listed later.sheet sum
  listed-stays None stay = refl
  listed-stays (Some sum) stay = ap (map (member_of sum)) (names-stay edit book kept sum (stay sum refl))

  own-stays : (node : Node) → is_some (first_sum node) ≡ true → ((s : Sum) → first_sum node ≡ Some s → roll_in book s ≡ roll_in later s)
      → own_of factors book.sheet node ≡ own_of factors later.sheet node
  own-stays (nodes.Group name of_groups.Total) summed stay = refl
  own-stays (nodes.Currency currency (of_currencies.Loss direction)) summed stay = refl
  own-stays (nodes.Currency currency (of_currencies.Scenario direction measures.Gross)) summed stay =
      ap (Foreign direction)
      (sym (length-map (filter (is_held_in currency) book.sheet.securities) position_name)
      ∙ ap length (names-stay edit book kept (sums.Assets currency) (stay (sums.Assets currency) refl))
      ∙ length-map (filter (is_held_in currency) later.sheet.securities) position_name)
  own-stays (nodes.Whole (wholes.ClassSum class)) summed stay = refl
  own-stays (nodes.Whole wholes.Spread) summed stay = refl
  own-stays (nodes.Whole wholes.Assets) summed stay = refl
  own-stays (nodes.Whole wholes.Concentration) summed stay = refl
  own-stays (nodes.Whole (wholes.BioScenario biometric projection measures.Gross)) summed stay = refl
  own-stays node summed stay = absurd (cc)

  -- ---- where the list of a sum moves and what is left at its top stays, a Block changes that leads to it

  module _ (sum : Sum) (node : Node) (reader : Reads node sum) (was : reads book.sheet sum ≡ true) (is : reads later.sheet sum ≡ true)
      (tops : tops_of book (Some sum) ≡ tops_of later (Some sum)) where
    abbrev roll : List (List ℕ)
    roll = roll_in book sum

    abbrev name : List ℕ
    name = edit_name edit

    abbrev place : ℕ
    place = position_or_len (same_name name) roll

    abbrev member : Bool
    member = is_member (roll_of sum) name book.sheet

    abbrev member-then : Bool
    member-then = is_member (roll_of sum) name later.sheet

    stays : (b : Bool) → member ≡ b → member-then ≡ b → roll ≡ roll_in later sum
    stays b e d = sym (moved-same name member roll) ∙ ap (λ t. moved name member t roll) (e ∙ sym d)

    module _ (w v : Bool) (e : member ≡ w) (d : member-then ≡ v) where
      turned : step_of member member-then place ≡ step_of w v place
      turned = λ k. step_of (e k) (d k) place

      same-count : top_count (length roll) ≡ top_count (count_after (length roll) (step_of w v place))
      same-count =
          (Decides-eqb (top_count (length roll)) (top_count (count_after (length roll) (step_of member member-then place)))).0
          ((tops-stay edit book sum (own-roll sum)).1 tops)
          ∙ ap (λ s. top_count (count_after (length roll) s)) turned

      are-changed : (level : Level) → changed_blocks (turn_of edit book sum) level ≡ changed_by true true (length roll) (step_of w v place) level
      are-changed level = λ k. changed_by (was k) (is k) (length roll) (turned k) level

      changed-up : (level : Level) (i : ℕ) → Contains (changed_by true true (length roll) (step_of w v place) level) i
          → is_block (count_after (length roll) (step_of w v place)) level i ≡ true → IsLedIn (points.Figure node)
      changed-up level i h block =
          block-up later (after-rolls edit book kept.rolls) (IsTouchedIn factors book edit) sum level i
          (ap (λ n. is_block n level i) (length-after edit book sum (own-roll sum) ∙ ap (count_after (length roll)) turned) ∙ block)
          (touched (block_point sum level i)
          ((turned-told edit book sum (own-roll sum) factors level i).0 (subst (λ list. Contains list i) (sym (are-changed level)) h)))
          node reader

    pub moves-up : (roll ≡ roll_in later sum) ⊎ IsLedIn (points.Figure node)
    moves-up = by member refl member-then refl
      where
        by : (w : Bool) → member ≡ w → (v : Bool) → member-then ≡ v → (roll ≡ roll_in later sum) ⊎ IsLedIn (points.Figure node)
        by true e true d = inl (stays true e d)
        by false e false d = inl (stays false e d)
        by false e true d =
            let block = comes (length roll) (same-count false true e d) in
            inr (changed-up false true e d block.0 block.1 ((coming-listed (length roll) block.0 block.1).0 block.2) block.3)
        by true e false d =
            let within : place < length roll =
            there (member_point sum) (block_point sum) (points-apart sum) roll (own-roll sum).once name ((own-roll sum).members name ∙ e) in
            let block = leaves (length roll) place within (same-count true false e d) in
            inr (changed-up true false e d block.0 block.1 ((leaving-listed (length roll) place within block.0 block.1).0 block.2) block.3)

  -- ---- a figure that the record touches in the balance sheet

  module _ (node : Node) (sum : Sum) (first : first_sum node ≡ Some sum) (changed : IsChanged factors book.sheet later.sheet node)
      (same : IsSameIn factors book later (points.Figure node)) where
    summed : is_some (first_sum node) ≡ true
    summed = ap is_some first

    live-then : is_live later.sheet node ≡ true
    live-then = last-holds (is_live book.sheet node) (is_live later.sheet node) same.live changed.live

    tops-same : (tops_of book (first_sum node) ≡ tops_of later (first_sum node)) × (tops_of book (second_sum node) ≡ tops_of later (second_sum node))
    tops-same = (summed-same factors book later node summed same.live).0 same

    of-sum : (s : Sum) (reader : Reads node s) → (roll_in book s ≡ roll_in later s) ⊎ IsLedIn (points.Figure node)
    of-sum s reader =
        moves-up s node reader (sym (live-reads book.sheet node s reader) ∙ same.live ∙ live-then) (sym (live-reads later.sheet node s reader) ∙ live-then)
        (by reader)
      where
        by : Reads node s → tops_of book (Some s) ≡ tops_of later (Some s)
        by (inl e) = subst (λ o. tops_of book o ≡ tops_of later o) e tops-same.0
        by (inr e) = subst (λ o. tops_of book o ≡ tops_of later o) e tops-same.1

    of-option : (o : Option Sum) → ((s : Sum) → o ≡ Some s → Reads node s)
        → ((s : Sum) → o ≡ Some s → roll_in book s ≡ roll_in later s) ⊎ IsLedIn (points.Figure node)
    of-option None reader = inl (λ s e. absurd (cc))
    of-option (Some s) reader = by (of-sum s (reader s refl))
      where
        by : (roll_in book s ≡ roll_in later s) ⊎ IsLedIn (points.Figure node)
            → ((t : Sum) → Some s ≡ Some t → roll_in book t ≡ roll_in later t) ⊎ IsLedIn (points.Figure node)
        by (inl stay) = inl (λ t e. subst (λ u. roll_in book u ≡ roll_in later u) (same_Some s t e) stay)
        by (inr led) = inr led

    still-up : IsLedIn (points.Figure node)
    still-up = by (of-option (first_sum node) (λ s e. inl e)) (of-option (second_sum node) (λ s e. inr e))
      where
        by : ((s : Sum) → first_sum node ≡ Some s → roll_in book s ≡ roll_in later s) ⊎ IsLedIn (points.Figure node)
            → ((s : Sum) → second_sum node ≡ Some s → roll_in book s ≡ roll_in later s) ⊎ IsLedIn (points.Figure node)
            → IsLedIn (points.Figure node)
        by (inr led) two = led
        by (inl one) (inr led) = led
        by (inl one) (inl two) = absurd (changed.changed (record {
          live = same.live;
          own = own-stays node summed one;
          sources = sources-listed book.sheet node summed ∙ ap₂ (λ xs ys. xs ++ ys) (listed-stays (first_sum node) one) (listed-stays (second_sum node) two)
              ∙ sym (sources-listed later.sheet node summed);
        }))

  start : (node : Node) → IsChanged factors book.sheet later.sheet node → IsLedIn (points.Figure node)
  start node changed = by (first_sum node) refl
    where
      by : (o : Option Sum) → first_sum node ≡ o → IsLedIn (points.Figure node)
      by None none =
          touched (points.Figure node)
          (record { live = changed.live; changed = λ same. changed.changed (plain-out factors edit book node none same) })
      by (Some sum) first = told (is_kept edit book node) refl
        where
          have : (s : Sum) → Reads node s → IsRoll book (roll_of s)
          have s reader = own-roll s

          told : (t : Bool) → is_kept edit book node ≡ t → IsLedIn (points.Figure node)
          told true e = touched (points.Figure node) (record {
            live = changed.live;
            changed = λ same. (let never : true ≡ false = sym e ∙ same-still factors edit book kept.valid kept.valid_after node sum first have same in absurd (cc));
          })
          told false e = still-up node sum first changed (still-same factors edit book kept.valid kept.valid_after node sum first have e)

  -- ---- a figure with a source that leads there

  listed-up : (node : Node) (sum : Option Sum) → ((s : Sum) → sum ≡ Some s → Reads node s) → (source : Node)
      → IsMember source (listed later.sheet sum) → IsLedIn (points.Figure source) → IsLedIn (points.Figure node)
  listed-up node None reader source h led = absurd h
  listed-up node (Some sum) reader source h led =
      let x = IsMember-map (member_of sum) (names_listed later.sheet sum) source h in
      let here : IsMember x.0 (roll_in later sum) =
      named x.0 (roll_in later sum)
      ((after-rolls edit book kept.rolls).members (roll_of sum) x.0 ∙ sym (listed-members later.sheet kept.valid_after sum x.0)
      ∙ is-named x.0 (names_listed later.sheet sum) x.1) in
      let at = member-at x.0 (roll_in later sum) here in
      member-up later (after-rolls edit book kept.rolls) (IsTouchedIn factors book edit) sum at.0 x.0 at.2
      (subst (λ y. IsLedIn (points.Figure y)) (sym x.2) led) node (reader sum refl)

  step : (node source : Node) → Contains (sources_of later.sheet node) source → IsLedIn (points.Figure source) → IsLedIn (points.Figure node)
  step node source h led = by (first_sum node) refl
    where
      own : IsMember source (sources_of later.sheet node)
      own = IsMember-from_Contains (sources_of later.sheet node) source h

      by : (o : Option Sum) → first_sum node ≡ o → IsLedIn (points.Figure node)
      by None none =
          above (points.Figure node) (points.Figure source)
          (subst (λ list. Contains list (points.Figure source)) (sym (sources-plain later node none))
          (Contains-from_IsMember (map points.Figure (sources_of later.sheet node)) (points.Figure source)
          (IsMember-mapped points.Figure (sources_of later.sheet node) source own))) led
      by (Some sum) first =
          either (IsMember-cases (listed later.sheet (first_sum node)) (listed later.sheet (second_sum node)) source
          (subst (IsMember source) (sources-listed later.sheet node (ap is_some first)) own))
        where
          either : IsMember source (listed later.sheet (first_sum node)) ⊎ IsMember source (listed later.sheet (second_sum node))
              → IsLedIn (points.Figure node)
          either (inl one) = listed-up node (first_sum node) (λ s e. inl e) source one led
          either (inr two) = listed-up node (second_sum node) (λ s e. inr e) source two led

  pub ways-back : (node : Node) → Leads (sheet_graph later.sheet) (IsChanged factors book.sheet later.sheet) node → IsLedIn (points.Figure node)
  ways-back _ (touched node changed) = start node changed
  ways-back _ (above node source h rest) = step node source h (ways-back source rest)

  -- so a figure is in reach in one graph where it is in the other
  pub figure-reached : (node : Node) → IsPointReached factors book edit (points.Figure node) ↔ IsFigureReached factors book.sheet edit node
  figure-reached node = (
    λ reached. record { live = reached.live; leads = figure-way factors edit book kept node reached.leads },
    λ reached. record { live = reached.live; leads = ways-back node reached.leads },
  )
