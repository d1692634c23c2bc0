use Rattle.std.proofs.Common.{Vec, List, ℕ, ◌≡◌, ◌<◌, ◌≤◌, ◌+◌, max, All, IfSome, Contains, [], set, length, fold, refl, sym, ap, subst, ◌∙◌, arith}
use Rattle.std.specs.Global.{Global}
use Rattle.std.proofs.lemmas.List.{map-set, length-map}
use Rattle.scr_funds.specs.Components.{Components, components_of, components_with, grown, number_above, size_of, with_edges}
use Rattle.scr_funds.specs.Inside.{IsRankedOrder}
use Rattle.scr_funds.specs.Marks.{with_marks}
use Rattle.scr_funds.specs.Ranks.{AreRanked, AreWithin, IsRanking, rank_of}
use Rattle.scr_funds.specs.Search.{rows_of}
use Rattle.scr_funds.proofs.Marks.{marks_replaced, all_below}
use Rattle.scr_funds.proofs.Members.{IsMember}
use Rattle.scr_funds.proofs.Ranked.{both, marks_of, order_ranked-grown, ranked-lent, within_ranks}
use Rattle.scr_funds.proofs.Rows.{size_of-grown, size_of-with_edges, above_first, above_members, with-own, with_edges-is}
use Rattle.scr_funds.proofs.order.FundOrder.replace.Goals as goal

pub invariant_of-self : goal.invariant_of-self
invariant_of-self c =
    order_ranked-grown (rows_of c.self.inside.rows.items) c.self.inside.marks.items c.self.inside.ranks.items
    c.self.inside.are_ranked c.self.invariant c.grow_marks.new.marks.items c.grow_marks.ensures.keeps
    c.grow_marks.ensures.longer c.self.inside.ranks.items (λ fund. refl) (omega arith)

pub invariant_of-self-in_err-grow_ranks : goal.invariant_of-self-in_err-grow_ranks
invariant_of-self-in_err-grow_ranks c =
    order_ranked-grown (rows_of c.self.inside.rows.items) c.self.inside.marks.items c.self.inside.ranks.items
    c.self.inside.are_ranked c.self.invariant c.grow_marks.new.marks.items c.grow_marks.ensures.keeps
    c.grow_marks.ensures.longer c.grow_ranks.new.ranks.items c.grow_ranks.ensures.same c.grow_ranks.ensures.longer

pub invariant_of-self-in_err-fresh : goal.invariant_of-self-in_err-fresh
invariant_of-self-in_err-fresh c =
    order_ranked-grown (rows_of c.self.inside.rows.items) c.self.inside.marks.items c.self.inside.ranks.items
    c.self.inside.are_ranked c.self.invariant c.grow_marks.new.marks.items c.grow_marks.ensures.keeps
    c.grow_marks.ensures.longer c.grow_ranks.new.ranks.items c.grow_ranks.ensures.same c.grow_ranks.ensures.longer

pub invariant_of-self-in_err-grow : goal.invariant_of-self-in_err-grow
invariant_of-self-in_err-grow c =
    subst (λ all. IsRankedOrder all c.grow_marks.new.marks.items c.grow_ranks.new.ranks.items
    c.self.inside.are_ranked) (sym (ap rows_of c.in_err-grow.ensures.err))
    (order_ranked-grown (rows_of c.self.inside.rows.items) c.self.inside.marks.items c.self.inside.ranks.items
    c.self.inside.are_ranked c.self.invariant c.grow_marks.new.marks.items c.grow_marks.ensures.keeps
    c.grow_marks.ensures.longer c.grow_ranks.new.ranks.items c.grow_ranks.ensures.same c.grow_ranks.ensures.longer)

-- ---- what new ranks are looked for with

pub new_ranks-requires-clause-ranked : goal.new_ranks-requires-clause-ranked
new_ranks-requires-clause-ranked c =
    ranked-lent c.self.inside.rows.items c.deref-2.result.now c.grow_ranks.new.ranks.items c.deref-3.result.now
    c.self.inside.are_ranked c.deref-2.ensures.value c.deref-3.ensures.value
    (order_ranked-grown (rows_of c.self.inside.rows.items) c.self.inside.marks.items c.self.inside.ranks.items
    c.self.inside.are_ranked c.self.invariant c.grow_marks.new.marks.items c.grow_marks.ensures.keeps
    c.grow_marks.ensures.longer c.grow_ranks.new.ranks.items c.grow_ranks.ensures.same
    c.grow_ranks.ensures.longer).ranked

pub new_ranks-requires-clause-within : goal.new_ranks-requires-clause-within
new_ranks-requires-clause-within c =
    subst (λ ranks. AreWithin ranks (components_with c.args.from c.deref-4.result.now (rows_of c.deref-2.result.now)))
    (sym c.deref-3.ensures.value)
    (subst (λ rows. AreWithin c.grow_ranks.new.ranks.items
    (components_with c.args.from c.deref-4.result.now (rows_of rows))) (sym c.deref-2.ensures.value)
    (subst (λ members. AreWithin c.grow_ranks.new.ranks.items
    (components_with c.args.from members (rows_of c.self.inside.rows.items))) (sym c.deref-4.ensures.value)
    (within_ranks (rows_of c.self.inside.rows.items) c.grow_marks.new.marks.items c.grow_ranks.new.ranks.items
    c.self.inside.are_ranked
    (order_ranked-grown (rows_of c.self.inside.rows.items) c.self.inside.marks.items c.self.inside.ranks.items
    c.self.inside.are_ranked c.self.invariant c.grow_marks.new.marks.items c.grow_marks.ensures.keeps
    c.grow_marks.ensures.longer c.grow_ranks.new.ranks.items c.grow_ranks.ensures.same c.grow_ranks.ensures.longer)
    c.args.from c.args.to.items above)))
  where
    size : c.number_above-size.result ≡ number_above c.args.from c.args.to.items
    size = c.number_above-size.ensures ∙ ap (number_above c.args.from) c.deref.ensures.value

    above : number_above c.args.from c.args.to.items ≤ length c.grow_ranks.new.ranks.items
    above = subst (λ n. n ≤ length c.grow_ranks.new.ranks.items) size c.in_ok-grow_ranks.ensures.long

pub new_ranks-requires-clause-fund : goal.new_ranks-requires-clause-fund
new_ranks-requires-clause-fund c =
    let first = above_first c.args.from c.args.to.items in
    let size : c.number_above-size.result ≡ fold max c.args.from c.args.to.items + 1 =
    c.number_above-size.ensures ∙ ap (number_above c.args.from) c.deref.ensures.value in
    let long = c.in_ok-grow_ranks.ensures.long in
    subst (λ ranks. c.args.from < length ranks) (sym c.deref-3.ensures.value) (omega (arith, first, size, long))

pub new_ranks-requires-clause-apart : goal.new_ranks-requires-clause-apart
new_ranks-requires-clause-apart c = λ among.
    let own = subst (λ row. Contains row c.args.from) c.deref-4.ensures.value among in
    c.requires.apart (
      [],
      subst (λ row. Contains row c.args.from)
          (sym (with-own c.args.from c.args.to.items c.args.self.now)) own,
    )

pub new_ranks-requires-clause-none : goal.new_ranks-requires-clause-none
new_ranks-requires-clause-none c = λ never holder among.
    c.was_component-was_component.ensures.none never holder
    (subst (λ all. Contains (components_of all holder) c.args.from)
    (ap rows_of c.deref-2.ensures.value ∙ c.self.view_is) among)

-- ---- what is written

pub mark-requires : goal.mark-requires
mark-requires c =
    subst (All (λ number. number < length c.grow_marks.new.marks.items)) (sym c.deref-5.ensures.value)
    (all_below c.args.to.items (length c.grow_marks.new.marks.items) below)
  where
    size : c.number_above-size.result ≡ fold max c.args.from c.args.to.items + 1
    size = c.number_above-size.ensures ∙ ap (number_above c.args.from) c.deref.ensures.value

    below : (x : ℕ) → IsMember x c.args.to.items → x < length c.grow_marks.new.marks.items
    below x m =
        let most = above_members c.args.from c.args.to.items x m in
        let long = c.in_ok-grow_marks.ensures.long in
        let is = size in
        omega arith

pub index_mut-requires : goal.index_mut-requires
index_mut-requires c =
    let old : Components = rows_of c.self.inside.rows.items in
    let size : length (rows_of c.grow.new.rows.items) ≡ max c.number_above-size.result (length old) =
    ap length c.in_ok-grow.ensures.ok ∙ size_of-grown c.number_above-size.result old in
    let rows : length (rows_of c.grow.new.rows.items) ≡ length c.grow.new.rows.items =
    length-map c.grow.new.rows.items (λ (row : Vec ℕ Global). row.items) in
    let first = above_first c.args.from c.args.to.items in
    let is : c.number_above-size.result ≡ fold max c.args.from c.args.to.items + 1 =
    c.number_above-size.ensures ∙ ap (number_above c.args.from) c.deref.ensures.value in
    omega arith

-- the rows are those of the edges
written : (size from : ℕ) (to : Vec ℕ Global) (old new : List (Vec ℕ Global)) → rows_of new ≡ grown size (rows_of old)
    → size ≡ number_above from to.items → rows_of (set new from to) ≡ with_edges from to.items (rows_of old)
written size from to old new e f =
    map-set (λ (row : Vec ℕ Global). row.items) new from to
    ∙ ap (λ (rows : Components). set rows from to.items) (e ∙ ap (λ n. grown n (rows_of old)) f)

pub returns-clause-ok : goal.returns-clause-ok
returns-clause-ok c =
    written c.number_above-size.result c.args.from c.args.to c.self.inside.rows.items c.grow.new.rows.items
    c.in_ok-grow.ensures.ok (c.number_above-size.ensures ∙ ap (number_above c.args.from) c.deref.ensures.value)
    ∙ ap (with_edges c.args.from c.args.to.items) c.self.view_is

-- the new ranks are those of the rows that are written
pub renew-self-inside-requires : goal.renew-self-inside-requires
renew-self-inside-requires c =
    subst (λ next. IfSome c.in_ok-fresh.fresh (λ fresh. IsRanking next c.grow_ranks.new.ranks.items fresh.entries))
    (sym rows)
    (subst (λ ranks. IfSome c.in_ok-fresh.fresh (λ fresh. IsRanking
    (components_with c.args.from c.deref-4.result.now (rows_of c.deref-2.result.now)) ranks fresh.entries))
    c.deref-3.ensures.value c.in_ok-fresh.ensures)
  where
    rows : components_of (rows_of c.deref-6.result.now)
        ≡ components_with c.args.from c.deref-4.result.now (rows_of c.deref-2.result.now)
    rows = ap (λ rs. components_of (rows_of rs)) c.deref-6.ensures.value
        ∙ ap components_of (written c.number_above-size.result c.args.from c.args.to c.self.inside.rows.items c.grow.new.rows.items
        c.in_ok-grow.ensures.ok (c.number_above-size.ensures ∙ ap (number_above c.args.from) c.deref.ensures.value))
        ∙ with_edges-is c.args.from c.args.to.items (rows_of c.self.inside.rows.items)
        ∙ sym (ap (λ rs. components_with c.args.from c.deref-4.result.now (rows_of rs)) c.deref-2.ensures.value
        ∙ ap (λ members. components_with c.args.from members (rows_of c.self.inside.rows.items)) c.deref-4.ensures.value)

pub invariant_of-self-2 : goal.invariant_of-self-2
invariant_of-self-2 c =
    subst (λ all. IsRankedOrder all c.mark.new.marks.items c.renew-self-inside.new.ranks.items
    c.renew-self-inside.result) (sym (returns-clause-ok c))
    (subst (λ ms. IsRankedOrder (with_edges c.args.from c.args.to.items c.args.self.now) ms
    c.renew-self-inside.new.ranks.items c.renew-self-inside.result)
    (sym (c.mark.ensures ∙ ap (λ numbers. with_marks numbers c.grow_marks.new.marks.items) c.deref-5.ensures.value))
    (both (with_edges c.args.from c.args.to.items c.args.self.now)
    (with_marks c.args.to.items c.grow_marks.new.marks.items) c.renew-self-inside.new.ranks.items
    c.renew-self-inside.result
    (marks_replaced c.args.self.now c.grow_marks.new.marks.items
    (marks_of c.args.self.now c.grow_marks.new.marks.items c.grow_ranks.new.ranks.items c.self.inside.are_ranked grown)
    c.args.from c.args.to.items c.requires.apart
    (subst (λ n. n ≤ length c.grow_marks.new.marks.items) size c.in_ok-grow_marks.ensures.long))
    (λ on. subst (λ all. AreRanked (components_of all) (rank_of c.renew-self-inside.new.ranks.items))
    (ap rows_of c.deref-6.ensures.value ∙ returns-clause-ok c) (c.renew-self-inside.ensures.ranked on))
    places))
  where
    size : c.number_above-size.result ≡ number_above c.args.from c.args.to.items
    size = c.number_above-size.ensures ∙ ap (number_above c.args.from) c.deref.ensures.value

    grown : IsRankedOrder c.args.self.now c.grow_marks.new.marks.items c.grow_ranks.new.ranks.items
        c.self.inside.are_ranked
    grown = subst (λ all. IsRankedOrder all c.grow_marks.new.marks.items c.grow_ranks.new.ranks.items
        c.self.inside.are_ranked) c.self.view_is
        (order_ranked-grown (rows_of c.self.inside.rows.items) c.self.inside.marks.items c.self.inside.ranks.items
        c.self.inside.are_ranked c.self.invariant c.grow_marks.new.marks.items c.grow_marks.ensures.keeps
        c.grow_marks.ensures.longer c.grow_ranks.new.ranks.items c.grow_ranks.ensures.same
        c.grow_ranks.ensures.longer)

    places : size_of (with_edges c.args.from c.args.to.items c.args.self.now)
        ≤ length c.renew-self-inside.new.ranks.items
    places =
        let all : size_of c.args.self.now ≤ length c.grow_ranks.new.ranks.items = grown.places in
        let own : number_above c.args.from c.args.to.items ≤ length c.grow_ranks.new.ranks.items =
        subst (λ n. n ≤ length c.grow_ranks.new.ranks.items) size c.in_ok-grow_ranks.ensures.long in
        let long : length c.renew-self-inside.new.ranks.items ≡ length c.grow_ranks.new.ranks.items =
        c.renew-self-inside.ensures.long in
        omega (arith, all, own, long, size_of-with_edges c.args.from c.args.to.items c.args.self.now)

pub returns-clause-order : goal.returns-clause-order
returns-clause-order c = (invariant_of-self-2 c).order
