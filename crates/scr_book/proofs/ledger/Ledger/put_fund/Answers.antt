use Rattle.std.proofs.Common.{refl, ◌≡◌, ℕ, ℤ, ◌+◌, ◌-◌, Bool, true, false, cond, List, [], length, map, sym, ap, subst, ◌∙◌, arith}
use Rattle.std.specs.Option.{option_map_or}
use Rattle.scr_funds.specs.Chains.{LeadsTo}
use Rattle.scr_fund_graph.specs.Graph.{Graph, components_under, components_after}
use Rattle.scr_tables.specs.Names.{same_name}
use Rattle.scr_sheet.specs.BalanceSheet.{stake_name}
use Rattle.scr_sheet.specs.declared.sheet.BalanceSheet.{BalanceSheet}
use Rattle.scr_tables.specs.Tables.{row_of, has_row, with_row}
use Rattle.scr_sheet.specs.Records.{applied}
use Rattle.scr_sheet.specs.declared.rows.Stake.{Stake}
use Rattle.scr_sheet.proofs.Sums.{components-part}
use Rattle.scr_book.specs.Kept.{IsKept}
use Rattle.scr_book.specs.Holders.{IsGraphOf}
use Rattle.scr_book.specs.declared.ledger.Ledger.TheInside.{Inside}
use Rattle.scr_sheet.specs.declared.edit.Edit.{Edit}
use Rattle.scr_sheet.specs.declared.edit.Edit.TheVariants as edits
use Rattle.scr_book.proofs.Moved.{components_part, sums-fund}
use Rattle.scr_book.proofs.Applied.{sums_now, days_kept, kept-graph, kept-whole}
use Rattle.scr_book.proofs.Holders.{graph-fund, graph-undone, no_cycle_after}
use Rattle.scr_book.proofs.ledger.Ledger.put_fund.Goals as goal

-- the graph of the sheet that is kept is that of the sheet which contracts see
anew : (kept now : BalanceSheet) (graph : Graph) → kept ≡ now → IsGraphOf kept graph → IsGraphOf now graph
anew kept now graph is of_kept = subst (λ (s : BalanceSheet). IsGraphOf s graph) is of_kept

pub put-requires : goal.put-requires
put-requires c =
    let name = c.args.name.now in
    subst (λ (xs : List (List ℕ × ℤ)). ¬ LeadsTo (components_after name xs c.refresh.new.graph) name name) (sym (c.as_slice-2.ensures ∙ c.in_ok-components.ensures))
    (no_cycle_after c.args.self.now c.refresh.new.graph (anew c.self.inside.sheet c.args.self.now c.refresh.new.graph c.self.view_is c.in_ok-refresh.ensures.ok) name c.args.components.now c.requires.no_fault)

pub invariant_of-self-in_err-put : goal.invariant_of-self-in_err-put
invariant_of-self-in_err-put c =
    let graph = anew c.self.inside.sheet c.args.self.now c.refresh.new.graph c.self.view_is c.in_ok-refresh.ensures.ok in
    subst (λ (g : Graph). IsKept (record c.self.inside { graph = g })) (sym c.in_err-put.ensures.err) (kept-graph c.self.inside c.args.self.now c.self.view_is c.self.invariant c.refresh.new.graph (λ fresh. graph))

pub invariant_of-self-in_default : goal.invariant_of-self-in_default
invariant_of-self-in_default c =
    let sheet = c.args.self.now in
    let name = c.args.name.now in
    let fresh : has_row stake_name name sheet.funds ≡ false = ap (λ (s : BalanceSheet). has_row stake_name name s.funds) (sym c.self.view_is) ∙ c.in_default.ensures.new_name in
    let cleared : (x : List ℕ) → (b : Bool) → same_name x name ≡ b → components_under c.clear.new.self x ≡ cond b [] (components_under c.put.new.self x) =
    λ x b e. (λ i. c.clear.ensures.components i x) ∙ ap (λ (t : Bool). cond t [] (components_under c.put.new.self x)) e in
    let others : (x : List ℕ) → same_name x name ≡ false → components_under c.clear.new.self x ≡ components_under c.refresh.new.graph x =
    λ x e. cleared x false e ∙ (λ i. c.in_ok-put.ensures.ok i x) ∙ ap (λ (t : Bool). cond t (map (λ p. p.0) c.as_slice-2.result.now) (components_under c.refresh.new.graph x)) e in
    let undone = graph-undone sheet c.refresh.new.graph c.clear.new.self (anew c.self.inside.sheet c.args.self.now c.refresh.new.graph c.self.view_is c.in_ok-refresh.ensures.ok) name fresh (λ x e. cleared x true e) others in
    subst (λ (rows : List Stake). IsKept (record c.self.inside { sheet = record c.self.inside.sheet { funds = rows }; graph = c.clear.new.self })) (sym c.in_default.ensures.err)
    (kept-graph c.self.inside sheet c.self.view_is c.self.invariant c.clear.new.self (λ fresh. undone))

kept : (c : goal.After-self-2-1) → let components : ℕ = c.self.inside.sums.components - c.component_count-old.result + length c.as_slice.result.now in
    let new : Inside = record c.self.inside { sheet = record c.self.inside.sheet { funds = c.put-2.new.self }; graph = c.put.new.self; is_graph_due = false; sums = record c.self.inside.sums { components = components } } in
    IsKept new × (new.sheet ≡ applied (edits.Fund c.args.name.now c.args.components.now) c.args.self.now)
kept c =
    let sheet = c.args.self.now in
    let name = c.args.name.now in
    let components : ℕ = c.self.inside.sums.components - c.component_count-old.result + length c.as_slice.result.now in
    let new : Inside = record c.self.inside { sheet = record c.self.inside.sheet { funds = c.put-2.new.self }; graph = c.put.new.self; is_graph_due = false; sums = record c.self.inside.sums { components = components } } in
    let edit : Edit = edits.Fund name c.args.components.now in
    let rows : List (List ℕ × ℤ) → ℕ → List Stake = λ parts held. with_row stake_name (record { fund = record { name = name; components = parts }; held = held }) c.self.inside.sheet.funds in
    let held : c.fund_hold-held.result ≡ option_map_or (λ s. s.held) (row_of stake_name name c.self.inside.sheet.funds) 0 =
    c.fund_hold-held.ensures in
    let count : length c.as_slice.result.now ≡ length c.args.components.now = ap length (c.as_slice.ensures ∙ c.in_ok-components.ensures) in
    let sum : components ≡ c.self.inside.sums.components - components_part name sheet + length c.args.components.now =
    ap (λ n. c.self.inside.sums.components - n + length c.as_slice.result.now) c.component_count-old.ensures.value
    ∙ ap (λ n. c.self.inside.sums.components - components_part name sheet + n) count in
    kept-whole c.self.inside new sheet c.self.view_is c.self.invariant edit c.requires.formed c.requires.no_fault
    (ap (λ funds. record c.self.inside.sheet { funds = funds })
    (c.in-Ok.ensures.ok ∙ ap (λ parts. rows parts c.fund_hold-held.result) c.in_ok-components.ensures ∙ ap (rows c.args.components.now) held))
    (sums-fund name c.args.components.now sheet c.self.inside.sums components (sums_now c.self.inside sheet c.self.view_is c.self.invariant) sum)
    (days_kept c.self.inside new sheet c.self.view_is c.self.invariant edit c.requires.formed c.requires.no_fault refl)
    (λ fresh. graph-fund sheet c.refresh.new.graph c.put.new.self (anew c.self.inside.sheet c.args.self.now c.refresh.new.graph c.self.view_is c.in_ok-refresh.ensures.ok) name c.args.components.now
    (c.in_ok-put.ensures.ok ∙ ap (λ (xs : List (List ℕ × ℤ)). components_after name xs c.refresh.new.graph) (c.as_slice-2.ensures ∙ c.in_ok-components.ensures)))

pub overflow_sub-self : goal.overflow_sub-self
overflow_sub-self c =
    let are = sums_now c.self.inside c.args.self.now c.self.view_is c.self.invariant in
    omega (arith, are.components, components-part c.args.name.now c.args.self.now, c.component_count-old.ensures.value)

pub invariant_of-self-2 : goal.invariant_of-self-2
invariant_of-self-2 c = (kept c).0

pub returns-clause-ok : goal.returns-clause-ok
returns-clause-ok c = (kept c).1
