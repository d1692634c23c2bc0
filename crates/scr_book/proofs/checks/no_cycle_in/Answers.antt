use Rattle.std.proofs.Common.{◌≡◌, ℕ, ℤ, ◌≤◌, Vec, Global, Result, Err, List, [], length, map, Contains, ap, subst}
use Rattle.std.specs.Option.{option_map}
use Rattle.scr_funds.specs.Paths.{path_within}
use Rattle.scr_fund_graph.specs.Answers.{Answers as Told}
use Rattle.scr_fund_graph.specs.Graph.{Graph, components_under, components_after}
use Rattle.scr_fund_graph.specs.declared.fault.GraphFault.{GraphFault}
use Rattle.scr_tables.specs.Names.{same_name}
use Rattle.scr_sheet.specs.BalanceSheet.{stake_name, components_of}
use Rattle.scr_sheet.specs.Records.{with_fund}
use Rattle.scr_sheet.specs.declared.fault.Fault.TheVariants as faults
use Rattle.scr_sheet.specs.declared.sheet.BalanceSheet.{BalanceSheet}
use Rattle.scr_book.specs.Holders.{IsGraphOf}
use Rattle.scr_sheet.specs.declared.rows.Stake.{Stake}
use Rattle.scr_book.proofs.Holders.{after_is, holders_after, holders_count}
use Rattle.scr_book.proofs.checks.no_cycle_in.Goals as goal

-- what the graph answers, of components read as a slice, is what the funds of the sheet say
told : {A : Type 0} (sheet : BalanceSheet) (graph : Graph) (is : IsGraphOf sheet graph) (name : List ℕ) (components read : List (List ℕ × ℤ)) (result : Result A GraphFault) → read ≡ components
    → ((most : ℕ) (holders : List (List ℕ)) → ((x : List ℕ) → ¬ (components_after name read graph x ≡ []) → Contains holders x) → length holders ≤ most → Told (path_within same_name (components_after name read graph) most name name) result)
    → let funds : List Stake = with_fund name components sheet.funds in Told (path_within same_name (components_of funds) (length funds) name name) result
told sheet graph is name components read result same answer =
    let funds : List Stake = with_fund name components sheet.funds in
    let answer_on : (most : ℕ) (holders : List (List ℕ)) → ((x : List ℕ) → ¬ (components_after name components graph x ≡ []) → Contains holders x) → length holders ≤ most
    → Told (path_within same_name (components_after name components graph) most name name) result =
    subst (λ (xs : List (List ℕ × ℤ)). (most : ℕ) (holders : List (List ℕ)) → ((x : List ℕ) → ¬ (components_after name xs graph x ≡ []) → Contains holders x) → length holders ≤ most
    → Told (path_within same_name (components_after name xs graph) most name name) result)
    same answer in
    subst (λ f. Told (path_within same_name f (length funds) name name) result) (after_is sheet.funds (components_under graph) is.components name components)
    (answer_on (length funds) (map stake_name funds) (holders_after sheet graph is name components) (holders_count sheet graph is name components))

pub returns-in-Ok : goal.returns-in-Ok
returns-in-Ok c =
    let sheet = c.args.sheet.now in
    let is = c.requires.graph in
    let all = told sheet c.args.graph.now is c.args.name.now c.args.components.now c.as_slice.result.now c.check.result c.as_slice.ensures c.check.ensures.answer in
    let funds : List Stake = with_fund c.args.name.now c.args.components.now sheet.funds in
    ap (option_map (λ path. faults.Cycle path)) (subst (Told (path_within same_name (components_of funds) (length funds) c.args.name.now c.args.name.now)) c.in-Ok.is all)

pub returns-in-Err-Cycle : goal.returns-in-Err-Cycle
returns-in-Err-Cycle c =
    let sheet = c.args.sheet.now in
    let is = c.requires.graph in
    let all = told sheet c.args.graph.now is c.args.name.now c.args.components.now c.as_slice.result.now c.check.result c.as_slice.ensures c.check.ensures.answer in
    let funds : List Stake = with_fund c.args.name.now c.args.components.now sheet.funds in
    let due = path_within same_name (components_of funds) (length funds) c.args.name.now c.args.name.now in
    ap (option_map (λ path. faults.Cycle path)) (subst (λ fault. Told {A = Vec ℕ Global} due (Err fault)) c.in-Err-Cycle.field-0-is (subst (Told due) c.in-Err-Cycle.is all))
