-- The sources of a figure of a valid balance sheet are figures of it, and so are those of them that are told.
use Rattle.std.proofs.Common.{◌≡◌, ◌∙◌, ℕ, ◌+◌, ◌≤◌, ◌++◌, List, All, Bool, true, drop, filter, length, length-append, ap, subst, sym, arith}
use Rattle.std.proofs.lemmas.List.Elements.{All-filter, All-from_recursion}
use Rattle.std.proofs.lemmas.List.Sums.{count_by-le-length, length-filter}
use Rattle.scr_factors.specs.Values.{FactorValues}
use Rattle.scr_sheet.specs.declared.sheet.BalanceSheet.{BalanceSheet}
use Rattle.scr_sheet.specs.Validity.{Valid}
use Rattle.scr_nodes.specs.Live.{is_live}
use Rattle.scr_nodes.specs.Sources.{sources_of}
use Rattle.scr_nodes.specs.declared.node.Node.{Node}
use Rattle.scr_nodes.proofs.LiveSources.{sources-live}
use Rattle.scr_explanation.specs.Told.{is_among_largest}

pub all_live : (sheet : BalanceSheet) → Valid sheet → (node : Node) → is_live sheet node ≡ true
    → (sources : List Node) → sources ≡ sources_of sheet node
    → All (λ (n : Node). is_live sheet n ≡ true) sources
all_live sheet valid node live sources are =
    subst (All (λ (n : Node). is_live sheet n ≡ true)) (sym are)
    (All-from_recursion (λ (n : Node). is_live sheet n ≡ true) (sources_of sheet node) (sources-live sheet valid node live))

pub largest_live : (factors : FactorValues) (sheet : BalanceSheet) (top : ℕ) (sources told : List Node)
    → told ≡ filter (is_among_largest factors sheet top sources) sources
    → All (λ (n : Node). is_live sheet n ≡ true) sources
    → All (λ (n : Node). is_live sheet n ≡ true) told
largest_live factors sheet top sources told are live =
    subst (All (λ (n : Node). is_live sheet n ≡ true)) (sym are)
    (All-filter (is_among_largest factors sheet top sources) (λ (n : Node). is_live sheet n ≡ true) sources live)

-- no more are told than there are
pub fewer_so_far : (test : Node → Bool) (sources told : List Node) (i : ℕ)
    → told ++ filter test (drop i sources) ≡ filter test sources → length told ≤ length sources
fewer_so_far test sources told i are =
    let whole : length told + length (filter test (drop i sources)) ≡ length (filter test sources) =
    sym (length-append told (filter test (drop i sources))) ∙ ap length are in
    let most : length (filter test sources) ≤ length sources = rw length-filter (count_by-le-length test sources) in
    omega (arith, whole, most)
