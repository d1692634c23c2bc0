-- The numbers that are read off tables are those of the figures that are.
use Rattle.std.proofs.Common.{◌≡◌, ℕ, suc, ◌+◌, Bool, true, cond, List, [], ◌∷◌, ◌++◌, map, filter, take, Some, option_map, slice_get, refl, sym, ap, subst, ◌∙◌, arith, append_assoc}
use Rattle.std.specs.List.{AllByRecursion, AllZip}
use Rattle.std.proofs.lemmas.List.{take_more}
use Rattle.std.proofs.lemmas.Option.{get_or_from_slice_get, slice_get-map, slice_get_within}
use Rattle.scr_tables.proofs.TableRows.{passes_or_fails}
use Rattle.scr_ids.specs.Ranges.{Numbered, first}
use Rattle.scr_ids.specs.declared.table.Table.TheVariants as tables
use Rattle.scr_sheet.specs.BalanceSheet.{curve_name, group_name, liability_name, position_name, stake_name}
use Rattle.scr_sheet.specs.Validity.{Valid}
use Rattle.scr_sheet.specs.declared.sheet.BalanceSheet.{BalanceSheet}
use Rattle.scr_nodes.specs.Live.{is_live}
use Rattle.scr_nodes.specs.Selections.{currency_figure, fund_figure, group_figure, is_counted, is_counterparty, is_currency, is_holder, is_obligation, liability_figure, security_figure, selected}
use Rattle.scr_nodes.specs.Sources.{words_of}
use Rattle.scr_nodes.specs.Table.{first_of, second_of}
use Rattle.scr_nodes.specs.declared.{node.Node.Node, node.Whole.Whole, selections.Selection.Selection}
use Rattle.scr_nodes.specs.declared.node.Node.TheVariants as nodes
use Rattle.scr_nodes.specs.declared.node.OfSecurity.TheVariants as of_securities
use Rattle.scr_nodes.specs.declared.selections.Selection.TheVariants as selections
use Rattle.scr_nodes.proofs.LiveSources.{sources-live}
use Rattle.scr_nodes.proofs.Selected.{selected-currencies, selected-groups, selected-liabilities, sources-selected}
use Rattle.scr_figure_ids.specs.Families.{currency_family, family_of, fund_family, group_family, liability_family, name_of, security_family, table_of}
use Rattle.scr_figure_ids.specs.Numbers.{IsNumbered, StandsAt, names_in}
use Rattle.scr_figure_ids.proofs.Live.{live-stands}
use Rattle.scr_figure_ids.proofs.Standing.{stands}
use Rattle.scr_figure_ids.specs.Places.{places_where}
use Rattle.scr_figure_ids.specs.SourceNumbers.{AreAllPushed, ArePushed, are_live, is_total, selected_numbers}

-- ---- lists side by side

pub zip-append : {A B : Type 0} (R : A → B → Type 0) (xs us : List A) (ys vs : List B) → AllZip R xs ys → AllZip R us vs
    → AllZip R (xs ++ us) (ys ++ vs)
zip-append R [] us [] vs front back = back
zip-append R [] us (y ∷ ys) vs front back = absurd front
zip-append R (x ∷ xs) us [] vs front back = absurd front
zip-append R (x ∷ xs) us (y ∷ ys) vs front back = (front.0, zip-append R xs us ys vs front.1 back)

pub all-front : {A : Type 0} (P : A → Type 0) (xs ys : List A) → AllByRecursion P (xs ++ ys) → AllByRecursion P xs
all-front P [] ys all = tt
all-front P (x ∷ xs) ys all = (all.0, all-front P xs ys all.1)

pub all-back : {A : Type 0} (P : A → Type 0) (xs ys : List A) → AllByRecursion P (xs ++ ys) → AllByRecursion P ys
all-back P [] ys all = all
all-back P (x ∷ xs) ys all = all-back P xs ys all.1

-- ---- rows that a test chooses, their figures and the numbers at their places

module _ {Row Figure : Type 0} (At : Figure → ℕ → Type 0) (Fact : Figure → Type 0) (number : ℕ → ℕ) (figure : Row → Figure)
    (test : Row → Bool) where
  zip-from : (s : ℕ) (rows : List Row)
      → ((m : ℕ) (row : Row) → slice_get rows m ≡ Some row → Fact (figure row) → At (figure row) (number (s + m)))
      → AllByRecursion Fact (map figure (filter test rows))
      → AllZip (λ n f. At f n) (map number (places_where test s rows)) (map figure (filter test rows))
  zip-from s [] at all = tt
  zip-from s (row ∷ rows) at all =
      passes_or_fails (test row)
      (λ e.
      let facts : AllByRecursion Fact (map figure (row ∷ filter test rows)) =
      subst (λ t. AllByRecursion Fact (map figure (cond t (row ∷ filter test rows) (filter test rows)))) e all in
      let own : At (figure row) (number s) = subst (λ n. At (figure row) (number n)) zero-more (at 0 row refl facts.0) in
      subst (λ t. AllZip (λ n f. At f n)
      (map number (cond t (s ∷ places_where test (suc s) rows) (places_where test (suc s) rows)))
      (map figure (cond t (row ∷ filter test rows) (filter test rows))))
      (sym e) (own, zip-from (suc s) rows later facts.1))
      (λ e.
      let facts : AllByRecursion Fact (map figure (filter test rows)) =
      subst (λ t. AllByRecursion Fact (map figure (cond t (row ∷ filter test rows) (filter test rows)))) e all in
      subst (λ t. AllZip (λ n f. At f n)
      (map number (cond t (s ∷ places_where test (suc s) rows) (places_where test (suc s) rows)))
      (map figure (cond t (row ∷ filter test rows) (filter test rows))))
      (sym e) (zip-from (suc s) rows later facts))
    where
      zero-more : s + 0 ≡ s
      zero-more = omega arith

      one-more : (m : ℕ) → s + suc m ≡ suc s + m
      one-more m = omega arith

      later : (m : ℕ) (next : Row) → slice_get rows m ≡ Some next → Fact (figure next)
          → At (figure next) (number (suc s + m))
      later m next is fact = subst (λ n. At (figure next) (number n)) (one-more m) (at (suc m) next is fact)

  pub zip-where : (rows : List Row)
      → ((m : ℕ) (row : Row) → slice_get rows m ≡ Some row → Fact (figure row) → At (figure row) (number m))
      → AllByRecursion Fact (map figure (filter test rows))
      → AllZip (λ n f. At f n) (map number (places_where test 0 rows)) (map figure (filter test rows))
  zip-where rows at all =
      zip-from 0 rows (λ m row is fact. subst (λ n. At (figure row) (number n)) (none-more m) (at m row is fact)) all
    where
      none-more : (m : ℕ) → m ≡ 0 + m
      none-more m = omega arith

-- ---- over a balance sheet

module _ (sheet : BalanceSheet) (places : Numbered) (numbered : IsNumbered sheet places) where
  abbrev pub AreAt : List ℕ → List Node → Type 0
  AreAt numbers figures = AllZip (λ number node. StandsAt sheet places node number) numbers figures

  -- a figure of the row at a place
  pub placed : (node : Node) (k : ℕ) → slice_get (names_in sheet (table_of node)) k ≡ Some (name_of node) → is_live sheet node ≡ true
      → StandsAt sheet places node (first places (table_of node) k + family_of node)
  placed node k row live =
      let standing = live-stands sheet places numbered node live in
      stands sheet places numbered node (standing.1).at.family k row

  pub zip-selected : (selection : Selection) → are_live sheet (selected sheet selection)
      → AreAt (selected_numbers sheet places selection) (selected sheet selection)
  zip-selected selections.None live = tt
  zip-selected (selections.Funds which what) live =
      zip-where (StandsAt sheet places) (λ node. is_live sheet node ≡ true)
      (λ row. first places tables.Fund row + fund_family what) (fund_figure what) (is_holder which) sheet.funds
      (λ m row is fact. placed (fund_figure what row) m (slice_get-map stake_name sheet.funds m ∙ ap (option_map stake_name) is) fact)
      live
  zip-selected (selections.Securities which what) live =
      zip-where (StandsAt sheet places) (λ node. is_live sheet node ≡ true)
      (λ row. first places tables.Security row + security_family what) (security_figure what) (is_counted which) sheet.securities
      (λ m row is fact. placed (security_figure what row) m
      (slice_get-map position_name sheet.securities m ∙ ap (option_map position_name) is) fact)
      live
  zip-selected (selections.Liabilities which what) live =
      let all = selected-liabilities sheet which what in
      subst (AreAt (selected_numbers sheet places (selections.Liabilities which what))) all
      (zip-where (StandsAt sheet places) (λ node. is_live sheet node ≡ true)
      (λ row. first places tables.Liability row + liability_family what) (liability_figure what) (is_obligation which)
      sheet.liabilities
      (λ m row is fact. placed (liability_figure what row) m
      (slice_get-map liability_name sheet.liabilities m ∙ ap (option_map liability_name) is) fact)
      (subst (are_live sheet) (sym all) live))
  zip-selected (selections.Currencies which what) live =
      let all = selected-currencies sheet which what in
      subst (AreAt (selected_numbers sheet places (selections.Currencies which what))) all
      (zip-where (StandsAt sheet places) (λ node. is_live sheet node ≡ true)
      (λ row. first places tables.Currency row + currency_family what) (currency_figure what) (is_currency sheet which) sheet.curves
      (λ m row is fact. placed (currency_figure what row) m
      (slice_get-map curve_name sheet.curves m ∙ ap (option_map curve_name) is) fact)
      (subst (are_live sheet) (sym all) live))
  zip-selected (selections.Groups which what) live =
      let all = selected-groups sheet which what in
      subst (AreAt (selected_numbers sheet places (selections.Groups which what))) all
      (zip-where (StandsAt sheet places) (λ node. is_live sheet node ≡ true)
      (λ row. first places tables.Group row + group_family what) (group_figure what) (is_counterparty which) sheet.groups
      (λ m row is fact. placed (group_figure what row) m
      (slice_get-map group_name sheet.groups m ∙ ap (option_map group_name) is) fact)
      (subst (are_live sheet) (sym all) live))

  module _ (valid : Valid sheet) (node : Node) (live : is_live sheet node ≡ true) where
    abbrev front : List Node
    front = selected sheet (first_of node)

    abbrev middle : List Node
    middle = selected sheet (second_of node)

    read-live : are_live sheet (front ++ (middle ++ words_of node))
    read-live = subst (are_live sheet) (sources-selected sheet node) (sources-live sheet valid node live)

    rest-live : are_live sheet (middle ++ words_of node)
    rest-live = all-back (λ n. is_live sheet n ≡ true) front (middle ++ words_of node) read-live

    -- the sources that no table gives are figures of the sheet too
    pub words-live : are_live sheet (words_of node)
    words-live = all-back (λ n. is_live sheet n ≡ true) middle (words_of node) rest-live

    -- piece by piece all sources are pushed
    pub pieces-pushed : (start one two after : List ℕ) → one ≡ start ++ selected_numbers sheet places (first_of node)
        → two ≡ one ++ selected_numbers sheet places (second_of node) → AreAllPushed sheet places (words_of node) two after
        → ArePushed sheet places node start after
    pieces-pushed start one two after is-one is-two words =
        let firsts : List ℕ = selected_numbers sheet places (first_of node) in
        let seconds : List ℕ = selected_numbers sheet places (second_of node) in
        record {
          more = firsts ++ (seconds ++ words.more);
          list = words.list ∙ ap (λ xs. xs ++ words.more) (is-two ∙ ap (λ xs. xs ++ seconds) is-one)
              ∙ append_assoc (start ++ firsts) seconds words.more ∙ append_assoc start firsts (seconds ++ words.more);
          at = subst (AreAt (firsts ++ (seconds ++ words.more))) (sym (sources-selected sheet node))
              (zip-append (λ number n. StandsAt sheet places n number) firsts (seconds ++ words.more) front
              (middle ++ words_of node)
              (zip-selected (first_of node) (all-front (λ n. is_live sheet n ≡ true) front (middle ++ words_of node) read-live))
              (zip-append (λ number n. StandsAt sheet places n number) seconds words.more middle (words_of node)
              (zip-selected (second_of node) (all-front (λ n. is_live sheet n ≡ true) middle (words_of node) rest-live)) words.at));
        }

-- ---- words

pub next-pushed : (sheet : BalanceSheet) (places : Numbered) (figures : List Node) (k : ℕ) (figure : Node) (number : ℕ)
    (items start after : List ℕ) → slice_get figures k ≡ Some figure → StandsAt sheet places figure number
    → AreAllPushed sheet places (take k figures) start items → after ≡ items ++ number ∷ []
    → AreAllPushed sheet places (take (k + 1) figures) start after
next-pushed sheet places figures k figure number items start after at stands so_far next =
    let more : take (k + 1) figures ≡ take k figures ++ figure ∷ [] =
    take_more figures k figure (slice_get_within figures k figure at)
    ∙ ap (λ f. take k figures ++ f ∷ []) (get_or_from_slice_get figures k figure figure at) in
    record {
      more = so_far.more ++ number ∷ [];
      list = next ∙ ap (λ xs. xs ++ number ∷ []) so_far.list ∙ append_assoc start so_far.more (number ∷ []);
      at = subst (AllZip (λ n node. StandsAt sheet places node n) (so_far.more ++ number ∷ [])) (sym more)
          (zip-append (λ n node. StandsAt sheet places node n) so_far.more (number ∷ []) (take k figures) (figure ∷ []) so_far.at
          (stands, tt));
    }

-- a figure of the whole sheet has its family for its number
pub whole-stands : (sheet : BalanceSheet) (places : Numbered) → IsNumbered sheet places → (node : Node) (what : Whole)
    → node ≡ nodes.Whole what → is_live sheet node ≡ true → StandsAt sheet places node (family_of node)
whole-stands sheet places numbered node what is live =
    subst (λ n. StandsAt sheet places n (family_of n)) (sym is)
    (subst (StandsAt sheet places (nodes.Whole what)) from
    (placed sheet places numbered (nodes.Whole what) 0 refl (subst (λ n. is_live sheet n ≡ true) is live)))
  where
    from : first places tables.Whole 0 + family_of (nodes.Whole what) ≡ family_of (nodes.Whole what)
    from = let zero-first = numbered.whole in omega (arith, zero-first)

-- no figure by name is a source of a total
pub no-words : (node : Node) → is_total node ≡ true → words_of node ≡ []
no-words (nodes.Fund name what) is = refl
no-words (nodes.Security name of_securities.Total) is = refl
no-words (nodes.Security name (of_securities.UnitLoss direction)) is = refl
no-words (nodes.Security name (of_securities.Rate direction)) is = absurd (cc)
no-words (nodes.Security name of_securities.Spread) is = absurd (cc)
no-words (nodes.Liability name what) is = absurd (cc)
no-words (nodes.Currency name what) is = absurd (cc)
no-words (nodes.Group name what) is = absurd (cc)
no-words (nodes.Whole what) is = absurd (cc)
