-- Figures keep their numbers while rows come and go.
use Rattle.std.proofs.Common.{◌≡◌, ℕ, ◌+◌, ◌<◌, ◌≤◌, ◌⊎◌, ⊎_elim, inl, inr, true, false, List, [], ◌∷◌, Some, length, refl, sym, ap, subst, ◌∙◌, arith}
use Rattle.std.specs.List.{remove, slice_get}
use Rattle.std.proofs.lemmas.Bool.{cases_Bool, cases_lt}
use Rattle.std.proofs.lemmas.List.{length_push}
use Rattle.std.proofs.lemmas.List.Edits.{length-remove}
use Rattle.scr_ids.specs.Moves.{Came, IsAsBefore, Went}
use Rattle.scr_ids.specs.Ranges.{IsAt, Numbered, count, first, same_table}
use Rattle.scr_ids.specs.declared.table.Table.{Table}
use Rattle.scr_ids.specs.declared.table.Table.TheVariants as tables
use Rattle.scr_ids.proofs.Back.{came-back, went-back}
use Rattle.scr_ids.proofs.Tables.{same_table-is}
use Rattle.scr_ids.proofs.Views.{of_all}
use Rattle.scr_sheet.specs.declared.sheet.BalanceSheet.{BalanceSheet}
use Rattle.scr_nodes.specs.declared.node.Node.{Node}
use Rattle.scr_figure_ids.specs.Families.{family_of, name_of, table_of}
use Rattle.scr_figure_ids.specs.Numbers.{AreNamedOnce, IsNumbered, StandsAt, is_of_sheet, names_in}
use Rattle.scr_figure_ids.specs.Steps.{CanTake, CanTakeBack, IsRowLess, IsRowMore, LeadsTo, Takes, TakesBack}
use Rattle.scr_figure_ids.specs.declared.steps.Step.{Step}
use Rattle.scr_figure_ids.specs.declared.steps.Step.TheVariants as steps
use Rattle.scr_figure_ids.proofs.RowNames.{got-above, got-below, got-front}
use Rattle.scr_figure_ids.proofs.Standing.{only, row-of_sheet}

-- a family of a row has a number
record Stands (sheet : BalanceSheet) (places : Numbered) (table : Table) (name : List ℕ) (j number : ℕ) : Type 0 where
  k : ℕ
  row : slice_get (names_in sheet table) k ≡ Some name
  at : IsAt places table k j number

abbrev Keeps : BalanceSheet → Numbered → BalanceSheet → Numbered → Table → Type 0
Keeps s a t b table = (name : List ℕ) (j number : ℕ) → Stands s a table name j number → Stands t b table name j number

told-of : (s : BalanceSheet) (a : Numbered) (t : BalanceSheet) (b : Numbered) → ((table : Table) → Keeps s a t b table)
    → (node : Node) (number : ℕ) → StandsAt s a node number → StandsAt t b node number
told-of s a t b keeps node number x =
    let y = keeps (table_of node) (name_of node) (family_of node) number (record { k = x.k; row = x.row; at = x.at }) in
    record { k = y.k; row = y.row; at = y.at }

-- a table whose rows stay, with their numbers
stays : (s : BalanceSheet) (a : Numbered) (t : BalanceSheet) (b : Numbered) (table : Table) → names_in t table ≡ names_in s table
    → count b table ≡ count a table → ((k : ℕ) → k < count a table → first b table k ≡ first a table k) → Keeps s a t b table
stays s a t b table names counts firsts name j number x = record {
  k = x.k;
  row = ap (λ ns. slice_get ns x.k) names ∙ x.row;
  at = record {
    row = omega (arith, x.at.row, counts);
    family = x.at.family;
    is = let start = firsts x.k x.at.row in omega (arith, x.at.is, start);
  };
}

-- ---- a row comes

-- the whole sheet stays one row
more-not_whole : (table : Table) (s t : BalanceSheet) → IsRowMore table s t → same_table table tables.Whole ≡ false
more-not_whole table s t more = ⊎_elim
    (λ e.
    let own : IsRowMore tables.Whole s t = subst (λ T. IsRowMore T s t) (same_table-is table tables.Whole e) more in
    let long = ap length own.rows in
    absurd (omega (arith, long)))
    (λ f. f)
    (cases_Bool (same_table table tables.Whole))

module _ (table : Table) (s t : BalanceSheet) (a b : Numbered) (more : IsRowMore table s t) (came : Came table a b) where
  comes-own : Keeps s a t b table
  comes-own name j number x = record {
    k = x.k;
    row = subst (λ ns. slice_get ns x.k ≡ Some name) (sym more.rows) (got-front (names_in s table) (more.name ∷ []) x.k name x.row);
    at = record {
      row = omega (arith, x.at.row, came.one_more);
      family = x.at.family;
      is = let start = came.firsts x.k (omega (arith, x.at.row, came.within)) in omega (arith, x.at.is, start);
    };
  }

  pub came-keeps : (node : Node) (number : ℕ) → StandsAt s a node number → StandsAt t b node number
  came-keeps = told-of s a t b (of_all (Keeps s a t b) table comes-own
      (λ other f. stays s a t b other (more.others other f) (came.others.counts other f) (λ k _. came.others.firsts other f k)))

  pub came-numbered : IsNumbered s a → IsNumbered t b
  came-numbered numbered = record {
    rows = of_all (λ any. is_of_sheet any ≡ true → count b any ≡ length (names_in t any)) table
        (λ of. let before = numbered.rows table of in
        let long = ap length more.rows ∙ length_push (names_in s table) more.name in
        omega (arith, before, long, came.one_more))
        (λ other f of. came.others.counts other f ∙ numbered.rows other of ∙ ap length (sym (more.others other f)));
    whole = came.others.firsts tables.Whole (more-not_whole table s t more) 0 ∙ numbered.whole;
  }

-- ---- a row goes

less-not_whole : (table : Table) (k : ℕ) (s t : BalanceSheet) → IsRowLess table k s t → same_table table tables.Whole ≡ false
less-not_whole table k s t less = ⊎_elim
    (λ e.
    let own : IsRowLess tables.Whole k s t = subst (λ T. IsRowLess T k s t) (same_table-is table tables.Whole e) less in
    let long = ap length own.rows in
    let short = length-remove (names_in s tables.Whole) k own.place in
    absurd (omega (arith, long, short)))
    (λ f. f)
    (cases_Bool (same_table table tables.Whole))

module _ (table : Table) (k : ℕ) (s t : BalanceSheet) (a b : Numbered) (less : IsRowLess table k s t) (went : Went table k a b) where
  -- what stands in the table stood there, the rows from the gone one on a place further down
  goes-own : Keeps t b s a table
  goes-own name j number x = by (cases_lt x.k k)
    where
      row : slice_get (remove (names_in s table) k) x.k ≡ Some name
      row = subst (λ ns. slice_get ns x.k ≡ Some name) less.rows x.row

      by : (x.k < k) ⊎ (k ≤ x.k) → Stands s a table name j number
      by (inl before) = record {
        k = x.k;
        row = got-below (names_in s table) k less.place x.k name before row;
        at = record {
          row = omega (arith, x.at.row, went.one_less);
          family = x.at.family;
          is = let start = went.firsts.below x.k before in omega (arith, x.at.is, start);
        };
      }
      by (inr after) = record {
        k = x.k + 1;
        row = got-above (names_in s table) k less.place x.k name after row;
        at = record {
          row = omega (arith, x.at.row, went.one_less);
          family = x.at.family;
          is = let start = went.firsts.between x.k after x.at.row in omega (arith, x.at.is, start);
        };
      }

  pub went-kept : (node : Node) (number : ℕ) → StandsAt t b node number → StandsAt s a node number
  went-kept = told-of t b s a (of_all (Keeps t b s a) table goes-own
      (λ other f. stays t b s a other (sym (less.others other f)) (sym (went.others.counts other f))
      (λ m _. sym (went.others.firsts other f m))))

  pub went-numbered : IsNumbered s a → IsNumbered t b
  went-numbered numbered = record {
    rows = of_all (λ any. is_of_sheet any ≡ true → count b any ≡ length (names_in t any)) table
        (λ of. let before = numbered.rows table of in
        let long = ap length less.rows in
        let short = length-remove (names_in s table) k less.place in
        omega (arith, before, long, short, went.one_less))
        (λ other f of. went.others.counts other f ∙ numbered.rows other of ∙ ap length (sym (less.others other f)));
    whole = went.others.firsts tables.Whole (less-not_whole table k s t less) 0 ∙ numbered.whole;
  }

-- ---- any step

pub step-can : (step : Step) (s t : BalanceSheet) (a : Numbered) → LeadsTo step s t → IsNumbered s a → CanTake step a
step-can steps.Stays s t a leads numbered = tt
step-can (steps.Comes table) s t a leads numbered = tt
step-can (steps.Goes table k) s t a leads numbered =
    let rows = numbered.rows table (row-of_sheet s table k leads.place) in omega (arith, rows, leads.place)

pub step-numbered : (step : Step) (s t : BalanceSheet) (a b : Numbered) → LeadsTo step s t → Takes step a b → IsNumbered s a → IsNumbered t b
step-numbered steps.Stays s t a b leads takes numbered =
    subst (IsNumbered t) (sym takes) (record {
      rows = λ table of. numbered.rows table of ∙ ap length (sym (leads table));
      whole = numbered.whole;
    })
step-numbered (steps.Comes table) s t a b leads takes numbered = came-numbered table s t a b leads takes numbered
step-numbered (steps.Goes table k) s t a b leads takes numbered = went-numbered table k s t a b leads takes numbered

-- a figure that both sheets have stands at the same number in both
pub step-keeps : (step : Step) (s t : BalanceSheet) (a b : Numbered) → LeadsTo step s t → Takes step a b → AreNamedOnce s → AreNamedOnce t
    → (node : Node) (n m : ℕ) → StandsAt s a node n → StandsAt t b node m → n ≡ m
step-keeps steps.Stays s t a b leads takes once once_now node n m x y =
    only t b once_now n m node (told-of s a t b (λ table. subst (λ c. Keeps s a t c table) (sym takes)
    (stays s a t a table (leads table) refl (λ k _. refl))) node n x) y
step-keeps (steps.Comes table) s t a b leads takes once once_now node n m x y =
    only t b once_now n m node (came-keeps table s t a b leads takes node n x) y
step-keeps (steps.Goes table k) s t a b leads takes once once_now node n m x y =
    only s a once n m node x (went-kept table k s t a b leads takes node m y)

-- it can be taken back, and then each figure has the number that it had
pub step-can_back : (step : Step) (s t : BalanceSheet) (a b : Numbered) → LeadsTo step s t → IsNumbered s a → Takes step a b → CanTakeBack step b
step-can_back steps.Stays s t a b leads numbered takes = tt
step-can_back (steps.Comes table) s t a b leads numbered takes = omega (arith, takes.one_more)
step-can_back (steps.Goes table k) s t a b leads numbered takes =
    let rows = numbered.rows table (row-of_sheet s table k leads.place) in
    (omega (arith, rows, leads.place, takes.one_less), omega (arith, takes.within, takes.one_less, takes.ranges))

step-back : (step : Step) (a b d : Numbered) → CanTake step a → Takes step a b → TakesBack step b d → IsAsBefore a d
step-back steps.Stays a b d can takes back =
    subst (IsAsBefore a) (sym (back ∙ takes)) (record { counts = λ table. refl; firsts = λ table k less. refl })
step-back (steps.Comes table) a b d can takes back = came-back table a b d takes back
step-back (steps.Goes table k) a b d can takes back =
    let whole = went-back table k a b d can takes back in
    record { counts = whole.counts; firsts = λ any m less. whole.firsts any m }

as-before : (s : BalanceSheet) (a d : Numbered) → IsAsBefore a d → (node : Node) (number : ℕ) → StandsAt s a node number
    → StandsAt s d node number
as-before s a d same =
    told-of s a s d (λ table. stays s a s d table refl (same.counts table) (same.firsts table))

pub step-takes_back : (step : Step) (s t : BalanceSheet) (a b d : Numbered) → LeadsTo step s t → IsNumbered s a → Takes step a b
    → TakesBack step b d → IsNumbered s d × ((node : Node) (number : ℕ) → StandsAt s a node number → StandsAt s d node number)
step-takes_back step s t a b d leads numbered takes back = (
  record {
    rows = λ table of. same.counts table ∙ numbered.rows table of;
    whole = same.firsts tables.Whole 0 (let rows = numbered.rows tables.Whole refl in omega (arith, rows)) ∙ numbered.whole;
  },
  as-before s a d same,
)
  where
    same : IsAsBefore a d
    same = step-back step a b d (step-can step s t a leads numbered) takes back
