-- What an engine stands on after a record that it takes, and after one that it refuses.
use Rattle.std.proofs.Common.{◌≡◌, ◌↔◌, ℕ, true, List, Contains, Some, None, slice_get, sym, subst}
use Rattle.std.specs.Option.{option_map}
use Rattle.std.specs.Prelude.{Ok}
use Rattle.scr_sum_tree.specs.Blocks.{HasEachOnce}
use Rattle.scr_factors.specs.Values.{FactorValues}
use Rattle.scr_sheet.specs.Faults.{fault_of}
use Rattle.scr_sheet.specs.Records.{applied}
use Rattle.scr_sheet.specs.Validity.{Valid}
use Rattle.scr_sheet.specs.declared.edit.Edit.{Edit}
use Rattle.scr_book.specs.Rolls.{KeepsNumbers}
use Rattle.scr_book.specs.RolledSheets.{AreRolled, RolledSheet}
use Rattle.scr_figure_ids.specs.Numbers.{StandsAt}
use Rattle.scr_figure_ids.specs.Records.{step_of}
use Rattle.scr_ids.specs.Ranges.{Numbered}
use Rattle.scr_member_index.specs.declared.lists.Lists.{Lists}
use Rattle.scr_reachability.specs.Graph.{Graph}
use Rattle.scr_reachability.specs.Leading.{IsCountOf, IsInReach, Leads}
use Rattle.scr_reachability.specs.Leading.Leads.{above, touched}
use Rattle.scr_reachability.specs.Linked.{AreNumbers}
use Rattle.scr_block_graph.specs.Books.{rolled_of}
use Rattle.scr_block_graph.specs.Graph.{Rolled, is_live_in}
use Rattle.scr_block_graph.specs.Touched.{IsTouchedIn, applied_in}
use Rattle.scr_block_graph.specs.declared.point.Point.{Point}
use Rattle.scr_block_graph.specs.declared.point.Point.TheVariants as points
use Rattle.scr_partial_sums.specs.declared.figure.Figure.{Figure}
use Rattle.scr_tree.specs.Changed.{IsTakenFrom, StepsReach}
use Rattle.scr_tree.specs.Figures.{AreKnownOf, AreSettled, worth_of}
use Rattle.scr_tree.specs.Graphs.{graph_of}
use Rattle.scr_tree.specs.Points.{AreNumbersOf, StandsIn, book_graph, book_reckoning, point_worth}
use Rattle.scr_tree.specs.declared.edits.Taken.{Taken}
use Rattle.scr_tree.specs.Standing.{IsReachedBy, Standing, TakesSteps, book_of, standing_on}

-- ---- figures and Blocks that are there

-- of the figures alone
pub figures-numbered : (book : RolledSheet) (places : Numbered) (lists : Lists) → AreNumbersOf book places lists
    → AreNumbers (graph_of book.sheet) (StandsAt book.sheet places) places.size
figures-numbered book places lists are = record {
  exact = λ number a b x y.
      let one : points.Figure a ≡ points.Figure b = are.numbers.exact number (points.Figure a) (points.Figure b) x y in cc;
  only = λ node n m x y. are.numbers.only (points.Figure node) n m x y;
  live = λ node live. are.numbers.live (points.Figure node) live;
  within = λ node number at. are.numbers.within (points.Figure node) number at;
}

-- what stands at the number of a point is what it comes to
pub settled-point : (factors : FactorValues) (book : RolledSheet) (places : Numbered) (lists : Lists) (figures : List Figure) (now : Standing)
    → standing_on factors book ≡ now
    → AreSettled (book_reckoning factors (rolled_of book)) (StandsIn book places lists) figures
    → (point : Point) (number : ℕ) → StandsIn book places lists point number → is_live_in (book_of now) point ≡ true
    → option_map worth_of (slice_get figures number) ≡ Some (point_worth now.factors (book_of now) point)
unfolding AreKnownOf
settled-point factors book places lists figures now is known point number at live =
    subst (λ (s : Standing). is_live_in (book_of s) point ≡ true
    → option_map worth_of (slice_get figures number) ≡ Some (point_worth s.factors (book_of s) point)) is
    (λ lives. known point number at lives tt) live

-- ---- after a record

pub rolled-after : (before after : RolledSheet) (edit : Edit) → after.sheet ≡ applied edit before.sheet → AreRolled edit before after
    → rolled_of after ≡ applied_in edit (rolled_of before)
rolled-after before after edit sheet rolls = λ i. record { sheet = sheet i; rolls = λ roll. rolls roll i }

-- the book has taken it
pub taken-by : (factors : FactorValues) (before after : RolledSheet) (taken : Taken) (list : List Point) → Valid before.sheet
    → after.sheet ≡ applied taken.edit.now before.sheet → AreRolled taken.edit.now before after
    → KeepsNumbers before.rolls after.rolls → fault_of taken.edit.now before.sheet ≡ None → taken.step ≡ step_of taken.edit.now before.sheet
    → ((all : FactorValues) (point : Point) → fault_of taken.edit.now before.sheet ≡ None
    → Contains list point ↔ IsTouchedIn all (rolled_of before) taken.edit.now point)
    → HasEachOnce list → taken.touched.now ≡ list → IsTakenFrom factors before after taken
taken-by factors before after taken list valid sheet rolls numbers none step told once is = record {
  valid = valid;
  sheet = sheet;
  rolls = rolls;
  lists = numbers;
  none = none;
  step = step;
  touched = λ point. subst (λ points. Contains points point ↔ IsTouchedIn factors (rolled_of before) taken.edit.now point) (sym is) (told factors point none);
  once = subst HasEachOnce (sym is) once;
}

-- ---- steps

count-like : {Node : Type 0} (P Q : Node → Type 0) → ((n : Node) → P n ↔ Q n) → (k : ℕ) → IsCountOf P k → IsCountOf Q k
count-like P Q like k count = record {
  list = count.list;
  once = count.once;
  each = λ n. (λ h. (like n).0 ((count.each n).0 h), λ q. (count.each n).1 ((like n).1 q));
  long = count.long;
}

leads-like : {Node : Type 0} (graph : Graph Node) (P Q : Node → Type 0) → ((n : Node) → P n → Q n) → (n : Node) → Leads graph P n → Leads graph Q n
leads-like graph P Q like _ (touched n h) = touched n (like n h)
leads-like graph P Q like _ (above n s has rest) = above n s has (leads-like graph P Q like s rest)

reach-like : {Node : Type 0} (graph : Graph Node) (P Q : Node → Type 0) → ((n : Node) → P n ↔ Q n) → (n : Node) → IsInReach graph P n ↔ IsInReach graph Q n
reach-like graph P Q like n = (
  λ h. record { live = h.live; leads = leads-like graph P Q (λ m. (like m).0) n h.leads },
  λ h. record { live = h.live; leads = leads-like graph Q P (λ m. (like m).1) n h.leads },
)

-- those of a record that is accepted
pub taken-steps : (factors : FactorValues) (before after : RolledSheet) (edit : Edit) (list : List Point) → after.sheet ≡ applied edit before.sheet
    → AreRolled edit before after → ((point : Point) → Contains list point ↔ IsTouchedIn factors (rolled_of before) edit point)
    → (old new : ℕ) → StepsReach (rolled_of after) list old new → TakesSteps factors (rolled_of before) edit old new (Ok tt)
taken-steps factors before after edit list sheet rolls told old new steps = record {
  accepted = (
    steps.0,
    count-like (IsInReach (book_graph (applied_in edit (rolled_of before))) (Contains list)) (IsReachedBy factors (rolled_of before) edit)
        (reach-like (book_graph (applied_in edit (rolled_of before))) (Contains list) (IsTouchedIn factors (rolled_of before) edit) told) steps.0
        (subst (λ (book : Rolled). IsCountOf (IsInReach (book_graph book) (Contains list)) steps.0)
        (rolled-after before after edit sheet rolls) steps.1),
    steps.2,
  );
  refused = λ fault e. absurd (cc);
}
