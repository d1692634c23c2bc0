-- What is kept while a record is taken up, and what stays where memory is refused.
use Rattle.std.proofs.Common.{◌≡◌, ℕ, zero, suc, ◌<◌, ◌≤◌, List, [], ◌∷◌, length, Option, Some, None, slice_get, refl, sym, ap, subst, ◌∙◌, arith}
use Rattle.std.specs.Prelude.{Result, Ok, Err, OnOk, OnErr}
use Rattle.std.specs.Option.{option_map}
use Rattle.std.proofs.lemmas.Option.{slice_get_within}
use Rattle.scr_links.specs.Edges.{Linked}
use Rattle.scr_reachability.specs.Marks.{MarkedNumbers}
use Rattle.scr_factors.specs.Values.{FactorValues}
use Rattle.scr_book.specs.RolledSheets.{RolledSheet}
use Rattle.scr_ids.specs.Ranges.{Numbered}
use Rattle.scr_discounts.specs.declared.known.Rates.{Rates}
use Rattle.scr_discounts.specs.KeptRates.{all_rates, known_of}
use Rattle.scr_partial_sums.specs.declared.figure.Figure.{Figure}
use Rattle.scr_member_index.specs.declared.lists.Lists.{Lists}
use Rattle.scr_reachability.specs.Linked.{sources_in}
use Rattle.scr_block_graph.specs.Books.{rolled_of}
use Rattle.scr_tree.specs.Ceiling.{IsCeiling}
use Rattle.scr_tree.specs.Changed.{IsStateOf, IsUnchanged}
use Rattle.scr_tree.specs.Figures.{AreKnownOf, AreSettled, HasFigure, Reckoning, worth_of}
use Rattle.scr_tree.specs.Points.{IsGraphOf, StandsIn, book_reckoning}
use Rattle.scr_tree.specs.declared.edits.State.{State}

-- ---- results

-- what holds at all events holds where there is a refusal
pub err-so : {A E : Type 0} (r : Result A E) (P : Type 0) → P → OnErr r P
err-so (Ok x) P p = tt
err-so (Err e) P p = p

pub on-ok : {A E : Type 0} (r : Result A E) (P Q : Type 0) → (P → Q) → OnOk r P → OnOk r Q
on-ok (Ok x) P Q step p = step p
on-ok (Err e) P Q step p = tt

-- ---- figures

pub past : {A : Type 0} (xs : List A) (k : ℕ) → k < length xs → slice_get xs k ≡ None → ⊥
past [] k l e = absurd (omega (arith, l))
past (x ∷ xs) zero l e = let clash : Some x ≡ None = e in absurd (cc)
past (x ∷ xs) (suc k) l e = past xs k (omega (arith, l)) e

-- a list that is written over keeps its figures where it had some
pub known-kept : {N : Type 0} (reckoning : Reckoning N) (At : N → ℕ → Type 0) (P : N → Type 0)
    (old now : List Figure) → ((n : ℕ) → n < length old → slice_get now n ≡ slice_get old n)
    → AreKnownOf reckoning At old P → AreKnownOf reckoning At now P
unfolding AreKnownOf
known-kept {N} reckoning At P old now same known = λ node number at live p.
    there node number (slice_get old number) refl (known node number at live p)
  where
    there : (node : N) (number : ℕ) (found : Option Figure) → slice_get old number ≡ found
        → HasFigure reckoning old number node → HasFigure reckoning now number node
    there node number None e has =
        let clash : None ≡ Some (reckoning.worth node) = sym (ap (option_map worth_of) e) ∙ has in absurd (cc)
    there node number (Some figure) e has =
        ap (option_map worth_of) (same number (slice_get_within old number figure e)) ∙ has

-- what was kept twice was kept
pub kept-twice : (old mid now : List Figure) → ((n : ℕ) → n < length old → slice_get mid n ≡ slice_get old n)
    → ((n : ℕ) → n < length mid → slice_get now n ≡ slice_get mid n) → (n : ℕ) → n < length old → slice_get now n ≡ slice_get old n
kept-twice old mid now first second n l = by (slice_get old n) refl
  where
    by : (found : Option Figure) → slice_get old n ≡ found → slice_get now n ≡ slice_get old n
    by None e = absurd (past old n l e)
    by (Some figure) e = second n (slice_get_within mid n figure (first n l ∙ e)) ∙ first n l

-- ---- what is kept of a book

-- with the new links the kept state is that of the book after
pub state-anew : (factors : FactorValues) (after : RolledSheet) (places : Numbered) (lists : Lists) (rates : Rates) (now : State)
    → IsGraphOf after places lists now.links.edges → known_of rates ≡ all_rates after.sheet
    → AreSettled (book_reckoning factors (rolled_of after)) (StandsIn after places lists) now.figures → now.links.size ≤ places.size
    → now.places ≡ places → now.lists ≡ lists → IsCeiling places now.figures now.scratch.ceiling → (marks : MarkedNumbers) → IsStateOf factors after (record now { rates = rates; marks = marks })
state-anew factors after places lists rates now graph known settled size same same_lists ceiling marks =
    by now.places now.lists same same_lists
  where
    by : (p : Numbered) (l : Lists) → p ≡ places → l ≡ lists
        → IsStateOf factors after (record now { rates = rates; marks = marks; places = p; lists = l })
    by p l is is_lists =
        subst (λ (q : Numbered). IsStateOf factors after (record now { rates = rates; marks = marks; places = q; lists = l })) (sym is)
        (subst (λ (m : Lists). IsStateOf factors after (record now { rates = rates; marks = marks; places = places; lists = m })) (sym is_lists) (record {
          rates = known;
          graph = graph;
          figures = settled;
          ceiling = ceiling;
          size = size;
        }))

-- ---- where memory is refused

-- nothing but room, marks and room for links has changed
pub unchanged-at-once : (state : State) (figures : List Figure) (marks : MarkedNumbers) (links : Linked)
    → ((n : ℕ) → n < length state.figures → slice_get figures n ≡ slice_get state.figures n) → links ≡ state.links
    → IsUnchanged state (record state { figures = figures; marks = marks; links = links })
unchanged-at-once state figures marks links kept same = record {
  rates = refl;
  places = refl;
  lists = refl;
  figures = kept;
  links = λ n. ap (λ (l : Linked). sources_in l.edges n) same;
  size = λ small. subst (λ (l : Linked). l.size ≤ state.places.size) (sym same) small;
}

-- the links are made as they were
pub unchanged-back : (state mid : State) (marks : MarkedNumbers) (links : Linked) → mid.rates ≡ state.rates → mid.places ≡ state.places → mid.lists ≡ state.lists
    → ((n : ℕ) → n < length state.figures → slice_get mid.figures n ≡ slice_get state.figures n)
    → ((number : ℕ) → sources_in links.edges number ≡ sources_in state.links.edges number)
    → (state.links.size ≤ state.places.size → links.size ≤ state.places.size)
    → IsUnchanged state (record mid { marks = marks; links = links })
unchanged-back state mid marks links rates places lists figures back size = record {
  rates = rates;
  places = places;
  lists = lists;
  figures = figures;
  links = back;
  size = size;
}
