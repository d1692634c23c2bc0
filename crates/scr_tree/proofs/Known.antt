-- Figures that are known: read at their numbers, and written one after another.
use Rattle.std.proofs.Common.{◌≡◌, ◌⊎◌, inl, inr, ℕ, zero, suc, ◌+◌, ◌||◌, ◌++◌, All, Bool, true, false, nat_eq, List, [], ◌∷◌, map, Some, None, slice_get, take, add-one, refl, sym, ap, ap₂, subst, ◌∙◌, arith}
use Rattle.std.specs.List.{AllByRecursion, AllZip, list_any}
use Rattle.std.specs.Option.{option_map}
use Rattle.std.proofs.lemmas.Bool.{eqb-true, eq-eqb}
use Rattle.std.proofs.lemmas.List.{map-append}
use Rattle.scr_tables.proofs.TableRows.{passes_or_fails}
use Rattle.scr_num.specs.Rounding.{ends}
use Rattle.scr_num.specs.declared.span.Span.{Span}
use Rattle.scr_factors.specs.Values.{FactorValues}
use Rattle.scr_sheet.specs.declared.sheet.BalanceSheet.{BalanceSheet}
use Rattle.scr_nodes.specs.declared.node.Node.{Node}
use Rattle.scr_nodes.specs.declared.node.Node.TheVariants as nodes
use Rattle.scr_nodes.specs.declared.node.OfCurrency.TheVariants as of_currencies
use Rattle.scr_nodes.specs.declared.node.Whole.TheVariants as wholes
use Rattle.scr_rules.specs.Close.{is_open_choice}
use Rattle.scr_rules.specs.Worked.{worked}
use Rattle.scr_reachability.specs.Linked.{AreAt, AreNumbers}
use Rattle.scr_tree.specs.Figures.{AreKnownOf, AreReadAt, AreSpansOf, HasFigure, HaveFigures, IsPutRight, Reckoning, Worth, opens, worth_of}
use Rattle.scr_tree.specs.declared.figures.Below.{Below}
use Rattle.scr_partial_sums.specs.declared.figure.Figure.{Figure}

-- ---- along a list

pub take-next : {A : Type 0} (xs : List A) (k : ℕ) (x : A) → slice_get xs k ≡ Some x → take (k + 1) xs ≡ take k xs ++ x ∷ []
take-next [] zero x is = absurd (let clash : None ≡ Some x = is in cc)
take-next [] (suc k) x is = absurd (let clash : None ≡ Some x = is in cc)
take-next (y ∷ xs) zero x is = let same : y ≡ x = cc in ap (λ z. z ∷ []) same
take-next (y ∷ xs) (suc k) x is = rw add-one (ap (λ zs. y ∷ zs) (rw add-one at (take-next xs k x is)))

-- what holds of the items of two lists, with one more of each
pub zip-next : {A B : Type 0} (R : A → B → Type 0) (xs : List A) (ys : List B) (x : A) (y : B) → AllZip R xs ys → R x y
    → AllZip R (xs ++ x ∷ []) (ys ++ y ∷ [])
zip-next R [] [] x y zip here = (here, tt)
zip-next R [] (b ∷ ys) x y zip here = absurd zip
zip-next R (a ∷ xs) [] x y zip here = absurd zip
zip-next R (a ∷ xs) (b ∷ ys) x y zip here = (zip.0, zip-next R xs ys x y zip.1 here)

any-next : {A : Type 0} (f : A → Bool) (xs : List A) (x : A) → list_any f (xs ++ x ∷ []) ≡ (list_any f xs || f x)
any-next f [] x = or-nothing (f x)
  where
    or-nothing : (b : Bool) → (b || false) ≡ (false || b)
    or-nothing true = refl
    or-nothing false = refl
any-next f (y ∷ xs) x = by (f y) (any-next f xs x)
  where
    by : (b : Bool) → list_any f (xs ++ x ∷ []) ≡ (list_any f xs || f x)
        → (b || list_any f (xs ++ x ∷ [])) ≡ ((b || list_any f xs) || f x)
    by true rest = refl
    by false rest = rest

-- ---- figures that are read

-- what holds of all holds of one that stands behind some
pub from-all : (P : ℕ → Type 0) (done rest : List ℕ) (one : ℕ) → All P (done ++ one ∷ rest) → P one
from-all P [] rest one all = all 0 0 (omega arith)
from-all P (x ∷ done) rest one all = from-all P done rest one (λ i d low. all (suc i) d (omega (arith, low)))

pub read-next : (figures : List Figure) (numbers : List ℕ) (number : ℕ) (figure : Figure) (old now : Below)
    → AreReadAt figures numbers old → slice_get figures number ≡ Some figure
    → now.spans.items ≡ old.spans.items ++ figure.span ∷ [] → now.close ≡ (old.close || figure.close)
    → AreReadAt figures (numbers ++ number ∷ []) now
read-next figures numbers number figure old now read here spans close = record {
  read = read.read ++ figure ∷ [];
  at = zip-next (λ n (f : Figure). slice_get figures n ≡ Some f) numbers read.read number figure read.at here;
  spans = spans ∙ (ap (λ (xs : List Span). xs ++ figure.span ∷ []) read.spans
      ∙ sym (map-append (λ (f : Figure). f.span) read.read (figure ∷ [])));
  close = close ∙ (ap (λ b. b || figure.close) read.close ∙ sym (any-next (λ (f : Figure). f.close) read.read figure));
}

module _ {Node : Type 0} (reckoning : Reckoning Node) (figures : List Figure) where
  one-worth : (number : ℕ) (node : Node) (figure : Figure) → HasFigure reckoning figures number node
      → slice_get figures number ≡ Some figure → worth_of figure ≡ reckoning.worth node
  one-worth number node figure has here =
      let both : Some (worth_of figure) ≡ Some (reckoning.worth node) = sym (ap (option_map worth_of) here) ∙ has in cc

  worths : (numbers : List ℕ) (list : List Node) (read : List Figure) → HaveFigures reckoning figures numbers list
      → AllZip (λ number figure. slice_get figures number ≡ Some figure) numbers read
      → map worth_of read ≡ map reckoning.worth list
  worths [] [] [] have at = refl
  worths [] [] (f ∷ read) have at = absurd at
  worths [] (m ∷ list) read have at = absurd have
  worths (n ∷ numbers) [] read have at = absurd have
  worths (n ∷ numbers) (m ∷ list) [] have at = absurd at
  worths (n ∷ numbers) (m ∷ list) (f ∷ read) have at =
      ap₂ (λ (x : Worth) (xs : List Worth). x ∷ xs) (one-worth n m f have.0 at.0) (worths numbers list read have.1 at.1)

-- ---- what is read off them

map-worked : (read : List Figure) → map ends (map (λ (f : Figure). f.span) read) ≡ map (λ (w : Worth). w.worked) (map worth_of read)
map-worked [] = refl
map-worked (f ∷ read) = ap (λ es. ends f.span ∷ es) (map-worked read)

worked-each : {Node : Type 0} (worth : Node → Worth) (list : List Node)
    → map (λ (w : Worth). w.worked) (map worth list) ≡ map (λ node. (worth node).worked) list
worked-each worth [] = refl
worked-each worth (n ∷ list) = ap (λ es. (worth n).worked ∷ es) (worked-each worth list)

any-close : (read : List Figure) → list_any (λ (f : Figure). f.close) read ≡ list_any (λ b. b) (map (λ (w : Worth). w.close) (map worth_of read))
any-close [] = refl
any-close (f ∷ read) = ap (λ b. f.close || b) (any-close read)

close-each : {Node : Type 0} (worth : Node → Worth) (list : List Node)
    → map (λ (w : Worth). w.close) (map worth list) ≡ map (λ node. (worth node).close) list
close-each worth [] = refl
close-each worth (n ∷ list) = ap (λ bs. (worth n).close ∷ bs) (close-each worth list)

-- what is read at the numbers of figures that are right is what these are worth
pub read-right : {Node : Type 0} (reckoning : Reckoning Node) (figures : List Figure) (numbers : List ℕ) (list : List Node)
    (below : Below) → HaveFigures reckoning figures numbers list → AreReadAt figures numbers below
    → AreSpansOf reckoning list below
read-right reckoning figures numbers list below have read =
    let same : map worth_of read.read ≡ map reckoning.worth list =
    worths reckoning figures numbers list read.read have read.at in
    record {
      spans = ap (map ends) read.spans ∙ (map-worked read.read ∙ (ap (map (λ (w : Worth). w.worked)) same
          ∙ worked-each reckoning.worth list));
      close = read.close ∙ (any-close read.read
          ∙ (ap (λ ws. list_any (λ b. b) (map (λ (w : Worth). w.close) ws)) same
          ∙ ap (list_any (λ b. b)) (close-each reckoning.worth list)));
    }

pub opens-is : (factors : FactorValues) (sheet : BalanceSheet) (node : Node)
    → opens node (worked factors sheet node) ≡ is_open_choice factors sheet node
opens-is factors sheet (nodes.Whole (wholes.Choice which)) = refl
opens-is factors sheet (nodes.Currency currency of_currencies.Choice) = refl
opens-is factors sheet (nodes.Whole wholes.DefaultBand) = refl
opens-is factors sheet node = refl

-- ---- figures that are known

module _ {Node : Type 0} (reckoning : Reckoning Node) (At : Node → ℕ → Type 0) where
  -- of a kind, all of which are of another
  pub known-weaker : (figures : List Figure) (P Q : Node → Type 0)
      → ((node : Node) → reckoning.graph.live node ≡ true → Q node → P node)
      → AreKnownOf reckoning At figures P → AreKnownOf reckoning At figures Q
  unfolding AreKnownOf
  known-weaker figures P Q step known = λ node number at live q. known node number at live (step node live q)

  -- at the numbers of nodes of the kind
  pub known-have : (figures : List Figure) (P : Node → Type 0) → AreKnownOf reckoning At figures P
      → (numbers : List ℕ) (list : List Node) → AreAt At numbers list
      → AllByRecursion (λ node. (reckoning.graph.live node ≡ true) × P node) list
      → HaveFigures reckoning figures numbers list
  unfolding AreKnownOf
  known-have figures P known [] [] at each = tt
  known-have figures P known [] (m ∷ list) at each = absurd at
  known-have figures P known (n ∷ numbers) [] at each = absurd at
  known-have figures P known (n ∷ numbers) (m ∷ list) at each =
      (known m n at.0 each.0.0 each.0.1, known-have figures P known numbers list at.1 each.1)

  -- with one more, that is put
  pub known-put : (size : ℕ) → AreNumbers reckoning.graph At size → (old now : List Figure) (P : Node → Type 0) (node : Node) (number : ℕ)
      → AreKnownOf reckoning At old P → IsPutRight reckoning At old now node number
      → AreKnownOf reckoning At now (λ n. P n ⊎ (n ≡ node))
  unfolding AreKnownOf
  known-put size are old now P node number known put =
      λ n m at live p. passes_or_fails (nat_eq m number)
      (λ e. here n m at (eqb-true m number e))
      (λ e. by n m at live (λ same. let clash : true ≡ false = sym (eq-eqb m number same) ∙ e in absurd (cc)) p)
    where
      here : (n : Node) (m : ℕ) → At n m → m ≡ number → HasFigure reckoning now m n
      here n m at same =
          let one : n ≡ node = are.exact number n node (subst (At n) same at) put.at in
          subst (λ k. HasFigure reckoning now k n) (sym same)
          (subst (HasFigure reckoning now number) (sym one) put.there)

      by : (n : Node) (m : ℕ) → At n m → reckoning.graph.live n ≡ true → (m ≡ number → ⊥) → P n ⊎ (n ≡ node)
          → HasFigure reckoning now m n
      by n m at live other (inl p) = ap (option_map worth_of) (put.others m other) ∙ known n m at live p
      by n m at live other (inr same) =
          absurd (other (are.only n m number at (subst (λ k. At k number) (sym same) put.at)))
