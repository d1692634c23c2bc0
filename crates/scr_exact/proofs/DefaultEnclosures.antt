-- The figures of counterparty default risk enclose the exact ones, where they cover their rules.
use Rattle.std.proofs.Common.{◌≡◌, ℕ, zero, suc, ◌+◌, ◌*◌, ◌<◌, Bool, true, false, List, [], ◌∷◌, if◌then◌else◌, ℤ, pos, negsuc, ◌+ℤ◌, ◌*ℤ◌, refl, ap, sym, subst, ◌∙◌, Some, arith, lit<}
use Rattle.std.specs.Prelude.{IsBitSet, slice_index}
use Rattle.std.specs.List.{AllByRecursion}
use Rattle.std.proofs.lemmas.Int.{ints}
use Rattle.std.proofs.lemmas.List.Sums.{sum_by-cons}
use Rattle.scr_num.specs.Figure.{Figure, Frac, AtMost}
use Rattle.scr_num.specs.Fraction.{Fraction, ◌≼◌, zero_fraction, percent, plus, minus, product, square, is_less}
use Rattle.scr_num.specs.Enclosure.{Encloses, Measures}
use Rattle.scr_num.specs.Rounding.{Ends, exact_ends, add_ends}
use Rattle.scr_num.specs.Sums.{Equals}
use Rattle.scr_num.proofs.AddedEnds.{same_ends}
use Rattle.scr_num.proofs.Enclosing.{Encloses-exact}
use Rattle.scr_num.proofs.SumLemmas.{Encloses-zero}
use Rattle.scr_agg.specs.Absorbed.{net_figure}
use Rattle.scr_agg.proofs.Chosen.{not_less, less_le}
use Rattle.scr_agg.proofs.NetAmounts.{Encloses-net}
use Rattle.scr_default.specs.Losses.{cents, grains, lgd_bank_exact, lgd_rein_exact}
use Rattle.scr_default.specs.LossesEnds.{lgd_bank_grains, lgd_rein_grains, square_grains, totals_in, squares_in}
use Rattle.scr_default.specs.Sums.{sum_below}
use Rattle.scr_default.specs.Type1Ends.{type1_ends, type1_mask}
use Rattle.scr_default.specs.Variance.{variance_exact}
use Rattle.scr_default.proofs.AddedUp.{ends_below, Encloses-sum}
use Rattle.scr_default.proofs.Alike.{AreAlike, variance-alike, band-alike, type1-alike, Encloses-alike}
use Rattle.scr_default.proofs.Band.{type1-encloses, type1-bit}
use Rattle.scr_default.proofs.Enclosed.{variance-encloses}
use Rattle.scr_default.proofs.Roots.{type2-encloses, default-encloses}
use Rattle.scr_factors.specs.Values.{FactorValues}
use Rattle.scr_profile.specs.DefaultClasses.{class_of_step}
use Rattle.scr_profile.specs.declared.default_class.DefaultClass.{DefaultClass}
use Rattle.scr_profile.specs.declared.default_class.DefaultClass.TheVariants as default_classes
use Rattle.scr_sheet.specs.Absorptions.{absorbed}
use Rattle.scr_sheet.specs.Validity.{Valid}
use Rattle.scr_sheet.specs.declared.{rows.Group.Group, sheet.BalanceSheet.BalanceSheet}
use Rattle.scr_nodes.specs.declared.node.Node.{Node}
use Rattle.scr_nodes.specs.declared.node.Node.TheVariants as nodes
use Rattle.scr_nodes.specs.declared.node.OfGroup.TheVariants as of_groups
use Rattle.scr_nodes.specs.declared.node.Whole.TheVariants as wholes
use Rattle.scr_nodes.specs.declared.node.Risk.TheVariants as risks
use Rattle.scr_nodes.specs.OwnOf.{risk_key}
use Rattle.scr_nodes.specs.Rows.{is_bank_of, is_reinsurer_of, is_of_default_class}
use Rattle.scr_rules.specs.DefaultGrains.{total_where, bank_grains, reinsurer_grains, group_grains, class_grains, class_square_grains, in_classes, total_grains, overdue_cents, other_due_cents}
use Rattle.scr_exact.specs.DefaultExact.{bank_loss, reinsurer_loss, group_loss, class_loss, class_square, loss_at, square_at, total_loss, default_variance, default_band, type1_exact, due_exact, default_exact}
use Rattle.scr_exact.specs.Exact.{exact, unit_of}
use Rattle.scr_exact.specs.InterestExact.{sum_where}
use Rattle.scr_rules.specs.Rules.{amount_of}
use Rattle.scr_exact.specs.Covering.{AreCovering, AreNotNegative, is_part_of_modules}
use Rattle.scr_exact.proofs.Covered.{covered, due, leaf-encloses, number-encloses, number-is}
use Rattle.scr_rules.proofs.DefaultSizes.{group-is, class-is, square-is, variance-is}
use Rattle.scr_exact.proofs.RowsEnclosed.{sum-encloses}
use Rattle.scr_rules.proofs.RowAmounts.{Enclosed}

-- so many units, known exactly, are enclosed by themselves
abbrev Told : ℕ → ℕ → Fraction → Type 0
Told unit n p = Enclosed unit (exact_ends (pos n)) p

told-exactly : (unit n : ℕ) (p : Fraction) → Measures unit (pos n) p → Told unit n p
told-exactly unit n p h = Encloses-exact unit (pos n) p h

-- and are the fraction
measured-by : (n : ℕ) (p : Fraction) → Told 1000 n p → Measures 1000 (pos n) p
unfolding AtMost
measured-by n p h = record { positive = h.positive; equal = omega (arith, ints, h.at_most.cross, h.at_least.cross) }

square-measured : (n : ℕ) (p : Fraction) → Measures 1000 (pos n) p → Measures 1_000_000 (pos (n * n)) (square p)
square-measured n p h = record { positive = lit< tt; equal = by p.num p.den h.equal }
  where
    by : (z : ℤ) (d : ℕ) → pos n *ℤ pos d ≡ z *ℤ pos 1000 → pos (n * n) *ℤ pos (d * d) ≡ (z *ℤ z) *ℤ pos 1_000_000
    by (pos m) d e =
        let equal : n * d ≡ m * 1000 = omega (arith, ints, e) in
        let squared : (n * d) * (n * d) ≡ (m * 1000) * (m * 1000) = ap (λ (x : ℕ). x * x) equal in
        omega (arith, ints, squared)
    by (negsuc m) d e = absurd (omega (arith, ints, e))

added-exactly : (a b c : ℕ) → c ≡ a + b → add_ends (exact_ends (pos a)) (exact_ends (pos b)) ≡ exact_ends (pos c)
added-exactly a b c is = ap exact_ends (whole a b c is)
  where
    whole : (a b c : ℕ) → c ≡ a + b → pos a +ℤ pos b ≡ pos c
    whole a b c e = omega (arith, ints, e)

-- sums over the rows that pass a test
where-told : {Row : Type 0} (unit : ℕ) → 0 < unit → (test : Row → Bool) (amount : Row → ℕ) (part : Row → Fraction) (rows : List Row) → AllByRecursion (λ row. Told unit (amount row) (part row)) rows
    → Told unit (total_where test amount rows) (sum_where test part rows)
where-told unit positive test amount part [] each = Encloses-zero unit positive
where-told {Row} unit positive test amount part (row ∷ rows) each =
    subst (λ (e : Ends). Enclosed unit e (sum_where test part (row ∷ rows))) (added-exactly (if test row then amount row else 0) (total_where test amount rows) _ (sum_by-cons (λ (r : Row). if test r then amount r else 0) row rows))
    (sum-encloses unit positive (exact_ends (pos (if test row then amount row else 0))) (exact_ends (pos (total_where test amount rows))) (if test row then part row else zero_fraction) (sum_where test part rows)
    (by (test row) each.0) (where-told unit positive test amount part rows each.1))
  where
    by : (b : Bool) → Told unit (amount row) (part row) → Told unit (if b then amount row else 0) (if b then part row else zero_fraction)
    by true own = own
    by false own = Encloses-zero unit positive

every : {X : Type 0} (P : X → Type 0) (xs : List X) → ((x : X) → P x) → AllByRecursion P xs
every P [] each = tt
every P (x ∷ xs) each = (each x, every P xs each)

-- ---- losses given default
bank-told : (owed : ℕ) → Told 1000 (lgd_bank_grains owed) (lgd_bank_exact owed)
bank-told owed = told-exactly 1000 (lgd_bank_grains owed) (lgd_bank_exact owed) (record { positive = lit< tt; equal = omega (arith, ints) })

-- the recoverables and half the risk-mitigating effect, half of both, less the collateral
abbrev uncovered : ℕ → ℕ → ℕ → Fraction
uncovered r m c = minus (product (percent 50) (plus (cents r) (product (percent 50) (cents m)))) (cents c)

rein-told : (r m c : ℕ) → Told 1000 (lgd_rein_grains r m c) (lgd_rein_exact r m c)
rein-told r m c = told-exactly 1000 (lgd_rein_grains r m c) (lgd_rein_exact r m c) (record { positive = lit< tt; equal = by (is_less zero_fraction (uncovered r m c)) refl })
  where
    by : (b : Bool) → is_less zero_fraction (uncovered r m c) ≡ b
        → pos (lgd_rein_grains r m c) *ℤ pos (if b then uncovered r m c else zero_fraction).den ≡ (if b then uncovered r m c else zero_fraction).num *ℤ pos 1000
    by true e = let some = (less_le zero_fraction (uncovered r m c) e).cross in omega (arith, ints, some)
    by false e = let none = (not_less zero_fraction (uncovered r m c) e).cross in omega (arith, ints, none)

-- ---- whole numbers that are fractions
grains-equal : (n : ℕ) (p : Fraction) → Told 1000 n p → Equals (grains n) p
unfolding AtMost
grains-equal n p h = record { below = record { cross = h.at_most.cross }; above = record { cross = h.at_least.cross } }

square_grains-equal : (n : ℕ) (p : Fraction) → Told 1_000_000 n p → Equals (square_grains n) p
unfolding AtMost
square_grains-equal n p h = record { below = record { cross = h.at_most.cross }; above = record { cross = h.at_least.cross } }

grains-least : (n : ℕ) → zero_fraction ≼ grains n
grains-least n = record { cross = omega (arith, ints) }

square_grains-least : (n : ℕ) → zero_fraction ≼ square_grains n
square_grains-least n = record { cross = omega (arith, ints) }

six-added : (g : ℕ → ℕ) → ends_below (λ (class : ℕ). exact_ends (pos (g class))) 6 ≡ exact_ends (pos (g 0 + g 1 + g 2 + g 3 + g 4 + g 5))
unfolding sum_below
six-added g = same_ends _ _ _ _ (omega (arith, ints)) (omega (arith, ints))

module _ (sheet : BalanceSheet) where
  -- the losses in grains are those of the articles
  pub group-told : (name : List ℕ) → Told 1000 (group_grains sheet name) (group_loss sheet name)
  unfolding group_grains group_loss
  group-told name =
      let banks = where-told 1000 (lit< tt) (is_bank_of name) bank_grains bank_loss sheet.banks (every (λ b. Told 1000 (bank_grains b) (bank_loss b)) sheet.banks (λ b. bank-told b.cents)) in
      let reinsurers = where-told 1000 (lit< tt) (is_reinsurer_of name) reinsurer_grains reinsurer_loss sheet.reinsurers
      (every (λ r. Told 1000 (reinsurer_grains r) (reinsurer_loss r)) sheet.reinsurers (λ r. rein-told r.recoverables r.mitigation r.collateral)) in
      let a = total_where (is_bank_of name) bank_grains sheet.banks in
      let b = total_where (is_reinsurer_of name) reinsurer_grains sheet.reinsurers in
      subst (λ (e : Ends). Enclosed 1000 e (plus (sum_where (is_bank_of name) bank_loss sheet.banks) (sum_where (is_reinsurer_of name) reinsurer_loss sheet.reinsurers))) (added-exactly a b (a + b) refl)
      (sum-encloses 1000 (lit< tt) (exact_ends (pos a)) (exact_ends (pos b)) _ _ banks reinsurers)

  pub class-told : (class : DefaultClass) → Told 1000 (class_grains sheet class) (class_loss sheet class)
  unfolding class_grains class_loss
  class-told class =
      where-told 1000 (lit< tt) (is_of_default_class class) (λ (g : Group). group_grains sheet g.name) (λ (g : Group). group_loss sheet g.name) sheet.groups
      (every (λ (g : Group). Told 1000 (group_grains sheet g.name) (group_loss sheet g.name)) sheet.groups (λ g. group-told g.name))

  pub square-told : (class : DefaultClass) → Told 1_000_000 (class_square_grains sheet class) (class_square sheet class)
  unfolding class_square_grains class_square
  square-told class =
      where-told 1_000_000 (lit< tt) (is_of_default_class class) (λ (g : Group). group_grains sheet g.name * group_grains sheet g.name) (λ (g : Group). square (group_loss sheet g.name)) sheet.groups
      (every (λ (g : Group). Told 1_000_000 (group_grains sheet g.name * group_grains sheet g.name) (square (group_loss sheet g.name))) sheet.groups
      (λ g. told-exactly 1_000_000 (group_grains sheet g.name * group_grains sheet g.name) (square (group_loss sheet g.name)) (square-measured (group_grains sheet g.name) (group_loss sheet g.name) (measured-by (group_grains sheet g.name) (group_loss sheet g.name) (group-told g.name)))))

  -- so they are the same fractions, and none is negative
  totals-alike : AreAlike (totals_in (in_classes (class_grains sheet))) (loss_at sheet)
  totals-alike = record { least = λ j a. grains-least (slice_index (in_classes (class_grains sheet)) j); equal = by }
    where
      one : (class : DefaultClass) → Equals (grains (class_grains sheet class)) (class_loss sheet class)
      one class = grains-equal (class_grains sheet class) (class_loss sheet class) (class-told class)

      by : (j : ℕ) → j < 6 → Equals (totals_in (in_classes (class_grains sheet)) j) (loss_at sheet j)
      by zero a = one default_classes.Step0
      by (suc zero) a = one default_classes.Step1
      by (suc (suc zero)) a = one default_classes.Step2
      by (suc (suc (suc zero))) a = one default_classes.Step3
      by (suc (suc (suc (suc zero)))) a = one default_classes.Step4
      by (suc (suc (suc (suc (suc zero))))) a = one default_classes.Steps5And6
      by (suc (suc (suc (suc (suc (suc n)))))) a = absurd (omega (arith, a))

  squares-alike : AreAlike (squares_in (in_classes (class_square_grains sheet))) (square_at sheet)
  squares-alike = record { least = λ j a. square_grains-least (slice_index (in_classes (class_square_grains sheet)) j); equal = by }
    where
      one : (class : DefaultClass) → Equals (square_grains (class_square_grains sheet class)) (class_square sheet class)
      one class = square_grains-equal (class_square_grains sheet class) (class_square sheet class) (square-told class)

      by : (j : ℕ) → j < 6 → Equals (squares_in (in_classes (class_square_grains sheet)) j) (square_at sheet j)
      by zero a = one default_classes.Step0
      by (suc zero) a = one default_classes.Step1
      by (suc (suc zero)) a = one default_classes.Step2
      by (suc (suc (suc zero))) a = one default_classes.Step3
      by (suc (suc (suc (suc zero)))) a = one default_classes.Step4
      by (suc (suc (suc (suc (suc zero))))) a = one default_classes.Steps5And6
      by (suc (suc (suc (suc (suc (suc n)))))) a = absurd (omega (arith, a))

  total-alike : Equals (grains (total_grains sheet)) (total_loss sheet)
  total-alike =
      grains-equal (total_grains sheet) (total_loss sheet)
      (subst (λ (e : Ends). Enclosed 1000 e (total_loss sheet)) (six-added (λ step. class_grains sheet (class_of_step (Some step))))
      (Encloses-sum 1000 (λ step. exact_ends (pos (class_grains sheet (class_of_step (Some step))))) (loss_at sheet) 6 (lit< tt) (λ step a. class-told (class_of_step (Some step)))))

abbrev Holds : ℕ → Ends → Figure → Type 0
Holds unit e f = Encloses unit e.low e.high f

module _ (factors : FactorValues) (sheet : BalanceSheet) (valid : Valid sheet) (figure : Node → Ends) (covering : AreCovering factors sheet figure) where
  reaches : (unit : ℕ) (node : Node) (f : Figure) → Holds unit (due factors sheet valid figure covering node) f → Holds unit (figure node) f
  reaches unit node f h = covered factors sheet valid figure covering unit node f h

  abbrev pub NodeEncloses : Node → Type 0
  NodeEncloses node = (f : Figure) → exact factors sheet node ≡ Some f → Holds (unit_of node) (figure node) f

  told : (unit : ℕ) (e : Ends) (g f : Figure) → Some g ≡ Some f → Holds unit e g → Holds unit e f
  told unit e g f is h = let same : g ≡ f = cc in subst (Holds unit e) same h

  pub group-encloses : (name : List ℕ) → NodeEncloses (nodes.Group name of_groups.Loss)
  group-encloses name f is = told 1000 _ _ f is (number-encloses factors sheet valid figure covering 1000 (nodes.Group name of_groups.Loss) (Frac (group_loss sheet name)) refl (subst (λ (e : Ends). Enclosed 1000 e (group_loss sheet name)) (sym (group-is factors sheet valid name)) (group-told sheet name)))

  pub class-encloses : (class : DefaultClass) → NodeEncloses (nodes.Whole (wholes.ClassLoss class))
  class-encloses class f is = told 1000 _ _ f is (number-encloses factors sheet valid figure covering 1000 (nodes.Whole (wholes.ClassLoss class)) (Frac (class_loss sheet class)) refl (subst (λ (e : Ends). Enclosed 1000 e (class_loss sheet class)) (sym (class-is factors sheet valid class)) (class-told sheet class)))

  pub square-encloses : (class : DefaultClass) → NodeEncloses (nodes.Whole (wholes.ClassSquare class))
  square-encloses class f is = told 1_000_000 _ _ f is (number-encloses factors sheet valid figure covering 1_000_000 (nodes.Whole (wholes.ClassSquare class)) (Frac (class_square sheet class)) refl (subst (λ (e : Ends). Enclosed 1_000_000 e (class_square sheet class)) (sym (square-is factors sheet valid class)) (square-told sheet class)))

  pub variance-holds : Enclosed 1_000_000 (figure (nodes.Whole wholes.Variance)) (default_variance sheet)
  unfolding default_variance
  variance-holds =
      leaf-encloses factors sheet valid figure covering 1_000_000 (nodes.Whole wholes.Variance) (Frac (default_variance sheet)) refl
      (subst (λ (e : Ends). Enclosed 1_000_000 e (default_variance sheet)) (sym (variance-is factors sheet valid))
      (Encloses-alike 1_000_000 _ _ (variance_exact (totals_in (in_classes (class_grains sheet))) (squares_in (in_classes (class_square_grains sheet)))) (variance_exact (loss_at sheet) (square_at sheet))
      (variance-alike (totals_in (in_classes (class_grains sheet))) (loss_at sheet) (squares_in (in_classes (class_square_grains sheet))) (square_at sheet) (totals-alike sheet) (squares-alike sheet))
      (variance-encloses (in_classes (class_grains sheet)) (in_classes (class_square_grains sheet)))))

  pub variance-node-encloses : NodeEncloses (nodes.Whole wholes.Variance)
  variance-node-encloses f is = told 1_000_000 _ _ f is variance-holds

  -- the losses of all classes in grains, and the figures of the bands and of type 1 exposures by them
  total-is : amount_of (figure (nodes.Whole (wholes.ClassLoss default_classes.Step0))) + amount_of (figure (nodes.Whole (wholes.ClassLoss default_classes.Step1))) + amount_of (figure (nodes.Whole (wholes.ClassLoss default_classes.Step2))) + amount_of (figure (nodes.Whole (wholes.ClassLoss default_classes.Step3)))
      + amount_of (figure (nodes.Whole (wholes.ClassLoss default_classes.Step4))) + amount_of (figure (nodes.Whole (wholes.ClassLoss default_classes.Steps5And6))) ≡ total_grains sheet
  total-is = rw (loss-is default_classes.Step0, loss-is default_classes.Step1, loss-is default_classes.Step2, loss-is default_classes.Step3, loss-is default_classes.Step4, loss-is default_classes.Steps5And6) refl
    where
      loss-is : (class : DefaultClass) → figure (nodes.Whole (wholes.ClassLoss class)) ≡ exact_ends (pos (class_grains sheet class))
      loss-is class = number-is factors sheet valid figure covering (nodes.Whole (wholes.ClassLoss class)) refl ∙ class-is factors sheet valid class

  band-is : figure (nodes.Whole wholes.DefaultBand) ≡ exact_ends (pos (type1_mask (total_grains sheet) (figure (nodes.Whole wholes.Variance))))
  band-is = covering.choices (nodes.Whole wholes.DefaultBand) refl ∙ ap (λ n. exact_ends (pos (type1_mask n (figure (nodes.Whole wholes.Variance))))) total-is

  -- the mask of the bands has the bit of the one that decides by the exact variance
  pub band-has-decisive : IsBitSet (amount_of (figure (nodes.Whole wholes.DefaultBand))) (default_band sheet)
  band-has-decisive =
      subst (λ (e : Ends). IsBitSet (amount_of e) (default_band sheet)) (sym band-is)
      (subst (λ (band : ℕ). IsBitSet (type1_mask (total_grains sheet) (figure (nodes.Whole wholes.Variance))) band) (band-alike (grains (total_grains sheet)) (total_loss sheet) (default_variance sheet) (grains-least (total_grains sheet)) (total-alike sheet))
      (type1-bit (total_grains sheet) (figure (nodes.Whole wholes.Variance)) (default_variance sheet) variance-holds))

  type1-holds : Holds 1000 (figure (nodes.Whole wholes.DefaultType1)) (type1_exact sheet)
  unfolding type1_exact
  type1-holds =
      reaches 1000 (nodes.Whole wholes.DefaultType1) (type1_exact sheet)
      (subst (λ (e : Ends). Holds 1000 e (type1_exact sheet)) (sym (ap (λ n. type1_ends n (figure (nodes.Whole wholes.Variance))) total-is))
      (type1-alike 1000 _ _ (grains (total_grains sheet)) (total_loss sheet) (default_variance sheet) (grains-least (total_grains sheet)) (total-alike sheet)
      (type1-encloses (total_grains sheet) (figure (nodes.Whole wholes.Variance)) (default_variance sheet) variance-holds)))

  pub type1-node-encloses : NodeEncloses (nodes.Whole wholes.DefaultType1)
  type1-node-encloses f is = told 1000 _ _ f is type1-holds

  type2-holds : Holds 1000 (figure (nodes.Whole wholes.DefaultType2)) (due_exact sheet)
  type2-holds = reaches 1000 (nodes.Whole wholes.DefaultType2) (due_exact sheet) (type2-encloses (overdue_cents sheet) (other_due_cents sheet))

  pub type2-node-encloses : NodeEncloses (nodes.Whole wholes.DefaultType2)
  type2-node-encloses f is = told 1000 _ _ f is type2-holds

  -- where neither type is below 0
  module _ (least : AreNotNegative is_part_of_modules figure) where
    default-holds : Holds 1000 (figure (nodes.Whole wholes.Default)) (default_exact sheet)
    unfolding default_exact
    default-holds =
        reaches 1000 (nodes.Whole wholes.Default) (default_exact sheet)
        (default-encloses 1000 (figure (nodes.Whole wholes.DefaultType1)) (figure (nodes.Whole wholes.DefaultType2)) (type1_exact sheet) (due_exact sheet) (lit< tt) (least (nodes.Whole wholes.DefaultType1) refl) (least (nodes.Whole wholes.DefaultType2) refl) type1-holds type2-holds)

    pub default-node-encloses : NodeEncloses (nodes.Whole wholes.Default)
    default-node-encloses f is = told 1000 _ _ f is default-holds

    pub net-node-encloses : NodeEncloses (nodes.Whole (wholes.NetPart risks.Default))
    net-node-encloses f is =
        told 1000 _ _ f is
        (reaches 1000 (nodes.Whole (wholes.NetPart risks.Default)) (net_figure (default_exact sheet) (absorbed (risk_key risks.Default) sheet.numbers))
        (Encloses-net (figure (nodes.Whole wholes.Default)) (absorbed (risk_key risks.Default) sheet.numbers) (default_exact sheet) default-holds))
