-- Other single numbers touch just the figures that the test tells, and they are among the candidates.
use Rattle.std.proofs.Common.{◌≡◌, ℕ, ◌-◌, ◌&&◌, ◌==◌, true, int_eq, List, [], Some, slice_get, refl, sym, ap, ◌∙◌}
use Rattle.std.specs.Prelude.{slice_index_or}
use Rattle.std.specs.Bool.{Decides}
use Rattle.std.proofs.lemmas.Bool.Decides.{Decides-and, Decides-eqb, Decides-int_eq, Decides-like}
use Rattle.std.proofs.lemmas.Slice.Eq.{slice_eq-Decides}
use Rattle.scr_factors.specs.Values.{FactorValues}
use Rattle.scr_funds.proofs.Members.{IsMember}
use Rattle.scr_profile.specs.declared.operational.OpInput.{OpInput}
use Rattle.scr_profile.specs.Segments.{number_of, set_of}
use Rattle.scr_profile.specs.declared.segment.Segment.TheVariants as segments
use Rattle.scr_profile.specs.declared.set.Set.{Set}
use Rattle.scr_profile.specs.declared.set.Set.TheVariants as sets
use Rattle.scr_sheet.specs.Absorptions.{absorbed}
use Rattle.scr_sheet.specs.BalanceSheet.{volumes_of}
use Rattle.scr_sheet.specs.declared.keys.CatKey.TheVariants as cats
use Rattle.scr_sheet.specs.declared.keys.Projection.TheVariants as projections
use Rattle.scr_sheet.specs.declared.numbers.Numbers.{Numbers}
use Rattle.scr_sheet.specs.declared.rows.Class.TheVariants as classes
use Rattle.scr_sheet.specs.declared.sheet.BalanceSheet.{BalanceSheet}
use Rattle.scr_nodes.specs.Own.{Own}
use Rattle.scr_nodes.specs.Own.ChargedRoot.{NsltRoot, NonlifeRoot}
use Rattle.scr_nodes.specs.Own.Own.{Absorbing, Bscr, Charged, CorrelatedWith, Diversified, Due, Fall, Net as NetOwn, OperationalCharge, Premiums, Provisions, Segment, Taxed}
use Rattle.scr_nodes.specs.OwnOf.{catastrophe_cents, interest_key, lapse_cents, no_operations, premiums_of, provisions_of, risk_key}
use Rattle.scr_nodes.specs.Rows.{has_stress}
use Rattle.scr_nodes.specs.declared.node.Adjustment.TheVariants as adjustments
use Rattle.scr_nodes.specs.declared.node.Biometric.TheVariants as biometrics
use Rattle.scr_nodes.specs.declared.node.Direction.TheVariants.{Up, Down}
use Rattle.scr_nodes.specs.declared.node.Equities.TheVariants as equities
use Rattle.scr_nodes.specs.declared.node.Measure.TheVariants.{Gross, Net}
use Rattle.scr_nodes.specs.declared.node.Node.{Node}
use Rattle.scr_nodes.specs.declared.node.Node.TheVariants as nodes
use Rattle.scr_nodes.specs.declared.node.OfCurrency.TheVariants as of_currencies
use Rattle.scr_nodes.specs.declared.node.Whole.TheVariants as wholes
use Rattle.scr_nodes.specs.declared.node.Operational.TheVariants as operations
use Rattle.scr_nodes.specs.declared.node.Risk.TheVariants as risks
use Rattle.scr_nodes.proofs.Apart.{member-at}
use Rattle.scr_row_change.specs.Changes.{after}
use Rattle.scr_touched.specs.SingleNumbers.{earned_at, number_nodes, numbers_touch, provision_at, same_earned, same_operations, same_provision, same_volume, same_volumes, stress_cents}
use Rattle.scr_row_change.specs.declared.change.Change.TheVariants as changes
use Rattle.scr_row_change.proofs.Compared.{always}
use Rattle.scr_touched.proofs.Decided.{Tells, told-always, told-moved, unread}

-- ---- own data that is the same where its numbers are

cents-same : (make : ℕ → Own) (back : Own → ℕ) → ((n : ℕ) → back (make n) ≡ n) → (a b : ℕ)
    → Decides (a == b) (make a ≡ make b)
cents-same make back own a b =
    Decides-like (a == b) (λ e. ap make e) (λ e. sym (own a) ∙ ap back e ∙ own b) (Decides-eqb a b)

of-net : Own → ℕ
of-net (NetOwn n) = n
of-net own = 0

of-charged : Own → ℕ
of-charged (Charged times n) = n
of-charged own = 0

of-root : Own → ℕ
of-root (CorrelatedWith root n) = n
of-root own = 0

of-bscr : Own → ℕ
of-bscr (Bscr n) = n
of-bscr own = 0

of-diversified : Own → ℕ
of-diversified (Diversified n) = n
of-diversified own = 0

of-absorbing : Own → ℕ
of-absorbing (Absorbing n) = n
of-absorbing own = 0

of-charge : Own → ℕ
of-charge (OperationalCharge n) = n
of-charge own = 0

net-same : (a b : ℕ) → Decides (a == b) (NetOwn a ≡ NetOwn b)
unfolding of-net
net-same a b = cents-same NetOwn of-net (λ n. refl) a b

charged-same : (times a b : ℕ) → Decides (a == b) (Charged times a ≡ Charged times b)
unfolding of-charged
charged-same times a b = cents-same (Charged times) of-charged (λ n. refl) a b

nslt-same : (a b : ℕ) → Decides (a == b) (CorrelatedWith NsltRoot a ≡ CorrelatedWith NsltRoot b)
unfolding of-root
nslt-same a b = cents-same (CorrelatedWith NsltRoot) of-root (λ n. refl) a b

nonlife-same : (a b : ℕ) → Decides (a == b) (CorrelatedWith NonlifeRoot a ≡ CorrelatedWith NonlifeRoot b)
unfolding of-root
nonlife-same a b = cents-same (CorrelatedWith NonlifeRoot) of-root (λ n. refl) a b

bscr-same : (a b : ℕ) → Decides (a == b) (Bscr a ≡ Bscr b)
unfolding of-bscr
bscr-same a b = cents-same Bscr of-bscr (λ n. refl) a b

diversified-same : (a b : ℕ) → Decides (a == b) (Diversified a ≡ Diversified b)
unfolding of-diversified
diversified-same a b = cents-same Diversified of-diversified (λ n. refl) a b

absorbing-same : (a b : ℕ) → Decides (a == b) (Absorbing a ≡ Absorbing b)
unfolding of-absorbing
absorbing-same a b = cents-same Absorbing of-absorbing (λ n. refl) a b

charge-same : (a b : ℕ) → Decides (a == b) (OperationalCharge a ≡ OperationalCharge b)
unfolding of-charge
charge-same a b = cents-same OperationalCharge of-charge (λ n. refl) a b

Decides-volumes : (xs ys : List (ℕ × ℕ)) → Decides (same_volumes xs ys) (xs ≡ ys)
Decides-volumes xs ys = slice_eq-Decides each xs ys (same_volumes xs ys) refl
  where
    each : (a b : ℕ × ℕ) → Decides (same_volume a b) (a ≡ b)
    each a b =
        Decides-like (same_volume a b) (λ h. λ i. (h.0 i, h.1 i))
        (λ e. (ap (λ (p : ℕ × ℕ). p.0) e, ap (λ (p : ℕ × ℕ). p.1) e))
        (Decides-and (a.0 == b.0) (a.1 == b.1) (Decides-eqb a.0 b.0) (Decides-eqb a.1 b.1))

segment-same : (premium reserve : ℕ) (xs ys : List (ℕ × ℕ))
    → Decides (same_volumes xs ys) (Segment xs premium reserve ≡ Segment ys premium reserve)
segment-same premium reserve xs ys =
    Decides-like (same_volumes xs ys) (λ e. ap (λ vs. Segment vs premium reserve) e) (λ e. cc) (Decides-volumes xs ys)

module _ (old new : Numbers) where
  due-same : (a b c d : ℕ) → Decides ((a == c) && (b == d)) (Due a b ≡ Due c d)
  due-same a b c d =
      Decides-like ((a == c) && (b == d)) (λ h. λ i. Due (h.0 i) (h.1 i)) (λ e. (cc, cc))
      (Decides-and (a == c) (b == d) (Decides-eqb a c) (Decides-eqb b d))

  taxed-same : (a b c d : ℕ) → Decides ((a == c) && (b == d)) (Taxed a b ≡ Taxed c d)
  taxed-same a b c d =
      Decides-like ((a == c) && (b == d)) (λ h. λ i. Taxed (h.0 i) (h.1 i)) (λ e. (cc, cc))
      (Decides-and (a == c) (b == d) (Decides-eqb a c) (Decides-eqb b d))

  earned-told : (place : ℕ) → Decides (same_earned place old new) (earned_at place old ≡ earned_at place new)
  earned-told place = Decides-eqb (earned_at place old) (earned_at place new)

  provision-told : (place : ℕ)
      → Decides (same_provision place old new) (provision_at place old ≡ provision_at place new)
  provision-told place = Decides-int_eq (provision_at place old) (provision_at place new)

  of-premiums : Own → OpInput
  of-premiums (Premiums input) = input
  of-premiums own = no_operations

  of-provisions : Own → OpInput
  of-provisions (Provisions input) = input
  of-provisions own = no_operations

  premiums-same : Decides (same_operations operations.Premiums old new)
      (Premiums (premiums_of old) ≡ Premiums (premiums_of new))
  unfolding of-premiums
  premiums-same =
      Decides-like (same_operations operations.Premiums old new)
      (λ h. λ i. Premiums (record no_operations {
        el = h.0 i;
        eul = h.1.0 i;
        pel = h.1.1.0 i;
        peul = h.1.1.1.0 i;
        en = h.1.1.1.1.0 i;
        pen = h.1.1.1.1.1 i;
      }))
      (λ e. let same : premiums_of old ≡ premiums_of new = ap of-premiums e in (
        ap (λ (p : OpInput). p.el) same,
        (
          ap (λ (p : OpInput). p.eul) same,
          (
            ap (λ (p : OpInput). p.pel) same,
            (ap (λ (p : OpInput). p.peul) same, (ap (λ (p : OpInput). p.en) same, ap (λ (p : OpInput). p.pen) same)),
          ),
        ),
      ))
      (Decides-and _ _ (earned-told 0) (Decides-and _ _ (earned-told 1) (Decides-and _ _ (earned-told 2)
      (Decides-and _ _ (earned-told 3) (Decides-and _ _ (earned-told 4) (earned-told 5))))))

  provisions-same : Decides (same_operations operations.Provisions old new)
      (Provisions (provisions_of old) ≡ Provisions (provisions_of new))
  unfolding of-provisions
  provisions-same =
      Decides-like (same_operations operations.Provisions old new)
      (λ h. λ i. Provisions (record no_operations { tpl = h.0 i; tpul = h.1.0 i; tpn = h.1.1 i }))
      (λ e. let same : provisions_of old ≡ provisions_of new = ap of-provisions e in
      (ap (λ (p : OpInput). p.tpl) same, (ap (λ (p : OpInput). p.tpul) same, ap (λ (p : OpInput). p.tpn) same)))
      (Decides-and _ _ (provision-told 0) (Decides-and _ _ (provision-told 1) (provision-told 2)))

-- ---- each stands among the candidates

in-place : (place : ℕ) (node : Node) → slice_get number_nodes place ≡ Some node → IsMember node number_nodes
in-place place node at = member-at number_nodes place node at

module _ (factors : FactorValues) (sheet : BalanceSheet) (new : Numbers) where
  abbrev later : BalanceSheet
  later = after (changes.Numbers new) sheet

  abbrev old : Numbers
  old = sheet.numbers

  -- all volumes of a set are those of the new numbers
  in-set : (set : Set) (place premium reserve : ℕ)
      → Decides (same_volumes (slice_index_or (volumes_of set old) place []) (slice_index_or (volumes_of set new) place []))
      (Segment (slice_index_or (volumes_of set old) place []) premium reserve
      ≡ Segment (slice_index_or (volumes_of set later.numbers) place []) premium reserve)
  in-set sets.Nl place premium reserve = segment-same premium reserve _ _
  in-set sets.Nslt place premium reserve = segment-same premium reserve _ _

  pub told : (node : Node) → Tells factors sheet later node (numbers_touch sheet.numbers new node)
  told (nodes.Whole (wholes.InterestScenario direction Net)) =
      told-always factors sheet later (nodes.Whole (wholes.InterestScenario direction Net)) _ refl refl
      (net-same (absorbed (interest_key direction) old) (absorbed (interest_key direction) new)) refl
  told (nodes.Whole (wholes.EquityPart equities)) =
      told-always factors sheet later (nodes.Whole (wholes.EquityPart equities)) _ refl refl
      (Decides-like (int_eq old.sym new.sym) (λ e. ap (Fall equities) e) (λ e. cc)
      (Decides-int_eq old.sym new.sym)) refl
  told (nodes.Whole (wholes.NetPart risk)) =
      told-always factors sheet later (nodes.Whole (wholes.NetPart risk)) _ refl refl
      (net-same (absorbed (risk_key risk) old) (absorbed (risk_key risk) new)) refl
  told (nodes.Whole wholes.DefaultType2) =
      told-always factors sheet later (nodes.Whole wholes.DefaultType2) _ refl refl (due-same old new _ _ _ _) refl
  told (nodes.Whole (wholes.BioScenario biometric projection Net)) =
      told-moved factors sheet later (nodes.Whole (wholes.BioScenario biometric projection Net)) (has_stress biometric projection) _
      refl refl (net-same (stress_cents biometric projection old) (stress_cents biometric projection new)) refl
  told (nodes.Whole (wholes.Segment segment)) =
      told-always factors sheet later (nodes.Whole (wholes.Segment segment)) _ refl refl
      (in-set (set_of segment) (number_of segment - 1) _ _) refl
  told (nodes.Whole (wholes.CatCharge key)) =
      told-always factors sheet later (nodes.Whole (wholes.CatCharge key)) _ refl refl
      (charged-same 1000 (catastrophe_cents key old) (catastrophe_cents key new)) refl
  told (nodes.Whole (wholes.Lapse set)) =
      told-always factors sheet later (nodes.Whole (wholes.Lapse set)) _ refl refl
      (charged-same 1000 (lapse_cents set old) (lapse_cents set new)) refl
  told (nodes.Whole (wholes.Nslt measure)) =
      told-always factors sheet later (nodes.Whole (wholes.Nslt measure)) _ refl refl
      (nslt-same (lapse_cents sets.Nslt old) (lapse_cents sets.Nslt new)) refl
  told (nodes.Whole (wholes.Nonlife measure)) =
      told-always factors sheet later (nodes.Whole (wholes.Nonlife measure)) _ refl refl
      (nonlife-same (lapse_cents sets.Nl old) (lapse_cents sets.Nl new)) refl
  told (nodes.Whole wholes.Intangible) =
      told-always factors sheet later (nodes.Whole wholes.Intangible) _ refl refl (charged-same 800 old.intangible new.intangible) refl
  told (nodes.Whole (wholes.Bscr measure)) =
      told-always factors sheet later (nodes.Whole (wholes.Bscr measure)) _ refl refl (bscr-same old.intangible new.intangible) refl
  told (nodes.Whole wholes.Diversification) =
      told-always factors sheet later (nodes.Whole wholes.Diversification) _ refl refl
      (diversified-same old.intangible new.intangible) refl
  told (nodes.Whole (wholes.OpPart operations.Premiums)) =
      told-always factors sheet later (nodes.Whole (wholes.OpPart operations.Premiums)) _ refl refl (premiums-same old new) refl
  told (nodes.Whole (wholes.OpPart operations.Provisions)) =
      told-always factors sheet later (nodes.Whole (wholes.OpPart operations.Provisions)) _ refl refl (provisions-same old new) refl
  told (nodes.Whole (wholes.OpPart operations.Cap)) =
      told-always factors sheet later (nodes.Whole (wholes.OpPart operations.Cap)) true refl refl (always refl) refl
  told (nodes.Whole (wholes.OpPart operations.Charge)) =
      told-always factors sheet later (nodes.Whole (wholes.OpPart operations.Charge)) _ refl refl
      (charge-same (earned_at 6 old) (earned_at 6 new)) refl
  told (nodes.Whole (wholes.Adjust adjustments.TechnicalProvisions)) =
      told-always factors sheet later (nodes.Whole (wholes.Adjust adjustments.TechnicalProvisions)) _ refl refl
      (absorbing-same old.fdb new.fdb) refl
  told (nodes.Whole (wholes.Adjust adjustments.DeferredTaxes)) =
      told-always factors sheet later (nodes.Whole (wholes.Adjust adjustments.DeferredTaxes)) _ refl refl
      (taxed-same old new old.tax old.cap new.tax new.cap) refl
  told (nodes.Currency currency (of_currencies.Scenario direction Gross)) =
      unread factors sheet later (nodes.Currency currency (of_currencies.Scenario direction Gross))
      (record { live = refl; own = refl; sources = refl })
  told (nodes.Currency currency (of_currencies.Scenario direction Net)) =
      unread factors sheet later (nodes.Currency currency (of_currencies.Scenario direction Net))
      (record { live = refl; own = refl; sources = refl })
  told (nodes.Whole (wholes.ClassSum classes.Type2Equity)) =
      unread factors sheet later (nodes.Whole (wholes.ClassSum classes.Type2Equity))
      (record { live = refl; own = refl; sources = refl })
  told node = unread factors sheet later node (record { live = refl; own = refl; sources = refl })

  pub covers : (node : Node) → numbers_touch sheet.numbers new node ≡ true → IsMember node number_nodes
  covers (nodes.Whole (wholes.Segment segments.MotorLiability)) e = in-place 39 _ refl
  covers (nodes.Whole (wholes.Segment segments.OtherMotor)) e = in-place 40 _ refl
  covers (nodes.Whole (wholes.Segment segments.Transport)) e = in-place 41 _ refl
  covers (nodes.Whole (wholes.Segment segments.Property)) e = in-place 42 _ refl
  covers (nodes.Whole (wholes.Segment segments.GeneralLiability)) e = in-place 43 _ refl
  covers (nodes.Whole (wholes.Segment segments.Credit)) e = in-place 44 _ refl
  covers (nodes.Whole (wholes.Segment segments.LegalExpenses)) e = in-place 45 _ refl
  covers (nodes.Whole (wholes.Segment segments.Assistance)) e = in-place 46 _ refl
  covers (nodes.Whole (wholes.Segment segments.FinancialLoss)) e = in-place 47 _ refl
  covers (nodes.Whole (wholes.Segment segments.CasualtyReinsurance)) e = in-place 48 _ refl
  covers (nodes.Whole (wholes.Segment segments.TransportReinsurance)) e = in-place 49 _ refl
  covers (nodes.Whole (wholes.Segment segments.PropertyReinsurance)) e = in-place 50 _ refl
  covers (nodes.Whole (wholes.Segment segments.MedicalExpense)) e = in-place 51 _ refl
  covers (nodes.Whole (wholes.Segment segments.IncomeProtection)) e = in-place 52 _ refl
  covers (nodes.Whole (wholes.Segment segments.WorkersCompensation)) e = in-place 53 _ refl
  covers (nodes.Whole (wholes.Segment segments.HealthReinsurance)) e = in-place 54 _ refl
  covers (nodes.Whole (wholes.InterestScenario Up Net)) e = in-place 1 _ refl
  covers (nodes.Whole (wholes.InterestScenario Down Net)) e = in-place 3 _ refl
  covers (nodes.Whole (wholes.EquityPart equities.Type1)) e = in-place 4 _ refl
  covers (nodes.Whole (wholes.EquityPart equities.Type2)) e = in-place 5 _ refl
  covers (nodes.Whole (wholes.EquityPart equities.Infrastructure)) e = in-place 6 _ refl
  covers (nodes.Whole (wholes.EquityPart equities.InfrastructureCorporate)) e = in-place 7 _ refl
  covers (nodes.Whole (wholes.NetPart risks.Equity)) e = in-place 8 _ refl
  covers (nodes.Whole (wholes.NetPart risks.Property)) e = in-place 9 _ refl
  covers (nodes.Whole (wholes.NetPart risks.Spread)) e = in-place 10 _ refl
  covers (nodes.Whole (wholes.NetPart risks.Concentration)) e = in-place 11 _ refl
  covers (nodes.Whole (wholes.NetPart risks.Default)) e = in-place 12 _ refl
  covers (nodes.Whole (wholes.NetPart risks.HealthCatastrophe)) e = in-place 13 _ refl
  covers (nodes.Whole wholes.DefaultType2) e = in-place 14 _ refl
  covers (nodes.Whole (wholes.BioScenario biometrics.Life projections.Mortality Net)) e = in-place 15 _ refl
  covers (nodes.Whole (wholes.BioScenario biometrics.Life projections.Longevity Net)) e = in-place 16 _ refl
  covers (nodes.Whole (wholes.BioScenario biometrics.Life projections.Disability Net)) e = in-place 17 _ refl
  covers (nodes.Whole (wholes.BioScenario biometrics.Life projections.Expense Net)) e = in-place 18 _ refl
  covers (nodes.Whole (wholes.BioScenario biometrics.Life projections.Revision Net)) e = in-place 19 _ refl
  covers (nodes.Whole (wholes.BioScenario biometrics.Life projections.Catastrophe Net)) e = in-place 20 _ refl
  covers (nodes.Whole (wholes.BioScenario biometrics.Life projections.LapseUp Net)) e = in-place 22 _ refl
  covers (nodes.Whole (wholes.BioScenario biometrics.Life projections.LapseDown Net)) e = in-place 24 _ refl
  covers (nodes.Whole (wholes.BioScenario biometrics.Life projections.LapseMass Net)) e = in-place 26 _ refl
  covers (nodes.Whole (wholes.BioScenario biometrics.Health projections.Mortality Net)) e = in-place 27 _ refl
  covers (nodes.Whole (wholes.BioScenario biometrics.Health projections.Longevity Net)) e = in-place 28 _ refl
  covers (nodes.Whole (wholes.BioScenario biometrics.Health projections.Disability Net)) e = in-place 29 _ refl
  covers (nodes.Whole (wholes.BioScenario biometrics.Health projections.Expense Net)) e = in-place 30 _ refl
  covers (nodes.Whole (wholes.BioScenario biometrics.Health projections.Revision Net)) e = in-place 31 _ refl
  covers (nodes.Whole (wholes.BioScenario biometrics.Health projections.LapseUp Net)) e = in-place 34 _ refl
  covers (nodes.Whole (wholes.BioScenario biometrics.Health projections.LapseDown Net)) e = in-place 36 _ refl
  covers (nodes.Whole (wholes.BioScenario biometrics.Health projections.LapseMass Net)) e = in-place 38 _ refl
  covers (nodes.Whole (wholes.CatCharge cats.Windstorm)) e = in-place 55 _ refl
  covers (nodes.Whole (wholes.CatCharge cats.Earthquake)) e = in-place 56 _ refl
  covers (nodes.Whole (wholes.CatCharge cats.Flood)) e = in-place 57 _ refl
  covers (nodes.Whole (wholes.CatCharge cats.Hail)) e = in-place 58 _ refl
  covers (nodes.Whole (wholes.CatCharge cats.Subsidence)) e = in-place 59 _ refl
  covers (nodes.Whole (wholes.CatCharge cats.Motor)) e = in-place 60 _ refl
  covers (nodes.Whole (wholes.CatCharge cats.Marine)) e = in-place 61 _ refl
  covers (nodes.Whole (wholes.CatCharge cats.Aviation)) e = in-place 62 _ refl
  covers (nodes.Whole (wholes.CatCharge cats.Fire)) e = in-place 63 _ refl
  covers (nodes.Whole (wholes.CatCharge cats.Liability)) e = in-place 64 _ refl
  covers (nodes.Whole (wholes.CatCharge cats.Credit)) e = in-place 65 _ refl
  covers (nodes.Whole (wholes.CatCharge cats.MassAccident)) e = in-place 66 _ refl
  covers (nodes.Whole (wholes.CatCharge cats.AccidentConcentration)) e = in-place 67 _ refl
  covers (nodes.Whole (wholes.CatCharge cats.Pandemic)) e = in-place 68 _ refl
  covers (nodes.Whole (wholes.CatCharge cats.NonProportionalProperty)) e = in-place 69 _ refl
  covers (nodes.Whole (wholes.CatCharge cats.Other)) e = in-place 70 _ refl
  covers (nodes.Whole (wholes.Lapse sets.Nl)) e = in-place 71 _ refl
  covers (nodes.Whole (wholes.Lapse sets.Nslt)) e = in-place 72 _ refl
  covers (nodes.Whole (wholes.Nslt Gross)) e = in-place 73 _ refl
  covers (nodes.Whole (wholes.Nslt Net)) e = in-place 74 _ refl
  covers (nodes.Whole (wholes.Nonlife Gross)) e = in-place 75 _ refl
  covers (nodes.Whole (wholes.Nonlife Net)) e = in-place 76 _ refl
  covers (nodes.Whole wholes.Intangible) e = in-place 77 _ refl
  covers (nodes.Whole (wholes.Bscr Gross)) e = in-place 78 _ refl
  covers (nodes.Whole (wholes.Bscr Net)) e = in-place 79 _ refl
  covers (nodes.Whole (wholes.OpPart operations.Premiums)) e = in-place 80 _ refl
  covers (nodes.Whole (wholes.OpPart operations.Provisions)) e = in-place 81 _ refl
  covers (nodes.Whole (wholes.OpPart operations.Charge)) e = in-place 82 _ refl
  covers (nodes.Whole (wholes.Adjust adjustments.TechnicalProvisions)) e = in-place 83 _ refl
  covers (nodes.Whole (wholes.Adjust adjustments.DeferredTaxes)) e = in-place 84 _ refl
  covers (nodes.Whole wholes.Diversification) e = in-place 85 _ refl
  covers (nodes.Whole (wholes.BioScenario biometrics.Life projections.Base Net)) e = absurd (cc)
  covers (nodes.Whole (wholes.BioScenario biometrics.Health projections.Base Net)) e = absurd (cc)
  covers (nodes.Whole (wholes.BioScenario biometrics.Health projections.Catastrophe Net)) e = absurd (cc)
  covers node e = absurd (cc)
