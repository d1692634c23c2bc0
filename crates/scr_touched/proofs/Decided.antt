-- When a figure is touched, from whether it is a figure before and after and what it is reckoned from.
use Rattle.std.proofs.Common.{◌≡◌, Bool, true, false, not, ◌&&◌, ◌||◌, refl, sym, ◌∙◌, IsTrue, subst}
use Rattle.std.specs.Bool.{Decides}
use Rattle.scr_factors.specs.Values.{FactorValues}
use Rattle.scr_sheet.specs.declared.sheet.BalanceSheet.{BalanceSheet}
use Rattle.scr_row_change.proofs.Compared.{always}
use Rattle.scr_nodes.specs.Live.{is_live}
use Rattle.scr_nodes.specs.OwnOf.{own_of}
use Rattle.scr_nodes.specs.Sources.{sources_of}
use Rattle.scr_nodes.specs.declared.node.Node.{Node}
use Rattle.scr_touched.specs.Comparisons.{is_touched}
use Rattle.scr_touched.specs.Touched.{IsSame, IsChanged}

-- ---- a figure that is touched, by its test

-- The test tells whether the figure is touched; where it is not, and is one of the two balance sheets', it is the same.
abbrev pub Tells : FactorValues → BalanceSheet → BalanceSheet → Node → Bool → Type 0
Tells factors s t node test =
    (test ≡ true → IsChanged factors s t node) × (IsChanged factors s t node → test ≡ true)
    × (test ≡ false → IsTrue (is_live s node || is_live t node) → IsSame factors s t node)

-- another form of the test
pub Tells-at : (factors : FactorValues) (s t : BalanceSheet) (node : Node) (test other : Bool) → test ≡ other
    → Tells factors s t node other → Tells factors s t node test
Tells-at factors s t node test other e told = subst (Tells factors s t node) (sym e) told

-- a figure of which nothing is read that changes
pub unread : (factors : FactorValues) (s t : BalanceSheet) (node : Node) → IsSame factors s t node
    → Tells factors s t node false
unread factors s t node same = ((λ e. absurd (cc)), (λ changed. absurd (changed.changed same)), (λ e live. same))

pub told-by : (factors : FactorValues) (s t : BalanceSheet) (node : Node) (before after own sources : Bool)
    → is_live s node ≡ before → is_live t node ≡ after
    → Decides own (own_of factors s node ≡ own_of factors t node)
    → Decides sources (sources_of s node ≡ sources_of t node)
    → Tells factors s t node (is_touched before after own sources)
told-by factors s t node before after own sources live then own-told sources-told =
    by before after own sources live then own-told sources-told
  where
    either : (b a : Bool) → is_live s node ≡ b → is_live t node ≡ a → (is_live s node || is_live t node) ≡ (b || a)
    either b a e f = λ i. e i || f i

    by : (b a o c : Bool) → is_live s node ≡ b → is_live t node ≡ a
        → Decides o (own_of factors s node ≡ own_of factors t node)
        → Decides c (sources_of s node ≡ sources_of t node)
        → Tells factors s t node (is_touched b a o c)
    by false false o c e f p q = (
      (λ h. absurd (cc)),
      (λ changed. let never : false ≡ true = sym (either false false e f) ∙ changed.live in absurd (cc)),
      (λ h live. let never : false ≡ true = sym (either false false e f) ∙ live in absurd (cc)),
    )
    by false true o c e f p q = (
      (λ h. record {
        live = either false true e f;
        changed = λ same. let never : false ≡ true = sym e ∙ same.live ∙ f in absurd (cc);
      }),
      (λ changed. refl),
      (λ h. absurd (cc)),
    )
    by true false o c e f p q = (
      (λ h. record {
        live = either true false e f;
        changed = λ same. let never : true ≡ false = sym e ∙ same.live ∙ f in absurd (cc);
      }),
      (λ changed. refl),
      (λ h. absurd (cc)),
    )
    by true true true true e f p q =
        unread factors s t node (record { live = e ∙ sym f; own = p.0 refl; sources = q.0 refl })
    by true true true false e f p q = (
      (λ h. record {
        live = either true true e f;
        changed = λ same. let never : false ≡ true = q.1 same.sources in absurd (cc);
      }),
      (λ changed. refl),
      (λ h. absurd (cc)),
    )
    by true true false c e f p q = (
      (λ h. record {
        live = either true true e f;
        changed = λ same. let never : false ≡ true = p.1 same.own in absurd (cc);
      }),
      (λ changed. refl),
      (λ h. absurd (cc)),
    )

-- ---- what a test says

-- nothing is touched where all is the same
pub untouched : (live own sources : Bool) → own ≡ true → sources ≡ true → is_touched live live own sources ≡ false
untouched false own sources o s = refl
untouched true own sources o s = λ i. not (o i && s i)

-- a figure that stays one is touched where its data or its sources differ
pub moved : (live own sources : Bool) → is_touched live live own sources ≡ true → (own && sources) ≡ false
moved false own sources e = absurd (cc)
moved true true true e = absurd (cc)
moved true true false e = refl
moved true false sources e = refl

-- ---- a figure of which only its own data may change

pub told-moved : (factors : FactorValues) (s t : BalanceSheet) (node : Node) (live same : Bool)
    → is_live s node ≡ live → is_live t node ≡ live
    → Decides same (own_of factors s node ≡ own_of factors t node)
    → sources_of s node ≡ sources_of t node
    → Tells factors s t node (live && not same)
told-moved factors s t node live same before after own sources =
    Tells-at factors s t node (live && not same) (is_touched live live same true) (by live same)
    (told-by factors s t node live live same true before after own (always sources))
  where
    by : (l o : Bool) → (l && not o) ≡ is_touched l l o true
    by false o = refl
    by true false = refl
    by true true = refl

-- the same of a figure that every balance sheet has
pub told-always : (factors : FactorValues) (s t : BalanceSheet) (node : Node) (same : Bool)
    → is_live s node ≡ true → is_live t node ≡ true
    → Decides same (own_of factors s node ≡ own_of factors t node)
    → sources_of s node ≡ sources_of t node
    → Tells factors s t node (not same)
told-always factors s t node same before after own sources =
    told-moved factors s t node true same before after own sources
