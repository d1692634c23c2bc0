-- Lists of what rows give, where one row is exchanged: they are compared by that row.
use Rattle.std.proofs.Common.{◌≡◌, ◌⊎◌, ℕ, Bool, true, false, cond, not, ◌&&◌, List, [], ◌∷◌, ◌++◌, map, filter, Option, Some, None, refl, sym, subst, ◌∙◌, inl, inr, ap}
use Rattle.std.specs.Bool.{Decides}
use Rattle.std.specs.Option.{option_map, option_map_or}
use Rattle.std.proofs.lemmas.Bool.Decides.{Decides-like}
use Rattle.scr_funds.proofs.Members.{IsMember, IsMember-left, IsMember-right}
use Rattle.scr_tables.specs.Tables.{row_of}
use Rattle.scr_tables.proofs.TableRows.{same_name-is, same_or_other, row_of-here, row_of-later}
use Rattle.scr_row_change.specs.Comparisons.{passes}
use Rattle.scr_row_change.specs.Exchanges.{exchanged, HasName}
use Rattle.scr_row_change.specs.Parts.{gives_same}
use Rattle.scr_row_change.proofs.Exchanged.{gathered, part, swapped}

module _ {Row A : Type 0} (test : Row → Bool) (same : Row → Row → Bool) (f : Row → A)
    (each : (a b : Row) → Decides (same a b) (f a ≡ f b)) where
  one-gives : (t : Bool) (row : Row) → Decides (not t) ([] ≡ map f (cond t (row ∷ []) []))
  one-gives true row = ((λ e. absurd (cc)), (λ e. absurd (cc)))
  one-gives false row = ((λ e. refl), (λ e. refl))

  one-gave : (t : Bool) (row : Row) → Decides (not t) (map f (cond t (row ∷ []) []) ≡ [])
  one-gave true row = ((λ e. absurd (cc)), (λ e. absurd (cc)))
  one-gave false row = ((λ e. refl), (λ e. refl))

  both-give : (t u : Bool) (a b : Row) → Decides (cond t (u && same a b) (not u))
      (map f (cond t (a ∷ []) []) ≡ map f (cond u (b ∷ []) []))
  both-give true true a b = Decides-like (same a b) (λ e. ap (λ x. x ∷ []) e) (λ e. cc) (each a b)
  both-give true false a b = ((λ e. absurd (cc)), (λ e. absurd (cc)))
  both-give false u a b = one-gives u b

  part-given : (old new : Option Row) → Decides (gives_same test same old new) (part test f old ≡ part test f new)
  part-given None None = ((λ e. refl), (λ e. refl))
  part-given None (Some b) = one-gives (test b) b
  part-given (Some a) None = one-gave (test a) a
  part-given (Some a) (Some b) = both-give (test a) (test b) a b

  -- what the rows of the table that pass give, before and after
  pub given : (name_of : Row → List ℕ) (name : List ℕ) (new : Option Row) (rows : List Row)
      → HasName name_of name new → Decides (gives_same test same (row_of name_of name rows) new)
      (map f (filter test rows) ≡ map f (filter test (exchanged name_of name new rows)))
  given name_of name new rows named =
      gathered name_of name test f rows (exchanged name_of name new rows) (row_of name_of name rows) new
      (gives_same test same (row_of name_of name rows) new)
      (swapped name_of name new rows named) (part-given (row_of name_of name rows) new)

-- what is given by rows in another form
pub given-in-form : {Row A : Type 0} (form : Row → A) (test : A → Bool) (same : A → A → Bool) (old new : Option Row)
    → gives_same test same (option_map form old) (option_map form new)
    ≡ gives_same (λ row. test (form row)) (λ a b. same (form a) (form b)) old new
given-in-form form test same None None = refl
given-in-form form test same None (Some b) = refl
given-in-form form test same (Some a) None = refl
given-in-form form test same (Some a) (Some b) = refl

-- where what is given differs, one of the two rows passes
one-passes : {Row : Type 0} (test : Row → Bool) (same : Row → Row → Bool) (old new : Option Row)
    → gives_same test same old new ≡ false → (passes test old ≡ true) ⊎ (passes test new ≡ true)
one-passes test same None None e = absurd (cc)
one-passes test same None (Some b) e = inr (by (test b) e)
  where
    by : (t : Bool) → not t ≡ false → t ≡ true
    by true h = refl
    by false h = absurd (cc)
one-passes test same (Some a) None e = inl (by (test a) e)
  where
    by : (t : Bool) → not t ≡ false → t ≡ true
    by true h = refl
    by false h = absurd (cc)
one-passes test same (Some a) (Some b) e = by (test a) (test b) e
  where
    by : (t u : Bool) → cond t (u && same a b) (not u) ≡ false → (t ≡ true) ⊎ (u ≡ true)
    by true u h = inl refl
    by false true h = inr refl
    by false false h = absurd (cc)

-- where what is given differs, a figure that each row which passes has among its own is among those of the two rows
pub in-given : {Row A : Type 0} (test : Row → Bool) (same : Row → Row → Bool) (figures : Option Row → List A) (x : A)
    → ((row : Row) → test row ≡ true → IsMember x (figures (Some row))) → (old new : Option Row)
    → gives_same test same old new ≡ false → IsMember x (figures old ++ figures new)
in-given test same figures x each old new e = by (one-passes test same old new e)
  where
    in-one : (row : Option _) → passes test row ≡ true → IsMember x (figures row)
    in-one None f = absurd (cc)
    in-one (Some row) f = each row f

    by : (passes test old ≡ true) ⊎ (passes test new ≡ true) → IsMember x (figures old ++ figures new)
    by (inl f) = IsMember-left (figures old) (figures new) x (in-one old f)
    by (inr f) = IsMember-right (figures old) (figures new) x (in-one new f)

-- ---- figures of the rows that pass a test

module _ {Row A : Type 0} (name_of : Row → List ℕ) (test : Row → Bool) (f : Row → A) (figure : List ℕ → A)
    (by-name : (row : Row) → f row ≡ figure (name_of row)) where
  skipped : (b : Bool) (row : Row) (rows : List Row) (x : A) → IsMember x (map f rows)
      → IsMember x (map f (cond b (row ∷ rows) rows))
  skipped true row rows x m = inr m
  skipped false row rows x m = m

  -- where the row of a name passes, its figure is among them
  pub in-chosen : (x : List ℕ) (rows : List Row) → option_map_or test (row_of name_of x rows) false ≡ true
      → IsMember (figure x) (map f (filter test rows))
  in-chosen x [] e = absurd (cc)
  in-chosen x (row ∷ rows) e =
      same_or_other x (name_of row)
      (λ h. let t : test row ≡ true =
      subst (λ r. option_map_or test r false ≡ true) (row_of-here name_of x row rows h) e in
      subst (λ b. IsMember (figure x) (map f (cond b (row ∷ filter test rows) (filter test rows)))) (sym t)
      (inl (ap figure (same_name-is x (name_of row) h) ∙ sym (by-name row))))
      (λ h. skipped (test row) row (filter test rows) (figure x)
      (in-chosen x rows (subst (λ r. option_map_or test r false ≡ true) (row_of-later name_of x row rows h) e)))
