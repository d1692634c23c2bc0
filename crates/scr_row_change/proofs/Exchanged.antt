-- What stands in a table in which one row is exchanged.
use Rattle.std.proofs.Common.{◌≡◌, ℕ, suc, arith, is_some, Bool, true, false, cond, ◌&&◌, List, [], ◌∷◌, ◌++◌, map, filter, length, option_to_list, Option, Some, None, refl, sym, ap, subst, ◌∙◌}
use Rattle.std.proofs.lemmas.List.{append_cancel_left, append_cancel_right, map-append}
use Rattle.std.proofs.lemmas.List.Elements.{filter-append}
use Rattle.std.proofs.lemmas.Bool.Decides.{Decides-at, Decides-like}
use Rattle.std.specs.Bool.{Decides, beq}
use Rattle.std.specs.List.{IsDistinct}
use Rattle.scr_tables.specs.Names.{same_name}
use Rattle.scr_tables.specs.Tables.{row_of, with_row, without}
use Rattle.scr_tables.proofs.TableRows.{name_of-row_of, same_name-is, same_or_other, row_of-here, row_of-later, with_row-here, with_row-later, without-here, without-later, row_of-with_row_own, row_of-with_row_other, row_of-without_own, row_of-without_other, same_name-flip}
use Rattle.scr_row_change.specs.Comparisons.{is_kept}
use Rattle.scr_row_change.specs.Exchanges.{exchanged, HasName}

module _ {Row : Type 0} (name_of : Row → List ℕ) (name : List ℕ) where
  -- ---- look-ups

  pub row-own : (new : Option Row) (rows : List Row) → IsDistinct same_name (map name_of rows)
      → HasName name_of name new → row_of name_of name (exchanged name_of name new rows) ≡ new
  row-own None rows apart named = row_of-without_own name_of name rows apart
  row-own (Some row) rows apart named =
      subst (λ n. row_of name_of n (with_row name_of row rows) ≡ Some row) named (row_of-with_row_own name_of row rows)

  pub row-other : (new : Option Row) (rows : List Row) → HasName name_of name new → (x : List ℕ)
      → same_name x name ≡ false → row_of name_of x (exchanged name_of name new rows) ≡ row_of name_of x rows
  row-other None rows named x other =
      row_of-without_other name_of x name rows (same_name-flip name x ∙ other)
  row-other (Some row) rows named x other =
      row_of-with_row_other name_of x row rows (ap (same_name x) named ∙ other)

  -- A test on the row of a name before and after, which fails where nothing changes, may look at the name first.
  pub one-row : (new : Option Row) (rows : List Row) → IsDistinct same_name (map name_of rows)
      → HasName name_of name new → (test : Option Row → Option Row → Bool)
      → ((row : Option Row) → test row row ≡ false) → (x : List ℕ)
      → (same_name x name && test (row_of name_of name rows) new)
      ≡ test (row_of name_of x rows) (row_of name_of x (exchanged name_of name new rows))
  one-row new rows apart named test still x =
      same_or_other x name
      (λ e. ap (λ b. b && test (row_of name_of name rows) new) e
      ∙ ap (test (row_of name_of name rows)) (sym (row-own new rows apart named))
      ∙ ap (λ n. test (row_of name_of n rows) (row_of name_of n (exchanged name_of name new rows)))
      (sym (same_name-is x name e)))
      (λ e. ap (λ b. b && test (row_of name_of name rows) new) e
      ∙ sym (still (row_of name_of x rows))
      ∙ ap (test (row_of name_of x rows)) (sym (row-other new rows named x e)))

  -- ---- lists

  -- two lists that differ in one place
  pub record Swap (rows others : List Row) (old new : Option Row) : Type 0 where
    pub front : List Row
    pub back : List Row
    pub before : rows ≡ front ++ (option_to_list old ++ back)
    pub after : others ≡ front ++ (option_to_list new ++ back)

  later : (row : Row) (rows others : List Row) (old new : Option Row) → Swap rows others old new
      → Swap (row ∷ rows) (row ∷ others) old new
  later row rows others old new swap = record {
    front = row ∷ swap.front;
    back = swap.back;
    before = ap (λ rs. row ∷ rs) swap.before;
    after = ap (λ rs. row ∷ rs) swap.after;
  }

  pub swapped : (new : Option Row) (rows : List Row) → HasName name_of name new
      → Swap rows (exchanged name_of name new rows) (row_of name_of name rows) new
  swapped None [] named = record { front = []; back = []; before = refl; after = refl }
  swapped None (row ∷ rows) named =
      same_or_other name (name_of row)
      (λ e. subst (λ old. Swap (row ∷ rows) (exchanged name_of name None (row ∷ rows)) old None)
      (sym (row_of-here name_of name row rows e))
      (record { front = []; back = rows; before = refl; after = without-here name_of name row rows e }))
      (λ e. subst (λ old. Swap (row ∷ rows) (exchanged name_of name None (row ∷ rows)) old None)
      (sym (row_of-later name_of name row rows e))
      (subst (λ others. Swap (row ∷ rows) others (row_of name_of name rows) None)
      (sym (without-later name_of name row rows e))
      (later row rows (without name_of name rows) (row_of name_of name rows) None (swapped None rows named))))
  swapped (Some new) [] named = record { front = []; back = []; before = refl; after = refl }
  swapped (Some new) (row ∷ rows) named =
      same_or_other name (name_of row)
      (λ e. subst (λ old. Swap (row ∷ rows) (with_row name_of new (row ∷ rows)) old (Some new))
      (sym (row_of-here name_of name row rows e))
      (record {
        front = [];
        back = rows;
        before = refl;
        after = with_row-here name_of new row rows (ap (λ n. same_name n (name_of row)) named ∙ e);
      }))
      (λ e. subst (λ old. Swap (row ∷ rows) (with_row name_of new (row ∷ rows)) old (Some new))
      (sym (row_of-later name_of name row rows e))
      (subst (λ others. Swap (row ∷ rows) others (row_of name_of name rows) (Some new))
      (sym (with_row-later name_of new row rows (ap (λ n. same_name n (name_of row)) named ∙ e)))
      (later row rows (with_row name_of new rows) (row_of name_of name rows) (Some new)
      (swapped (Some new) rows named))))

-- what the row adds to a list of figures, or of data, of the rows that pass a test
abbrev pub part : {Row A : Type 0} → (Row → Bool) → (Row → A) → Option Row → List A
part test f row = map f (filter test (option_to_list row))

module _ {Row A : Type 0} (name_of : Row → List ℕ) (name : List ℕ) (test : Row → Bool) (f : Row → A) where
  chosen-append : (xs ys : List Row) → map f (filter test (xs ++ ys)) ≡ map f (filter test xs) ++ map f (filter test ys)
  chosen-append xs ys = ap (map f) (filter-append test xs ys) ∙ map-append f (filter test xs) (filter test ys)

  split : (front back : List Row) (row : Option Row) → map f (filter test (front ++ (option_to_list row ++ back)))
      ≡ map f (filter test front) ++ (part test f row ++ map f (filter test back))
  split front back row =
      chosen-append front (option_to_list row ++ back)
      ∙ ap (λ xs. map f (filter test front) ++ xs) (chosen-append (option_to_list row) back)

  -- the whole lists are the same where the row adds the same
  pub gathered : (rows others : List Row) (old new : Option Row) (same : Bool) → Swap name_of name rows others old new
      → Decides same (part test f old ≡ part test f new)
      → Decides same (map f (filter test rows) ≡ map f (filter test others))
  gathered rows others old new same swap told =
      Decides-like same
      (λ e. before ∙ ap (λ p. front ++ (p ++ back)) e ∙ sym after)
      (λ e. append_cancel_right (part test f old) (part test f new) back
      (append_cancel_left front (part test f old ++ back) (part test f new ++ back) (sym before ∙ e ∙ after)))
      told
    where
      front : List A
      front = map f (filter test swap.front)

      back : List A
      back = map f (filter test swap.back)

      before : map f (filter test rows) ≡ front ++ (part test f old ++ back)
      before = ap (λ rs. map f (filter test rs)) swap.before ∙ split swap.front swap.back old

      after : map f (filter test others) ≡ front ++ (part test f new ++ back)
      after = ap (λ rs. map f (filter test rs)) swap.after ∙ split swap.front swap.back new

  part-of : (row : Row) (b : Bool) → test row ≡ b → part test f (Some row) ≡ cond b (f row ∷ []) []
  part-of row b e = ap (λ t. map f (cond t (row ∷ []) [])) e ∙ by b
    where
      by : (t : Bool) → map f (cond t (row ∷ []) []) ≡ cond t (f row ∷ []) []
      by true = refl
      by false = refl

  some-or-none : (b : Bool) (x : A) → Decides (beq b false) (cond b (x ∷ []) [] ≡ [])
  some-or-none true x = ((λ e. absurd (cc)), (λ e. absurd (cc)))
  some-or-none false x = ((λ e. refl), (λ e. refl))

  none-or-some : (b : Bool) (x : A) → Decides (beq false b) ([] ≡ cond b (x ∷ []) [])
  none-or-some true x = ((λ e. absurd (cc)), (λ e. absurd (cc)))
  none-or-some false x = ((λ e. refl), (λ e. refl))

  both-or-neither : (a b : Bool) (x y : A) → x ≡ y → Decides (beq a b) (cond a (x ∷ []) [] ≡ cond b (y ∷ []) [])
  both-or-neither true true x y e = ((λ h. ap (λ z. z ∷ []) e), (λ h. refl))
  both-or-neither true false x y e = ((λ h. absurd (cc)), (λ h. absurd (cc)))
  both-or-neither false true x y e = ((λ h. absurd (cc)), (λ h. absurd (cc)))
  both-or-neither false false x y e = ((λ h. refl), (λ h. refl))

  -- where the row always gives the same, it is only asked whether it passes
  pub part-kept : (old new : Option Row) → ((a b : Row) → old ≡ Some a → new ≡ Some b → f a ≡ f b)
      → Decides (is_kept test old new) (part test f old ≡ part test f new)
  part-kept None None same = ((λ e. refl), (λ e. refl))
  part-kept None (Some b) same =
      subst (λ p. Decides (beq false (test b)) ([] ≡ p)) (sym (part-of b (test b) refl)) (none-or-some (test b) (f b))
  part-kept (Some a) None same =
      subst (λ p. Decides (beq (test a) false) (p ≡ [])) (sym (part-of a (test a) refl)) (some-or-none (test a) (f a))
  part-kept (Some a) (Some b) same =
      subst (λ p. Decides (beq (test a) (test b)) (p ≡ part test f (Some b))) (sym (part-of a (test a) refl))
      (subst (λ p. Decides (beq (test a) (test b)) (cond (test a) (f a ∷ []) [] ≡ p)) (sym (part-of b (test b) refl))
      (both-or-neither (test a) (test b) (f a) (f b) (same a b refl refl)))

-- ---- the lists of a table in which one row is exchanged

nothing-of : {Row : Type 0} → Row → Unit {0}
nothing-of row = tt

counted-by : {Row : Type 0} (xs ys : List Row) → length xs ≡ length ys → map nothing-of xs ≡ map nothing-of ys
unfolding nothing-of
counted-by [] [] e = refl
counted-by [] (y ∷ ys) e = absurd (omega (arith, e))
counted-by (x ∷ xs) [] e = absurd (omega (arith, e))
counted-by (x ∷ xs) (y ∷ ys) e =
    let later : length xs ≡ length ys = omega (arith, e) in
    ap (λ us. tt ∷ us) (counted-by xs ys later)

length-map : {Row A : Type 0} (f : Row → A) (xs : List Row) → length (map f xs) ≡ length xs
length-map f [] = refl
length-map f (x ∷ xs) = ap suc (length-map f xs)

every : {Row : Type 0} → Row → Bool
every row = true

filter-every : {Row : Type 0} (rows : List Row) → filter every rows ≡ rows
unfolding every
filter-every [] = refl
filter-every (row ∷ rows) = ap (λ rs. row ∷ rs) (filter-every rows)

module _ {Row : Type 0} (name_of : Row → List ℕ) (name : List ℕ) (new : Option Row) (rows : List Row)
    (named : HasName name_of name new) where
  abbrev before : Option Row
  before = row_of name_of name rows

  abbrev others : List Row
  others = exchanged name_of name new rows

  -- the row before and the row after have one name
  same-names : (a b : Row) → before ≡ Some a → new ≡ Some b → name_of a ≡ name_of b
  same-names a b e f =
      sym (same_name-is name (name_of a) (name_of-row_of name_of name rows a e)) ∙ sym (of new f named)
    where
      of : (row : Option Row) → row ≡ Some b → HasName name_of name row → name_of b ≡ name
      of None g h = absurd (cc)
      of (Some c) g h = let one : c ≡ b = cc in subst (λ r. name_of r ≡ name) one h

  -- figures of the rows that pass a test, which tell no more than the rows' names
  pub listed : {A : Type 0} (test : Row → Bool) (f : Row → A) → ((a b : Row) → name_of a ≡ name_of b → f a ≡ f b)
      → Decides (is_kept test before new) (map f (filter test rows) ≡ map f (filter test others))
  listed test f by_name =
      gathered name_of name test f rows others before new (is_kept test before new)
      (swapped name_of name new rows named)
      (part-kept name_of name test f before new (λ a b e g. by_name a b (same-names a b e g)))

  -- how many rows pass
  pub counted : (test : Row → Bool)
      → Decides (is_kept test before new) (length (filter test rows) ≡ length (filter test others))
  counted test =
      Decides-like (is_kept test before new)
      (λ e. sym (length-map nothing-of (filter test rows)) ∙ ap length e ∙ length-map nothing-of (filter test others))
      (λ e. counted-by (filter test rows) (filter test others) e)
      (listed test nothing-of (λ a b e. refl))

  -- figures of all rows
  pub listed_all : {A : Type 0} (f : Row → A) → ((a b : Row) → name_of a ≡ name_of b → f a ≡ f b)
      → Decides (beq (is_some before) (is_some new)) (map f rows ≡ map f others)
  unfolding every
  listed_all f by_name =
      Decides-at (beq (is_some before) (is_some new)) (is_kept every before new) (kept before new)
      (Decides-like (is_kept every before new)
      (λ e. sym (ap (map f) (filter-every rows)) ∙ e ∙ ap (map f) (filter-every others))
      (λ e. ap (map f) (filter-every rows) ∙ e ∙ sym (ap (map f) (filter-every others)))
      (listed every f by_name))
    where
      kept : (a b : Option Row) → beq (is_some a) (is_some b) ≡ is_kept every a b
      kept None None = refl
      kept None (Some b) = refl
      kept (Some a) None = refl
      kept (Some a) (Some b) = refl

-- a list behind which another stays
pub followed : {A : Type 0} (same : Bool) (xs ys back : List A) → Decides same (xs ≡ ys)
    → Decides same (xs ++ back ≡ ys ++ back)
followed same xs ys back told =
    Decides-like same (λ e. ap (λ zs. zs ++ back) e) (λ e. append_cancel_right xs ys back e) told

-- a list behind another that stays
pub preceded : {A : Type 0} (same : Bool) (front xs ys : List A) → Decides same (xs ≡ ys)
    → Decides same (front ++ xs ≡ front ++ ys)
preceded same front xs ys told =
    Decides-like same (λ e. ap (λ zs. front ++ zs) e) (λ e. append_cancel_left front xs ys e) told
