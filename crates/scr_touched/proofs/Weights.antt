-- The weights of a fund's components, as they are gathered by name.
use Rattle.std.proofs.Common.{◌≡◌, ℕ, ℤ, ◌+◌, ◌*◌, ◌^◌, ◌<◌, ◌≤◌, ◌||◌, Bool, true, false, cond, List, [], ◌∷◌, ◌++◌, Option, Some, None, IfOk, Result, Ok, Err, is_some, length, take, get_or, sum_by, refl, sym, ap, subst, ◌∙◌, arith}
use Rattle.std.specs.List.{list_any}
use Rattle.std.proofs.lemmas.List.{take_more}
use Rattle.std.proofs.lemmas.List.Sums.{sum_by-append, sum_by-cons}
use Rattle.std.specs.Option.{option_map}
use Rattle.scr_tables.specs.Names.{same_name}
use Rattle.scr_tables.specs.Tables.{has_row, row_of, with_row}
use Rattle.scr_tables.proofs.TableRows.{passes_or_fails, same_name-is, same_or_other, row_of-with_row_own, row_of-with_row_other}
use Rattle.scr_sheet.specs.Records.{natural}
use Rattle.scr_sheet.specs.declared.rows.Stake.{Stake}
use Rattle.scr_nodes.specs.Own.{Share}
use Rattle.scr_nodes.specs.Rows.{holds, is_component, share_in, weights_before, weights_through}
use Rattle.scr_touched.specs.Components.{component_name, with_first}
use Rattle.scr_touched.specs.Weighed.{AreShares, AreWeighed, share_with, weights_at, weights_of}
use Rattle.scr_touched.specs.declared.component.Component.{Component}
use Rattle.scr_touched.specs.declared.component.Weighed.{Weighed}

abbrev pub weight : List ℕ × ℤ → ℕ
weight c = natural c.1

-- the weights of all
abbrev pub weights : List (List ℕ × ℤ) → ℕ
weights cs = sum_by weight cs

-- further back by so much
abbrev moved_by : ℕ → Option (ℕ × ℕ) → Option (ℕ × ℕ)
moved_by n places = option_map (λ p. (n + p.0, n + p.1)) places

-- these weights, if there is such a component
abbrev when : Bool → ℕ → ℕ → Option (ℕ × ℕ)
when there before through = cond there (Some (before, through)) None

at-first : (x : List ℕ) (c : List ℕ × ℤ) (cs : List (List ℕ × ℤ)) → is_component x c ≡ true
    → weights_at x (c ∷ cs) ≡ when true 0 (weight c)
at-first x c cs e = by (is_component x c) e
  where
    by : (b : Bool) → b ≡ true
        → when (b || list_any (is_component x) cs) (cond b 0 (weight c + weights_before x cs))
        (weight c + cond b 0 (weights_through x cs))
        ≡ when true 0 (weight c)
    by true h = let nothing_more : weight c + 0 ≡ weight c = omega arith in ap (when true 0) nothing_more
    by false h = absurd (cc)

at-later : (x : List ℕ) (c : List ℕ × ℤ) (cs : List (List ℕ × ℤ)) → is_component x c ≡ false
    → weights_at x (c ∷ cs) ≡ moved_by (weight c) (weights_at x cs)
at-later x c cs e = by (is_component x c) (list_any (is_component x) cs) e
  where
    by : (b any : Bool) → b ≡ false
        → when (b || any) (cond b 0 (weight c + weights_before x cs)) (weight c + cond b 0 (weights_through x cs))
        ≡ moved_by (weight c) (when any (weights_before x cs) (weights_through x cs))
    by true any h = absurd (cc)
    by false true h = refl
    by false false h = refl

-- the weights of a name among these and one more component
abbrev at_more : List ℕ → List (List ℕ × ℤ) → List ℕ × ℤ → Option (ℕ × ℕ)
at_more x cs c =
    cond (list_any (is_component x) cs) (weights_at x cs) (when (is_component x c) (weights cs) (weights cs + weight c))

more : (x : List ℕ) (cs : List (List ℕ × ℤ)) (c : List ℕ × ℤ) → weights_at x (cs ++ c ∷ []) ≡ at_more x cs c
more x [] c =
    passes_or_fails (is_component x c)
    (λ e. at-first x c [] e ∙ ap (when true 0) whole ∙ ap (λ b. when b 0 (0 + weight c)) (sym e))
    (λ e. at-later x c [] e ∙ ap (λ b. when b 0 (0 + weight c)) (sym e))
  where
    whole : weight c ≡ 0 + weight c
    whole = omega arith
more x (d ∷ cs) c =
    passes_or_fails (is_component x d)
    (λ e. at-first x d (cs ++ c ∷ []) e ∙ sym (at-first x d cs e)
    ∙ ap (λ b. cond (b || list_any (is_component x) cs) (weights_at x (d ∷ cs)) last) (sym e))
    (λ e. at-later x d (cs ++ c ∷ []) e ∙ ap (moved_by (weight d)) (more x cs c)
    ∙ by (list_any (is_component x) cs) (is_component x c) (weights_at x cs)
    ∙ ap (λ w. cond (list_any (is_component x) cs) w last) (sym (at-later x d cs e))
    ∙ ap (λ b. cond (b || list_any (is_component x) cs) (weights_at x (d ∷ cs)) last) (sym e))
  where
    last : Option (ℕ × ℕ)
    last = when (is_component x c) (weights (d ∷ cs)) (weights (d ∷ cs) + weight c)

    by : (any here : Bool) (w : Option (ℕ × ℕ))
        → moved_by (weight d) (cond any w (when here (weights cs) (weights cs + weight c)))
        ≡ cond any (moved_by (weight d) w) (when here (weights (d ∷ cs)) (weights (d ∷ cs) + weight c))
    by true here w = refl
    by false true w =
        let all : weights (d ∷ cs) ≡ weight d + weights cs = sum_by-cons weight d cs in
        let whole : weight d + (weights cs + weight c) ≡ weights (d ∷ cs) + weight c = omega (arith, all) in
        λ i. when true (sym all i) (whole i)
    by false false w = refl

-- what no row tells is no component
absent : (x : List ℕ) (cs : List (List ℕ × ℤ)) → weights_at x cs ≡ None → list_any (is_component x) cs ≡ false
absent x cs e = by (list_any (is_component x) cs) e
  where
    by : (b : Bool) → when b (weights_before x cs) (weights_through x cs) ≡ None → b ≡ false
    by true h = absurd (cc)
    by false h = refl

present : (x : List ℕ) (cs : List (List ℕ × ℤ)) → is_some (weights_at x cs) ≡ true → list_any (is_component x) cs ≡ true
present x cs e = by (list_any (is_component x) cs) e
  where
    by : (b : Bool) → is_some (when b (weights_before x cs) (weights_through x cs)) ≡ true → b ≡ true
    by true h = refl
    by false h = absurd (cc)

-- of another name, or of one that comes again
stays : (x : List ℕ) (cs : List (List ℕ × ℤ)) (c : List ℕ × ℤ)
    → (list_any (is_component x) cs || is_component x c) ≡ list_any (is_component x) cs
    → weights_at x (cs ++ c ∷ []) ≡ weights_at x cs
stays x cs c e = more x cs c ∙ by (list_any (is_component x) cs) (is_component x c) e
  where
    by : (any here : Bool) → (any || here) ≡ any
        → cond any (when any (weights_before x cs) (weights_through x cs))
        (when here (weights cs) (weights cs + weight c))
        ≡ when any (weights_before x cs) (weights_through x cs)
    by true here h = refl
    by false true h = absurd (cc)
    by false false h = refl

-- ---- one row more

found-some : (rows : List Component) (x : List ℕ) → is_some (option_map weights_of (row_of component_name x rows))
    ≡ has_row component_name x rows
found-some rows x = by (row_of component_name x rows)
  where
    by : (row : Option Component) → is_some (option_map weights_of row) ≡ is_some row
    by None = refl
    by (Some row) = refl

or-false : (b : Bool) → (b || false) ≡ b
or-false true = refl
or-false false = refl

no-row : (row : Option Component) → is_some row ≡ false → row ≡ None
no-row None e = refl
no-row (Some row) e = absurd (cc)

pub weighed-more : (rows : List Component) (cs : List (List ℕ × ℤ)) (component : Component) (c : List ℕ × ℤ)
    → AreWeighed rows cs → component.name ≡ c.0 → component.before ≡ weights cs
    → component.through ≡ weights cs + weight c → AreWeighed (with_first component rows) (cs ++ c ∷ [])
unfolding AreWeighed
weighed-more rows cs component c so_far name before through x =
    passes_or_fails (has_row component_name component.name rows)
    (λ has. ap (λ b. shown (cond b rows (with_row component_name component rows))) has ∙ so_far x
    ∙ sym (stays x cs c (again has)))
    (λ has. ap (λ b. shown (cond b rows (with_row component_name component rows))) has
    ∙ same_or_other x component.name (first has) other)
  where
    shown : List Component → Option (ℕ × ℕ)
    shown list = option_map weights_of (row_of component_name x list)

    again : has_row component_name component.name rows ≡ true
        → (list_any (is_component x) cs || is_component x c) ≡ list_any (is_component x) cs
    again has =
        same_or_other x c.0
        (λ e. let there : list_any (is_component x) cs ≡ true =
        present x cs (ap is_some (sym (so_far x)) ∙ found-some rows x
        ∙ ap (λ n. has_row component_name n rows) (same_name-is x c.0 e ∙ sym name) ∙ has) in
        ap (λ b. b || is_component x c) there ∙ sym there)
        (λ e. ap (λ b. list_any (is_component x) cs || b) e ∙ or-false (list_any (is_component x) cs))

    first : has_row component_name component.name rows ≡ false → same_name x component.name ≡ true
        → shown (with_row component_name component rows) ≡ weights_at x (cs ++ c ∷ [])
    first has same =
        let is : x ≡ component.name = same_name-is x component.name same in
        let none : list_any (is_component x) cs ≡ false =
        absent x cs (sym (so_far x) ∙ ap (option_map weights_of) (no-row (row_of component_name x rows)
        (ap (λ n. has_row component_name n rows) is ∙ has))) in
        ap (λ n. option_map weights_of (row_of component_name n (with_row component_name component rows))) is
        ∙ ap (option_map weights_of) (row_of-with_row_own component_name component rows)
        ∙ (λ i. when true (before i) (through i))
        ∙ sym (more x cs c
        ∙ ap (λ b. cond b (weights_at x cs) (when (is_component x c) (weights cs) (weights cs + weight c))) none
        ∙ ap (λ b. when b (weights cs) (weights cs + weight c)) (ap (same_name x) (sym name) ∙ same))

    other : same_name x component.name ≡ false
        → shown (with_row component_name component rows) ≡ weights_at x (cs ++ c ∷ [])
    other differs =
        ap (option_map weights_of) (row_of-with_row_other component_name x component rows differs) ∙ so_far x
        ∙ sym (stays x cs c (ap (λ b. list_any (is_component x) cs || b) (ap (same_name x) (sym name) ∙ differs)
        ∙ or-false (list_any (is_component x) cs)))

-- the shares of the whole
pub shares-of : (weighed : Weighed) (stake : Stake) → AreWeighed weighed.rows stake.fund.components
    → weighed.all ≡ weights stake.fund.components → AreShares weighed (Some stake)
unfolding AreWeighed AreShares
shares-of weighed stake rows all x =
    via (row_of component_name x weighed.rows) ∙ ap (option_map share) (rows x) ∙ by (holds x stake)
  where
    share : ℕ × ℕ → Share
    share p = record { before = p.0; through = p.1; all = weights stake.fund.components }

    via : (row : Option Component) → option_map (share_with weighed.all) row
        ≡ option_map share (option_map weights_of row)
    via None = refl
    via (Some row) = ap (λ n. Some (record { before = row.before; through = row.through; all = n })) all

    by : (b : Bool)
        → option_map share
        (when b (weights_before x stake.fund.components) (weights_through x stake.fund.components))
        ≡ cond b (Some (share_in x stake)) None
    by true = refl
    by false = refl

-- of no components
pub weighed-none : (rows : List Component) → rows ≡ [] → AreWeighed rows []
unfolding AreWeighed
weighed-none rows none x = ap (λ rs. option_map weights_of (row_of component_name x rs)) none

-- of no fund
pub no-shares : (weighed : Weighed) → weighed.rows ≡ [] → AreShares weighed None
unfolding AreShares
no-shares weighed none x = ap (λ rs. option_map (share_with weighed.all) (row_of component_name x rs)) none

-- ---- a loop along the components

module _ (cs : List (List ℕ × ℤ)) (k : ℕ) (c : List ℕ × ℤ) (before : k < length cs) (is : c ≡ get_or cs k c) where
  next : take (k + 1) cs ≡ take k cs ++ c ∷ []
  next = take_more cs k c before ∙ ap (λ d. take k cs ++ d ∷ []) (sym is)

  pub weights-more : (all more : ℕ) → all ≡ weights (take k cs) → more ≡ weight c
      → all + more ≡ weights (take (k + 1) cs)
  weights-more all more so_far own =
      let whole : weights (take k cs ++ c ∷ []) ≡ weights (take k cs) + weights (c ∷ []) =
      sum_by-append weight (take k cs) (c ∷ []) in
      let one : weights (c ∷ []) ≡ weight c + weights [] = sum_by-cons weight c [] in
      let sum : all + more ≡ weights (take k cs ++ c ∷ []) = omega (arith, so_far, own, whole, one) in
      sum ∙ ap weights (sym next)

  pub weighed-next : (rows rows_after : List Component) (all more : ℕ) → AreWeighed rows (take k cs)
      → all ≡ weights (take k cs) → more ≡ weight c
      → rows_after ≡ with_first (record { name = c.0; before = all; through = all + more }) rows
      → AreWeighed rows_after (take (k + 1) cs)
  weighed-next rows rows_after all more so_far sum own made =
      let component : Component = record { name = c.0; before = all; through = all + more } in
      subst (AreWeighed rows_after) (sym next)
      (subst (λ rs. AreWeighed rs (take k cs ++ c ∷ [])) (sym made)
      (weighed-more rows (take k cs) component c so_far refl sum (λ i. sum i + own i)))

-- what follows from two facts of what a call gives
pub if-both : {A E : Type 0} (P Q R : A → Type 0) → ((a : A) → P a → Q a → R a) → (result : Result A E)
    → IfOk result P → IfOk result Q → IfOk result R
if-both P Q R f (Ok a) p q = f a p q
if-both P Q R f (Err e) p q = tt

-- each is below 2^64
pub room-next : (all more k : ℕ) → all ≤ 2 ^ 64 * k → more < 2 ^ 64 → all + more ≤ 2 ^ 64 * (k + 1)
room-next all more k so_far one = omega (arith, so_far, one)
