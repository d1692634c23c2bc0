-- The path that is computed is the first shortest chain, and where none is found there is no chain.
use Rattle.std.proofs.Common.{◌≡◌, ◌≢◌, ◌⊎◌, ℕ, zero, suc, ◌+◌, ◌<◌, ◌≤◌, Bool, true, false, IsTrue, if◌then◌else◌, List, [], ◌∷◌, ◌++◌, length, Contains, Option, Some, None, slice_get, refl, sym, ap, subst, ◌∙◌, inl, inr, arith}
use Rattle.std.specs.List.{list_any}
use Rattle.std.specs.Option.{option_or, option_map}
use Rattle.std.proofs.lemmas.Bool.{cases_Bool, cases_lt, true≢false}
use Rattle.scr_funds.specs.Chains.{IsChain, LeadsTo, ComesEarlier, IsFirstShortest}
use Rattle.scr_funds.specs.Paths.{first_way, earliest_between, fewest_between, path_within}
pub use Rattle.scr_funds.proofs.Cycles.{one_first_shortest as first_shortest-single}
use Rattle.scr_funds.proofs.Members.{IsMember, IsMember-from_Contains, Contains-from_IsMember}

-- ---- the first way on

module _ {A : Type 0} (way : A → Option (List A)) where
  first_way-none : (xs : List A) → first_way way xs ≡ None → (x : A) → IsMember x xs → way x ≡ None
  first_way-none [] h x m = absurd m
  first_way-none (y ∷ ys) h x m =
      let rest : first_way way ys ≡ None → IsMember x ys → way x ≡ None = λ e. first_way-none ys e x in
      grind (arith, h, m, rest)

  -- the way goes on from the first of the list that has one
  record GoesOn (xs found : List A) : Type 0 where
    pub first : A
    pub on : List A
    pub whole : found ≡ first ∷ on
    pub goes : way first ≡ Some on
    pub place : ℕ
    pub there : slice_get xs place ≡ Some first
    pub before : (j : ℕ) (x : A) → j < place → slice_get xs j ≡ Some x → way x ≡ None

  first_way-some : (xs found : List A) → first_way way xs ≡ Some found → GoesOn xs found
  first_way-some [] found h = absurd (let clash : None ≡ Some found = h in cc)
  first_way-some (y ∷ ys) found h = by (way y) refl h (first_way-some ys found)
    where
      before : way y ≡ None → (w : GoesOn ys found) → (j : ℕ) (x : A) → j < suc w.place → slice_get (y ∷ ys) j ≡ Some x
          → way x ≡ None
      before e w zero x l k = let same : y ≡ x = cc in ap way (sym same) ∙ e
      before e w (suc j) x l k = w.before j x (omega arith) k

      by : (o : Option (List A)) → way y ≡ o → option_or (option_map (λ on. y ∷ on) o) (first_way way ys) ≡ Some found
          → (first_way way ys ≡ Some found → GoesOn ys found) → GoesOn (y ∷ ys) found
      by (Some on) e some later = record {
        first = y;
        on = on;
        whole = let same : Some (y ∷ on) ≡ Some found = some in cc;
        goes = e;
        place = 0;
        there = refl;
        before = λ j x l k. absurd (omega arith);
      }
      by None e none later = let w = later none in record {
        first = w.first;
        on = w.on;
        whole = w.whole;
        goes = w.goes;
        place = suc w.place;
        there = w.there;
        before = before e w;
      }

IsMember-at : {A : Type 0} (xs : List A) (i : ℕ) (x : A) → slice_get xs i ≡ Some x → IsMember x xs
IsMember-at [] i x h = absurd (let clash : None ≡ Some x = h in cc)
IsMember-at (y ∷ ys) zero x h = let same : y ≡ x = cc in inl (sym same)
IsMember-at (y ∷ ys) (suc i) x h = inr (IsMember-at ys i x h)

-- ---- lists on which nothing comes twice

module _ {A : Type 0} where
  abbrev AreApart : List A → Type 0
  AreApart [] = Unit {0}
  AreApart (x ∷ xs) = ¬ IsMember x xs × AreApart xs

  -- the list without one of its places where x is
  without : (ys : List A) (x : A) → IsMember x ys
      → (zs : List A) × (length ys ≡ suc (length zs)) × ((q : A) → q ≢ x → IsMember q ys → IsMember q zs)
  without [] x h = absurd h
  without (y ∷ ys) x (inl e) = (ys, refl, others)
    where
      others : (q : A) → q ≢ x → IsMember q (y ∷ ys) → IsMember q ys
      others q n (inl k) = absurd (n (k ∙ sym e))
      others q n (inr k) = k
  without (y ∷ ys) x (inr h) = let rest = without ys x h in (y ∷ rest.0, ap suc rest.1, others rest.0 rest.2)
    where
      others : (zs : List A) → ((q : A) → q ≢ x → IsMember q ys → IsMember q zs) → (q : A) → q ≢ x → IsMember q (y ∷ ys)
          → IsMember q (y ∷ zs)
      others zs later q n (inl k) = inl k
      others zs later q n (inr k) = inr (later q n k)

  -- it is no longer than a list that has all that is on it
  length-le_from_members : (xs ys : List A) → AreApart xs → ((q : A) → IsMember q xs → IsMember q ys)
      → length xs ≤ length ys
  length-le_from_members [] ys apart h = omega arith
  length-le_from_members (x ∷ xs) ys apart h =
      let rest = without ys x (h x (inl refl)) in
      let count : length ys ≡ suc (length rest.0) = rest.1 in
      let fewer : length xs ≤ length rest.0 = length-le_from_members xs rest.0 apart.1
      (λ q m. rest.2 q (λ e. apart.0 (subst (λ z. IsMember z xs) e m)) (h q (inr m))) in
      omega arith

module _ {A : Type 0} (same : A → A → Bool) (is_same : (x y : A) → IsTrue (same x y) → x ≡ y)
    (same_self : (x : A) → IsTrue (same x x)) where
  equal : (x y : A) → (x ≡ y) ⊎ (x ≢ y)
  equal x y = by (cases_Bool (same x y))
    where
      by : (same x y ≡ true) ⊎ (same x y ≡ false) → (x ≡ y) ⊎ (x ≢ y)
      by (inl t) = inl (is_same x y t)
      by (inr f) = inr (λ e. true≢false (sym (subst (λ z. same x z ≡ true) e (same_self x)) ∙ f))

  member_or_not : (x : A) (ys : List A) → IsMember x ys ⊎ (¬ IsMember x ys)
  member_or_not x [] = inr (λ m. m)
  member_or_not x (y ∷ ys) =
      let one = equal x y in
      let rest = member_or_not x ys in
      grind (arith, one, rest)

  IsMember-any : (xs : List A) (b : A) → list_any (λ c. same c b) xs ≡ true → IsMember b xs
  IsMember-any [] b h = absurd (true≢false (sym h))
  IsMember-any (x ∷ xs) b h = let rest = IsMember-any xs b in grind (arith, h, rest, is_same x b)

  any-IsMember : (xs : List A) (b : A) → IsMember b xs → list_any (λ c. same c b) xs ≡ true
  any-IsMember [] b h = absurd h
  any-IsMember (x ∷ xs) b m = let rest = any-IsMember xs b in grind (arith, m, rest, same_self b)

  module _ (components : A → List A) where
    -- ---- the earliest chain that has so many between its ends

    earliest_between-none : (n : ℕ) (a b : A) → earliest_between same components n a b ≡ None → (cs : List A)
        → IsChain components a cs b → length cs ≢ n
    unfolding earliest_between
    earliest_between-none zero a b h [] chain l =
        let there : list_any (λ c. same c b) (components a) ≡ true =
        any-IsMember (components a) b (IsMember-from_Contains (components a) b chain) in
        let none : List A = [] in
        let clash : Some none ≡ None = ap (λ t. if t then Some none else None) (sym there) ∙ h in
        cc
    earliest_between-none zero a b h (c ∷ cs) chain l = absurd (omega arith)
    earliest_between-none (suc n) a b h [] chain l = absurd (omega arith)
    earliest_between-none (suc n) a b h (c ∷ cs) chain l =
        earliest_between-none n c b
        (first_way-none (λ x. earliest_between same components n x b) (components a) h c
        (IsMember-from_Contains (components a) c chain.0)) cs chain.1 (omega arith)

    record IsEarliest (n : ℕ) (a b : A) (between : List A) : Type 0 where
      pub chain : IsChain components a between b
      pub count : length between ≡ n
      pub first : (other : List A) → IsChain components a other b → length other ≡ n
          → (other ≡ between) ⊎ ComesEarlier components a between other

    earliest_between-zero : (a b : A) (between : List A) → earliest_between same components 0 a b ≡ Some between
        → IsEarliest 0 a b between
    unfolding earliest_between
    earliest_between-zero a b between h = by (cases_Bool (list_any (λ c. same c b) (components a)))
      where
        none : List A
        none = []

        first : (other : List A) → IsChain components a other b → length other ≡ 0
            → (other ≡ none) ⊎ ComesEarlier components a none other
        first [] chain l = inl refl
        first (c ∷ cs) chain l = absurd (omega arith)

        by : (list_any (λ c. same c b) (components a) ≡ true) ⊎ (list_any (λ c. same c b) (components a) ≡ false)
            → IsEarliest 0 a b between
        by (inl t) =
            let found : Some none ≡ Some between = ap (λ u. if u then Some none else None) (sym t) ∙ h in
            subst (IsEarliest 0 a b) (let it : none ≡ between = cc in it) (record {
              chain = Contains-from_IsMember (components a) b (IsMember-any (components a) b t);
              count = refl;
              first = first;
            })
        by (inr f) =
            absurd (let clash : None ≡ Some between = ap (λ u. if u then Some none else None) (sym f) ∙ h in cc)

    earliest_between-some : (n : ℕ) (a b : A) (between : List A) → earliest_between same components n a b ≡ Some between
        → IsEarliest n a b between
    unfolding earliest_between
    earliest_between-some zero a b between h = earliest_between-zero a b between h
    earliest_between-some (suc n) a b between h =
        let w = first_way-some (λ x. earliest_between same components n x b) (components a) between h in
        later w (earliest_between-some n w.first b w.on w.goes)
      where
        Way : Type 0
        Way = GoesOn (λ x. earliest_between same components n x b) (components a) between

        first : (w : Way) → IsEarliest n w.first b w.on → (other : List A) → IsChain components a other b
            → length other ≡ suc n → (other ≡ w.first ∷ w.on) ⊎ ComesEarlier components a (w.first ∷ w.on) other
        first w rest [] chain l = absurd (omega arith)
        first w rest (d ∷ ds) chain l = by (equal w.first d)
          where
            on : w.first ≡ d → (ds ≡ w.on) ⊎ ComesEarlier components w.first w.on ds
                → (d ∷ ds ≡ w.first ∷ w.on) ⊎ ComesEarlier components a (w.first ∷ w.on) (d ∷ ds)
            on e (inl k) = inl (λ i. sym e i ∷ k i)
            on e (inr k) = inr (inr (e, k))

            before : w.first ≢ d → (j : ℕ) → j ≤ w.place → slice_get (components a) j ≢ Some d
            before apart j m k = at (cases_lt j w.place)
              where
                at : (j < w.place) ⊎ (w.place ≤ j) → ⊥
                at (inl s) = earliest_between-none n d b (w.before j d s k) ds chain.1 (omega arith)
                at (inr s) =
                    let here : j ≡ w.place = omega arith in
                    let both : Some w.first ≡ Some d = sym w.there ∙ ap (slice_get (components a)) (sym here) ∙ k in
                    apart cc

            by : (w.first ≡ d) ⊎ (w.first ≢ d) → (d ∷ ds ≡ w.first ∷ w.on)
                ⊎ ComesEarlier components a (w.first ∷ w.on) (d ∷ ds)
            by (inl e) = on e (rest.first ds (subst (λ x. IsChain components x ds b) (sym e) chain.1) (omega arith))
            by (inr apart) = inr (inl (w.place, w.there, before apart))

        later : (w : Way) → IsEarliest n w.first b w.on → IsEarliest (suc n) a b between
        later w rest = subst (IsEarliest (suc n) a b) (sym w.whole) (record {
          chain = (
            Contains-from_IsMember (components a) w.first (IsMember-at (components a) w.place w.first w.there),
            rest.chain,
          );
          count = ap suc rest.count;
          first = first w rest;
        })

    -- ---- the fewest between

    fewest_between-some : (n more : ℕ) (a b : A) (between : List A)
        → fewest_between same components n more a b ≡ Some between
        → (k : ℕ) × (n ≤ k) × (earliest_between same components k a b ≡ Some between)
        × ((j : ℕ) → n ≤ j → j < k → earliest_between same components j a b ≡ None)
    unfolding fewest_between
    fewest_between-some n zero a b between h = absurd (let clash : None ≡ Some between = h in cc)
    fewest_between-some n (suc more) a b between h =
        by (earliest_between same components n a b) refl h (fewest_between-some (suc n) more a b between)
      where
        Found : ℕ → Type 0
        Found m = (k : ℕ) × (m ≤ k) × (earliest_between same components k a b ≡ Some between)
            × ((j : ℕ) → m ≤ j → j < k → earliest_between same components j a b ≡ None)

        from_here : earliest_between same components n a b ≡ None → (w : Found (suc n)) → (j : ℕ) → n ≤ j → j < w.0
            → earliest_between same components j a b ≡ None
        from_here e w j l m = at (cases_lt n j)
          where
            at : (n < j) ⊎ (j ≤ n) → earliest_between same components j a b ≡ None
            at (inl s) = w.3 j (omega arith) m
            at (inr s) = let here : j ≡ n = omega arith in ap (λ i. earliest_between same components i a b) here ∙ e

        by : (o : Option (List A)) → earliest_between same components n a b ≡ o
            → option_or o (fewest_between same components (suc n) more a b) ≡ Some between
            → (fewest_between same components (suc n) more a b ≡ Some between → Found (suc n)) → Found n
        by (Some x) e some later = (n, omega arith, e ∙ some, λ j l m. absurd (omega arith))
        by None e none later = let w = later none in
            (w.0, (let l : suc n ≤ w.0 = w.1 in omega arith), w.2, from_here e w)

    fewest_between-none : (n more : ℕ) (a b : A) → fewest_between same components n more a b ≡ None → (j : ℕ) → n ≤ j
        → j < n + more → earliest_between same components j a b ≡ None
    unfolding fewest_between
    fewest_between-none n zero a b h j l m = absurd (omega arith)
    fewest_between-none n (suc more) a b h j l m =
        by (earliest_between same components n a b) refl h (fewest_between-none (suc n) more a b)
      where
        by : (o : Option (List A)) → earliest_between same components n a b ≡ o
            → option_or o (fewest_between same components (suc n) more a b) ≡ None
            → (fewest_between same components (suc n) more a b ≡ None → (i : ℕ) → suc n ≤ i → i < suc n + more
            → earliest_between same components i a b ≡ None) → earliest_between same components j a b ≡ None
        by (Some x) e some later = absurd (let clash : Some x ≡ None = some in cc)
        by None e none later = at (cases_lt n j)
          where
            at : (n < j) ⊎ (j ≤ n) → earliest_between same components j a b ≡ None
            at (inl s) = later none j (omega arith) (omega arith)
            at (inr s) = let here : j ≡ n = omega arith in ap (λ i. earliest_between same components i a b) here ∙ e

    -- ---- the path

    pub path_within-told : (most : ℕ) (a b : A) (path : List A) → path_within same components most a b ≡ Some path
        → IsFirstShortest components a b path
    path_within-told most a b path h = by (fewest_between same components 0 most a b) refl h
      where
        shortest : (between : List A) (k : ℕ) → length between ≡ k
            → ((j : ℕ) → 0 ≤ j → j < k → earliest_between same components j a b ≡ None)
            → (other : List A) → IsChain components a other b → length between ≤ length other
        shortest between k count none other chain = at (cases_lt (length other) (length between))
          where
            at : (length other < length between) ⊎ (length between ≤ length other) → length between ≤ length other
            at (inl l) =
                absurd (earliest_between-none (length other) a b (none (length other) (omega arith) (omega arith)) other
                chain refl)
            at (inr l) = l

        by : (o : Option (List A)) → fewest_between same components 0 most a b ≡ o
            → option_map (λ between. a ∷ (between ++ b ∷ [])) o ≡ Some path → IsFirstShortest components a b path
        by None e none = absurd (let clash : None ≡ Some path = none in cc)
        by (Some between) e some =
            let w = fewest_between-some 0 most a b between e in
            let it = earliest_between-some w.0 a b between w.2 in
            record {
              between = between;
              whole = let same : Some (a ∷ (between ++ b ∷ [])) ≡ Some path = some in cc;
              chain = it.chain;
              shortest = shortest between w.0 it.count w.3;
              first = λ other chain equal. it.first other chain (equal ∙ it.count);
            }

    -- ---- a chain on which nothing comes twice

    abbrev Simple : A → A → Type 0
    Simple a b = (ds : List A) × IsChain components a ds b × AreApart (a ∷ ds)

    -- the way on from where a is met
    on_from : (a c : A) (cs : List A) (b : A) → IsChain components c cs b → AreApart (c ∷ cs) → IsMember a (c ∷ cs)
        → Simple a b
    on_from a c cs b chain apart (inl e) = subst (λ x. Simple x b) (sym e) (cs, chain, apart)
    on_from a c [] b chain apart (inr m) = absurd m
    on_from a c (d ∷ cs) b chain apart (inr m) = on_from a d cs b chain.1 apart.1 m

    simple : (a : A) (cs : List A) (b : A) → IsChain components a cs b → Simple a b
    simple a [] b chain = ([], chain, ((λ m. m), tt))
    simple a (c ∷ cs) b chain = let rest = simple c cs b chain.1 in by rest (member_or_not a (c ∷ rest.0))
      where
        by : (rest : Simple c b) → IsMember a (c ∷ rest.0) ⊎ (¬ IsMember a (c ∷ rest.0)) → Simple a b
        by rest (inl m) = on_from a c rest.0 b rest.1 rest.2 m
        by rest (inr n) = (c ∷ rest.0, (chain.0, rest.1), (n, rest.2))

    -- each but the end has a component
    has_component : (a c : A) → Contains (components a) c → ¬ (components a ≡ [])
    has_component a c h e = subst (IsMember c) e (IsMember-from_Contains (components a) c h)

    each_has : (a : A) (cs : List A) (b : A) → IsChain components a cs b → (x : A) → IsMember x (a ∷ cs)
        → ¬ (components x ≡ [])
    each_has a [] b chain x (inl e) = subst (λ y. ¬ (components y ≡ [])) (sym e) (has_component a b chain)
    each_has a [] b chain x (inr m) = absurd m
    each_has a (c ∷ cs) b chain x (inl e) = subst (λ y. ¬ (components y ≡ [])) (sym e) (has_component a c chain.0)
    each_has a (c ∷ cs) b chain x (inr m) = each_has c cs b chain.1 x m

    -- `holders` has whoever has a component, and so many are tried
    module _ (most : ℕ) (holders : List A) (all : (x : A) → ¬ (components x ≡ []) → Contains holders x)
        (enough : length holders ≤ most) where
      pub path_within-none : (a b : A) → path_within same components most a b ≡ None → ¬ LeadsTo components a b
      path_within-none a b h leads = by (fewest_between same components 0 most a b) refl h
        where
          way : Simple a b
          way = simple a leads.0 b leads.1

          few : length (a ∷ way.0) ≤ length holders
          few = length-le_from_members (a ∷ way.0) holders way.2
              (λ x m. IsMember-from_Contains holders x (all x (each_has a way.0 b way.1 x m)))

          by : (o : Option (List A)) → fewest_between same components 0 most a b ≡ o
              → option_map (λ between. a ∷ (between ++ b ∷ [])) o ≡ None → ⊥
          by (Some between) e some = let clash : Some (a ∷ (between ++ b ∷ [])) ≡ None = some in cc
          by None e none = earliest_between-none (length way.0) a b
              (fewest_between-none 0 most a b e (length way.0) (omega arith) (omega (arith, few, enough))) way.0 way.1
              refl

      pub path_within-is : (a b : A) (path : List A) → IsFirstShortest components a b path
          → path_within same components most a b ≡ Some path
      path_within-is a b path p = by (path_within same components most a b) refl
        where
          by : (o : Option (List A)) → path_within same components most a b ≡ o → o ≡ Some path
          by None e = absurd (path_within-none a b e (p.between, p.chain))
          by (Some other) e =
              ap Some (first_shortest-single components a b other path (path_within-told most a b other e) p)
