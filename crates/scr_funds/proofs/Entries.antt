-- What the search notes down, entry by entry: which funds it has reached, and through what each is led to.
use Rattle.std.proofs.Common.{◌≡◌, ℕ, ◌+◌, ◌<◌, ◌≤◌, suc, zero, Bool, true, false, nat_eq, List, [], ◌∷◌, ◌++◌, map, length, Contains, Some, None, is_some, if◌then◌else◌, slice_get, refl, sym, ap, subst, ◌∙◌, arith}
use Rattle.std.specs.Map.{lookup, keys_of}
use Rattle.std.proofs.lemmas.Bool.{true≢false}
use Rattle.std.proofs.lemmas.List.{append_assoc, append-nil, map-append, length-append, length-map}
use Rattle.indexmap.specs.IndexMap.{insert_entry}
use Rattle.scr_funds.specs.Search.{IsTraced}
use Rattle.scr_funds.proofs.Members.{IsMember}
use Rattle.scr_funds.specs.Chains.{LeadsTo, IsFirstShortest}
use Rattle.scr_funds.proofs.Trails.{onto, tip}
use Rattle.scr_funds.proofs.Explored.{Explored, explored_none, explored_again, explored_new, explored_next, first_shortest, leads_nowhere}

-- ---- a look-up

pub reached_before : (c : ℕ) (es : List (ℕ × ℕ)) → is_some (lookup (nat_eq c) es) ≡ true → IsMember c (keys_of es)
reached_before c [] h = absurd (true≢false (sym h))
reached_before c (e ∷ es) h = let rest = reached_before c es in grind (arith, h, rest)

pub not_reached : (c : ℕ) (es : List (ℕ × ℕ)) → is_some (lookup (nat_eq c) es) ≡ false → IsMember c (keys_of es) → ⊥
not_reached c [] h m = absurd m
not_reached c (e ∷ es) h m = let rest = not_reached c es in grind (arith, h, m, rest)

pub insert_entry-last : (c place : ℕ) (es : List (ℕ × ℕ)) → is_some (lookup (nat_eq c) es) ≡ false
    → insert_entry nat_eq es c place ≡ es ++ (c, place) ∷ []
insert_entry-last c place [] h = refl
insert_entry-last c place (e ∷ es) h = let rest = insert_entry-last c place es in grind (arith, h, rest)

-- ---- traces

slice_get-left : {X : Type 0} (xs ys : List X) (i : ℕ) (x : X) → slice_get xs i ≡ Some x
    → slice_get (xs ++ ys) i ≡ Some x
slice_get-left [] ys i x h = absurd (let clash : None ≡ Some x = h in cc)
slice_get-left (z ∷ zs) ys zero x h = h
slice_get-left (z ∷ zs) ys (suc i) x h = slice_get-left zs ys i x h

slice_get-last : {X : Type 0} (xs : List X) (x : X) → slice_get (xs ++ x ∷ []) (length xs) ≡ Some x
slice_get-last [] x = refl
slice_get-last (z ∷ zs) x = slice_get-last zs x

traced_more : (es more : List (ℕ × ℕ)) (from place : ℕ) (r : List ℕ) → IsTraced es from place r
    → IsTraced (es ++ more) from place r
traced_more es more from place [] h = (h.0, h.1, slice_get-left es more 0 (from, h.1) h.2)
traced_more es more from place (f ∷ r) h =
    (h.0, h.1, slice_get-left es more place (f, h.0) h.2, traced_more es more from h.0 r h.3)

-- the trails are those to the entries from the place on
abbrev pub AreTraced : List (ℕ × ℕ) → ℕ → ℕ → List (List ℕ) → Type 0
AreTraced es from place [] = Unit {0}
AreTraced es from place (r ∷ rs) = IsTraced es from place r × AreTraced es from (suc place) rs

are_traced_more : (es more : List (ℕ × ℕ)) (from place : ℕ) (rs : List (List ℕ)) → AreTraced es from place rs
    → AreTraced (es ++ more) from place rs
are_traced_more es more from place [] h = tt
are_traced_more es more from place (r ∷ rs) h =
    (traced_more es more from place r h.0, are_traced_more es more from (suc place) rs h.1)

are_traced_push : (es : List (ℕ × ℕ)) (from place : ℕ) (rs : List (List ℕ)) (new : List ℕ) → AreTraced es from place rs
    → IsTraced es from (place + length rs) new → AreTraced es from place (rs ++ new ∷ [])
are_traced_push es from place [] new h n = let e : place + 0 ≡ place = omega arith in
    (subst (λ p. IsTraced es from p new) e n, tt)
are_traced_push es from place (r ∷ rs) new h n =
    let e : place + suc (length rs) ≡ suc place + length rs = omega arith in
    (h.0, are_traced_push es from (suc place) rs new h.1 (subst (λ p. IsTraced es from p new) e n))

-- ---- the search

-- the entries once those that were not reached before are entered, with the place of what leads to them
abbrev pub all_entered : ℕ → List ℕ → List (ℕ × ℕ) → List (ℕ × ℕ)
all_entered place [] entries = entries
all_entered place (c ∷ cs) entries =
    all_entered place cs (if is_some (lookup (nat_eq c) entries) then entries else insert_entry nat_eq entries c place)

module _ (components : ℕ → List ℕ) (from to : ℕ) where
  -- `place` entries are done, and the trails of `todo` lead to the others
  pub record Noted (es : List (ℕ × ℕ)) (place : ℕ) (seen : List ℕ) : Type 0 where
    pub done : List ℕ
    pub todo : List (List ℕ)
    pub explored : Explored components from to done todo seen (keys_of es)
    pub at : length done ≡ place
    pub traced : AreTraced es from place todo

  pub noted_none : Noted ((from, 0) ∷ []) 0 []
  noted_none = record {
    done = [];
    todo = [] ∷ [];
    explored = explored_none components from to;
    at = refl;
    traced = ((refl, 0, refl), tt);
  }

  -- the state while the components of the fund at the place are entered
  pub record Entering (es : List (ℕ × ℕ)) (place : ℕ) (seen : List ℕ) (done cur : List ℕ) : Type 0 where
    pub rest : List (List ℕ)
    pub explored : Explored components from to done (cur ∷ rest) seen (keys_of es)
    pub traced : AreTraced es from place (cur ∷ rest)

  entering : (es : List (ℕ × ℕ)) (place : ℕ) (seen ahead done cur : List ℕ)
      → components (tip components from cur) ≡ seen ++ ahead → length done ≡ place
      → Entering es place seen done cur → Entering (all_entered place ahead es) place (seen ++ ahead) done cur
  entering es place seen [] done cur row at h = subst (λ s. Entering es place s done cur) (sym (append-nil seen)) h
  entering es place seen (c ∷ ahead) done cur row at h =
      by (is_some (lookup (nat_eq c) es)) refl
      (λ es'. entering es' place (seen ++ c ∷ []) ahead done cur (row ∙ sym (append_assoc seen (c ∷ []) ahead)) at)
    where
      assoc : (seen ++ c ∷ []) ++ ahead ≡ seen ++ c ∷ ahead
      assoc = append_assoc seen (c ∷ []) ahead

      Goal : Bool → Type 0
      Goal b = Entering (all_entered place ahead (if b then es else insert_entry nat_eq es c place)) place
          (seen ++ c ∷ ahead) done cur

      count : length (keys_of es) ≡ length es
      count = length-map es (λ e. e.0)

      total : length (keys_of es) ≡ length (done ++ map (tip components from) (cur ∷ h.rest))
      total = ap length h.explored.reached

      split : length (done ++ map (tip components from) (cur ∷ h.rest))
          ≡ length done + length (map (tip components from) (cur ∷ h.rest))
      split = length-append done (map (tip components from) (cur ∷ h.rest))

      ends : length (map (tip components from) h.rest) ≡ length h.rest
      ends = length-map h.rest (tip components from)

      by : (b : Bool) → is_some (lookup (nat_eq c) es) ≡ b
          → ((es' : List (ℕ × ℕ)) → Entering es' place (seen ++ c ∷ []) done cur
          → Entering (all_entered place ahead es') place ((seen ++ c ∷ []) ++ ahead) done cur)
          → Goal (is_some (lookup (nat_eq c) es))
      by true e later = subst Goal (sym e) (subst (λ s. Entering (all_entered place ahead es) place s done cur) assoc
          (later es
          (record {
            rest = h.rest;
            explored = explored_again components from to done cur h.rest seen (keys_of es) c h.explored
                (reached_before c es e);
            traced = h.traced;
          })))
      by false e later =
          let more : List (ℕ × ℕ) = es ++ (c, place) ∷ [] in
          let last : place + suc (length h.rest) ≡ length es = omega (arith, count, total, split, ends) in
          let before : place < length es = omega arith in
          let new : IsTraced more from (length es) (c ∷ cur) =
          (place, before, slice_get-last es (c, place), traced_more es ((c, place) ∷ []) from place cur h.traced.0) in
          subst Goal (sym e)
          (subst (λ es'. Entering (all_entered place ahead es') place (seen ++ c ∷ ahead) done cur)
          (sym (insert_entry-last c place es e))
          (subst (λ s. Entering (all_entered place ahead more) place s done cur) assoc
          (later more
          (record {
            rest = h.rest ++ (c ∷ cur) ∷ [];
            explored = subst (Explored components from to done (cur ∷ (h.rest ++ (c ∷ cur) ∷ [])) (seen ++ c ∷ []))
                (sym (map-append (λ (e : ℕ × ℕ). e.0) es ((c, place) ∷ [])))
                (explored_new components from to done cur h.rest seen ahead (keys_of es) c h.explored row
                (not_reached c es e));
            traced = are_traced_push more from place (cur ∷ h.rest) (c ∷ cur)
                (are_traced_more es ((c, place) ∷ []) from place (cur ∷ h.rest) h.traced)
                (subst (λ p. IsTraced more from p (c ∷ cur)) (sym last) new);
          }))))

  -- ---- the entry at the place

  -- the entry at the place is that of a fund, and `cur` the trail to it
  record Current (es : List (ℕ × ℕ)) (place fund : ℕ) : Type 0 where
    done : List ℕ
    cur : List ℕ
    rest : List (List ℕ)
    explored : Explored components from to done (cur ∷ rest) [] (keys_of es)
    at : length done ≡ place
    traced : AreTraced es from place (cur ∷ rest)
    ends : tip components from cur ≡ fund

  -- as many funds are done as come before the first trail that is to do
  reached_count : (es : List (ℕ × ℕ)) (place : ℕ) (done : List ℕ) (todo : List (List ℕ))
      → Explored components from to done todo [] (keys_of es) → length done ≡ place → length es ≡ place + length todo
  reached_count es place done todo h at =
      sym (length-map es (λ (e : ℕ × ℕ). e.0)) ∙ ap length h.reached
      ∙ length-append done (map (tip components from) todo)
      ∙ ap (λ n. length done + n) (length-map todo (tip components from)) ∙ ap (λ n. n + length todo) at

  tip_is : (es : List (ℕ × ℕ)) (place fund before : ℕ) (cur : List ℕ) → IsTraced es from place cur
      → slice_get es place ≡ Some (fund, before) → tip components from cur ≡ fund
  tip_is es place fund before [] h entry =
      let clash : Some (from, h.1) ≡ Some (fund, before) = sym h.2 ∙ ap (slice_get es) (sym h.0) ∙ entry in
      let same : (from, h.1) ≡ (fund, before) = cc in
      ap (λ (e : ℕ × ℕ). e.0) same
  tip_is es place fund before (f ∷ r) h entry =
      let clash : Some (f, h.0) ≡ Some (fund, before) = sym h.2 ∙ entry in
      let same : (f, h.0) ≡ (fund, before) = cc in
      ap (λ (e : ℕ × ℕ). e.0) same

  current : (es : List (ℕ × ℕ)) (place fund before : ℕ) → Noted es place [] → place < length es
      → slice_get es place ≡ Some (fund, before) → Current es place fund
  current es place fund before h l entry = by h.todo h.explored h.traced
    where
      by : (todo : List (List ℕ)) → Explored components from to h.done todo [] (keys_of es)
          → AreTraced es from place todo → Current es place fund
      by [] explored traced = let count : length es ≡ place + 0 = reached_count es place h.done [] explored h.at in
          absurd (omega arith)
      by (cur ∷ rest) explored traced = record {
        done = h.done;
        cur = cur;
        rest = rest;
        explored = explored;
        at = h.at;
        traced = traced;
        ends = tip_is es place fund before cur traced.0 entry;
      }

  -- the fund at the place has what is sought
  pub noted_found : (es : List (ℕ × ℕ)) (place fund before : ℕ) → Noted es place [] → place < length es
      → slice_get es place ≡ Some (fund, before) → Contains (components fund) to
      → (trail : List ℕ) × IsTraced es from place trail
      × IsFirstShortest components from to (from ∷ onto trail (to ∷ []))
  noted_found es place fund before h l entry there =
      let now : Current es place fund = current es place fund before h l entry in (
        now.cur,
        now.traced.0,
        first_shortest components from to now.done now.cur now.rest [] (keys_of es) now.explored
            (subst (λ f. Contains (components f) to) (sym now.ends) there),
      )

  -- it does not, and its components are entered
  pub noted_next : (es : List (ℕ × ℕ)) (place fund before : ℕ) → Noted es place [] → place < length es
      → slice_get es place ≡ Some (fund, before) → (Contains (components fund) to → ⊥)
      → Noted (all_entered place (components fund) es) (place + 1) []
  noted_next es place fund before h l entry apart =
      let now : Current es place fund = current es place fund before h l entry in
      let row : List ℕ = components (tip components from now.cur) in
      let all : Entering (all_entered place row es) place row now.done now.cur =
      entering es place [] row now.done now.cur refl now.at
      (record { rest = now.rest; explored = now.explored; traced = now.traced }) in
      let count : place + 1 ≡ suc place = omega arith in
      let next : Noted (all_entered place row es) (suc place) [] = record {
        done = now.done ++ tip components from now.cur ∷ [];
        todo = all.rest;
        explored = explored_next components from to now.done now.cur all.rest
            (keys_of (all_entered place row es)) all.explored
            (λ k. apart (subst (λ f. Contains (components f) to) now.ends k));
        at = length-append now.done (tip components from now.cur ∷ []) ∙ ap (λ n. n + 1) now.at ∙ count;
        traced = all.traced.1;
      } in
      subst (λ n. Noted (all_entered place (components fund) es) n []) (sym count)
      (subst (λ f. Noted (all_entered place (components f) es) (suc place) []) now.ends next)

  -- nothing is left to look at
  pub noted_all : (es : List (ℕ × ℕ)) (place : ℕ) → Noted es place [] → length es ≤ place → LeadsTo components from to
      → ⊥
  noted_all es place h l = by h.todo h.explored
    where
      by : (todo : List (List ℕ)) → Explored components from to h.done todo [] (keys_of es) → LeadsTo components from to
          → ⊥
      by [] explored = leads_nowhere components from to h.done [] (keys_of es) explored
      by (cur ∷ rest) explored = let count : length es ≡ place + suc (length rest) =
          reached_count es place h.done (cur ∷ rest) explored h.at in absurd (omega arith)
