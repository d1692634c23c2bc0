-- What the fault of a fund's list says: the components up to one of them are still as those of a fund are, and with it they are not.
use Rattle.std.proofs.Common.{◌≡◌, ◌↔◌, ℕ, zero, suc, ℤ, ◌+◌, ◌*◌, ◌<◌, ◌||◌, false, List, [], ◌∷◌, length, map, take, Some, None, if◌then◌else◌, refl, sym, ap, subst, ◌∙◌, arith}
use Rattle.std.specs.List.{AllByRecursion, IsDistinct, list_any}
use Rattle.scr_tables.specs.Names.{same_name}
use Rattle.scr_sheet.specs.Faults.{components_fault}
use Rattle.scr_sheet.specs.FundLists.{AreOfOneFund}
use Rattle.scr_sheet.specs.declared.fault.Fault.{Fault}
use Rattle.scr_sheet.specs.declared.fault.Fault.TheVariants as faults
use Rattle.scr_profile.specs.declared.limits.TheConstants.{MAX_FUND_COMPONENTS}
use Rattle.scr_tables.proofs.TableRows.{IsFresh, same_name-flip, passes_or_fails}
use Rattle.scr_sheet.proofs.Preserved.{AreOnce, once, fresh_components}

-- none is the name or one of those met before
still_new : (name : List ℕ) (met : List (List ℕ)) (components : List (List ℕ × ℤ)) → IsFresh name (map (λ c. c.0) components) → AllByRecursion (λ c. list_any (same_name c.0) met ≡ false) components
    → AllByRecursion (λ c. list_any (same_name c.0) (name ∷ met) ≡ false) components
still_new name met [] fresh new = tt
still_new name met (c ∷ cs) fresh new =
    (ap (λ t. t || list_any (same_name c.0) met) (same_name-flip c.0 name ∙ fresh.0) ∙ new.0, still_new name met cs fresh.1 new.1)

-- one component before others, and the others without it
more_once : (left : ℕ) (met : List (List ℕ)) (c : List ℕ × ℤ) (cs : List (List ℕ × ℤ)) → list_any (same_name c.0) met ≡ false → AreOnce left (c.0 ∷ met) cs → AreOnce (suc left) met (c ∷ cs)
unfolding IsDistinct
more_once left met c cs new o =
    let apart = fresh_components c.0 met cs o.new in
    let count = o.count in
    record { count = omega (arith, count); new = (new, apart.1); apart = (apart.0, o.apart) }

less_once : (left : ℕ) (met : List (List ℕ)) (c : List ℕ × ℤ) (cs : List (List ℕ × ℤ)) → AreOnce (suc left) met (c ∷ cs) → AreOnce left (c.0 ∷ met) cs
unfolding IsDistinct
less_once left met c cs o =
    let count = o.count in
    record { count = omega (arith, count); new = still_new c.0 met cs o.apart.0 o.new.1; apart = o.apart.1 }

faultless : (field left : ℕ) (met : List (List ℕ)) (components : List (List ℕ × ℤ)) → AreOnce left met components → components_fault field left met components ≡ None
faultless field left met [] o = refl
faultless field zero met (c ∷ cs) o = let count = o.count in absurd (omega (arith, count))
faultless field (suc left) met (c ∷ cs) o =
    ap (λ t. if t then Some (faults.Syntax field) else components_fault (field + 2) left (c.0 ∷ met) cs) o.new.0
    ∙ faultless (field + 2) left (c.0 ∷ met) cs (less_once left met c cs o)

-- the component that is told, by its place
record IsTold (field left : ℕ) (met : List (List ℕ)) (components : List (List ℕ × ℤ)) (fault : Fault) : Type 0 where
  pub place : ℕ
  pub told : fault ≡ faults.Syntax (field + 2 * place)
  pub inside : place < length components
  pub before : AreOnce left met (take place components)
  pub through : ¬ AreOnce left met (take (suc place) components)

none_once : (left : ℕ) (met : List (List ℕ)) → AreOnce left met []
unfolding IsDistinct
none_once left met = record { count = omega arith; new = tt; apart = tt }

one_too_many : (met : List (List ℕ)) (c : List ℕ × ℤ) → ¬ AreOnce 0 met (c ∷ [])
one_too_many met c o = let count = o.count in absurd (omega (arith, count))

at_first : (field : ℕ) (fault : Fault) → fault ≡ faults.Syntax field → fault ≡ faults.Syntax (field + 2 * 0)
at_first field fault own = let same : field ≡ field + 2 * 0 = omega arith in own ∙ ap faults.Syntax same

told_at : (field left : ℕ) (met : List (List ℕ)) (components : List (List ℕ × ℤ)) (fault : Fault) → components_fault field left met components ≡ Some fault → IsTold field left met components fault
told_at field left met [] fault is = absurd (cc)
told_at field zero met (c ∷ cs) fault is =
    let own : fault ≡ faults.Syntax field = cc in
    record { place = 0; told = at_first field fault own; inside = omega arith; before = none_once 0 met; through = one_too_many met c }
told_at field (suc left) met (c ∷ cs) fault is =
    passes_or_fails (list_any (same_name c.0) met)
    (λ e. let here : Some (faults.Syntax field) ≡ Some fault = sym (ap (λ t. if t then Some (faults.Syntax field) else components_fault (field + 2) left (c.0 ∷ met) cs) e) ∙ is in
    let own : fault ≡ faults.Syntax field = cc in
    record { place = 0; told = at_first field fault own; inside = omega arith; before = none_once (suc left) met; through = λ o. let new = o.new.0 in absurd (cc) })
    (λ e. let later = told_at (field + 2) left (c.0 ∷ met) cs fault (sym (ap (λ t. if t then Some (faults.Syntax field) else components_fault (field + 2) left (c.0 ∷ met) cs) e) ∙ is) in
    let inside = later.inside in
    let number : field + 2 + 2 * later.place ≡ field + 2 * suc later.place = omega arith in
    record {
      place = suc later.place;
      told = later.told ∙ ap faults.Syntax number;
      inside = omega (arith, inside);
      before = more_once left met c (take later.place cs) e later.before;
      through = λ o. later.through (less_once left met c (take (suc later.place) cs) o);
    })

of_once : (components : List (List ℕ × ℤ)) → AreOnce MAX_FUND_COMPONENTS [] components → AreOfOneFund components
of_once components o = (o.apart, o.count)

not_met : (components : List (List ℕ × ℤ)) → AllByRecursion (λ c. list_any (same_name c.0) [] ≡ false) components
not_met [] = tt
not_met (c ∷ cs) = (refl, not_met cs)

once_of : (components : List (List ℕ × ℤ)) → AreOfOneFund components → AreOnce MAX_FUND_COMPONENTS [] components
once_of components o = record { count = o.1; new = not_met components; apart = o.0 }

pub no-fault : (components : List (List ℕ × ℤ)) → (components_fault 2 MAX_FUND_COMPONENTS [] components ≡ None) ↔ AreOfOneFund components
no-fault components = (λ none. of_once components (once 2 MAX_FUND_COMPONENTS [] components none), λ o. faultless 2 MAX_FUND_COMPONENTS [] components (once_of components o))

pub first-fault : (components : List (List ℕ × ℤ)) (fault : Fault) → components_fault 2 MAX_FUND_COMPONENTS [] components ≡ Some fault
    → (place : ℕ) × (fault ≡ faults.Syntax (2 + 2 * place)) × (place < length components) × AreOfOneFund (take place components) × (¬ AreOfOneFund (take (place + 1) components))
first-fault components fault is =
    let t = told_at 2 MAX_FUND_COMPONENTS [] components fault is in
    let next : t.place + 1 ≡ suc t.place = omega arith in
    (t.place, t.told, t.inside, of_once (take t.place components) t.before, λ o. t.through (once_of (take (suc t.place) components) (subst (λ n. AreOfOneFund (take n components)) next o)))
