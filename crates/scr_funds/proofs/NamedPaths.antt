-- The path that is computed under other names: where each holder of one kind stands for one of another, with the
-- components that stand for its own, it has the names of the first shortest chain.
use Rattle.std.proofs.Common.{◌≡◌, ℕ, ◌≤◌, Bool, IsTrue, List, [], map, length, Contains, Option, Some, None, refl}
use Rattle.scr_funds.specs.Chains.{LeadsTo, IsFirstShortest}
use Rattle.scr_funds.specs.Paths.{path_within}
use Rattle.scr_funds.proofs.EarliestPaths.{path_within-told, path_within-is}
use Rattle.scr_funds.proofs.Naming.{leads_to_of_named, first_shortest_named}

module _ {A B : Type 0} (old : A → List A) (new : B → List B) (name : A → B) (In : A → Type 0)
    (stays : (a c : A) → In a → Contains (old a) c → In c)
    (named : (a : A) → In a → new (name a) ≡ map name (old a))
    (apart : (a b : A) → In a → In b → name a ≡ name b → a ≡ b)
    (same : B → B → Bool) (is_same : (x y : B) → IsTrue (same x y) → x ≡ y)
    (same_self : (x : B) → IsTrue (same x x)) where
  -- where there is no chain, no path is computed under the names, however many steps are tried
  pub no_path_named : (most : ℕ) (a b : A) → In a → In b → ¬ LeadsTo old a b
      → path_within same new most (name a) (name b) ≡ None
  no_path_named most a b in' inb none = by (path_within same new most (name a) (name b))
      (path_within-told same is_same same_self new most (name a) (name b))
    where
      by : (o : Option (List B)) → ((path : List B) → o ≡ Some path → IsFirstShortest new (name a) (name b) path)
          → o ≡ None
      by None told = refl
      by (Some path) told = let p = told path refl in
          absurd (none (leads_to_of_named old new name In stays named apart a b in' inb (p.between, p.chain)))

  pub no_cycle_named : (most : ℕ) (from : A) → In from → ¬ LeadsTo old from from
      → path_within same new most (name from) (name from) ≡ None
  no_cycle_named most from in' none = no_path_named most from from in' in' none

  module _ (most : ℕ) (holders : List B) (all : (x : B) → ¬ (new x ≡ []) → Contains holders x)
      (enough : length holders ≤ most) where
    -- and else the path has the names of the first shortest chain
    pub path_named : (a b : A) (path : List A) → In a → In b → IsFirstShortest old a b path
        → path_within same new most (name a) (name b) ≡ Some (map name path)
    path_named a b path in' inb p =
        path_within-is same is_same same_self new most holders all enough (name a) (name b) (map name path)
        (first_shortest_named old new name In stays named apart a b path in' inb p)

    pub cycle_named : (from : A) (path : List A) → In from → IsFirstShortest old from from path
        → path_within same new most (name from) (name from) ≡ Some (map name path)
    cycle_named from path in' p = path_named from from path in' in' p
