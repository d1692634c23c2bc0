-- How a tally of names moves.
use Rattle.std.proofs.Common.{◌≡◌, ℕ, ℤ, ◌+◌, ◌<◌, Bool, true, false, length, take, get_or, is_some, List, Option, Some, None, MatchOption, if◌then◌else◌, refl, sym, ap, ◌∙◌, arith}
use Rattle.std.proofs.lemmas.List.Sums.{sum_by_more}
use Rattle.std.specs.Option.{option_map_or}
use Rattle.scr_tables.specs.Names.{same_name}
use Rattle.scr_tables.specs.Tables.{row_of, has_row, with_row}
use Rattle.scr_tables.proofs.TableRows.{same_or_other, same_name-is, name_of-row_of, row_of-with_row_own, row_of-with_row_other}
use Rattle.scr_counters.specs.declared.names.Used.{Used}
use Rattle.scr_counters.specs.Users.{Tallied, used_name, users_under, uses, uses_each, came, nothing, Moves, IsWritten}

-- one move after another
pub moves-both : (a b c d : List ℕ → ℕ) (first between last : Tallied) → Moves a b first between → Moves c d between last → Moves (λ n. a n + c n) (λ n. b n + d n) first last
moves-both a b c d first between last one two =
    record {
      kept = λ k. one.kept (two.kept k);
      moved = λ k name. let out = one.moved (two.kept k) name in let come = two.moved k name in omega (arith, out, come);
    }

-- by the same numbers, told otherwise
pub moves-same : (a b c d : List ℕ → ℕ) (before now : Tallied) → ((n : List ℕ) → a n + d n ≡ c n + b n) → Moves a b before now → Moves c d before now
moves-same a b c d before now same one =
    record { kept = one.kept; moved = λ k name. let out = one.moved k name in let e = same name in omega (arith, out, e) }

-- one name more
pub moves-more : (names : List (List ℕ × ℤ)) (k : ℕ) (item : List ℕ × ℤ) (first between last : Tallied) → k < length names → item ≡ get_or names k item → Moves nothing (uses_each (take k names)) first between
    → Moves nothing (uses item.0) between last → Moves nothing (uses_each (take (k + 1) names)) first last
moves-more names k item first between last within is one two =
    moves-same _ _ nothing (uses_each (take (k + 1) names)) first last (λ n. all n) (moves-both nothing (uses_each (take k names)) nothing (uses item.0) first between last one two)
  where
    all : (n : List ℕ) → (nothing n + nothing n) + uses_each (take (k + 1) names) n ≡ nothing n + (uses_each (take k names) n + uses item.0 n)
    all n =
        let sum = sum_by_more (λ (c : List ℕ × ℤ). uses c.0 n) names k item within in
        let own : uses (get_or names k item).0 n ≡ uses item.0 n = ap (λ (c : List ℕ × ℤ). uses c.0 n) (sym is) in
        omega (arith, sum, own)

pub moves-less : (names : List (List ℕ × ℤ)) (k : ℕ) (item : List ℕ × ℤ) (first between last : Tallied) → k < length names → item ≡ get_or names k item → Moves (uses_each (take k names)) nothing first between
    → Moves (uses item.0) nothing between last → Moves (uses_each (take (k + 1) names)) nothing first last
moves-less names k item first between last within is one two =
    moves-same _ _ (uses_each (take (k + 1) names)) nothing first last (λ n. all n) (moves-both (uses_each (take k names)) nothing (uses item.0) nothing first between last one two)
  where
    all : (n : List ℕ) → (uses_each (take k names) n + uses item.0 n) + nothing n ≡ uses_each (take (k + 1) names) n + (nothing n + nothing n)
    all n =
        let sum = sum_by_more (λ (c : List ℕ × ℤ). uses c.0 n) names k item within in
        let own : uses (get_or names k item).0 n ≡ uses item.0 n = ap (λ (c : List ℕ × ℤ). uses c.0 n) (sym is) in
        omega (arith, sum, own)

-- a name that was written, with one user more or less
pub written-users : (name : List ℕ) (users : ℕ) (before now : Tallied) → before.is_lost ≡ now.is_lost → now.used ≡ with_row used_name (record { name = name; users = users }) before.used → IsWritten name users before now
unfolding users_under
written-users name users before now lost rows =
    record {
      kept = λ k. lost ∙ k;
      written = λ k other. ap (λ rs. option_map_or (λ u. u.users) (row_of used_name other rs) 0) rows ∙ by other;
    }
  where
    new : Used
    new = record { name = name; users = users }

    by : (other : List ℕ) → option_map_or (λ u. u.users) (row_of used_name other (with_row used_name new before.used)) 0 ≡ (if same_name other name then users else option_map_or (λ u. u.users) (row_of used_name other before.used) 0)
    by other =
        same_or_other other name
        (λ e. ap (λ n. option_map_or (λ u. u.users) (row_of used_name n (with_row used_name new before.used)) 0) (same_name-is other name e)
        ∙ ap (λ o. option_map_or (λ u. u.users) o 0) (row_of-with_row_own used_name new before.used)
        ∙ sym (ap (λ (t : Bool). if t then users else option_map_or (λ u. u.users) (row_of used_name other before.used) 0) e))
        (λ e. ap (λ o. option_map_or (λ u. u.users) o 0) (row_of-with_row_other used_name other new before.used e)
        ∙ sym (ap (λ (t : Bool). if t then users else option_map_or (λ u. u.users) (row_of used_name other before.used) 0) e))

-- a name with a user came
pub came-used : (name : List ℕ) (tally : Tallied) → 0 < users_under name tally → came name tally ≡ true
unfolding users_under
came-used name tally some = by (row_of used_name name tally.used) some
  where
    by : (found : Option Used) → 0 < option_map_or (λ u. u.users) found 0 → is_some found ≡ true
    by None some = absurd (omega (arith, some))
    by (Some used) some = refl

-- a name that came, changed in its place
pub changed-users : (name : List ℕ) (users : ℕ) (rows after : List Used) (Q : Used → Used → Type 0) → ((old new : Used) → Q old new → new ≡ record old { users = users }) → has_row used_name name rows ≡ true
    → MatchOption (row_of used_name name rows) (after ≡ rows) (λ old. (new : Used) × Q old new × (after ≡ with_row used_name new rows)) → after ≡ with_row used_name (record { name = name; users = users }) rows
changed-users name users rows after Q is has done = by (row_of used_name name rows) refl has done
  where
    by : (found : Option Used) → row_of used_name name rows ≡ found → is_some found ≡ true → MatchOption found (after ≡ rows) (λ old. (new : Used) × Q old new × (after ≡ with_row used_name new rows)) → after ≡ with_row used_name (record { name = name; users = users }) rows
    by None e has done = absurd (cc)
    by (Some old) e has done =
        let named : name ≡ old.name = same_name-is name old.name (name_of-row_of used_name name rows old e) in
        done.2 ∙ ap (λ (row : Used). with_row used_name row rows) (is old done.0 done.1 ∙ (λ i. record { name = sym named i; users = users }))

module _ (name : List ℕ) (users : ℕ) (before now : Tallied) (is : IsWritten name users before now) where
  at_name : now.is_lost ≡ false → (other : List ℕ) → same_name other name ≡ true → users_under other now ≡ users
  at_name k other e = is.written k other ∙ ap (λ (t : Bool). if t then users else users_under other before) e

  at_other : now.is_lost ≡ false → (other : List ℕ) → same_name other name ≡ false → users_under other now ≡ users_under other before
  at_other k other e = is.written k other ∙ ap (λ (t : Bool). if t then users else users_under other before) e

  pub written-more : users ≡ users_under name before + 1 → Moves nothing (uses name) before now
  written-more more =
      record {
        kept = is.kept;
        moved = λ k other.
            same_or_other other name
            (λ e. let own = at_name k other e in
            let same : users_under other before ≡ users_under name before = ap (λ n. users_under n before) (same_name-is other name e) in
            let once : uses name other ≡ 1 = ap (λ (t : Bool). if t then 1 else 0) e in
            omega (arith, own, same, once, more))
            (λ e. let own = at_other k other e in
            let none : uses name other ≡ 0 = ap (λ (t : Bool). if t then 1 else 0) e in
            omega (arith, own, none));
      }

  pub written-less : users + 1 ≡ users_under name before → Moves (uses name) nothing before now
  written-less less =
      record {
        kept = is.kept;
        moved = λ k other.
            same_or_other other name
            (λ e. let own = at_name k other e in
            let same : users_under other before ≡ users_under name before = ap (λ n. users_under n before) (same_name-is other name e) in
            let once : uses name other ≡ 1 = ap (λ (t : Bool). if t then 1 else 0) e in
            omega (arith, own, same, once, less))
            (λ e. let own = at_other k other e in
            let none : uses name other ≡ 0 = ap (λ (t : Bool). if t then 1 else 0) e in
            omega (arith, own, none));
      }
