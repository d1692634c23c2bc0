-- The components of a fund that a check has met.
use Rattle.std.proofs.Common.{◌≡◌, ℕ, ℤ, ◌+◌, ◌-◌, ◌<◌, ◌≤◌, ◌||◌, true, false, cond, List, [], ◌∷◌, suc, length, drop, get_or, Some, is_some, refl, sym, ap, ◌∙◌, arith}
use Rattle.std.proofs.lemmas.List.{drop_more}
use Rattle.std.specs.List.{list_any}
use Rattle.std.specs.Map.{lookup}
use Rattle.indexmap.specs.IndexMap.{insert_entry}
use Rattle.scr_tables.specs.Names.{same_name}
use Rattle.scr_sheet.specs.Faults.{components_fault}
use Rattle.scr_sheet.specs.declared.fault.Fault.TheVariants as faults
use Rattle.scr_profile.specs.declared.limits.TheConstants.{MAX_FUND_COMPONENTS}

-- the keys of a map, the last one first, before these names
abbrev pub met_before : List (List ℕ × Unit {0}) → List (List ℕ) → List (List ℕ)
met_before [] names = names
met_before (e ∷ es) names = met_before es (e.0 ∷ names)

-- the names that were met, the last one first
abbrev pub met_names : List (List ℕ × Unit {0}) → List (List ℕ)
met_names entries = met_before entries []

-- a name was met where it is a key, or one of the names before
any-met : (name : List ℕ) (es : List (List ℕ × Unit {0})) (names : List (List ℕ)) → list_any (same_name name) (met_before es names) ≡ (is_some (lookup (same_name name) es) || list_any (same_name name) names)
any-met name [] names = refl
any-met name (e ∷ es) names = let rest = any-met name es (e.0 ∷ names) in grind (arith, rest)

-- a new key is the name met last
met-insert : (name : List ℕ) (es : List (List ℕ × Unit {0})) (names : List (List ℕ)) → is_some (lookup (same_name name) es) ≡ false → met_before (insert_entry same_name es name tt) names ≡ name ∷ met_before es names
met-insert name [] names absent = refl
met-insert name (e ∷ es) names absent = let rest = met-insert name es (e.0 ∷ names) in grind (arith, absent, rest)

any-met_names : (name : List ℕ) (es : List (List ℕ × Unit {0})) → list_any (same_name name) (met_names es) ≡ is_some (lookup (same_name name) es)
any-met_names name es = let all = any-met name es [] in grind (arith, all)

module _ (field left : ℕ) (es : List (List ℕ × Unit {0})) (c : List ℕ × ℤ) (cs : List (List ℕ × ℤ)) where
  -- a component that was met is told
  fault-met : is_some (lookup (same_name c.0) es) ≡ true → components_fault field (suc left) (met_names es) (c ∷ cs) ≡ Some (faults.Syntax field)
  fault-met met = ap (λ t. cond t (Some (faults.Syntax field)) (components_fault (field + 2) left (c.0 ∷ met_names es) cs)) (any-met_names c.0 es ∙ met)

  -- one that was not is met, and the next ones are looked at
  fault-next : is_some (lookup (same_name c.0) es) ≡ false → components_fault (field + 2) left (met_names (insert_entry same_name es c.0 tt)) cs ≡ components_fault field (suc left) (met_names es) (c ∷ cs)
  fault-next new =
      ap (λ names. components_fault (field + 2) left names cs) (met-insert c.0 es [] new)
      ∙ sym (ap (λ t. cond t (Some (faults.Syntax field)) (components_fault (field + 2) left (c.0 ∷ met_names es) cs)) (any-met_names c.0 es ∙ new))

-- the component at a place of the list, of which so many more are let in
module _ (field i : ℕ) (es : List (List ℕ × Unit {0})) (components : List (List ℕ × ℤ)) (c : List ℕ × ℤ) (inside : i < length components) (is : c ≡ get_or components i c) where
  rest : drop i components ≡ c ∷ drop (i + 1) components
  rest = drop_more components i c inside ∙ ap (λ x. x ∷ drop (i + 1) components) (sym is)

  pub told-full : MAX_FUND_COMPONENTS ≤ i → components_fault field (MAX_FUND_COMPONENTS - i) (met_names es) (drop i components) ≡ Some (faults.Syntax field)
  told-full full =
      let none : MAX_FUND_COMPONENTS - i ≡ 0 = omega (arith, full) in
      ap (λ left. components_fault field left (met_names es) (drop i components)) none ∙ ap (components_fault field 0 (met_names es)) rest

  pub told-met : i < MAX_FUND_COMPONENTS → is_some (lookup (same_name c.0) es) ≡ true → components_fault field (MAX_FUND_COMPONENTS - i) (met_names es) (drop i components) ≡ Some (faults.Syntax field)
  told-met room met =
      let more : MAX_FUND_COMPONENTS - i ≡ suc (MAX_FUND_COMPONENTS - (i + 1)) = omega (arith, room) in
      ap (λ left. components_fault field left (met_names es) (drop i components)) more ∙ ap (components_fault field (suc (MAX_FUND_COMPONENTS - (i + 1))) (met_names es)) rest
      ∙ fault-met field (MAX_FUND_COMPONENTS - (i + 1)) es c (drop (i + 1) components) met

  pub told-next : i < MAX_FUND_COMPONENTS → is_some (lookup (same_name c.0) es) ≡ false
      → components_fault (field + 2) (MAX_FUND_COMPONENTS - (i + 1)) (met_names (insert_entry same_name es c.0 tt)) (drop (i + 1) components) ≡ components_fault field (MAX_FUND_COMPONENTS - i) (met_names es) (drop i components)
  told-next room new =
      let more : MAX_FUND_COMPONENTS - i ≡ suc (MAX_FUND_COMPONENTS - (i + 1)) = omega (arith, room) in
      fault-next field (MAX_FUND_COMPONENTS - (i + 1)) es c (drop (i + 1) components) new
      ∙ sym (ap (λ left. components_fault field left (met_names es) (drop i components)) more ∙ ap (components_fault field (suc (MAX_FUND_COMPONENTS - (i + 1))) (met_names es)) rest)
