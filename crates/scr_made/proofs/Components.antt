-- The components of the funds of a made book: twenty securities that differ, and one of the earlier funds.
use Rattle.std.proofs.Common.{◌≡◌, ℕ, zero, suc, ℤ, pos, ◌⊎◌, inl, inr, ◌+◌, ◌*◌, ◌%◌, ◌^◌, ◌<◌, ◌≤◌, ◌==◌, ◌++◌, ◌≤ℤ◌, false, List, [], ◌∷◌, map, length, refl, sym, ap, ◌∙◌, subst, arith, lit<}
use Rattle.std.specs.List.{AllByRecursion, IsDistinct}
use Rattle.std.proofs.lemmas.Int.{ints}
use Rattle.std.proofs.lemmas.List.{append-nil, length-append}
use Rattle.std.proofs.lemmas.Nat.{mod_below}
use Rattle.scr_tables.specs.Names.{same_name}
use Rattle.scr_tables.proofs.TableRows.{All-append, All-map}
use Rattle.scr_made.specs.Draws.{draw, each}
use Rattle.scr_made.specs.Made as spec
use Rattle.scr_made.specs.declared.making.TheConstants.{SECURITIES}
use Rattle.scr_made.proofs.Members.{draw_below}
use Rattle.scr_made.proofs.FundSteps.{AreComponents, IsComponent}
use Rattle.scr_made.proofs.Numbered.{distinct-push, fund_letter, other_letter, other_number, row_name, security_letter}

-- ---- every 397th security

spread_apart : (first i m : ℕ) → i < m → m < 20 → (first + 397 * i) % 8000 ≡ (first + 397 * m) % 8000 → ⊥
spread_apart first i m lt few e = omega (arith, lt, few, e)

abbrev spread_name : ℕ → ℕ → List ℕ
spread_name first i = row_name security_letter ((first + 397 * i) % 8000)

-- one of the first m of them, with its weight
abbrev IsOfSpread : ℕ → ℕ → List ℕ × ℤ → Type 0
IsOfSpread first m c = (i : ℕ) × (i < m) × (c.0 ≡ spread_name first i) × (pos 1 ≤ℤ c.1) × (c.1 ≤ℤ pos 1000)

-- the components made so far: each one of those, and no two with one name
record AreSpread (first m : ℕ) (components : List (List ℕ × ℤ)) : Type 0 where
  among : AllByRecursion (IsOfSpread first m) components
  once : IsDistinct same_name (map (λ c. c.0) components)
  count : length components ≡ m

names-push : (components : List (List ℕ × ℤ)) (c : List ℕ × ℤ)
    → map (λ c. c.0) (components ++ (c ∷ [])) ≡ map (λ c. c.0) components ++ (c.0 ∷ [])
names-push [] c = refl
names-push (x ∷ xs) c = ap (λ names. x.0 ∷ names) (names-push xs c)

small_number : (number : ℕ) → number % 8000 < 2 ^ 32
small_number number = let below = mod_below number 8000 (lit< tt) in omega (arith, below)

no_two : (first m : ℕ) → m < 20 → (components : List (List ℕ × ℤ)) → AllByRecursion (IsOfSpread first m) components
    → AllByRecursion (λ name. same_name name (spread_name first m) ≡ false) (map (λ c. c.0) components)
no_two first m few [] all = tt
no_two first m few (c ∷ cs) all =
    let i = all.0.0 in (
      ap (λ name. same_name name (spread_name first m)) all.0.2
          ∙ other_number security_letter ((first + 397 * i) % 8000) ((first + 397 * m) % 8000)
          (small_number (first + 397 * i)) (small_number (first + 397 * m)) (spread_apart first i m all.0.1 few),
      no_two first m few cs all.1,
    )

one_more : (first m weight : ℕ) → m < 20 → weight < 1000 → (components : List (List ℕ × ℤ)) → AreSpread first m components
    → AreSpread first (suc m) (components ++ ((spread_name first m, pos (1 + weight)) ∷ []))
one_more first m weight few light components old =
    let c : List ℕ × ℤ = (spread_name first m, pos (1 + weight)) in
    let count = old.count in
    record {
      among = All-append (IsOfSpread first (suc m)) components (c ∷ [])
          (All-map (IsOfSpread first m) (IsOfSpread first (suc m)) components
          (λ x h. let before = h.1 in (h.0, omega (arith, before), h.2, h.3, h.4)) old.among)
          ((m, omega arith, refl, omega (arith, ints), omega (arith, ints, light)), tt);
      once = subst (IsDistinct same_name) (sym (names-push components c))
          (distinct-push (map (λ x. x.0) components) (spread_name first m) old.once (no_two first m few components old.among));
      count = omega (arith, count, length-append components (c ∷ []));
    }

spread_made : (first m : ℕ) → m ≤ 20 → (state : ℕ) → AreSpread first m (each m (spec.spread_component first) state).0
unfolding each IsDistinct spec.component
spread_made first zero h state = record { among = tt; once = tt; count = refl }
spread_made first (suc m) h state =
    let now = (each m (spec.spread_component first) state).1 in
    one_more first m (draw 1000 now).0 (omega (arith, h)) (draw_below 1000 now (lit< tt))
    (each m (spec.spread_component first) state).0 (spread_made first m (omega (arith, h)) state)

-- ---- and an earlier fund

-- none, or one with its weight
abbrev IsEarlier : ℕ → List (List ℕ × ℤ) → Type 0
IsEarlier k more =
    (more ≡ []) ⊎ ((j : ℕ) × (weight : ℕ) × (j < k) × (weight < 1000) × (more ≡ (row_name fund_letter j, pos (1 + weight)) ∷ []))

one_earlier : (k state : ℕ) → 0 < k → IsEarlier k (spec.fund_component k state).0
unfolding spec.fund_component spec.component
one_earlier k state some =
    let now = (draw k state).1 in
    inr ((draw k state).0, (draw 1000 now).0, draw_below k state some, draw_below 1000 now (lit< tt), refl)

earlier_made : (k state : ℕ) → IsEarlier k (spec.held_fund k state).0
earlier_made zero state = inl refl
earlier_made (suc k) state =
    let later : (suc k == 0) ≡ false = grind arith in
    rw later (one_earlier (suc k) state (omega arith))

-- what a fund's record needs of its components
pub record AreTaken (k : ℕ) (components : List (List ℕ × ℤ)) : Type 0 where
  pub each : AreComponents 8000 k components
  pub once : IsDistinct same_name (map (λ c. c.0) components)
  pub few : length components ≤ 21

security_component : (first m k : ℕ) (c : List ℕ × ℤ) → IsOfSpread first m c → IsComponent 8000 k c
security_component first m k c h =
    let least = h.3 in
    let most = h.4 in
    record {
      old = inl ((first + 397 * h.0) % 8000, mod_below (first + 397 * h.0) 8000 (lit< tt), h.2);
      least = omega (arith, ints, least);
      most = omega (arith, ints, most);
    }

no_fund_among : (first m j : ℕ) (components : List (List ℕ × ℤ)) → AllByRecursion (IsOfSpread first m) components
    → AllByRecursion (λ name. same_name name (row_name fund_letter j) ≡ false) (map (λ c. c.0) components)
no_fund_among first m j [] all = tt
no_fund_among first m j (c ∷ cs) all = (
  ap (λ name. same_name name (row_name fund_letter j)) all.0.2
      ∙ other_letter security_letter fund_letter ((first + 397 * all.0.0) % 8000) j refl,
  no_fund_among first m j cs all.1,
)

alone : (first k : ℕ) (spread : List (List ℕ × ℤ)) → AreSpread first 20 spread → AreTaken k spread
alone first k spread h =
    let count = h.count in
    record {
      each = All-map (IsOfSpread first 20) (IsComponent 8000 k) spread (security_component first 20 k) h.among;
      once = h.once;
      few = omega (arith, count);
    }

with_fund_too : (first k j weight : ℕ) → j < k → weight < 1000 → (spread : List (List ℕ × ℤ)) → AreSpread first 20 spread
    → AreTaken k (spread ++ ((row_name fund_letter j, pos (1 + weight)) ∷ []))
with_fund_too first k j weight before light spread h =
    let c : List ℕ × ℤ = (row_name fund_letter j, pos (1 + weight)) in
    let count = h.count in
    record {
      each = All-append (IsComponent 8000 k) spread (c ∷ [])
          (All-map (IsOfSpread first 20) (IsComponent 8000 k) spread (security_component first 20 k) h.among)
          (record { old = inr (j, before, refl); least = omega (arith, ints); most = omega (arith, ints, light) }, tt);
      once = subst (IsDistinct same_name) (sym (names-push spread c))
          (distinct-push (map (λ x. x.0) spread) (row_name fund_letter j) h.once (no_fund_among first 20 j spread h.among));
      few = omega (arith, count, length-append spread (c ∷ []));
    }

taken : (first k : ℕ) (spread more : List (List ℕ × ℤ)) → AreSpread first 20 spread → IsEarlier k more
    → AreTaken k (spread ++ more)
taken first k spread more h (inl none) =
    subst (λ m. AreTaken k (spread ++ m)) (sym none) (subst (AreTaken k) (sym (append-nil spread)) (alone first k spread h))
taken first k spread more h (inr one) =
    subst (λ m. AreTaken k (spread ++ m)) (sym one.4) (with_fund_too first k one.0 one.1 one.2 one.3 spread h)

pub components_made : (k state : ℕ) → AreTaken k (spec.components k state).0
unfolding spec.components
components_made k state =
    let first = (draw SECURITIES state).0 in
    let now = (draw SECURITIES state).1 in
    let spread = each 20 (spec.spread_component first) now in
    taken first k spread.0 (spec.held_fund k spread.1).0 (spread_made first 20 (omega arith) now) (earlier_made k spread.1)
