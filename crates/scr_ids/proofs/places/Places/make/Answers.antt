use Rattle.std.proofs.Common.{◌≡◌, ℕ, ◌+◌, ◌<◌, List, [], ◌∷◌, ◌++◌, length, ap, refl, sym, subst, ◌∙◌, arith}
use Rattle.std.proofs.lemmas.List.{length_push}
use Rattle.scr_ids.specs.Ranges.{Numbered, made, roll_at, stride}
use Rattle.scr_ids.specs.Steps.{Made}
use Rattle.scr_ids.specs.Kept.{AreRuns, last_run, numbered_of, owners, range_of, ranges_in, ranges_of}
use Rattle.scr_ids.specs.declared.places.Places.TheInside.{Inside}
use Rattle.scr_ids.specs.declared.places.Run.{Run}
use Rattle.scr_ids.specs.declared.table.Table.{Table}
use Rattle.scr_ids.proofs.Additions.{make-kept, make-made}
use Rattle.scr_ids.proofs.Runs.{ranges-more, runs-more}
use Rattle.scr_ids.proofs.places.Places.make.Goals as goal

abbrev after : goal.After-self-1 → Inside
after c = record { rolls = c.push_first.new.rolls; runs = c.begin_run.new.runs; places = c.push_reserved.new.self; size = c.len-start.result + c.stride-2.result }

start-is : (c : goal.After-self-1) → c.len-start.result ≡ length (owners (ranges_in c.self.inside))
start-is c = c.len-start.ensures.size ∙ sym (ap (λ (v : Numbered). v.size) c.self.view_is)

firsts-are : (c : goal.After-self-1) → (roll_at (after c).rolls.items c.args.table).firsts
    ≡ (roll_at c.self.inside.rolls.items c.args.table).firsts ++ length (owners (ranges_in c.self.inside)) ∷ []
firsts-are c =
    c.in_ok-push_first.ensures.ok
    ∙ ap (λ (s : ℕ). (roll_at c.self.inside.rolls.items c.args.table).firsts ++ s ∷ []) (start-is c)

abbrev run_with : Table → ℕ → ℕ → Run
run_with table start id = record { table = table; first = start; id = id }

-- the run, as the invariant tells of it
abbrev run : goal.After-self-1 → Run
run c = record { table = c.args.table; first = c.self.inside.size; id = length c.self.inside.places.items }

abbrev given : goal.After-self-1 → Run
given c = record { table = c.args.table; first = c.len-start.result; id = length c.as_slice.result.now }

run-is : (c : goal.After-self-1) → given c ≡ run c
run-is c =
    let start : c.len-start.result ≡ c.self.inside.size = start-is c ∙ c.self.invariant.end in
    ap (λ (s : ℕ). run_with c.args.table s (length c.as_slice.result.now)) start
    ∙ ap (λ (ps : List ℕ). run_with c.args.table c.self.inside.size (length ps)) c.as_slice.ensures.value

same : (c : goal.After-self-1) → (last_run c.self.inside.runs.items).table ≡ c.args.table → (after c).runs.items ≡ c.self.inside.runs.items
same c e =
    c.begin_run.ensures.same (ap (λ (rs : List Run). (last_run rs).table) c.reserve.ensures.items ∙ e) ∙ c.reserve.ensures.items

other : (c : goal.After-self-1) → ((last_run c.self.inside.runs.items).table ≡ c.args.table → ⊥)
    → (after c).runs.items ≡ c.self.inside.runs.items ++ run c ∷ []
other c differs =
    c.begin_run.ensures.other (λ e. differs (sym (ap (λ (rs : List Run). (last_run rs).table) c.reserve.ensures.items) ∙ e))
    ∙ ap (λ (rs : List Run). rs ++ given c ∷ []) c.reserve.ensures.items
    ∙ ap (λ (r : Run). c.self.inside.runs.items ++ r ∷ []) (run-is c)

places-are : (c : goal.After-self-1) → (after c).places.items ≡ c.self.inside.places.items ++ made (numbered_of c.self.inside) c.args.table ∷ []
places-are c =
    c.push_reserved.ensures.items
    ∙ ap (λ (ps : List ℕ). ps ++ c.made-place.result ∷ []) c.reserve-2.ensures.items
    ∙ ap (λ (k : ℕ). c.self.inside.places.items ++ k ∷ [])
    (c.made-place.ensures ∙ sym (ap (λ (v : Numbered). made v c.args.table) c.self.view_is))

ranges-are : (c : goal.After-self-1) → ranges_in (after c) ≡ ranges_in c.self.inside
    ++ range_of c.args.table (made (numbered_of c.self.inside) c.args.table) (length (owners (ranges_in c.self.inside))) ∷ []
ranges-are c =
    ap (ranges_of (after c).runs.items) (places-are c)
    ∙ ranges-more c.self.inside.runs.items c.args.table (length c.self.inside.places.items) c.self.inside.size c.self.invariant.runs
    (after c).runs.items (same c) (other c) c.self.inside.places.items (made (numbered_of c.self.inside) c.args.table) refl
    ∙ ap (λ (s : ℕ). ranges_in c.self.inside ++ range_of c.args.table (made (numbered_of c.self.inside) c.args.table) s ∷ [])
    (sym c.self.invariant.end)

size-is : (c : goal.After-self-1) → (after c).size ≡ length (owners (ranges_in c.self.inside)) + stride c.args.table
size-is c = omega (arith, start-is c, c.stride-2.ensures)

many : (c : goal.After-self-1) → length (after c).places.items ≡ length c.self.inside.places.items + 1
many c = ap length (places-are c) ∙ length_push c.self.inside.places.items (made (numbered_of c.self.inside) c.args.table)

runs-are : (c : goal.After-self-1) → AreRuns (after c).runs.items (length (after c).places.items) (after c).size
runs-are c =
    let size : (after c).size ≡ c.self.inside.size + stride c.args.table = omega (arith, size-is c, c.self.invariant.end) in
    subst (λ n. AreRuns (after c).runs.items n (after c).size) (sym (many c))
    (subst (AreRuns (after c).runs.items (length c.self.inside.places.items + 1)) (sym size)
    (runs-more c.self.inside.runs.items c.args.table (length c.self.inside.places.items) c.self.inside.size c.self.invariant.runs
    (after c).runs.items (same c) (other c)))

fits : (c : goal.After-self-1) → length (owners (ranges_in c.self.inside)) + stride c.args.table < 4294967296
fits c = let start = start-is c in omega (arith, start, c.stride.ensures, c.if-start-stride.false)

pub invariant_of-self-2 : goal.invariant_of-self-2
invariant_of-self-2 c =
    make-kept c.self.inside (after c) c.self.invariant c.args.table c.push_first.ensures.others (firsts-are c) c.push_first.ensures.live
    (ranges-are c) (runs-are c) (many c) (size-is c) (fits c)

pub returns-clause-ok : goal.returns-clause-ok
returns-clause-ok c =
    subst (λ (v : Numbered). Made c.args.table v (numbered_of (after c))) c.self.view_is
    (make-made c.self.inside (after c) c.self.invariant c.args.table c.push_first.ensures.others (firsts-are c) c.push_first.ensures.live
    (ranges-are c) (runs-are c) (many c) (size-is c) (fits c))

pub begin_run-requires-clause-some : goal.begin_run-requires-clause-some
begin_run-requires-clause-some c =
    subst (λ (rs : List Run). 0 < length rs) (sym c.reserve.ensures.items) c.self.invariant.runs.turn.some
