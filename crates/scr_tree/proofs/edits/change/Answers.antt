use Rattle.std.proofs.Common.{◌≡◌, ◌+◌, ◌≤◌, ℕ, length, slice_get, refl, sym, ap, subst, ◌∙◌, arith}
use Rattle.std.specs.Prelude.{max}
use Rattle.std.specs.Option.{option_map_or}
use Rattle.scr_links.specs.Edges.{Linked}
use Rattle.scr_sheet.specs.Validity.{Valid}
use Rattle.scr_discounts.specs.KeptRates.{all_rates, known_of}
use Rattle.scr_figure_ids.specs.Numbers.{IsNumbered, StandsAt}
use Rattle.scr_reachability.specs.LinkedDues.{AreRelinked, sources_count}
use Rattle.scr_reachability.specs.Linked.{AreNumbers}
use Rattle.scr_reachability.specs.Relinking.{AreLinkable}
use Rattle.scr_tree.specs.Changed.{IsStateOf}
use Rattle.scr_tree.specs.Graphs.{graph_of}
use Rattle.scr_tree.specs.Points.{IsGraphOf}
use Rattle.scr_tree.proofs.KeptRates.{kept-for}
use Rattle.scr_tree.proofs.Leveled.{figure-numbers}
use Rattle.scr_tree.proofs.Moved.{can-link, can-link-back, gathered, linked-again, linked-anew, rates-after, relinked-for}
use Rattle.scr_tree.proofs.TakenUp.{err-so, kept-twice, state-anew, unchanged-at-once, unchanged-back}
use Rattle.scr_tree.proofs.edits.change.Goals as goal
use Rattle.scr_tree.proofs.edits.change.Goals.{in-Some, in_default}

-- ---- room

roomy : (high low n size : ℕ) → high ≡ max low n → n ≡ size → size ≤ high
roomy high low n size is same = omega (arith, is, same)

capped : (high low n size : ℕ) → high ≡ max low n → n ≡ size → low ≤ size → high ≤ size
capped high low n size is same small = omega (arith, is, same, small)

left-spare : (before after due former : ℕ) → before ≤ after + due → due + former ≤ before → former ≤ after
left-spare before after due former kept had = omega (arith, kept, had)

first-spare : (due former spare : ℕ) → due + former ≤ spare → due ≤ spare
first-spare due former spare had = omega (arith, had)

-- ---- numbers

pub all_numbers-requires-clause-valid : goal.all_numbers-requires-clause-valid
all_numbers-requires-clause-valid g c = subst Valid (sym c.sheet.ensures.sheet) c.sheet.ensures.valid

pub all_numbers-requires-clause-numbered : goal.all_numbers-requires-clause-numbered
all_numbers-requires-clause-numbered g c =
    subst (λ sheet. IsNumbered sheet c.args.state.now.places) (sym c.sheet.ensures.sheet) c.requires.numbers.numbered

pub all_numbers-requires-clause-numbers : goal.all_numbers-requires-clause-numbers
all_numbers-requires-clause-numbers g c =
    subst (λ sheet. AreNumbers (graph_of sheet) (StandsAt sheet c.args.state.now.places) c.args.state.now.places.size) (sym c.sheet.ensures.sheet)
    (figure-numbers c.args.footing.book.now c.args.state.now.places c.args.state.now.lists c.requires.numbers.numbers)

pub all_numbers-requires-clause-once : goal.all_numbers-requires-clause-once
all_numbers-requires-clause-once g c = c.requires.by.once

pub dues_at-requires-clause-valid : goal.dues_at-requires-clause-valid
dues_at-requires-clause-valid g c = subst Valid (sym c.sheet.ensures.sheet) c.sheet.ensures.valid

pub dues_at-requires-clause-numbered : goal.dues_at-requires-clause-numbered
dues_at-requires-clause-numbered g c =
    subst (λ sheet. IsNumbered sheet c.args.state.now.places) (sym c.sheet.ensures.sheet) c.requires.numbers.numbered

pub dues_at-requires-clause-numbers : goal.dues_at-requires-clause-numbers
dues_at-requires-clause-numbers g c =
    subst (λ sheet. AreNumbers (graph_of sheet) (StandsAt sheet c.args.state.now.places) c.args.state.now.places.size) (sym c.sheet.ensures.sheet)
    (figure-numbers c.args.footing.book.now c.args.state.now.places c.args.state.now.lists c.requires.numbers.numbers)

pub new_rates-requires : goal.new_rates-requires
new_rates-requires g c =
    kept-for c.args.taken.edit.now c.requires.before.sheet c.args.footing.book.now.sheet c.args.state.now.rates c.requires.by.sheet
    c.requires.rates

-- ---- where memory is refused

pub returns-in_err-make_room-clause-err : goal.returns-in_err-make_room-clause-err
returns-in_err-make_room-clause-err g c =
    err-so _ _ (unchanged-at-once c.args.state.now c.make_room.new.figures c.make_room.new.marks c.args.state.now.links c.make_room.ensures.kept refl)

pub returns-in_err-numbers-clause-err : goal.returns-in_err-numbers-clause-err
returns-in_err-numbers-clause-err g c =
    err-so _ _ (unchanged-at-once c.args.state.now c.make_room.new.figures c.make_room.new.marks c.args.state.now.links c.make_room.ensures.kept refl)

pub returns-in_err-dues-clause-err : goal.returns-in_err-dues-clause-err
returns-in_err-dues-clause-err g c =
    err-so _ _ (unchanged-at-once c.args.state.now c.make_room.new.figures c.make_room.new.marks c.args.state.now.links c.make_room.ensures.kept refl)

pub returns-in_err-rates-clause-err : goal.returns-in_err-rates-clause-err
returns-in_err-rates-clause-err g c =
    err-so _ _ (unchanged-at-once c.args.state.now c.make_room.new.figures c.make_room.new.marks c.args.state.now.links c.make_room.ensures.kept refl)

pub returns-in_err-former-clause-err : goal.returns-in_err-former-clause-err
returns-in_err-former-clause-err g c =
    err-so _ _ (unchanged-at-once c.args.state.now c.make_room.new.figures c.make_room.new.marks c.args.state.now.links c.make_room.ensures.kept refl)

pub returns-in_err-reserve-clause-err : goal.returns-in_err-reserve-clause-err
returns-in_err-reserve-clause-err g c =
    err-so _ _
    (unchanged-at-once c.args.state.now c.make_room.new.figures c.make_room.new.marks c.reserve.new.links c.make_room.ensures.kept
    c.in_err-reserve.ensures.err)

-- ---- links

pub relink-requires : goal.relink-requires
relink-requires g c =
    let book = c.args.footing.book.now in
    let state = c.args.state.now in
    let all = gathered c.args.footing.factors.now book c.args.taken c.args.gone state c.requires c.sheet.ensures.valid c.sheet.result.now
    c.sheet.ensures.sheet c.in_ok-numbers.numbers.items c.as_slice.result.now c.as_slice-2.result.now c.as_slice.ensures.value
    c.as_slice-2.ensures.value c.in_ok-numbers.ensures.gone c.in_ok-numbers.ensures.starts c.in_ok-numbers.ensures.once c.in_ok-dues.dues.items
    c.in_ok-former.former.items c.in_ok-dues.ensures.dues c.in_ok-dues.ensures.empty c.in_ok-former.ensures in
    subst (AreLinkable c.reserve.new.links) (sym c.as_slice-5.ensures.value)
    (can-link c.args.footing.factors.now book c.args.taken c.args.gone state c.requires c.sheet.ensures.valid c.in_ok-numbers.numbers.items
    c.in_ok-dues.dues.items c.in_ok-former.former.items all c.reserve.new.links
    (roomy c.reserve.new.links.size state.links.size c.len-size.result state.places.size c.in_ok-reserve.ensures.size c.len-size.ensures.size)
    (first-spare (sources_count c.in_ok-dues.dues.items) (sources_count c.in_ok-former.former.items) c.reserve.new.links.spare
    (subst (λ dues. sources_count dues + sources_count c.in_ok-former.former.items ≤ c.reserve.new.links.spare) c.as_slice-3.ensures.value
    (subst (λ former. sources_count c.as_slice-3.result.now + sources_count former ≤ c.reserve.new.links.spare)
    c.as_slice-4.ensures.value c.in_ok-reserve.ensures.spare))))

pub reckon_reached-changed-requires-after_bounds : goal.reckon_reached-changed-requires-after_bounds
reckon_reached-changed-requires-after_bounds g c κs within =
    let book = c.args.footing.book.now in
    let state = c.args.state.now in
    let all = gathered c.args.footing.factors.now book c.args.taken c.args.gone state c.requires c.sheet.ensures.valid c.sheet.result.now
    c.sheet.ensures.sheet c.in_ok-numbers.numbers.items c.as_slice.result.now c.as_slice-2.result.now c.as_slice.ensures.value
    c.as_slice-2.ensures.value c.in_ok-numbers.ensures.gone c.in_ok-numbers.ensures.starts c.in_ok-numbers.ensures.once c.in_ok-dues.dues.items
    c.in_ok-former.former.items c.in_ok-dues.ensures.dues c.in_ok-dues.ensures.empty c.in_ok-former.ensures in
    let anew : AreRelinked c.in_ok-dues.dues.items state.links.edges c.relink.new.links.edges =
    subst (λ dues. AreRelinked dues state.links.edges c.relink.new.links.edges) c.as_slice-5.ensures.value
    (subst (λ es. AreRelinked c.as_slice-5.result.now es c.relink.new.links.edges) c.reserve.ensures.edges c.relink.ensures.links) in
    let graph : IsGraphOf book state.places state.lists c.relink.new.links.edges =
    linked-anew c.args.footing.factors.now book c.args.taken c.args.gone state c.requires c.sheet.ensures.valid c.in_ok-numbers.numbers.items
    c.in_ok-dues.dues.items c.in_ok-former.former.items all c.relink.new.links.edges anew in
    relinked-for c.args.footing.factors.now book c.args.taken c.args.gone state c.requires c.sheet.ensures.valid c.make_room.new.figures
    c.make_room.new.marks c.relink.new.links c.in_ok-rates.rates c.make_room.ensures.kept
    (subst (λ n. n ≤ length c.make_room.new.figures) c.len-size.ensures.size c.in_ok-make_room.ensures.figures)
    (c.make_room.ensures.list ∙ c.requires.marks)
    (subst (λ n. n ≤ c.make_room.new.marks.size) c.len-size.ensures.size c.in_ok-make_room.ensures.marks) graph c.in_ok-rates.ensures

pub relink-requires-in-Err : goal.relink-requires-in-Err
relink-requires-in-Err g c =
    let book = c.args.footing.book.now in
    let state = c.args.state.now in
    let all = gathered c.args.footing.factors.now book c.args.taken c.args.gone state c.requires c.sheet.ensures.valid c.sheet.result.now
    c.sheet.ensures.sheet c.in_ok-numbers.numbers.items c.as_slice.result.now c.as_slice-2.result.now c.as_slice.ensures.value
    c.as_slice-2.ensures.value c.in_ok-numbers.ensures.gone c.in_ok-numbers.ensures.starts c.in_ok-numbers.ensures.once c.in_ok-dues.dues.items
    c.in_ok-former.former.items c.in_ok-dues.ensures.dues c.in_ok-dues.ensures.empty c.in_ok-former.ensures in
    subst (AreLinkable c.reckon_reached-changed.new.state.links) (sym c.as_slice-in-Err.ensures.value)
    (subst (λ links. AreLinkable links c.in_ok-former.former.items) (sym c.reckon_reached-changed.ensures.links)
    (can-link-back c.args.footing.factors.now book c.args.taken c.args.gone state c.requires c.sheet.ensures.valid c.in_ok-numbers.numbers.items
    c.in_ok-dues.dues.items c.in_ok-former.former.items all c.relink.new.links
    (subst (λ size. state.places.size ≤ size) (sym c.relink.ensures.size)
    (roomy c.reserve.new.links.size state.links.size c.len-size.result state.places.size c.in_ok-reserve.ensures.size c.len-size.ensures.size))
    (left-spare c.reserve.new.links.spare c.relink.new.links.spare (sources_count c.in_ok-dues.dues.items) (sources_count c.in_ok-former.former.items)
    (subst (λ dues. c.reserve.new.links.spare ≤ c.relink.new.links.spare + sources_count dues) c.as_slice-5.ensures.value c.relink.ensures.spare)
    (subst (λ dues. sources_count dues + sources_count c.in_ok-former.former.items ≤ c.reserve.new.links.spare) c.as_slice-3.ensures.value
    (subst (λ former. sources_count c.as_slice-3.result.now + sources_count former ≤ c.reserve.new.links.spare)
    c.as_slice-4.ensures.value c.in_ok-reserve.ensures.spare)))))

pub returns-clause-err : goal.returns-clause-err
returns-clause-err g c =
    let book = c.args.footing.book.now in
    let state = c.args.state.now in
    let all = gathered c.args.footing.factors.now book c.args.taken c.args.gone state c.requires c.sheet.ensures.valid c.sheet.result.now
    c.sheet.ensures.sheet c.in_ok-numbers.numbers.items c.as_slice.result.now c.as_slice-2.result.now c.as_slice.ensures.value
    c.as_slice-2.ensures.value c.in_ok-numbers.ensures.gone c.in_ok-numbers.ensures.starts c.in_ok-numbers.ensures.once c.in_ok-dues.dues.items
    c.in_ok-former.former.items c.in_ok-dues.ensures.dues c.in_ok-dues.ensures.empty c.in_ok-former.ensures in
    let anew : AreRelinked c.in_ok-dues.dues.items state.links.edges c.relink.new.links.edges =
    subst (λ dues. AreRelinked dues state.links.edges c.relink.new.links.edges) c.as_slice-5.ensures.value
    (subst (λ es. AreRelinked c.as_slice-5.result.now es c.relink.new.links.edges) c.reserve.ensures.edges c.relink.ensures.links) in
    unchanged-back state c.reckon_reached-changed.new.state c.clear.new.self c.relink-in-Err.new.links c.reckon_reached-changed.ensures.rates
    c.reckon_reached-changed.ensures.places c.reckon_reached-changed.ensures.lists
    (kept-twice state.figures c.make_room.new.figures c.reckon_reached-changed.new.state.figures c.make_room.ensures.kept
    (λ n l. ap (λ xs. slice_get xs n) c.in-Err.ensures.figures))
    (linked-again c.args.footing.factors.now book c.args.taken c.args.gone state c.requires c.sheet.ensures.valid c.in_ok-numbers.numbers.items
    c.in_ok-dues.dues.items c.in_ok-former.former.items all c.relink.new.links.edges c.relink-in-Err.new.links.edges anew
    (subst (λ (links : Linked). AreRelinked c.in_ok-former.former.items links.edges c.relink-in-Err.new.links.edges) c.reckon_reached-changed.ensures.links
    (subst (λ dues. AreRelinked dues c.reckon_reached-changed.new.state.links.edges c.relink-in-Err.new.links.edges) c.as_slice-in-Err.ensures.value
    c.relink-in-Err.ensures.links)))
    (λ small. subst (λ size. size ≤ state.places.size) (sym c.relink-in-Err.ensures.size)
    (subst (λ (links : Linked). links.size ≤ state.places.size) (sym c.reckon_reached-changed.ensures.links)
    (subst (λ size. size ≤ state.places.size) (sym c.relink.ensures.size)
    (capped c.reserve.new.links.size state.links.size c.len-size.result state.places.size c.in_ok-reserve.ensures.size c.len-size.ensures.size small))))

pub returns-in-Ok-clause-ok : goal.returns-in-Ok-clause-ok
returns-in-Ok-clause-ok g c =
    let book = c.args.footing.book.now in
    let state = c.args.state.now in
    let all = gathered c.args.footing.factors.now book c.args.taken c.args.gone state c.requires c.sheet.ensures.valid c.sheet.result.now
    c.sheet.ensures.sheet c.in_ok-numbers.numbers.items c.as_slice.result.now c.as_slice-2.result.now c.as_slice.ensures.value
    c.as_slice-2.ensures.value c.in_ok-numbers.ensures.gone c.in_ok-numbers.ensures.starts c.in_ok-numbers.ensures.once c.in_ok-dues.dues.items
    c.in_ok-former.former.items c.in_ok-dues.ensures.dues c.in_ok-dues.ensures.empty c.in_ok-former.ensures in
    let anew : AreRelinked c.in_ok-dues.dues.items state.links.edges c.relink.new.links.edges =
    subst (λ dues. AreRelinked dues state.links.edges c.relink.new.links.edges) c.as_slice-5.ensures.value
    (subst (λ es. AreRelinked c.as_slice-5.result.now es c.relink.new.links.edges) c.reserve.ensures.edges c.relink.ensures.links) in
    let graph : IsGraphOf book state.places state.lists c.relink.new.links.edges =
    linked-anew c.args.footing.factors.now book c.args.taken c.args.gone state c.requires c.sheet.ensures.valid c.in_ok-numbers.numbers.items
    c.in_ok-dues.dues.items c.in_ok-former.former.items all c.relink.new.links.edges anew in
    let graph_now : IsGraphOf book state.places state.lists c.reckon_reached-changed.new.state.links.edges =
    subst (λ (links : Linked). IsGraphOf book state.places state.lists links.edges) (sym c.reckon_reached-changed.ensures.links) graph in
    let known = rates-after c.args.footing.factors.now book c.args.taken c.args.gone state c.requires c.sheet.ensures.valid c.in_ok-rates.rates c.in_ok-rates.ensures in
    elim c.match-rates-3.branch [
      | in-Some w ↦
          subst (IsStateOf c.args.footing.factors.now book) (sym w.state-is)
          (state-anew c.args.footing.factors.now book state.places state.lists w.in-Some.rates c.reckon_reached-changed.new.state graph_now
          (subst (λ found. option_map_or known_of found (known_of state.rates) ≡ all_rates book.sheet) w.in-Some.is known)
          c.in-Ok.ensures.settled
          (subst (λ (links : Linked). links.size ≤ state.places.size) (sym c.reckon_reached-changed.ensures.links)
          (subst (λ size. size ≤ state.places.size) (sym c.relink.ensures.size)
          (capped c.reserve.new.links.size state.links.size c.len-size.result state.places.size c.in_ok-reserve.ensures.size c.len-size.ensures.size
          (let low = c.requires.size in let grown = c.requires.grown in omega (arith, low, grown)))))
          c.reckon_reached-changed.ensures.places c.reckon_reached-changed.ensures.lists c.in-Ok.ensures.ceiling c.clear.new.self)
      | in_default w ↦
          subst (IsStateOf c.args.footing.factors.now book) (sym w.state-is)
          (state-anew c.args.footing.factors.now book state.places state.lists c.reckon_reached-changed.new.state.rates c.reckon_reached-changed.new.state graph_now
          (ap known_of c.reckon_reached-changed.ensures.rates ∙ subst (λ found. option_map_or known_of found (known_of state.rates) ≡ all_rates book.sheet) w.in_default.is known)
          c.in-Ok.ensures.settled
          (subst (λ (links : Linked). links.size ≤ state.places.size) (sym c.reckon_reached-changed.ensures.links)
          (subst (λ size. size ≤ state.places.size) (sym c.relink.ensures.size)
          (capped c.reserve.new.links.size state.links.size c.len-size.result state.places.size c.in_ok-reserve.ensures.size c.len-size.ensures.size
          (let low = c.requires.size in let grown = c.requires.grown in omega (arith, low, grown)))))
          c.reckon_reached-changed.ensures.places c.reckon_reached-changed.ensures.lists c.in-Ok.ensures.ceiling c.clear.new.self)
    ]
