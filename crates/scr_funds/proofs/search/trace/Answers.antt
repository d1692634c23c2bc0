use Rattle.std.proofs.Common.{◌≡◌, [], ◌∷◌, ◌++◌, reverse, sym, ap, ◌∙◌, arith}
use Rattle.std.proofs.lemmas.List.{append_assoc, append-nil, reverse-append}
use Rattle.std.specs.Map.Iter.{deref_pair}
use Rattle.std.specs.Option.{option_map}
use Rattle.scr_funds.proofs.Traces.{noted_at, one_back, at_first}
use Rattle.scr_funds.proofs.search.trace.Goals as goal

pub unwrap-requires : goal.unwrap-requires
unwrap-requires c =
    let left = c.loop-place.invariant c.requires.0 c.requires.1 in
    c.get_index.ensures.found.1
    (noted_at c.args.reached.now.entries c.args.from c.loop-place.place left.0 left.1 c.loop-place-test.true)

pub loop-place-smaller : goal.loop-place-smaller
loop-place-smaller c =
    let left = c.loop-place.invariant c.requires.0 c.requires.1 in
    let entry = sym c.get_index.ensures.entry ∙ ap (option_map deref_pair) c.unwrap.ensures in
    (one_back c.args.reached.now.entries c.args.from c.loop-place.place left.0 left.1 c.loop-place-test.true
    c.unwrap.result.0.now c.unwrap.result.1.now entry).0

pub loop-place-preserved : goal.loop-place-preserved
loop-place-preserved c = λ trail traced.
    let left = c.loop-place.invariant trail traced in
    let entry = sym c.get_index.ensures.entry ∙ ap (option_map deref_pair) c.unwrap.ensures in
    let back =
    (one_back c.args.reached.now.entries c.args.from c.loop-place.place left.0 left.1 c.loop-place-test.true
    c.unwrap.result.0.now c.unwrap.result.1.now entry).1 in (
      back.0,
      back.1,
      ap (λ p. p ++ back.0) c.in_ok-push-2.ensures.items
          ∙ append_assoc c.loop-place.path.items (c.unwrap.result.0.now ∷ []) back.0
          ∙ ap (λ l. c.loop-place.path.items ++ l) (sym back.2) ∙ left.2,
    )

pub returns : goal.returns
returns c = λ trail traced.
    let left = c.loop-place.invariant trail traced in
    let none : left.0 ≡ [] = at_first c.args.reached.now.entries c.args.from c.loop-place.place left.0 left.1
    (omega arith) in
    let noted : c.loop-place.path.items ≡ c.args.to ∷ trail = sym (append-nil c.loop-place.path.items)
    ∙ ap (λ l. c.loop-place.path.items ++ l) (sym none) ∙ left.2 in
    c.reverse.ensures.items ∙ ap reverse (c.in_ok-push-3.ensures.items ∙ ap (λ l. l ++ c.args.from ∷ []) noted)
    ∙ reverse-append (c.args.to ∷ trail) (c.args.from ∷ [])
    ∙ ap (λ l. c.args.from ∷ l) (reverse-append (c.args.to ∷ []) trail)
