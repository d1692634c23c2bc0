use Rattle.std.proofs.Common.{◌≡◌, ◌+◌, ◌++◌, ◌∷◌, [], Result, Ok, Err, OnErr, ap, arith, length, ◌∙◌}
use Rattle.scr_jagged.specs.declared.rows.Part.{Part}
use Rattle.scr_jagged.specs.Parts.{rows_of}
use Rattle.scr_jagged.proofs.Parted.{rows_more, rows_pushed}
use Rattle.scr_jagged.proofs.rows.Rows.push.Goals as goal

pub returns-clause-ok : goal.returns-clause-ok
returns-clause-ok g c =
    let part : Part = record { from = c.in_ok-from.from; to = c.in_ok-to.to } in
    let items = c.self.inside.items.items in
    let row = c.args.row.now in
    let ok = c.self.inside.items.ok in
    let a = c.in_ok-from.ensures in
    let b = c.len.ensures in
    let d = c.in_ok-count_of.ensures in
    let f = c.in_ok-to.ensures in
    let from : part.from ≡ length items = omega (arith, ok, a, b) in
    let to : part.to ≡ length items + length row = omega (arith, ok, a, b, d, f) in
    ap (λ parts. rows_of parts c.extend_from_slice.new.self.items) c.in_ok-push.ensures.items
    ∙ ap (rows_of (c.self.inside.parts.items ++ part ∷ [])) c.in_ok-extend_from_slice.ensures.items
    ∙ rows_pushed items row c.self.inside.parts.items part c.self.invariant from to
    ∙ ap (λ rows. rows ++ row ∷ []) c.self.view_is

on_err : {A E P : Type 0} (r : Result A E) → P → OnErr r P
on_err (Ok a) p = tt
on_err (Err e) p = p

pub returns-in_err-push-clause-err : goal.returns-in_err-push-clause-err
returns-in_err-push-clause-err g c =
    let items = c.self.inside.items.items in
    on_err c.from_residual-in_err-push.result
    (ap (λ parts. rows_of parts c.extend_from_slice.new.self.items) c.in_err-push.ensures.items
    ∙ ap (rows_of c.self.inside.parts.items) c.in_ok-extend_from_slice.ensures.items
    ∙ rows_more items c.args.row.now c.self.inside.parts.items c.self.invariant
    ∙ c.self.view_is)
