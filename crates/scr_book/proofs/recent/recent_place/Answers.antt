use Rattle.std.proofs.Common.{◌≡◌, ◌-◌, List, ℕ, Some, is_some, slice_get, sym, ap, ◌∙◌}
use Rattle.std.specs.Option.{option_map}
use Rattle.scr_tables.proofs.TableRows.{same_name-is}
use Rattle.scr_book.proofs.RollPrepared.{found-place}
use Rattle.scr_book.proofs.recent.recent_place.Goals as goal

pub returns-then-eq-clause-there : goal.returns-then-eq-clause-there
returns-then-eq-clause-there g c =
    let same : c.name.result ≡ c.args.name.now = same_name-is c.name.result c.args.name.now (sym c.eq.ensures ∙ c.if-eq.true) in
    let named : option_map g.R.Row.name_of (slice_get c.args.rows.now (c.len-count.result - 1)) ≡ Some c.args.name.now =
    ap (option_map g.R.Row.name_of) c.at.ensures ∙ ap (λ (x : List ℕ). Some x) (sym c.name.ensures ∙ same) in
    let f = found-place g.R.Row.name_of c.args.rows.now (c.len-count.result - 1) c.args.name.now c.len-count.ensures.apart named in
    sym (ap is_some f.4)
