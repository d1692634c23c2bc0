-- One member more, where there is room.
use Rattle.std.proofs.Common.{◌≡◌, ◌<◌, ◌≤◌, ◌∙◌, true, sym, ap, length, rules}
use Rattle.std.specs.Prelude.{is_ok}
use Rattle.scr_csv.proofs.ListSteps.{with_room, without_room}
use Rattle.scr_csv.proofs.fields.keep.Goals as goal

pub returns-in_ok-map_err : goal.returns-in_ok-map_err
returns-in_ok-map_err g c =
    let ok : is_ok c.push.result ≡ true = sym c.map_err.ensures.variant ∙ ap is_ok c.in_ok-map_err.was in
    let room : length c.args.list.now.items < c.args.most = search rules in
    rw (c.push.ensures.items, ok) (with_room c.args.most c.args.list.now.items c.args.member room)

pub returns-else-len-most : goal.returns-else-len-most
returns-else-len-most g c =
    let full : c.args.most ≤ length c.args.list.now.items = search rules in
    without_room c.args.most c.args.list.now.items c.args.member c.requires full
