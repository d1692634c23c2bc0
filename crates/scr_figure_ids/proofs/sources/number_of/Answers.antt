use Rattle.std.proofs.Common.{refl, subst, sym}
use Rattle.scr_figure_ids.specs.Numbers.{StandsAt}
use Rattle.scr_figure_ids.proofs.Live.{live-stands}
use Rattle.scr_figure_ids.proofs.Zipped.{whole-stands}
use Rattle.scr_figure_ids.proofs.sources.number_of.Goals as goal

pub unreachable-requires : goal.unreachable-requires
unreachable-requires c =
    let sheet = c.args.view.sheet.now in
    let places = c.args.view.places.now in
    let standing = live-stands sheet places c.requires.numbered c.args.node.now c.requires.live in
    c.in-None.ensures.absent refl standing.0 standing.1

pub returns-in-Whole : goal.returns-in-Whole
returns-in-Whole c =
    let sheet = c.args.view.sheet.now in
    let places = c.args.view.places.now in
    subst (StandsAt sheet places c.args.node.now) (sym c.family.ensures)
    (whole-stands sheet places c.requires.numbered c.args.node.now c.in-Whole.field-0 c.in-Whole.is c.requires.live)
