use Rattle.std.proofs.Common.{subst, arith}
use Rattle.scr_sum_slots.specs.Parts.{AreOwn}
use Rattle.scr_tree.proofs.Numbering.{are-numbers}
use Rattle.scr_tree.proofs.PointNumbers.{points-numbered}
use Rattle.scr_tree.proofs.first.reckon_all.Goals as goal

pub make_all-requires-clause-ground : goal.make_all-requires-clause-ground
make_all-requires-clause-ground g c κs within =
    let book = c.args.book.now in
    let places = c.in_ok-found.found.numbering.places in
    let lists = c.in_ok-found.found.numbering.lists in
    let numbered = c.in_ok-found.ensures.numbering.rows in
    let figures = are-numbers book.sheet places c.sheet.ensures.valid numbered c.len.ensures.within c.len.ensures.apart in
    record {
      form = c.known.ensures;
      valid = c.sheet.ensures.valid;
      rates = c.in_ok-found.ensures.rates;
      numbered = numbered;
      numbers = figures;
      points = record {
        rolls = c.group_seats.ensures.kept;
        numbered = numbered;
        lists_of = c.in_ok-found.ensures.numbering.lists;
        numbers = points-numbered book places lists c.group_seats.ensures.kept c.len.ensures.apart c.len.ensures.within
            (subst AreOwn c.parts.ensures c.len-2.ensures.own) c.in_ok-found.ensures.numbering.lists figures;
      };
      members = c.in_ok-found.ensures.gathered.members;
      losses = c.in_ok-found.ensures.losses;
    }

pub make_all-requires-clause-totals : goal.make_all-requires-clause-totals
make_all-requires-clause-totals g c κs within = c.in_ok-found.ensures.gathered.totals

pub returns : goal.returns
returns g c =
    let book = c.args.book.now in
    let places = c.in_ok-found.found.numbering.places in
    let lists = c.in_ok-found.found.numbering.lists in
    let numbered = c.in_ok-found.ensures.numbering.rows in
    let figures = are-numbers book.sheet places c.sheet.ensures.valid numbered c.len.ensures.within c.len.ensures.apart in
    let made = c.in_ok-made.ensures in
    let count = made.count in
    let size = made.size in
    record {
      valid = c.sheet.ensures.valid;
      rates = c.in_ok-found.ensures.rates;
      graph = record {
        numbers_of = record {
          rolls = c.group_seats.ensures.kept;
          numbered = numbered;
          lists_of = c.in_ok-found.ensures.numbering.lists;
          numbers = points-numbered book places lists c.group_seats.ensures.kept c.len.ensures.apart c.len.ensures.within
              (subst AreOwn c.parts.ensures c.len-2.ensures.own) c.in_ok-found.ensures.numbering.lists figures;
        };
        linked = made.linked;
      };
      room = omega (arith, count);
      size = omega (arith, size);
      figures = made.settled;
    }
