use Rattle.std.proofs.Common.{◌≡◌, List, Result, Ok, Err, IfOk, sym, subst}
use Rattle.scr_parallel.specs.Rows.{AreAllRows}
use Rattle.scr_parallel.specs.declared.rows.Part.{Part}
use Rattle.scr_tree.specs.First.{AreLinkedTo, AreRowsDone, IsLinkGround}
use Rattle.scr_tree.specs.RowSpans.{IsRowOf, row_count}
use Rattle.scr_tree.specs.Turns.{turn}
use Rattle.scr_tree.specs.Written.{rows_among}
use Rattle.scr_tree.specs.declared.making.Ground.{Ground}
use Rattle.scr_tree.proofs.Grounds.{for-links}
use Rattle.scr_tree.proofs.Writing.{all-among, rows-done}
use Rattle.scr_tree.proofs.first.put_by_pieces.Goals as goal

abbrev AreRowsOf : Ground → List Part → Type 0
AreRowsOf ground parts =
    AreAllRows (row_count ground.inputs.book.now.sheet) (IsRowOf ground.inputs.factors.now ground.inputs.book.now.sheet) parts

-- the same rows in another place
all-rows : (a b : Ground) → a ≡ b → (parts slice : List Part) → slice ≡ parts → AreRowsOf a parts → AreRowsOf b slice
all-rows a b same parts slice is rows = subst (λ (g : Ground). AreRowsOf g slice) same (subst (AreRowsOf a) (sym is) rows)

if-ok : {A E : Type 0} (P : Type 0) (r : Result A E) → P → IfOk r (λ a. P)
if-ok P (Ok a) is = is
if-ok P (Err e) is = tt

pub row_ground-rows-requires-clause-done : goal.row_ground-rows-requires-clause-done
row_ground-rows-requires-clause-done g c = c.requires.done.reckoned

pub write_parts-requires-clause-count : goal.write_parts-requires-clause-count
write_parts-requires-clause-count g c = c.requires.done.reckoned.count

pub join-parts-requires-after_bounds : goal.join-parts-requires-after_bounds
join-parts-requires-after_bounds g c κs within = (
  (c.row_ground-rows.ensures.rows, (search, search)),
  subst IsLinkGround (sym c.for_links-linked.ensures) (for-links c.args.ground c.requires.ground),
)

pub write_parts-requires-clause-rows : goal.write_parts-requires-clause-rows
write_parts-requires-clause-rows g c =
    all-rows c.row_ground-rows.result.ground c.args.ground c.row_ground-rows.ensures.ground c.in_ok-parts.parts.items c.as_slice.result.now
    c.as_slice.ensures.value (subst (λ r. IfOk r (λ parts. AreRowsOf c.row_ground-rows.result.ground parts.items)) c.in_ok-parts.was
    c.join-parts.ensures.first)

pub returns : goal.returns
returns g c =
    let ground = c.args.ground in
    let sheet = ground.inputs.book.now.sheet in
    let parts = c.as_slice.result.now in
    let all = all-rows c.row_ground-rows.result.ground ground c.row_ground-rows.ensures.ground c.in_ok-parts.parts.items parts
    c.as_slice.ensures.value (subst (λ r. IfOk r (λ parts. AreRowsOf c.row_ground-rows.result.ground parts.items)) c.in_ok-parts.was
    c.join-parts.ensures.first) in
    record {
      rows = if-ok (AreRowsDone ground c.write_parts.new.figures) c.join-parts.result.1
          (rows-done ground c.requires.ground (rows_among parts)
          (all-among (row_count sheet) (IsRowOf ground.inputs.factors.now sheet) parts all) c.args.figures.now c.write_parts.new.figures
          c.requires.done c.write_parts.ensures);
      links = subst (λ l. IfOk c.join-parts.result.1 (λ links. AreLinkedTo l links (turn 7 0 153))) c.for_links-linked.ensures
          c.join-parts.ensures.second;
    }
