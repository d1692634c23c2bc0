use Rattle.std.proofs.Common.{[], ◌∷◌, refl, ◌∙◌}
use Rattle.scr_discounts.specs.Kept.{all_discounts}
use Rattle.scr_nodes.specs.Sources.{group_loss}
use Rattle.scr_tree.proofs.ByRow.{by-rule-worked}
use Rattle.scr_tree.proofs.FirstRows.{got-row, group-live}
use Rattle.scr_tree.proofs.RowParts.{group-row, push-on}
use Rattle.scr_parallel.specs.declared.rows.Sort.TheVariants as sorts
use Rattle.scr_tree.proofs.Writing.{row-few}
use Rattle.scr_tree.proofs.row_spans.RowGround.push_group.Goals as goal

pub first-first-requires : goal.first-first-requires
first-first-requires g c = row-few c.args.self.now.ground c.requires.ground.ground sorts.Group c.args.k c.requires.row

pub returns : goal.returns
returns g c =
    let ground = c.args.self.now.ground in
    let factors = ground.inputs.factors.now in
    let sheet = ground.inputs.book.now.sheet in
    let is = c.requires.ground.ground in
    let group = got-row sheet.groups c.args.k c.requires.row in
    record {
      own = c.group_total-total.result ∷ c.square-square.result ∷ c.group_loss-loss.result ∷ [];
      now_is = push-on c.args.spans.now.items c.push-2.new.self.items c.push-3.new.self.items (c.group_total-total.result ∷ c.square-square.result ∷ [])
          c.group_loss-loss.result
          (push-on c.args.spans.now.items c.push.new.self.items c.push-2.new.self.items (c.group_total-total.result ∷ []) c.square-square.result
          c.in_ok-push.ensures.items c.in_ok-push-2.ensures.items) c.in_ok-push-3.ensures.items;
      right = group-row factors sheet is.valid ground.places.now is.numbered c.args.k group.0 group.1 c.group_total-total.result
          c.square-square.result c.group_loss-loss.result (c.group_total-total.ensures group.0 group.1) (c.square-square.ensures group.0 group.1)
          (c.group_loss-loss.ensures factors group.0 group.1
          ∙ by-rule-worked factors sheet is.valid is.form (group_loss group.0) (group-live sheet is.valid c.args.k group.0 group.1)
          (all_discounts sheet) refl [] refl);
    }
