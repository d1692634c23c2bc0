use Rattle.std.proofs.Common.{[], ◌∷◌}
use Rattle.scr_tree.proofs.FirstRows.{got-row}
use Rattle.scr_tree.proofs.RowParts.{liability-row, push-on}
use Rattle.scr_tree.proofs.row_spans.push_liability.Goals as goal

pub returns : goal.returns
returns g c =
    let ground = c.args.ground in
    let factors = ground.inputs.factors.now in
    let sheet = ground.inputs.book.now.sheet in
    let is = c.requires.ground in
    let row = got-row sheet.liabilities c.args.k c.requires.row in
    let estimate = c.estimate_of-estimate.result in
    let before = c.args.spans.now.items in
    let at_2 = push-on before c.push.new.self.items c.push-2.new.self.items (estimate.rate_up ∷ []) estimate.rate_down c.in_ok-push.ensures.items c.in_ok-push-2.ensures.items in
    let at_3 = push-on before c.push-2.new.self.items c.push-3.new.self.items (estimate.rate_up ∷ estimate.rate_down ∷ []) estimate.present at_2 c.in_ok-push-3.ensures.items in
    let at_4 = push-on before c.push-3.new.self.items c.push-4.new.self.items (estimate.rate_up ∷ estimate.rate_down ∷ estimate.present ∷ []) c.stress_of.result at_3 c.in_ok-push-4.ensures.items in
    let at_5 = push-on before c.push-4.new.self.items c.push-5.new.self.items (estimate.rate_up ∷ estimate.rate_down ∷ estimate.present ∷ c.stress_of.result ∷ []) c.stress_of-2.result at_4 c.in_ok-push-5.ensures.items in
    let at_6 = push-on before c.push-5.new.self.items c.push-6.new.self.items (estimate.rate_up ∷ estimate.rate_down ∷ estimate.present ∷ c.stress_of.result ∷ c.stress_of-2.result ∷ []) c.stress_of-3.result at_5 c.in_ok-push-6.ensures.items in
    let at_7 = push-on before c.push-6.new.self.items c.push-7.new.self.items (estimate.rate_up ∷ estimate.rate_down ∷ estimate.present ∷ c.stress_of.result ∷ c.stress_of-2.result ∷ c.stress_of-3.result ∷ []) c.stress_of-4.result at_6 c.in_ok-push-7.ensures.items in
    let at_8 = push-on before c.push-7.new.self.items c.push-8.new.self.items (estimate.rate_up ∷ estimate.rate_down ∷ estimate.present ∷ c.stress_of.result ∷ c.stress_of-2.result ∷ c.stress_of-3.result ∷ c.stress_of-4.result ∷ []) c.stress_of-5.result at_7 c.in_ok-push-8.ensures.items in
    let at_9 = push-on before c.push-8.new.self.items c.push-9.new.self.items (estimate.rate_up ∷ estimate.rate_down ∷ estimate.present ∷ c.stress_of.result ∷ c.stress_of-2.result ∷ c.stress_of-3.result ∷ c.stress_of-4.result ∷ c.stress_of-5.result ∷ []) c.stress_of-6.result at_8 c.in_ok-push-9.ensures.items in
    let at_10 = push-on before c.push-9.new.self.items c.push-10.new.self.items (estimate.rate_up ∷ estimate.rate_down ∷ estimate.present ∷ c.stress_of.result ∷ c.stress_of-2.result ∷ c.stress_of-3.result ∷ c.stress_of-4.result ∷ c.stress_of-5.result ∷ c.stress_of-6.result ∷ []) c.stress_of-7.result at_9 c.in_ok-push-10.ensures.items in
    let at_11 = push-on before c.push-10.new.self.items c.push-11.new.self.items (estimate.rate_up ∷ estimate.rate_down ∷ estimate.present ∷ c.stress_of.result ∷ c.stress_of-2.result ∷ c.stress_of-3.result ∷ c.stress_of-4.result ∷ c.stress_of-5.result ∷ c.stress_of-6.result ∷ c.stress_of-7.result ∷ []) c.stress_of-8.result at_10 c.in_ok-push-11.ensures.items in
    let at_12 = push-on before c.push-11.new.self.items c.push-12.new.self.items (estimate.rate_up ∷ estimate.rate_down ∷ estimate.present ∷ c.stress_of.result ∷ c.stress_of-2.result ∷ c.stress_of-3.result ∷ c.stress_of-4.result ∷ c.stress_of-5.result ∷ c.stress_of-6.result ∷ c.stress_of-7.result ∷ c.stress_of-8.result ∷ []) c.stress_of-9.result at_11 c.in_ok-push-12.ensures.items in
    record {
      own = estimate.rate_up ∷ estimate.rate_down ∷ estimate.present ∷ c.stress_of.result ∷ c.stress_of-2.result ∷ c.stress_of-3.result
          ∷ c.stress_of-4.result ∷ c.stress_of-5.result ∷ c.stress_of-6.result ∷ c.stress_of-7.result ∷ c.stress_of-8.result ∷ c.stress_of-9.result ∷ [];
      now_is = at_12;
      right = liability-row factors sheet is.valid ground.places.now is.numbered c.args.k row.0 row.1 estimate c.stress_of.result c.stress_of-2.result
          c.stress_of-3.result c.stress_of-4.result c.stress_of-5.result c.stress_of-6.result c.stress_of-7.result c.stress_of-8.result c.stress_of-9.result
          (c.estimate_of-estimate.ensures.figures row.0 row.1) (c.stress_of.ensures row.0 row.1) (c.stress_of-2.ensures row.0 row.1)
          (c.stress_of-3.ensures row.0 row.1) (c.stress_of-4.ensures row.0 row.1) (c.stress_of-5.ensures row.0 row.1) (c.stress_of-6.ensures row.0 row.1)
          (c.stress_of-7.ensures row.0 row.1) (c.stress_of-8.ensures row.0 row.1) (c.stress_of-9.ensures row.0 row.1);
    }
