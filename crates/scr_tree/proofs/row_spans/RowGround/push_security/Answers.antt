use Rattle.std.proofs.Common.{◌≡◌, [], ◌∷◌, Some, length, pos, slice_get, sym, ap, subst, ◌∙◌, arith}
use Rattle.std.proofs.lemmas.List.{length-map}
use Rattle.scr_num.specs.Rounding.{exact_ends}
use Rattle.scr_sheet.specs.BalanceSheet.{position_name}
use Rattle.scr_sheet.specs.Totals.{total_of}
use Rattle.scr_sheet.specs.declared.sheet.BalanceSheet.{BalanceSheet}
use Rattle.scr_tree.proofs.FirstRows.{security-own}
use Rattle.scr_tree.proofs.GroupSums.{total-at, total-right}
use Rattle.scr_tree.proofs.RowParts.{push-on, security-row}
use Rattle.scr_parallel.specs.declared.rows.Sort.TheVariants as sorts
use Rattle.scr_tree.proofs.Writing.{row-few}
use Rattle.scr_tree.proofs.row_spans.RowGround.push_security.Goals as goal

pub first-first-requires : goal.first-first-requires
first-first-requires g c = row-few c.args.self.now.ground c.requires.ground.ground sorts.Security c.args.k c.requires.row

pub bounds-self-k : goal.bounds-self-k
bounds-self-k g c =
    let sheet = c.args.self.now.ground.inputs.book.now.sheet in
    let long = ap (λ xs. length xs) c.requires.ground.totals in
    let all = length-map sheet.securities (λ p. total_of sheet (position_name p)) in
    let row = c.requires.row in
    omega (arith, long, all, row)

pub losses_of-losses-requires-clause-row : goal.losses_of-losses-requires-clause-row
losses_of-losses-requires-clause-row g c =
    let ground = c.args.self.now.ground in
    let at = subst (λ (s : BalanceSheet). slice_get s.securities c.args.k ≡ Some c.at-position.result.now) c.sheet.ensures.sheet c.at-position.ensures in
    security-own ground.inputs.book.now.sheet c.requires.ground.ground.valid ground.places.now c.requires.ground.ground.numbered c.args.k
    c.at-position.result.now at

pub losses_of-losses-requires-clause-total : goal.losses_of-losses-requires-clause-total
losses_of-losses-requires-clause-total g c =
    let ground = c.args.self.now.ground in
    let factors = ground.inputs.factors.now in
    let sheet = ground.inputs.book.now.sheet in
    let valid = c.requires.ground.ground.valid in
    let at = subst (λ (s : BalanceSheet). slice_get s.securities c.args.k ≡ Some c.at-position.result.now) c.sheet.ensures.sheet c.at-position.ensures in
    c.amount-total.ensures
    ∙ ap (λ n. exact_ends (pos n)) (total-at factors sheet valid c.args.k c.at-position.result.now at c.args.self.now.totals.now c.requires.ground.totals)
    ∙ sym (total-right factors sheet valid c.args.k c.at-position.result.now at)

pub spread_of-spread-requires-clause-row : goal.spread_of-spread-requires-clause-row
spread_of-spread-requires-clause-row g c =
    let ground = c.args.self.now.ground in
    let at = subst (λ (s : BalanceSheet). slice_get s.securities c.args.k ≡ Some c.at-position.result.now) c.sheet.ensures.sheet c.at-position.ensures in
    security-own ground.inputs.book.now.sheet c.requires.ground.ground.valid ground.places.now c.requires.ground.ground.numbered c.args.k
    c.at-position.result.now at

pub spread_of-spread-requires-clause-total : goal.spread_of-spread-requires-clause-total
spread_of-spread-requires-clause-total g c =
    let ground = c.args.self.now.ground in
    let factors = ground.inputs.factors.now in
    let sheet = ground.inputs.book.now.sheet in
    let valid = c.requires.ground.ground.valid in
    let at = subst (λ (s : BalanceSheet). slice_get s.securities c.args.k ≡ Some c.at-position.result.now) c.sheet.ensures.sheet c.at-position.ensures in
    c.amount-total.ensures
    ∙ ap (λ n. exact_ends (pos n)) (total-at factors sheet valid c.args.k c.at-position.result.now at c.args.self.now.totals.now c.requires.ground.totals)
    ∙ sym (total-right factors sheet valid c.args.k c.at-position.result.now at)

pub returns : goal.returns
returns g c =
    let ground = c.args.self.now.ground in
    let factors = ground.inputs.factors.now in
    let sheet = ground.inputs.book.now.sheet in
    let is = c.requires.ground.ground in
    let at = subst (λ (s : BalanceSheet). slice_get s.securities c.args.k ≡ Some c.at-position.result.now) c.sheet.ensures.sheet c.at-position.ensures in
    let p = c.at-position.result.now in
    let before = c.args.spans.now.items in
    let total = c.amount-total.result in
    let losses = c.losses_of-losses.result in
    let spread = c.spread_of-spread.result in
    let two = push-on before c.push.new.self.items c.push-2.new.self.items (total ∷ []) losses.unit_up c.in_ok-push.ensures.items
    c.in_ok-push-2.ensures.items in
    let three = push-on before c.push-2.new.self.items c.push-3.new.self.items (total ∷ losses.unit_up ∷ []) losses.unit_down two
    c.in_ok-push-3.ensures.items in
    let four = push-on before c.push-3.new.self.items c.push-4.new.self.items (total ∷ losses.unit_up ∷ losses.unit_down ∷ []) losses.rate_up three
    c.in_ok-push-4.ensures.items in
    let five = push-on before c.push-4.new.self.items c.push-5.new.self.items
    (total ∷ losses.unit_up ∷ losses.unit_down ∷ losses.rate_up ∷ []) losses.rate_down four c.in_ok-push-5.ensures.items in
    record {
      own = total ∷ losses.unit_up ∷ losses.unit_down ∷ losses.rate_up ∷ losses.rate_down ∷ spread ∷ [];
      now_is = push-on before c.push-5.new.self.items c.push-6.new.self.items
          (total ∷ losses.unit_up ∷ losses.unit_down ∷ losses.rate_up ∷ losses.rate_down ∷ []) spread five c.in_ok-push-6.ensures.items;
      right = security-row factors sheet is.valid ground.places.now is.numbered c.args.k p at total spread losses
          (c.amount-total.ensures
          ∙ ap (λ n. exact_ends (pos n)) (total-at factors sheet is.valid c.args.k p at c.args.self.now.totals.now c.requires.ground.totals)
          ∙ sym (total-right factors sheet is.valid c.args.k p at)) c.losses_of-losses.ensures c.spread_of-spread.ensures;
    }
