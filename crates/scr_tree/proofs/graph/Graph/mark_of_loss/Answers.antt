use Rattle.std.proofs.Common.{◌≡◌, ◌+◌, ◌<◌, true, Some, slice_get, sym, ap, subst, ◌∙◌, arith}
use Rattle.scr_book.specs.Sums.{place_of}
use Rattle.scr_figure_ids.specs.Families.{liability_family}
use Rattle.scr_ids.specs.Ranges.{IsAt}
use Rattle.scr_ids.specs.declared.table.Table.TheVariants as ranged
use Rattle.scr_nodes.specs.Live.{is_live}
use Rattle.scr_nodes.specs.declared.node.Biometric.TheVariants as biometrics
use Rattle.scr_nodes.specs.declared.node.Node.TheVariants as nodes
use Rattle.scr_nodes.specs.declared.node.OfLiability.TheVariants as of_liabilities
use Rattle.scr_sheet.specs.declared.sheet.BalanceSheet.{BalanceSheet}
use Rattle.scr_tree.proofs.Dependants.{live-here}
use Rattle.scr_tree.proofs.MarkedMore.{ok-then}
use Rattle.scr_tree.proofs.OfRows.{line-named, line-stands, losses-marked, losses-none, of-losses, stress-at}
use Rattle.scr_tree.proofs.graph.Graph.mark_of_loss.Goals as goal

pub mark_member-requires-clause-seat : goal.mark_member-requires-clause-seat
mark_member-requires-clause-seat c =
    let numbers = c.args.self.now.numbers in
    let got = subst (λ (s : BalanceSheet). slice_get s.liabilities c.args.row ≡ Some c.at.result.now) c.sheet.ensures.sheet c.at.ensures in
    let few : 2 + c.args.seat < 12 = c.requires.at.family in
    let found = stress-at c.args.seat c.requires.stress (omega (arith, few)) in
    let projection = c.projection_in-projection.result in
    let same : projection ≡ found.projection = c.projection_in-projection.ensures found.projection found.place in
    let at : IsAt numbers.places.now ranged.Liability c.args.row (liability_family (of_liabilities.Loss projection)) c.args.number =
    subst (λ i. IsAt numbers.places.now ranged.Liability c.args.row i c.args.number)
    (sym (ap (λ p. liability_family (of_liabilities.Loss p)) same ∙ found.family)) c.requires.at in
    let live : is_live numbers.book.now.sheet (nodes.Liability c.at.result.now.name (of_liabilities.Loss projection)) ≡ true =
    live-here numbers.book.now numbers.places.now numbers.lists.now c.requires.numbers (nodes.Liability c.at.result.now.name (of_liabilities.Loss projection)) c.args.number
    (line-stands numbers.book.now numbers.places.now numbers.lists.now c.requires.numbers c.requires.valid c.args.row c.at.result.now got (of_liabilities.Loss projection) c.args.number at) c.requires.live in
    sym (ap place_of same ∙ found.place)

pub mark_member-requires-clause-stands : goal.mark_member-requires-clause-stands
mark_member-requires-clause-stands c =
    let numbers = c.args.self.now.numbers in
    let got = subst (λ (s : BalanceSheet). slice_get s.liabilities c.args.row ≡ Some c.at.result.now) c.sheet.ensures.sheet c.at.ensures in
    let few : 2 + c.args.seat < 12 = c.requires.at.family in
    let found = stress-at c.args.seat c.requires.stress (omega (arith, few)) in
    let projection = c.projection_in-projection.result in
    let same : projection ≡ found.projection = c.projection_in-projection.ensures found.projection found.place in
    let at : IsAt numbers.places.now ranged.Liability c.args.row (liability_family (of_liabilities.Loss projection)) c.args.number =
    subst (λ i. IsAt numbers.places.now ranged.Liability c.args.row i c.args.number)
    (sym (ap (λ p. liability_family (of_liabilities.Loss p)) same ∙ found.family)) c.requires.at in
    let live : is_live numbers.book.now.sheet (nodes.Liability c.at.result.now.name (of_liabilities.Loss projection)) ≡ true =
    live-here numbers.book.now numbers.places.now numbers.lists.now c.requires.numbers (nodes.Liability c.at.result.now.name (of_liabilities.Loss projection)) c.args.number
    (line-stands numbers.book.now numbers.places.now numbers.lists.now c.requires.numbers c.requires.valid c.args.row c.at.result.now got (of_liabilities.Loss projection) c.args.number at) c.requires.live in
    (c.at.result.now.name, line-named numbers.book.now numbers.places.now numbers.lists.now c.requires.numbers c.requires.valid c.args.row c.at.result.now got, of-losses numbers.book.now numbers.places.now numbers.lists.now c.requires.numbers c.requires.valid c.args.row c.at.result.now got biometrics.Life c.in-Life.is projection live)

pub mark_member-requires-in-Health-clause-seat : goal.mark_member-requires-in-Health-clause-seat
mark_member-requires-in-Health-clause-seat c =
    let numbers = c.args.self.now.numbers in
    let got = subst (λ (s : BalanceSheet). slice_get s.liabilities c.args.row ≡ Some c.at.result.now) c.sheet.ensures.sheet c.at.ensures in
    let few : 2 + c.args.seat < 12 = c.requires.at.family in
    let found = stress-at c.args.seat c.requires.stress (omega (arith, few)) in
    let projection = c.projection_in-projection.result in
    let same : projection ≡ found.projection = c.projection_in-projection.ensures found.projection found.place in
    let at : IsAt numbers.places.now ranged.Liability c.args.row (liability_family (of_liabilities.Loss projection)) c.args.number =
    subst (λ i. IsAt numbers.places.now ranged.Liability c.args.row i c.args.number)
    (sym (ap (λ p. liability_family (of_liabilities.Loss p)) same ∙ found.family)) c.requires.at in
    let live : is_live numbers.book.now.sheet (nodes.Liability c.at.result.now.name (of_liabilities.Loss projection)) ≡ true =
    live-here numbers.book.now numbers.places.now numbers.lists.now c.requires.numbers (nodes.Liability c.at.result.now.name (of_liabilities.Loss projection)) c.args.number
    (line-stands numbers.book.now numbers.places.now numbers.lists.now c.requires.numbers c.requires.valid c.args.row c.at.result.now got (of_liabilities.Loss projection) c.args.number at) c.requires.live in
    sym (ap place_of same ∙ found.place)

pub mark_member-requires-in-Health-clause-stands : goal.mark_member-requires-in-Health-clause-stands
mark_member-requires-in-Health-clause-stands c =
    let numbers = c.args.self.now.numbers in
    let got = subst (λ (s : BalanceSheet). slice_get s.liabilities c.args.row ≡ Some c.at.result.now) c.sheet.ensures.sheet c.at.ensures in
    let few : 2 + c.args.seat < 12 = c.requires.at.family in
    let found = stress-at c.args.seat c.requires.stress (omega (arith, few)) in
    let projection = c.projection_in-projection.result in
    let same : projection ≡ found.projection = c.projection_in-projection.ensures found.projection found.place in
    let at : IsAt numbers.places.now ranged.Liability c.args.row (liability_family (of_liabilities.Loss projection)) c.args.number =
    subst (λ i. IsAt numbers.places.now ranged.Liability c.args.row i c.args.number)
    (sym (ap (λ p. liability_family (of_liabilities.Loss p)) same ∙ found.family)) c.requires.at in
    let live : is_live numbers.book.now.sheet (nodes.Liability c.at.result.now.name (of_liabilities.Loss projection)) ≡ true =
    live-here numbers.book.now numbers.places.now numbers.lists.now c.requires.numbers (nodes.Liability c.at.result.now.name (of_liabilities.Loss projection)) c.args.number
    (line-stands numbers.book.now numbers.places.now numbers.lists.now c.requires.numbers c.requires.valid c.args.row c.at.result.now got (of_liabilities.Loss projection) c.args.number at) c.requires.live in
    (c.at.result.now.name, line-named numbers.book.now numbers.places.now numbers.lists.now c.requires.numbers c.requires.valid c.args.row c.at.result.now got, of-losses numbers.book.now numbers.places.now numbers.lists.now c.requires.numbers c.requires.valid c.args.row c.at.result.now got biometrics.Health c.in-Health.is projection live)

pub returns-in-Life-clause-marked : goal.returns-in-Life-clause-marked
returns-in-Life-clause-marked c =
    let numbers = c.args.self.now.numbers in
    let got = subst (λ (s : BalanceSheet). slice_get s.liabilities c.args.row ≡ Some c.at.result.now) c.sheet.ensures.sheet c.at.ensures in
    let few : 2 + c.args.seat < 12 = c.requires.at.family in
    let found = stress-at c.args.seat c.requires.stress (omega (arith, few)) in
    let projection = c.projection_in-projection.result in
    let same : projection ≡ found.projection = c.projection_in-projection.ensures found.projection found.place in
    let at : IsAt numbers.places.now ranged.Liability c.args.row (liability_family (of_liabilities.Loss projection)) c.args.number =
    subst (λ i. IsAt numbers.places.now ranged.Liability c.args.row i c.args.number)
    (sym (ap (λ p. liability_family (of_liabilities.Loss p)) same ∙ found.family)) c.requires.at in
    let live : is_live numbers.book.now.sheet (nodes.Liability c.at.result.now.name (of_liabilities.Loss projection)) ≡ true =
    live-here numbers.book.now numbers.places.now numbers.lists.now c.requires.numbers (nodes.Liability c.at.result.now.name (of_liabilities.Loss projection)) c.args.number
    (line-stands numbers.book.now numbers.places.now numbers.lists.now c.requires.numbers c.requires.valid c.args.row c.at.result.now got (of_liabilities.Loss projection) c.args.number at) c.requires.live in
    ok-then c.mark_member.result c.mark_member.ensures.marked (λ m.
    losses-marked numbers.book.now numbers.places.now numbers.lists.now c.requires.numbers c.requires.valid c.args.row c.at.result.now got projection c.args.number at biometrics.Life c.in-Life.is c.args.marks.now.list c.mark_member.new.marks.list
    (m c.at.result.now.name (line-named numbers.book.now numbers.places.now numbers.lists.now c.requires.numbers c.requires.valid c.args.row c.at.result.now got)))

pub returns-in-Health-clause-marked : goal.returns-in-Health-clause-marked
returns-in-Health-clause-marked c =
    let numbers = c.args.self.now.numbers in
    let got = subst (λ (s : BalanceSheet). slice_get s.liabilities c.args.row ≡ Some c.at.result.now) c.sheet.ensures.sheet c.at.ensures in
    let few : 2 + c.args.seat < 12 = c.requires.at.family in
    let found = stress-at c.args.seat c.requires.stress (omega (arith, few)) in
    let projection = c.projection_in-projection.result in
    let same : projection ≡ found.projection = c.projection_in-projection.ensures found.projection found.place in
    let at : IsAt numbers.places.now ranged.Liability c.args.row (liability_family (of_liabilities.Loss projection)) c.args.number =
    subst (λ i. IsAt numbers.places.now ranged.Liability c.args.row i c.args.number)
    (sym (ap (λ p. liability_family (of_liabilities.Loss p)) same ∙ found.family)) c.requires.at in
    let live : is_live numbers.book.now.sheet (nodes.Liability c.at.result.now.name (of_liabilities.Loss projection)) ≡ true =
    live-here numbers.book.now numbers.places.now numbers.lists.now c.requires.numbers (nodes.Liability c.at.result.now.name (of_liabilities.Loss projection)) c.args.number
    (line-stands numbers.book.now numbers.places.now numbers.lists.now c.requires.numbers c.requires.valid c.args.row c.at.result.now got (of_liabilities.Loss projection) c.args.number at) c.requires.live in
    ok-then c.mark_member-in-Health.result c.mark_member-in-Health.ensures.marked (λ m.
    losses-marked numbers.book.now numbers.places.now numbers.lists.now c.requires.numbers c.requires.valid c.args.row c.at.result.now got projection c.args.number at biometrics.Health c.in-Health.is c.args.marks.now.list c.mark_member-in-Health.new.marks.list
    (m c.at.result.now.name (line-named numbers.book.now numbers.places.now numbers.lists.now c.requires.numbers c.requires.valid c.args.row c.at.result.now got)))

pub returns-in-Other-clause-marked : goal.returns-in-Other-clause-marked
returns-in-Other-clause-marked c =
    let numbers = c.args.self.now.numbers in
    let got = subst (λ (s : BalanceSheet). slice_get s.liabilities c.args.row ≡ Some c.at.result.now) c.sheet.ensures.sheet c.at.ensures in
    let few : 2 + c.args.seat < 12 = c.requires.at.family in
    let found = stress-at c.args.seat c.requires.stress (omega (arith, few)) in
    let projection = c.projection_in-projection.result in
    let same : projection ≡ found.projection = c.projection_in-projection.ensures found.projection found.place in
    let at : IsAt numbers.places.now ranged.Liability c.args.row (liability_family (of_liabilities.Loss projection)) c.args.number =
    subst (λ i. IsAt numbers.places.now ranged.Liability c.args.row i c.args.number)
    (sym (ap (λ p. liability_family (of_liabilities.Loss p)) same ∙ found.family)) c.requires.at in
    let live : is_live numbers.book.now.sheet (nodes.Liability c.at.result.now.name (of_liabilities.Loss projection)) ≡ true =
    live-here numbers.book.now numbers.places.now numbers.lists.now c.requires.numbers (nodes.Liability c.at.result.now.name (of_liabilities.Loss projection)) c.args.number
    (line-stands numbers.book.now numbers.places.now numbers.lists.now c.requires.numbers c.requires.valid c.args.row c.at.result.now got (of_liabilities.Loss projection) c.args.number at) c.requires.live in
    losses-none numbers.book.now numbers.places.now numbers.lists.now c.requires.numbers c.requires.valid c.args.row c.at.result.now got projection c.args.number at c.in-Other.is c.args.marks.now.list
