use Rattle.std.proofs.Common.{◌≡◌, ℕ, ℤ, true, false, List, [], refl, sym, ap, subst, ◌∙◌, rules, w64}
use Rattle.std.proofs.lemmas.Int.{to_z-of_z}
use Rattle.std.specs.Option.{option_map_or}
use Rattle.scr_dates.specs.declared.day.Day.{Day}
use Rattle.scr_sheet.specs.BalanceSheet.{position_name}
use Rattle.scr_sheet.specs.Records.{applied, natural, kept_flows, kept_hold}
use Rattle.scr_tables.specs.Tables.{with_row, changed}
use Rattle.scr_sheet.specs.declared.rows.Position.{Position}
use Rattle.scr_sheet.specs.declared.rows.Security.{Security}
use Rattle.scr_sheet.specs.declared.edit.Edit.{Edit}
use Rattle.scr_sheet.specs.declared.edit.Edit.TheVariants as edits
use Rattle.scr_book.specs.Kept.{IsKept}
use Rattle.scr_book.specs.declared.ledger.Ledger.TheInside.{Inside}
use Rattle.scr_book.proofs.Moved.{none_there}
use Rattle.scr_book.proofs.Applied.{changed-from, replaced, days_kept, graph_now, sums_kept, kept-whole}
use Rattle.scr_book.proofs.Holders.{graph-same}
use Rattle.scr_book.proofs.ledger.Ledger.put_security.Goals as goal

kept-replaced : (c : goal.After-change) → let new : Inside = record c.self.inside { sheet = record c.self.inside.sheet { securities = c.change.new.self } } in
    IsKept new × (new.sheet ≡ applied (edits.Security c.args.name.now c.args.class c.args.group c.args.currency.now c.args.duration) c.args.self.now)
kept-replaced c =
    let new : Inside = record c.self.inside { sheet = record c.self.inside.sheet { securities = c.change.new.self } } in
    let edit : Edit = edits.Security c.args.name.now c.args.class c.args.group c.args.currency.now c.args.duration in
    let rows : List Position = c.self.inside.sheet.securities in
    let amount : c.natural.result ≡ natural c.args.duration = c.natural.ensures ∙ ap natural (to_z-of_z w64 c.args.duration c.ranges.duration) in
    let security : List ℕ → ℕ → List (Day × ℤ) → Security = λ n duration flows. record { name = n; class = c.args.class; group = c.args.group; currency = c.args.currency.now; duration = duration; flows = flows } in
    let position : List ℕ → ℕ → List (Day × ℤ) → ℕ → Position = λ n duration flows held. record { security = security n duration flows; held = held } in
    let change : Position → Position = λ p. record p { security = record p.security { class = c.args.class; group = c.args.group; currency = c.args.currency.now; duration = c.natural.result } } in
    let made : Position = position c.args.name.now (natural c.args.duration) (kept_flows c.args.name.now rows) (kept_hold c.args.name.now rows) in
    let written : c.change.new.self ≡ changed position_name change c.args.name.now rows = changed-from position_name change _ c.args.name.now rows c.change.new.self (λ old row ran. search rules) c.change.ensures in
    let same : changed position_name change c.args.name.now rows ≡ with_row position_name made rows =
    replaced position_name change made c.args.name.now rows (sym c.contains.ensures ∙ c.if-contains.true)
    (λ p is named. ap (λ n. position n c.natural.result p.security.flows p.held) (sym named)
    ∙ ap (λ d. position c.args.name.now d p.security.flows p.held) amount
    ∙ ap (λ flows. position c.args.name.now (natural c.args.duration) flows p.held) (sym (ap (λ o. option_map_or (λ q. q.security.flows) o []) is))
    ∙ ap (λ held. position c.args.name.now (natural c.args.duration) (kept_flows c.args.name.now rows) held) (sym (ap (λ o. option_map_or (λ q. q.held) o 0) is))) in
    kept-whole c.self.inside new c.args.self.now c.self.view_is c.self.invariant edit c.requires.formed c.requires.no_fault
    (ap (λ rows. record c.self.inside.sheet { securities = rows }) (written ∙ same))
    (sums_kept c.self.inside new c.args.self.now c.self.view_is c.self.invariant edit c.requires.formed c.requires.no_fault refl refl)
    (days_kept c.self.inside new c.args.self.now c.self.view_is c.self.invariant edit c.requires.formed c.requires.no_fault refl)
    (λ fresh. graph-same edit c.args.self.now c.self.inside.graph (graph_now c.self.inside c.args.self.now c.self.view_is c.self.invariant fresh) refl)

kept-made : (c : goal.In_ok-put) → let new : Inside = record c.self.inside { sheet = record c.self.inside.sheet { securities = c.put.new.self } } in
    IsKept new × (new.sheet ≡ applied (edits.Security c.args.name.now c.args.class c.args.group c.args.currency.now c.args.duration) c.args.self.now)
kept-made c =
    let new : Inside = record c.self.inside { sheet = record c.self.inside.sheet { securities = c.put.new.self } } in
    let edit : Edit = edits.Security c.args.name.now c.args.class c.args.group c.args.currency.now c.args.duration in
    let rows : List Position = c.self.inside.sheet.securities in
    let amount : c.natural.result ≡ natural c.args.duration = c.natural.ensures ∙ ap natural (to_z-of_z w64 c.args.duration c.ranges.duration) in
    let security : ℕ → List (Day × ℤ) → Security = λ duration flows. record { name = c.args.name.now; class = c.args.class; group = c.args.group; currency = c.args.currency.now; duration = duration; flows = flows } in
    let position : ℕ → List (Day × ℤ) → ℕ → Position = λ duration flows held. record { security = security duration flows; held = held } in
    let none = none_there position_name c.args.name.now rows (sym c.contains.ensures ∙ c.if-contains.false) in
    let promised : c.new-2.result ≡ kept_flows c.args.name.now rows = c.new-2.ensures ∙ c.new.ensures.items ∙ sym (ap (λ o. option_map_or (λ q. q.security.flows) o []) none) in
    let held : 0 ≡ kept_hold c.args.name.now rows = sym (ap (λ o. option_map_or (λ q. q.held) o 0) none) in
    kept-whole c.self.inside new c.args.self.now c.self.view_is c.self.invariant edit c.requires.formed c.requires.no_fault
    (ap (λ rows. record c.self.inside.sheet { securities = rows })
    (c.in_ok-put.ensures.ok ∙ ap (λ d. with_row position_name (position d c.new-2.result 0) rows) amount ∙ ap (λ flows. with_row position_name (position (natural c.args.duration) flows 0) rows) promised
    ∙ ap (λ n. with_row position_name (position (natural c.args.duration) (kept_flows c.args.name.now rows) n) rows) held))
    (sums_kept c.self.inside new c.args.self.now c.self.view_is c.self.invariant edit c.requires.formed c.requires.no_fault refl refl)
    (days_kept c.self.inside new c.args.self.now c.self.view_is c.self.invariant edit c.requires.formed c.requires.no_fault refl)
    (λ fresh. graph-same edit c.args.self.now c.self.inside.graph (graph_now c.self.inside c.args.self.now c.self.view_is c.self.invariant fresh) refl)

pub invariant_of-self : goal.invariant_of-self
invariant_of-self c = (kept-replaced c).0

pub returns-then-contains-clause-ok : goal.returns-then-contains-clause-ok
returns-then-contains-clause-ok c = (kept-replaced c).1

pub invariant_of-self-2 : goal.invariant_of-self-2
invariant_of-self-2 c = (kept-made c).0

pub returns-clause-ok : goal.returns-clause-ok
returns-clause-ok c = (kept-made c).1

pub invariant_of-self-in_err-put : goal.invariant_of-self-in_err-put
invariant_of-self-in_err-put c =
    subst (λ (rows : List Position). IsKept (record c.self.inside { sheet = record c.self.inside.sheet { securities = rows } })) (sym c.in_err-put.ensures.err) c.self.invariant
