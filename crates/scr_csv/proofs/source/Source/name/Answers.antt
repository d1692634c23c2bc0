-- No byte of a name ends a field, and the bytes are the name.
use Rattle.std.proofs.Common.{◌≡◌, List, ℕ, take, Some, sym, ap, ◌∙◌, rules}
use Rattle.scr_tables.specs.Names.{is_name, leading_name}
use Rattle.scr_tables.proofs.Leading.{leading_read}
use Rattle.scr_fields.specs.FieldForms.{name_of, group_of}
use Rattle.scr_csv.specs.Parts.{behind, first_as}
use Rattle.scr_csv.specs.Sources.{fields_in}
use Rattle.scr_csv.proofs.Fronts.{name_apart, first_read, name_read, group_read}
use Rattle.scr_csv.proofs.source.Source.name.Goals as goal

pub behind_first-requires-clause-inside : goal.behind_first-requires-clause-inside
behind_first-requires-clause-inside c =
    let read : leading_name c.in_ok-text.text.now ≡ Some (c.in_ok-name.name, c.in_ok-name.count) =
    sym c.in_ok-name.ensures in
    name_apart c.args.self.end (take c.in_ok-name.count c.in_ok-text.text.now) c.args.self.low
    (leading_read c.in_ok-text.text.now c.in_ok-name.name c.in_ok-name.count read).bytes

pub behind_first-requires-clause-within : goal.behind_first-requires-clause-within
behind_first-requires-clause-within c =
    let read : leading_name c.in_ok-text.text.now ≡ Some (c.in_ok-name.name, c.in_ok-name.count) =
    sym c.in_ok-name.ensures in
    (leading_read c.in_ok-text.text.now c.in_ok-name.name c.in_ok-name.count read).within

pub returns-clause-value : goal.returns-clause-value
returns-clause-value c =
    let read : leading_name c.in_ok-text.text.now ≡ Some (c.in_ok-name.name, c.in_ok-name.count) =
    sym c.in_ok-name.ensures in
    let name = leading_read c.in_ok-text.text.now c.in_ok-name.name c.in_ok-name.count read in
    let first : first_as name_of (fields_in c.args.self)
    ≡ Some (c.in_ok-name.name, behind c.args.self.end c.in_ok-rest.rest) =
    first_read name_of (fields_in c.args.self) (take c.in_ok-name.count c.in_ok-text.text.now)
    (behind c.args.self.end c.in_ok-rest.rest) c.in_ok-name.name (search rules)
    (name_read _ name.named ∙ ap (λ bs. Some bs) (sym name.front)) in
    search (rules, first)

pub returns-clause-group : goal.returns-clause-group
returns-clause-group c =
    let read : leading_name c.in_ok-text.text.now ≡ Some (c.in_ok-name.name, c.in_ok-name.count) =
    sym c.in_ok-name.ensures in
    let name = leading_read c.in_ok-text.text.now c.in_ok-name.name c.in_ok-name.count read in
    let first : first_as group_of (fields_in c.args.self)
    ≡ Some (Some c.in_ok-name.name, behind c.args.self.end c.in_ok-rest.rest) =
    first_read group_of (fields_in c.args.self) (take c.in_ok-name.count c.in_ok-text.text.now)
    (behind c.args.self.end c.in_ok-rest.rest) (Some c.in_ok-name.name) (search rules)
    (group_read _ name.named ∙ ap (λ bs. Some (Some bs)) (sym name.front)) in
    search (rules, first)

pub returns-clause-formed : goal.returns-clause-formed
returns-clause-formed c =
    let read : leading_name c.in_ok-text.text.now ≡ Some (c.in_ok-name.name, c.in_ok-name.count) =
    sym c.in_ok-name.ensures in
    let name = leading_read c.in_ok-text.text.now c.in_ok-name.name c.in_ok-name.count read in
    ap is_name name.front ∙ name.named
