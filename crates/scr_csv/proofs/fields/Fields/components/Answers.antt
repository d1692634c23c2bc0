-- Components, pair by pair.
use Rattle.std.proofs.Common.{w64, ◌≡◌, ◌≢◌, ◌+◌, ◌++◌, ◌∷◌, [], List, ℕ, ℤ, true, take, sym, ap, ◌∙◌, rules, arith}
use Rattle.std.specs.Prelude.{is_ok, FitsSigned}
use Rattle.std.proofs.lemmas.Grind.{common_steps}
use Rattle.scr_fields.specs.FieldForms.{name_of}
use Rattle.scr_profile.specs.declared.limits.TheConstants.{MAX_FUND_COMPONENTS}
use Rattle.scr_fields.specs.Numbers.{number_value}
use Rattle.scr_csv.specs.Reading.{made, pairs_from}
use Rattle.scr_csv.specs.Kept.{kept_members}
use Rattle.scr_csv.proofs.ListSteps.{behind, kept_next, kept_end, take_short, take_every, due_answers, all_push, next-shorter, pairs-next, pairs-value_fault, pairs-number_fault}
use Rattle.scr_csv.proofs.fields.Fields.components.Goals as goal

pub returns-in_err-name-clause-answer : goal.returns-in_err-name-clause-answer
returns-in_err-name-clause-answer c =
    let some : c.components.self.fields ≢ [] = search rules in
    let fault = pairs-value_fault name_of c.components.self.number c.components.self.fields c.in_err-name.field-0.0
    (sym c.in_err-name.ensures.value) some in
    let told = sym c.components.invariant.read
    ∙ ap (λ left. made (kept_members MAX_FUND_COMPONENTS) (behind c.components.components.items left)) fault in
    due_answers _ _ (grind (arith, common_steps, told))

pub returns-in_err-weight-clause-answer : goal.returns-in_err-weight-clause-answer
returns-in_err-weight-clause-answer c =
    let fault = pairs-number_fault name_of c.components.self.number c.components.self.fields c.in_ok-name.name
    c.name.new.self c.in_err-weight.field-0.0 (sym c.in_ok-name.ensures.value)
    (sym c.in_err-weight.ensures.value) in
    let told = sym c.components.invariant.read
    ∙ ap (λ left. made (kept_members MAX_FUND_COMPONENTS) (behind c.components.components.items left)) fault in
    due_answers _ _ (grind (arith, common_steps, told))

pub components-smaller : goal.components-smaller
components-smaller c =
    let name = next-shorter name_of c.components.self.number c.components.self.fields c.in_ok-name.name c.name.new.self
    (sym c.in_ok-name.ensures.value) in
    let weight = next-shorter number_value c.name.new.self.number c.name.new.self.fields c.in_ok-weight.weight
    c.number.new.self (sym c.in_ok-weight.ensures.value) in
    omega (arith, name, weight)

pub components-preserved : goal.components-preserved
components-preserved c =
    let step = pairs-next name_of c.components.self.number c.components.self.fields c.in_ok-name.name c.name.new.self
    c.in_ok-weight.weight c.number.new.self (sym c.in_ok-name.ensures.value) (sym c.in_ok-weight.ensures.value) in
    let component : List ℕ × ℤ = (c.in_ok-name.name, c.in_ok-weight.weight) in
    let ok : is_ok c.keep.result ≡ true = sym c.map_err.ensures.variant ∙ ap is_ok c.in_ok-map_err.was in
    let fits : FitsSigned w64 c.in_ok-weight.weight = search rules in
    let kept : c.keep.new.list.items ≡ take (MAX_FUND_COMPONENTS + 1) (c.components.components.items ++ (component ∷ [])) = search rules in
    let more = pairs_from name_of c.number.new.self.number c.number.new.self.fields in
    record {
      read = rw kept (kept_next (MAX_FUND_COMPONENTS + 1) c.components.components.items component more
          ∙ ap (λ left. made (kept_members MAX_FUND_COMPONENTS) (behind c.components.components.items left)) (sym step)
          ∙ c.components.invariant.read);
      short = rw kept (take_short (MAX_FUND_COMPONENTS + 1) (c.components.components.items ++ (component ∷ [])));
      formed = rw kept (take_every _ (MAX_FUND_COMPONENTS + 1) (c.components.components.items ++ (component ∷ []))
          (all_push _ c.components.components.items component c.components.invariant.formed
          (c.in_ok-name.ensures.formed, c.in_ok-weight.ensures.formed)));
    }

pub returns-clause-answer : goal.returns-clause-answer
returns-clause-answer c =
    let ended : c.components.self.fields ≡ [] = search rules in
    let is : c.components.components.items ≡ c.new.result = search rules in
    kept_end (MAX_FUND_COMPONENTS + 1) c.components.components.items _ _ _ (ap (pairs_from name_of c.components.self.number) ended)
    c.components.invariant.short c.components.invariant.read is
