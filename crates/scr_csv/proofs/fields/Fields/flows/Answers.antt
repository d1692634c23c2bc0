-- Payments, pair by pair.
use Rattle.std.proofs.Common.{w64, ◌≡◌, ◌≢◌, ◌+◌, ◌++◌, ◌∷◌, [], ℤ, true, take, sym, ap, ◌∙◌, rules, arith}
use Rattle.std.specs.Prelude.{is_ok, FitsSigned}
use Rattle.std.proofs.lemmas.Grind.{common_steps}
use Rattle.scr_dates.specs.declared.day.Day.{Day}
use Rattle.scr_dates.specs.Text.{day_of_text}
use Rattle.scr_profile.specs.declared.limits.TheConstants.{MAX_FLOWS}
use Rattle.scr_fields.specs.Numbers.{number_value}
use Rattle.scr_csv.specs.Reading.{made, pairs_from}
use Rattle.scr_csv.specs.Kept.{kept_members}
use Rattle.scr_csv.specs.Sources.{fields_in}
use Rattle.scr_csv.proofs.ListSteps.{behind, kept_next, kept_end, take_short, take_every, due_answers, all_push, next-shorter, pairs-next, pair-next, pairs-value_fault, pairs-number_fault}
use Rattle.scr_csv.proofs.fields.Fields.flows.Goals as goal

pub returns-in_err-date-clause-answer : goal.returns-in_err-date-clause-answer
returns-in_err-date-clause-answer c =
    let some : c.flows.self.fields ≢ [] = search rules in
    let fault = pairs-value_fault day_of_text c.flows.self.number c.flows.self.fields c.in_err-date.field-0.0
    (sym c.in_err-date.ensures.value) some in
    let told = sym c.flows.invariant.read
    ∙ ap (λ left. made (kept_members MAX_FLOWS) (behind c.flows.flows.items left)) fault in
    due_answers _ _ (grind (arith, common_steps, told))

pub returns-in_err-amount-clause-answer : goal.returns-in_err-amount-clause-answer
returns-in_err-amount-clause-answer c =
    let fault = pairs-number_fault day_of_text c.flows.self.number c.flows.self.fields c.in_ok-date.date c.date.new.self
    c.in_err-amount.field-0.0 (sym c.in_ok-date.ensures.value) (sym c.in_err-amount.ensures.value) in
    let told = sym c.flows.invariant.read
    ∙ ap (λ left. made (kept_members MAX_FLOWS) (behind c.flows.flows.items left)) fault in
    due_answers _ _ (grind (arith, common_steps, told))

pub flows-smaller : goal.flows-smaller
flows-smaller c =
    let day = next-shorter day_of_text c.flows.self.number c.flows.self.fields c.in_ok-date.date c.date.new.self
    (sym c.in_ok-date.ensures.value) in
    let amount = next-shorter number_value c.date.new.self.number c.date.new.self.fields c.in_ok-amount.amount
    c.number.new.self (sym c.in_ok-amount.ensures.value) in
    omega (arith, day, amount)

pub flows-preserved : goal.flows-preserved
flows-preserved c =
    let step = pairs-next day_of_text c.flows.self.number c.flows.self.fields c.in_ok-date.date c.date.new.self
    c.in_ok-amount.amount c.number.new.self (sym c.in_ok-date.ensures.value) (sym c.in_ok-amount.ensures.value) in
    let flow : Day × ℤ = (c.in_ok-date.date, c.in_ok-amount.amount) in
    let ok : is_ok c.keep-in-flows.result ≡ true = sym c.map_err-in-flows.ensures.variant ∙ ap is_ok c.in_ok-map_err-2.was in
    let fits : FitsSigned w64 c.in_ok-amount.amount = search rules in
    let kept : c.keep-in-flows.new.list.items ≡ take (MAX_FLOWS + 1) (c.flows.flows.items ++ (flow ∷ [])) = search rules in
    let more = pairs_from day_of_text c.number.new.self.number c.number.new.self.fields in
    record {
      read = rw kept (kept_next (MAX_FLOWS + 1) c.flows.flows.items flow more
          ∙ ap (λ left. made (kept_members MAX_FLOWS) (behind c.flows.flows.items left)) (sym step)
          ∙ c.flows.invariant.read);
      short = rw kept (take_short (MAX_FLOWS + 1) (c.flows.flows.items ++ (flow ∷ [])));
      formed = rw kept (take_every _ (MAX_FLOWS + 1) (c.flows.flows.items ++ (flow ∷ []))
          (all_push _ c.flows.flows.items flow c.flows.invariant.formed
          (c.in_ok-date.ensures.formed, c.in_ok-amount.ensures.formed)));
    }

pub returns-clause-answer : goal.returns-clause-answer
returns-clause-answer c =
    let ended : c.flows.self.fields ≡ [] = search rules in
    let is : c.flows.flows.items ≡ c.new.result = search rules in
    kept_end (MAX_FLOWS + 1) c.flows.flows.items _ _ _ (ap (pairs_from day_of_text c.flows.self.number) ended)
    c.flows.invariant.short c.flows.invariant.read is

pub payments-init : goal.payments-init
payments-init c = rw c.in-Ok.ensures.none (search rules)

pub payments-preserved : goal.payments-preserved
payments-preserved c =
    let step = pair-next day_of_text c.payments.number (fields_in c.payments.source) (fields_in c.in-Some.rest)
    c.in-Some.payment c.in-Some.ensures.value in
    let flow : Day × ℤ = c.in-Some.payment in
    let ok : is_ok c.keep.result ≡ true = sym c.map_err.ensures.variant ∙ ap is_ok c.in_ok-map_err.was in
    let kept : c.keep.new.list.items ≡ take (MAX_FLOWS + 1) (c.payments.flows.items ++ (flow ∷ [])) = search rules in
    let more = pairs_from day_of_text (c.payments.number + 2) (fields_in c.in-Some.rest) in
    record {
      read = rw kept (kept_next (MAX_FLOWS + 1) c.payments.flows.items flow more
          ∙ ap (λ left. made (kept_members MAX_FLOWS) (behind c.payments.flows.items left)) (sym step)
          ∙ c.payments.invariant.read);
      short = rw kept (take_short (MAX_FLOWS + 1) (c.payments.flows.items ++ (flow ∷ [])));
      formed = rw kept (take_every _ (MAX_FLOWS + 1) (c.payments.flows.items ++ (flow ∷ []))
          (all_push _ c.payments.flows.items flow c.payments.invariant.formed
          (c.in-Some.ensures.day, c.in-Some.ensures.amount)));
      fits = omega (arith, c.payments.invariant.fits, c.in-Some.ensures.shorter);
    }
