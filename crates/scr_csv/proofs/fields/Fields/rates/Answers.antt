-- Rates, one by one.
use Rattle.std.proofs.Common.{w64, ◌≡◌, ◌+◌, ◌++◌, ◌∷◌, [], true, take, sym, ap, ◌∙◌, rules}
use Rattle.std.specs.Prelude.{is_ok, FitsSigned}
use Rattle.scr_profile.specs.declared.limits.TheConstants.{MAX_RATES}
use Rattle.scr_csv.specs.Kept.{kept_members}
use Rattle.scr_csv.specs.Reading.{made, numbers_from}
use Rattle.scr_csv.proofs.ListSteps.{behind, kept_next, kept_end, take_short, take_every, all_push, numbers-next}
use Rattle.scr_csv.proofs.fields.Fields.rates.Goals as goal

pub rates-preserved : goal.rates-preserved
rates-preserved c =
    let rate = c.in_ok-rate.rate in
    let step = numbers-next c.rates.self.number c.rates.self.fields rate c.number.new.self
    (sym c.in_ok-rate.ensures.value) in
    let ok : is_ok c.keep.result ≡ true = sym c.map_err.ensures.variant ∙ ap is_ok c.in_ok-map_err.was in
    let fits : FitsSigned w64 rate = search rules in
    let kept : c.keep.new.list.items ≡ take (MAX_RATES + 1) (c.rates.rates.items ++ (rate ∷ [])) = search rules in
    let more = numbers_from c.number.new.self.number c.number.new.self.fields in
    record {
      read = rw kept (kept_next (MAX_RATES + 1) c.rates.rates.items rate more
          ∙ ap (λ left. made (kept_members MAX_RATES) (behind c.rates.rates.items left)) (sym step)
          ∙ c.rates.invariant.read);
      short = rw kept (take_short (MAX_RATES + 1) (c.rates.rates.items ++ (rate ∷ [])));
      formed = rw kept (take_every _ (MAX_RATES + 1) (c.rates.rates.items ++ (rate ∷ []))
          (all_push _ c.rates.rates.items rate c.rates.invariant.formed c.in_ok-rate.ensures.formed));
    }

pub returns-clause-answer : goal.returns-clause-answer
returns-clause-answer c =
    let ended : c.rates.self.fields ≡ [] = search rules in
    let is : c.rates.rates.items ≡ c.new.result = search rules in
    kept_end (MAX_RATES + 1) c.rates.rates.items _ _ _ (ap (numbers_from c.rates.self.number) ended)
    c.rates.invariant.short c.rates.invariant.read is
