use Rattle.std.proofs.Common.{◌∙◌, ℕ, Bool, List, ap, refl}
use Rattle.scr_obligations.proofs.AllPlans.{wants_memory}
use Rattle.scr_run.proofs.Told.{cut_text, whole_text}
use Rattle.scr_explain.proofs.Owed.{owed_as}
use Rattle.scr_explain.proofs.explaining.tell.Goals as goal

pub returns-in_default : goal.returns-in_default
returns-in_default g c = λ shelf. wants_memory _ _ _

pub returns-in-Ok-write_all : goal.returns-in-Ok-write_all
returns-in-Ok-write_all g c =
    let text = ap (λ (t : List ℕ). let a : List ℕ × Bool = (t, c.in-Ok.answer.refused) in a) c.as_slice.ensures.value in
    λ shelf. owed_as _ _ _ _ _ (text ∙ c.in-Ok.ensures) _ _ _ _ _
    (whole_text _ _ _ _ _ _ _ c.ended.ensures (c.in-Ok-write_all.ensures.ok, c.in-Ok-write_all.ensures.steady) refl)

pub returns : goal.returns
returns g c =
    let text = ap (λ (t : List ℕ). let a : List ℕ × Bool = (t, c.in-Ok.answer.refused) in a) c.as_slice.ensures.value in
    λ shelf. owed_as _ _ _ _ _ (text ∙ c.in-Ok.ensures) _ _ _ _ _
    (cut_text _ _ _ _ _ _ refl (c.in-Err.ensures.front, c.in-Err.ensures.failed))
