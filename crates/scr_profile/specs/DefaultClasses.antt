-- The classes of counterparties that share a probability of default: Article 199(2) of Delegated Regulation (EU) 2015/35,
-- which has one probability for the credit quality steps 5 and 6. A counterparty without a step is of their class (this
-- project's own).
use Rattle.std.specs.Prelude.{ℕ, ◌==◌, Option, Some, None, List, [], ◌∷◌, if◌then◌else◌}
use Rattle.scr_profile.specs.declared.default_class.DefaultClass.{DefaultClass}
use Rattle.scr_profile.specs.declared.default_class.DefaultClass.TheVariants as classes

abbrev pub class_of_step : Option ℕ → DefaultClass
class_of_step None = classes.Steps5And6
class_of_step (Some step) =
    if step == 0 then classes.Step0 else
    if step == 1 then classes.Step1 else
    if step == 2 then classes.Step2 else
    if step == 3 then classes.Step3 else
    if step == 4 then classes.Step4 else
    classes.Steps5And6

-- the first step of a class
abbrev pub first_step : DefaultClass → ℕ
first_step classes.Step0 = 0
first_step classes.Step1 = 1
first_step classes.Step2 = 2
first_step classes.Step3 = 3
first_step classes.Step4 = 4
first_step classes.Steps5And6 = 5

-- all of them, by their first steps
abbrev pub default_classes : List DefaultClass
default_classes =
    classes.Step0 ∷ classes.Step1 ∷ classes.Step2 ∷ classes.Step3 ∷ classes.Step4 ∷ classes.Steps5And6 ∷ []
