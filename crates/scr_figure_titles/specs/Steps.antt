-- How figures come from their sources, in words (this project's own).
use Rattle.std.specs.Prelude.{ℕ, List, Option, Some, None, codes}
use Rattle.scr_figure_titles.specs.declared.step.Step.{Step}
use Rattle.scr_figure_titles.specs.declared.step.Step.TheVariants as steps

abbrev pub step_words : Step → List ℕ
step_words steps.Records = codes "reckoned from the records of the book"
step_words steps.LookThrough = codes "what is held itself, and its parts of the funds that hold it"
step_words steps.Discounted = codes "its payments, discounted"
step_words steps.Product = codes "what is held of it, times the loss of a unit"
step_words steps.Factor = codes "what is held of it, times the factor of its step and duration"
step_words steps.LossSum = codes "the sum of its sources, a gain counting as nil"
step_words steps.Exposure = codes "a quarter of the difference between what is held and what is owed, a gain counting as nil"
step_words steps.Sum = codes "the sum of its sources"
step_words steps.Share = codes "a fixed share of its sources"
step_words steps.Excess = codes "the excess over the threshold times its charge, squared"
step_words steps.Squares = codes "the sum of the squares of its sources"
step_words steps.Variance = codes "sums and squares, weighted by the probabilities of default"
step_words steps.Band = codes "by the deviation as a share of all losses"
step_words steps.Deviation = codes "the deviation times the factor of its band"
step_words steps.Root = codes "the root over its sources by their correlations"
step_words steps.RootOfSum = codes "the root of the sum of its sources"
step_words steps.RootWithLapse = codes "the root over its sources and lapse risk by their correlations"
step_words steps.ThreeRoots = codes "three times the root over its sources by their correlations"
step_words steps.Modules = codes "the root over its sources by their correlations, and intangible asset risk"
step_words steps.Absorbed = codes "its source less what technical provisions absorb, at least nil"
step_words steps.Choice = codes "the greatest net amount decides"
step_words steps.Chosen = codes "the amount of the scenario that decides"
step_words steps.Charge = codes "the greater of premiums and provisions, at most the cap, and a quarter of the expenses"
step_words steps.Benefits = codes "how far net is below gross, at most the future discretionary benefits"
step_words steps.Taxes = codes "the rate of tax on what is lost, at most the cap"
step_words steps.Diversification = codes "the sum of the modules less their root"

-- what takes the amount by which the sources of a figure together exceed it, where a step has such
abbrev pub taking : Step → Option (List ℕ)
taking steps.Root = Some (codes "correlation takes")
taking steps.Modules = Some (codes "correlation less intangible asset risk takes")
taking steps.Absorbed = Some (codes "absorption takes")
taking step = None
