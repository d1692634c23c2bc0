-- Which sum runs over a list at a place.
use Rattle.std.proofs.Common.{◌≡◌, ℕ, Bool, true, false, ◌&&◌, Option, Some, None, refl, sym, ap, subst, ◌∙◌}
use Rattle.std.specs.Prelude.{◌==◌, if◌then◌else◌}
use Rattle.std.proofs.lemmas.Bool.{and_parts, eqb-true}
use Rattle.std.proofs.lemmas.Option.{same_Some}
use Rattle.scr_sheet.specs.Members.{is_of_class}
use Rattle.scr_sheet.specs.declared.roll.Roll.{Roll}
use Rattle.scr_sheet.specs.declared.roll.Roll.TheVariants as rolls
use Rattle.scr_sheet.specs.declared.rows.Class.{Class}
use Rattle.scr_sheet.specs.declared.rows.Class.TheVariants as classes
use Rattle.scr_sheet.specs.declared.rows.LiabilityKind.TheVariants as kinds
use Rattle.scr_nodes.specs.declared.node.Biometric.TheVariants as biometrics
use Rattle.scr_nodes.specs.declared.node.Direction.TheVariants as directions
use Rattle.scr_block_graph.specs.BlockNumbers.{place_of, sole, sum_at}
use Rattle.scr_block_graph.specs.Sums.{roll_of}
use Rattle.scr_block_graph.specs.declared.sum.Sum.{Sum}
use Rattle.scr_block_graph.specs.declared.sum.Sum.TheVariants as sums

pub at-own : (sum : Sum) → sum_at (roll_of sum) (place_of sum) ≡ Some sum
at-own (sums.Class class) = refl
at-own sums.Closed = refl
at-own sums.Spreads = refl
at-own sums.Grouped = refl
at-own (sums.Group name) = refl
at-own (sums.Assets currency) = refl
at-own (sums.Rates currency directions.Up) = refl
at-own (sums.Rates currency directions.Down) = refl
at-own (sums.Costs currency directions.Up) = refl
at-own (sums.Costs currency directions.Down) = refl
at-own (sums.Presents currency) = refl
at-own (sums.Losses biometrics.Life projection) = refl
at-own (sums.Losses biometrics.Health projection) = refl
at-own sums.Squares = refl

-- it is this sum, and it is of this list, at this place
abbrev Own : Roll → ℕ → Sum → Type 0
Own roll place sum = (sole (roll_of sum) ≡ sole roll) × (place_of sum ≡ place)

-- where a test of the place passes, what follows is that sum's
by-test : (t : Bool) (one sum : Sum) (rest : Option Sum) (P : Sum → Type 0) → (if t then Some one else rest) ≡ Some sum → (t ≡ true → P one)
    → (rest ≡ Some sum → P sum) → P sum
by-test true one sum rest P e here there = subst P (same_Some one sum e) (here refl)
by-test false one sum rest P e here there = there e

never : (sum : Sum) (P : Sum → Type 0) → None ≡ Some sum → P sum
never sum P e = absurd (cc)

module _ (roll : Roll) (place : ℕ) (sum : Sum) where
  at : (one : Sum) (n : ℕ) → sole (roll_of one) ≡ sole roll → place_of one ≡ n → (place == n) ≡ true → Own roll place one
  at one n list own e = (list, own ∙ sym (eqb-true place n e))

  alone : (one : Sum) → sole (roll_of one) ≡ sole roll → place_of one ≡ 0 → (if place == 0 then Some one else None) ≡ Some sum → Own roll place sum
  alone one list own e = by-test (place == 0) one sum None (Own roll place) e (at one 0 list own) (never sum (Own roll place))

is-bond : (class : Class) → is_of_class classes.Bond class ≡ true → class ≡ classes.Bond
is-bond classes.Bond e = refl
is-bond class e = absurd (cc)

pub only-own : (roll : Roll) (place : ℕ) (sum : Sum) → sum_at roll place ≡ Some sum → (sole (roll_of sum) ≡ sole roll) × (place_of sum ≡ place)
only-own (rolls.Class class) place sum e =
    by-test (place == 0) (sums.Class class) sum _ (Own (rolls.Class class) place) e (at (rolls.Class class) place sum (sums.Class class) 0 refl refl)
    (λ f. by-test (is_of_class classes.Bond class && (place == 1)) sums.Spreads sum None (Own (rolls.Class class) place) f
    (λ both.
    (let parts = and_parts (is_of_class classes.Bond class) (place == 1) both in
    at (rolls.Class class) place sum sums.Spreads 1 (ap rolls.Class (sym (is-bond class parts.0))) refl parts.1))
    (never sum (Own (rolls.Class class) place)))
only-own rolls.Bonds place sum e =
    by-test (place == 0) (sums.Class classes.Bond) sum _ (Own rolls.Bonds place) e (at rolls.Bonds place sum (sums.Class classes.Bond) 0 refl refl)
    (λ f. by-test (place == 1) sums.Spreads sum None (Own rolls.Bonds place) f (at rolls.Bonds place sum sums.Spreads 1 refl refl) (never sum (Own rolls.Bonds place)))
only-own rolls.Closed place sum e = alone rolls.Closed place sum sums.Closed refl refl e
only-own rolls.Grouped place sum e = alone rolls.Grouped place sum sums.Grouped refl refl e
only-own (rolls.Group name) place sum e = alone (rolls.Group name) place sum (sums.Group name) refl refl e
only-own (rolls.Assets currency) place sum e = alone (rolls.Assets currency) place sum (sums.Assets currency) refl refl e
only-own (rolls.Flows currency) place sum e =
    by-test (place == 0) (sums.Rates currency directions.Up) sum _ (Own (rolls.Flows currency) place) e
    (at (rolls.Flows currency) place sum (sums.Rates currency directions.Up) 0 refl refl)
    (λ f. by-test (place == 1) (sums.Rates currency directions.Down) sum None (Own (rolls.Flows currency) place) f
    (at (rolls.Flows currency) place sum (sums.Rates currency directions.Down) 1 refl refl) (never sum (Own (rolls.Flows currency) place)))
only-own (rolls.Lines currency) place sum e =
    by-test (place == 0) (sums.Costs currency directions.Up) sum _ (Own (rolls.Lines currency) place) e
    (at (rolls.Lines currency) place sum (sums.Costs currency directions.Up) 0 refl refl)
    (λ f. by-test (place == 1) (sums.Costs currency directions.Down) sum _ (Own (rolls.Lines currency) place) f
    (at (rolls.Lines currency) place sum (sums.Costs currency directions.Down) 1 refl refl)
    (λ g. by-test (place == 2) (sums.Presents currency) sum None (Own (rolls.Lines currency) place) g
    (at (rolls.Lines currency) place sum (sums.Presents currency) 2 refl refl) (never sum (Own (rolls.Lines currency) place))))
only-own (rolls.Losses kinds.Life projection) place sum e =
    alone (rolls.Losses kinds.Life projection) place sum (sums.Losses biometrics.Life projection) refl refl e
only-own (rolls.Losses kinds.Health projection) place sum e =
    alone (rolls.Losses kinds.Health projection) place sum (sums.Losses biometrics.Health projection) refl refl e
only-own (rolls.Losses kinds.Other projection) place sum e = absurd (cc)
only-own rolls.Groups place sum e = alone rolls.Groups place sum sums.Squares refl refl e
