use Rattle.std.proofs.Common.{◌≡◌, ◌↔◌, Contains, Option, None, refl, sym, ap, subst, ◌∙◌}
use Rattle.std.specs.Prelude.{Result, Ok, Err}
use Rattle.scr_sum_tree.specs.Blocks.{HasEachOnce}
use Rattle.scr_book.specs.declared.undo.Undo.{Undo}
use Rattle.scr_sheet.specs.Faults.{Answers, fault_of}
use Rattle.scr_sheet.specs.Validity.{Valid}
use Rattle.scr_sheet.specs.declared.fault.Fault.{Fault}
use Rattle.scr_sheet.specs.declared.fault.Fault.TheVariants as faults
use Rattle.scr_sheet.proofs.Preserved.{Valid-applied}
use Rattle.scr_figure_ids.specs.Numbers.{IsNumbered, StandsAt}
use Rattle.scr_figure_ids.specs.Records.{step_of}
use Rattle.scr_reachability.specs.Linked.{AreNumbers}
use Rattle.scr_block_graph.specs.Books.{rolled_of}
use Rattle.scr_block_graph.specs.Touched.{IsTouchedIn}
use Rattle.scr_tree.specs.Changed.{AreGone}
use Rattle.scr_tree.specs.Graphs.{graph_of}
use Rattle.scr_tree.specs.Standing.{IsAfter, IsAsBefore, Refuses, Standing, TakesSteps, book_of, refusal_of, standing_on}
use Rattle.scr_tree.specs.declared.refusal.Refusal.{Refusal}
use Rattle.scr_tree.specs.declared.refusal.Refusal.TheVariants as refusals
use Rattle.scr_tree.proofs.PointNumbers.{have-ranges}
use Rattle.scr_tree.proofs.Standings.{figures-numbered, taken-by, taken-steps}
use Rattle.scr_tree.proofs.StateStill.{same-lists, state-still}
use Rattle.scr_tree.proofs.engine.Engine.edit.Goals as goal

-- the refusal for a fault that is due
refuses : (due : Option Fault) (fault : Fault) (refusal : Refusal) → refusal ≡ refusal_of fault
    → Answers {A = Undo} due (Err fault) → Refuses due (Err refusal)
refuses due faults.NoMemory refusal is told = subst (λ r. Refuses due (Err r)) (sym is) tt
refuses due (faults.Syntax k) refusal is told = subst (λ r. Refuses due (Err r)) (sym is) told
refuses due (faults.UnknownName name) refusal is told = subst (λ r. Refuses due (Err r)) (sym is) told
refuses due (faults.WrongKind name) refusal is told = subst (λ r. Refuses due (Err r)) (sym is) told
refuses due (faults.InUse name user) refusal is told = subst (λ r. Refuses due (Err r)) (sym is) told
refuses due (faults.Cycle path) refusal is told = subst (λ r. Refuses due (Err r)) (sym is) told
refuses due (faults.Range quantity value limit) refusal is told = subst (λ r. Refuses due (Err r)) (sym is) told

pub stood_of-stood-requires : goal.stood_of-stood-requires
stood_of-stood-requires g c =
    have-ranges c.self.inside.book.sheet c.self.inside.state.places c.self.invariant.state.graph.numbers_of.numbered

pub numbers_gone-requires-clause-valid : goal.numbers_gone-requires-clause-valid
numbers_gone-requires-clause-valid g c = subst Valid (sym c.sheet-sheet.ensures.sheet) c.self.invariant.valid

pub numbers_gone-requires-clause-numbered : goal.numbers_gone-requires-clause-numbered
numbers_gone-requires-clause-numbered g c =
    subst (λ sheet. IsNumbered sheet c.self.inside.state.places) (sym c.sheet-sheet.ensures.sheet)
    c.self.invariant.state.graph.numbers_of.numbered

pub numbers_gone-requires-clause-numbers : goal.numbers_gone-requires-clause-numbers
numbers_gone-requires-clause-numbers g c =
    subst (λ sheet. AreNumbers (graph_of sheet) (StandsAt sheet c.self.inside.state.places) c.self.inside.state.places.size)
    (sym c.sheet-sheet.ensures.sheet)
    (figures-numbered c.self.inside.book c.self.inside.state.places c.self.inside.state.lists c.self.invariant.state.graph.numbers_of)

pub numbers_gone-requires-clause-once : goal.numbers_gone-requires-clause-once
numbers_gone-requires-clause-once g c = subst HasEachOnce (sym c.as_slice.ensures.value) c.in-Ok.ensures.once

pub take_up-requires-after_bounds : goal.take_up-requires-after_bounds
take_up-requires-after_bounds g c κs within = record {
  before = c.self.inside.book;
  by = taken-by c.self.inside.factors c.self.inside.book c.apply_kept.new.self _ _ c.self.invariant.valid c.in-Ok-apply_kept.ensures.ok
      c.in-Ok-apply_kept.ensures.rolls c.apply_kept.ensures.numbers c.in-Ok-apply_kept.ensures.answer
      (c.step_of-step.ensures ∙ ap (step_of c.args.edit.now) c.sheet-sheet.ensures.sheet) c.in-Ok.ensures.touched c.in-Ok.ensures.once
      c.as_slice-2.ensures.value;
  gone_numbers = subst (λ sheet. AreGone c.step_of-step.result c.args.edit.now sheet c.self.inside.state.places c.as_slice-2.result.now
      c.in-Ok-numbers_gone.gone) c.sheet-sheet.ensures.sheet
      (subst (λ list. AreGone c.step_of-step.result c.args.edit.now c.sheet-sheet.result.now c.self.inside.state.places list
      c.in-Ok-numbers_gone.gone) (c.as_slice.ensures.value ∙ sym c.as_slice-2.ensures.value) c.in-Ok-numbers_gone.ensures);
  stood = c.stood_of-stood.ensures;
  state_before = c.self.invariant.state;
  marks = c.self.invariant.marks;
}

pub invariant_of-self-in-Ok-take_up : goal.invariant_of-self-in-Ok-take_up
invariant_of-self-in-Ok-take_up g c = record {
  valid = subst Valid (sym c.in-Ok-apply_kept.ensures.ok)
      (Valid-applied c.args.edit.now c.self.inside.book.sheet c.requires.formed c.self.invariant.valid
      c.in-Ok-apply_kept.ensures.answer);
  state = c.in-Ok-take_up.ensures.ok;
  marks = c.in-Ok-take_up.ensures.marks;
}

pub returns-in-Ok-take_up-clause-answer : goal.returns-in-Ok-take_up-clause-answer
returns-in-Ok-take_up-clause-answer g c =
    subst (λ (s : Standing). fault_of c.args.edit.now s.sheet ≡ None) c.self.view_is c.in-Ok-apply_kept.ensures.answer

pub returns-in-Ok-take_up-clause-ok : goal.returns-in-Ok-take_up-clause-ok
returns-in-Ok-take_up-clause-ok g c =
    subst (λ (s : Standing). IsAfter c.args.edit.now s (standing_on c.self.inside.factors c.apply_kept.new.self)) c.self.view_is
    (record { factors = refl; sheet = c.in-Ok-apply_kept.ensures.ok; rolls = c.in-Ok-apply_kept.ensures.rolls })

pub returns-in-Ok-take_up-clause-steps : goal.returns-in-Ok-take_up-clause-steps
returns-in-Ok-take_up-clause-steps g c =
    subst (λ (s : Standing). TakesSteps s.factors (book_of s) c.args.edit.now c.args.steps.now
    c.take_up.new.steps (Ok tt)) c.self.view_is
    (taken-steps c.self.inside.factors c.self.inside.book c.apply_kept.new.self c.args.edit.now c.as_slice-2.result.now
    c.in-Ok-apply_kept.ensures.ok c.in-Ok-apply_kept.ensures.rolls
    (λ point. subst (λ points. Contains points point ↔ IsTouchedIn c.self.inside.factors (rolled_of c.self.inside.book) c.args.edit.now point)
    (sym c.as_slice-2.ensures.value) (c.in-Ok.ensures.touched c.self.inside.factors point c.in-Ok-apply_kept.ensures.answer)) c.args.steps.now c.take_up.new.steps c.in-Ok-take_up.ensures.steps)

pub invariant_of-self-in-Err-take_up : goal.invariant_of-self-in-Err-take_up
invariant_of-self-in-Err-take_up g c =
    let before = c.self.inside.book in
    let back : c.taken_back.new.book.sheet ≡ before.sheet = c.taken_back.ensures.before ∙ c.in-Ok-apply_kept.ensures.back in
    let same = same-lists before c.taken_back.new.book back c.self.invariant.state.graph.numbers_of.rolls c.taken_back.ensures.kept
    (λ roll. c.taken_back.ensures.rolls roll ∙ c.in-Ok-apply_kept.ensures.rolls_back roll)
    (λ roll number is. c.taken_back.ensures.numbers roll number (c.apply_kept.ensures.numbers roll number is)) in
    let kept = c.in-Err-take_up.ensures.err before
    (taken-by c.self.inside.factors before c.apply_kept.new.self _ _ c.self.invariant.valid c.in-Ok-apply_kept.ensures.ok
    c.in-Ok-apply_kept.ensures.rolls c.apply_kept.ensures.numbers c.in-Ok-apply_kept.ensures.answer
    (c.step_of-step.ensures ∙ ap (step_of c.args.edit.now) c.sheet-sheet.ensures.sheet) c.in-Ok.ensures.touched c.in-Ok.ensures.once
    c.as_slice-2.ensures.value)
    c.self.invariant.state c.self.invariant.marks in
    record {
      valid = subst Valid (sym back) c.self.invariant.valid;
      state = state-still c.self.inside.factors before c.taken_back.new.book c.take_up.new.state same kept.0;
      marks = kept.1;
    }

pub invariant_of-self : goal.invariant_of-self
invariant_of-self g c =
    let before = c.self.inside.book in
    let sheet : c.apply_kept.new.self.sheet ≡ before.sheet = c.in-Err-apply_kept.ensures.err in
    record {
      valid = subst Valid (sym sheet) c.self.invariant.valid;
      state = state-still c.self.inside.factors before c.apply_kept.new.self c.self.inside.state
          (same-lists before c.apply_kept.new.self sheet c.self.invariant.state.graph.numbers_of.rolls c.group_seats.ensures.kept
          c.in-Err-apply_kept.ensures.still c.apply_kept.ensures.numbers)
          c.self.invariant.state;
      marks = c.self.invariant.marks;
    }

pub returns-in-Err-apply_kept-clause-err : goal.returns-in-Err-apply_kept-clause-err
returns-in-Err-apply_kept-clause-err g c =
    subst (λ (s : Standing). IsAsBefore s (standing_on c.self.inside.factors c.apply_kept.new.self)) c.self.view_is
    (record { factors = refl; sheet = c.in-Err-apply_kept.ensures.err; rolls = c.in-Err-apply_kept.ensures.still })

pub returns-clause-err : goal.returns-clause-err
returns-clause-err g c =
    subst (λ (s : Standing). IsAsBefore s (standing_on c.self.inside.factors c.taken_back.new.book)) c.self.view_is
    (record {
      factors = refl;
      sheet = c.taken_back.ensures.before ∙ c.in-Ok-apply_kept.ensures.back;
      rolls = λ roll. c.taken_back.ensures.rolls roll ∙ c.in-Ok-apply_kept.ensures.rolls_back roll;
    })

pub returns-in-Err-clause-err : goal.returns-in-Err-clause-err
returns-in-Err-clause-err g c = record { factors = refl; sheet = refl; rolls = λ roll. refl }

pub returns-in-Err-numbers_gone-clause-err : goal.returns-in-Err-numbers_gone-clause-err
returns-in-Err-numbers_gone-clause-err g c = record { factors = refl; sheet = refl; rolls = λ roll. refl }

pub returns-in-Err-clause-answer : goal.returns-in-Err-clause-answer
returns-in-Err-clause-answer g c = tt

pub returns-in-Err-clause-ok : goal.returns-in-Err-clause-ok
returns-in-Err-clause-ok g c = tt

pub returns-in-Err-clause-steps : goal.returns-in-Err-clause-steps
returns-in-Err-clause-steps g c = record { accepted = tt; refused = λ fault e. absurd (cc) }

pub returns-in-Err-numbers_gone-clause-answer : goal.returns-in-Err-numbers_gone-clause-answer
returns-in-Err-numbers_gone-clause-answer g c = tt

pub returns-in-Err-numbers_gone-clause-ok : goal.returns-in-Err-numbers_gone-clause-ok
returns-in-Err-numbers_gone-clause-ok g c = tt

pub returns-in-Err-numbers_gone-clause-steps : goal.returns-in-Err-numbers_gone-clause-steps
returns-in-Err-numbers_gone-clause-steps g c = record { accepted = tt; refused = λ fault e. absurd (cc) }

pub returns-in-Err-apply_kept-clause-answer : goal.returns-in-Err-apply_kept-clause-answer
returns-in-Err-apply_kept-clause-answer g c =
    subst (λ (s : Standing). Refuses (fault_of c.args.edit.now s.sheet) (Err c.refused_for.result)) c.self.view_is
    (refuses (fault_of c.args.edit.now c.self.inside.book.sheet) c.in-Err-apply_kept.fault c.refused_for.result c.refused_for.ensures
    c.in-Err-apply_kept.ensures.answer)

pub returns-in-Err-apply_kept-clause-ok : goal.returns-in-Err-apply_kept-clause-ok
returns-in-Err-apply_kept-clause-ok g c = tt

pub returns-in-Err-apply_kept-clause-steps : goal.returns-in-Err-apply_kept-clause-steps
returns-in-Err-apply_kept-clause-steps g c = record { accepted = tt; refused = λ fault e. refl }

pub returns-clause-answer : goal.returns-clause-answer
returns-clause-answer g c =
    subst (λ (r : Refusal). Refuses (fault_of c.args.edit.now c.args.self.now.sheet) (Err r)) (sym c.taken_back.ensures.refusal) tt

pub returns-clause-ok : goal.returns-clause-ok
returns-clause-ok g c = tt

pub returns-clause-steps : goal.returns-clause-steps
returns-clause-steps g c = record {
  accepted = tt;
  refused = λ fault e. absurd (by c.taken_back.result fault c.taken_back.ensures.refusal (Err c.taken_back.result) refl e);
}
  where
    by : (refusal : Refusal) (fault : Fault) → refusal ≡ refusals.NoMemory → (answer : Result (Unit {0}) Refusal)
        → answer ≡ Err refusal → answer ≡ Err (refusals.Fault fault) → ⊥
    by refusal fault is answer one other = cc
