use Rattle.std.proofs.Common.{◌≡◌, ◌+◌, ◌*◌, ◌-◌, ◌≤◌, ◌<◌, is_some, sym, ap, ◌∙◌, arith, drop}
use Rattle.scr_sheet.specs.Faults.{components_fault}
use Rattle.scr_profile.specs.declared.limits.TheConstants.{MAX_FUND_COMPONENTS}
use Rattle.scr_sheet.proofs.MetNames.{met_names, told-full, told-met, told-next}
use Rattle.scr_sheet.proofs.checks.check_components.Goals as goal

pub returns-then-field : goal.returns-then-field
returns-then-field c =
    let k = c.loop-name in
    let full : MAX_FUND_COMPONENTS ≤ k.name-index = omega (arith, k.invariant.0, c.if-field.true) in
    sym k.invariant.2 ∙ told-full k.field k.name-index k.met.entries c.args.components.now c.loop-name-item.result c.loop-name-test.true c.loop-name-item.is full

pub returns-in-Ok-Some : goal.returns-in-Ok-Some
returns-in-Ok-Some c =
    let k = c.loop-name in
    let room : k.name-index < MAX_FUND_COMPONENTS = omega (arith, k.invariant.0, k.invariant.1, c.if-field.false) in
    sym k.invariant.2 ∙ told-met k.field k.name-index k.met.entries c.args.components.now c.loop-name-item.result c.loop-name-test.true c.loop-name-item.is room (ap is_some (sym c.in-Ok-Some.ensures.old ∙ c.in-Ok-Some.field-0-is))

pub loop-name-preserved : goal.loop-name-preserved
loop-name-preserved c =
    let k = c.loop-name in
    let components = c.args.components.now in
    let room : k.name-index < MAX_FUND_COMPONENTS = omega (arith, k.invariant.0, k.invariant.1, c.if-field.false) in
    let field : k.field + 2 ≡ 2 + 2 * (k.name-index + 1) = omega (arith, k.invariant.0) in
    let next = told-next k.field k.name-index k.met.entries components c.loop-name-item.result c.loop-name-test.true c.loop-name-item.is room (ap is_some (sym c.in-Ok-None.ensures.old ∙ c.in-Ok-None.field-0-is)) in (
      field,
      omega (arith, room),
      ap (λ es. components_fault (k.field + 2) (MAX_FUND_COMPONENTS - (k.name-index + 1)) (met_names es) (drop (k.name-index + 1) components)) c.in-Ok-None.ensures.entries ∙ next ∙ k.invariant.2,
    )
