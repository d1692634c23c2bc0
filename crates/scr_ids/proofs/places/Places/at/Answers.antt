use Rattle.std.proofs.Common.{◌≡◌, ℕ, ◌<◌, List, length, subst, sym, arith}
use Rattle.scr_ids.specs.Ranges.{IsAt}
use Rattle.scr_ids.specs.Kept.{AreInTurn, IsOwner, owners, ranges_in}
use Rattle.scr_ids.specs.declared.places.Owner.{Owner}
use Rattle.scr_ids.specs.declared.places.Places.TheInside.{Inside}
use Rattle.scr_ids.specs.declared.places.Run.{Run}
use Rattle.scr_ids.proofs.Views.{at-within, found-at, found-known, found-none, found-read}
use Rattle.scr_ids.proofs.places.Places.at.Goals as goal

pub returns-then-number-self-clause-absent : goal.returns-then-number-self-clause-absent
returns-then-number-self-clause-absent c = λ _ table k j at.
    let below = at-within c.self.inside c.self.invariant c.args.self.now c.self.view_is table k j c.args.number at in
    omega (arith, below, c.self.invariant.end, c.if-number-self.true)

pub owner_of-owner-requires : goal.owner_of-owner-requires
owner_of-owner-requires c = subst AreInTurn (sym c.deref.ensures.value) c.self.invariant.runs.turn

-- a number below the size is one that a range has
below : (places : Inside) (number : ℕ) → length (owners (ranges_in places)) ≡ places.size → number < places.size
    → number < length (owners (ranges_in places))
below places number end less = omega (arith, end, less)

found : (runs shown : List Run) (number : ℕ) (owner : Owner) → shown ≡ runs → IsOwner shown number owner → IsOwner runs number owner
found runs shown number owner same is = subst (λ rs. IsOwner rs number owner) same is

pub index-requires : goal.index-requires
index-requires c =
    let known = found-known c.self.inside c.self.invariant c.args.self.now c.self.view_is c.args.number
    (below c.self.inside c.args.number c.self.invariant.end (omega (arith, c.if-number-self.false)))
    c.owner_of-owner.result
    (found c.self.inside.runs.items c.deref.result.now c.args.number c.owner_of-owner.result c.deref.ensures.value c.owner_of-owner.ensures) in
    omega (arith, known, c.self.inside.places.ok.0)

pub returns-then-row-count-clause-absent : goal.returns-then-row-count-clause-absent
returns-then-row-count-clause-absent c = λ _.
    let less = below c.self.inside c.args.number c.self.invariant.end (omega (arith, c.if-number-self.false)) in
    let owns = found c.self.inside.runs.items c.deref.result.now c.args.number c.owner_of-owner.result c.deref.ensures.value
    c.owner_of-owner.ensures in
    let row = found-read c.self.inside c.self.invariant c.args.self.now c.self.view_is c.args.number less c.owner_of-owner.result owns
    c.index.result.now c.index.ensures in
    found-none c.self.inside c.self.invariant c.args.self.now c.self.view_is c.args.number less c.owner_of-owner.result owns
    (omega (arith, row, c.if-row-count.true, c.count.ensures.count))

pub returns-clause-there : goal.returns-clause-there
returns-clause-there c =
    let less = below c.self.inside c.args.number c.self.invariant.end (omega (arith, c.if-number-self.false)) in
    let owns = found c.self.inside.runs.items c.deref.result.now c.args.number c.owner_of-owner.result c.deref.ensures.value
    c.owner_of-owner.ensures in
    let row = found-read c.self.inside c.self.invariant c.args.self.now c.self.view_is c.args.number less c.owner_of-owner.result owns
    c.index.result.now c.index.ensures in
    subst (λ k. IsAt c.args.self.now c.owner_of-owner.result.table k c.owner_of-owner.result.family c.args.number) (sym row)
    (found-at c.self.inside c.self.invariant c.args.self.now c.self.view_is c.args.number less c.owner_of-owner.result owns
    (omega (arith, row, c.if-row-count.false, c.count.ensures.count)))
