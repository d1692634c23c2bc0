-- The order of the figures of the whole sheet, which is that of their families.
use Rattle.std.proofs.Common.{◌≡◌, ◌⊎◌, inl, inr, ◌+◌, ◌<◌, true, Contains, refl, arith}
use Rattle.scr_funds.proofs.Members.{IsMember, IsMember-from_Contains, at_member}
use Rattle.scr_sheet.specs.Validity.{Valid}
use Rattle.scr_sheet.specs.declared.sheet.BalanceSheet.{BalanceSheet}
use Rattle.scr_nodes.specs.Live.{whole_lives}
use Rattle.scr_nodes.specs.Sources.{sources_of}
use Rattle.scr_nodes.specs.declared.node.Whole.{Whole}
use Rattle.scr_nodes.specs.declared.node.Node.TheVariants as nodes
use Rattle.scr_nodes.specs.declared.node.Whole.TheVariants as wholes
use Rattle.scr_nodes.proofs.Earlier.{sources-earlier}
use Rattle.scr_nodes.proofs.LiveSources.{IsLive, sources-live}
use Rattle.scr_nodes.proofs.Parts.{part_of}
use Rattle.scr_figure_ids.specs.Order.{turn_of}
use Rattle.scr_figure_ids.proofs.Told.{family-listed}

-- the assets stand among the families of rows, and all others stand after these by their numbers
abbrev Stands : Whole → Type 0
Stands what =
    ((part_of (nodes.Whole what) ≡ 29) × (turn_of what ≡ 0)) ⊎ ((part_of (nodes.Whole what) ≡ 31 + turn_of what) × (0 < turn_of what))

stands : (what : Whole) → whole_lives what ≡ true → Stands what
stands wholes.Assets h = inl (refl, refl)
stands what h = let same = family-listed what h in inr (omega (arith, same), omega arith)

turns : (source what : Whole) → Stands source → Stands what → part_of (nodes.Whole source) < part_of (nodes.Whole what)
    → turn_of source < turn_of what
turns source what (inl s) (inl w) l = absurd (omega (arith, s.0, w.0, l))
turns source what (inl s) (inr w) l = omega (arith, s.1, w.1)
turns source what (inr s) (inl w) l = absurd (omega (arith, s.0, w.0, s.1, l))
turns source what (inr s) (inr w) l = omega (arith, s.0, w.0, l)

pub turn-before : (sheet : BalanceSheet) (what source : Whole) → Valid sheet → whole_lives what ≡ true
    → Contains (sources_of sheet (nodes.Whole what)) (nodes.Whole source) → turn_of source < turn_of what
turn-before sheet what source valid live has =
    turns source what (stands source source-live) (stands what live)
    (at_member (λ n. part_of n < part_of (nodes.Whole what)) (sources_of sheet (nodes.Whole what)) (nodes.Whole source)
    (sources-earlier sheet (nodes.Whole what) (some (stands what live))) member)
  where
    member : IsMember (nodes.Whole source) (sources_of sheet (nodes.Whole what))
    member = IsMember-from_Contains (sources_of sheet (nodes.Whole what)) (nodes.Whole source) has

    source-live : whole_lives source ≡ true
    source-live =
        at_member (IsLive sheet) (sources_of sheet (nodes.Whole what)) (nodes.Whole source)
        (sources-live sheet valid (nodes.Whole what) live) member

    some : Stands what → 0 < part_of (nodes.Whole what)
    some (inl w) = omega (arith, w.0)
    some (inr w) = omega (arith, w.0)
