use Rattle.std.proofs.Common.{sym, subst}
use Rattle.scr_sum_slots.specs.Parts.{Parted}
use Rattle.scr_sum_slots.proofs.Fronts.{Still, came, still-made, still-same, still-trans}
use Rattle.scr_sum_slots.proofs.parts.Parts.come.Goals as goal
use Rattle.scr_sum_slots.proofs.parts.Parts.come.Goals.{then-is_full+in_ok-make, else-is_full}

pub returns-clause-ok : goal.returns-clause-ok
returns-clause-ok c =
    let before = c.args.self.now in
    let same = still-same before c.reserve.new.self c.reserve.ensures.same in
    let still : Still before c.if-is_full.self = elim c.if-is_full.branch [
      | then-is_full+in_ok-make w ↦ subst (λ (v : Parted). Still before v) (sym w.self-is)
          (still-trans before c.reserve.new.self w.make.new.self same (still-made c.reserve.new.self w.make.new.self w.in_ok-make.ensures.ok))
      | else-is_full w ↦ subst (λ (v : Parted). Still before v) (sym w.self-is) same
    ] in
    came c.args.list c.args.level before c.if-is_full.self c.go_back.new.self still c.go_back.ensures
