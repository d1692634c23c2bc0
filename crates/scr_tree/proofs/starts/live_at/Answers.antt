use Rattle.std.proofs.Common.{◌≡◌, true, false, refl, sym, ap, subst, ◌∙◌}
use Rattle.std.specs.Prelude.{IsNone}
use Rattle.scr_nodes.specs.Live.{is_live}
use Rattle.scr_tree.proofs.starts.live_at.Goals as goal
use Rattle.scr_tree.proofs.starts.live_at.Goals.{in_default-via-in-Some+else-is_live, in_default-via-in_default}

pub returns-in_default-clause-absent : goal.returns-in_default-clause-absent
returns-in_default-clause-absent c = λ e live.
    elim c.in_default.branch [
      | in_default-via-in-Some+else-is_live w ↦
          let one = c.requires.numbers.exact c.args.number w.in-Some.node live.0 w.in-Some.ensures.there live.1 in
          let lives : is_live c.args.view.sheet.now w.in-Some.node ≡ true = ap (is_live c.args.view.sheet.now) one ∙ live.2 in
          let clash : true ≡ false = sym lives ∙ (sym w.is_live.ensures ∙ w.if-is_live.false) in absurd (cc)
      | in_default-via-in_default w ↦ c.node_at.ensures.absent (subst (λ found. IsNone found) (sym w.in_default.is) refl) live.0 live.1
    ]
