use Rattle.std.proofs.Common.{◌≡◌, Bool, true, false, ◌||◌, refl, sym}
use Rattle.std.specs.Prelude.{IsTrue}
use Rattle.scr_nodes.specs.Live.{is_live}
use Rattle.scr_nodes.proofs.laws.changes.Goals as goal

either-way : (a b : Bool) → IsTrue (a || b) → IsTrue (b || a)
either-way true true h = h
either-way true false h = h
either-way false true h = h
either-way false false h = h

pub returns-clause-none : goal.returns-clause-none
returns-clause-none c = λ factors sheet node h. h.changed (record { live = refl; own = refl; sources = refl })

pub returns-clause-back : goal.returns-clause-back
returns-clause-back c = λ factors before after node h. record {
  live = either-way (is_live before node) (is_live after node) h.live;
  changed = λ same. h.changed (record { live = sym same.live; own = sym same.own; sources = sym same.sources });
}
