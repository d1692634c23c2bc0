-- The numbers of the members among the rows so far stand beside their lists.
use Rattle.std.specs.Prelude.{ℕ, List}
use Rattle.std.specs.List.{IsDistinct, position_or_len}
use Rattle.scr_tables.specs.Names.{same_name}
use Rattle.scr_ids.specs.Ranges.{first}
use Rattle.scr_member_lists.specs.Seatings.{AreSeated}
use Rattle.scr_sum_slots.proofs.Filled.{AreFilled}
use Rattle.scr_sum_slots.proofs.firsts.Firsts.of.Given as goal

abbrev pub invariant-loop-k : goal.invariant-loop-k
invariant-loop-k g l = (names : List (List ℕ)) → AreSeated names l.seating → IsDistinct same_name names
    → AreFilled names l.seating (λ name. first l.places l.table (position_or_len (same_name name) names)) l.k l.firsts
