-- How large what is told of a turn may be.
use Rattle.std.proofs.Common.{◌≡◌, ℕ, ◌+◌, ◌-◌, ◌/◌, ◌%◌, ◌≤◌, true, eqb, Contains, Some, length, slice_get, arith}
use Rattle.std.proofs.lemmas.Option.{get_or_from_slice_get, slice_get_within}
use Rattle.scr_sum_tree.specs.Blocks.{blocks_at}
use Rattle.scr_sum_tree.specs.ChangedBlocks.{grew, came, went}
use Rattle.scr_sum_tree.specs.declared.blocks.Level.{Level}
use Rattle.scr_sum_tree.specs.declared.blocks.Level.TheVariants as levels
use Rattle.scr_sum_tree.proofs.BlockChanges.{grew-tells, went-tells}
use Rattle.scr_sum_tree.proofs.ChangedLists.{coming-few, coming-listed, leaving-few, leaving-listed}
use Rattle.scr_sum_tree.proofs.Partition.{blocks-fewer}
use Rattle.std.proofs.lemmas.Bool.{and_parts}
use Rattle.scr_block_graph.specs.Turns.{IsSmall, IsWithin, changed_at, count_after}
use Rattle.scr_block_graph.specs.declared.turns.Step.{Step}
use Rattle.scr_block_graph.specs.declared.turns.Step.TheVariants as steps
use Rattle.scr_block_graph.specs.declared.turns.Turn.{Turn}

-- four at most on a level
few-at : (count : ℕ) (step : Step) (level : Level) → length (changed_at count step level) ≤ 4
few-at count steps.Stays level = omega arith
few-at count steps.Comes levels.First = omega (arith, coming-few count)
few-at count steps.Comes levels.Second = omega (arith, coming-few count)
few-at count (steps.Leaves place) levels.First = omega (arith, leaving-few count place)
few-at count (steps.Leaves place) levels.Second = omega (arith, leaving-few count place)

pub level-few : (turn : Turn) (level : Level) → IsSmall turn → length (changed_at turn.count turn.step level) ≤ 4
level-few turn level small = few-at turn.count turn.step level

-- the number of a Block that changes is no greater than that of the members
came-small : (count : ℕ) (level : Level) (i : ℕ) → came count level i ≡ true → i ≤ count + 1
came-small count levels.First i t = let tells = (grew-tells count i).0 t in omega (arith, tells.0.1)
came-small count levels.Second i t =
    let tells = (grew-tells (count / 32) i).0 (and_parts (eqb (count % 32) 0) (grew (count / 32) i) t).1 in omega (arith, tells.0.1)

went-small : (count place : ℕ) (level : Level) (i : ℕ) → went count place level i ≡ true → i ≤ count + 1
went-small count place levels.First i t = let tells = (went-tells count place i).0 t in omega (arith, tells.0.1)
went-small count place levels.Second i t = let small = came-small (count - 1) levels.Second i t in omega (arith, small)

small-in : (count : ℕ) (step : Step) → IsWithin count step → (level : Level) (i : ℕ) → Contains (changed_at count step level) i → i ≤ count + 1
small-in count steps.Stays within level i h = absurd (omega (arith, h.1))
small-in count steps.Comes within level i h = came-small count level i ((coming-listed count level i).1 h)
small-in count (steps.Leaves place) within level i h = went-small count place level i ((leaving-listed count place within level i).1 h)

pub index-small : (turn : Turn) → IsSmall turn → (level : Level) (k i : ℕ) → slice_get (changed_at turn.count turn.step level) k ≡ Some i → i ≤ 20001
index-small turn small level k i at =
    let most = small-in turn.count turn.step small.within level i
    (k, slice_get_within (changed_at turn.count turn.step level) k i at, get_or_from_slice_get (changed_at turn.count turn.step level) k i i at) in
    omega (arith, most, small.few)

-- there are no more Blocks than members
pub blocks-small : (count : ℕ) (level : Level) (most : ℕ) → count ≤ most → blocks_at count level ≤ most
blocks-small count levels.First most few = omega (arith, few, blocks-fewer count)
blocks-small count levels.Second most few = omega (arith, few, blocks-fewer count)

pub later-small : (turn : Turn) → IsSmall turn → count_after turn.count turn.step ≤ 20001
later-small turn small = by turn.step
  where
    by : (step : Step) → count_after turn.count step ≤ 20001
    by steps.Stays = omega (arith, small.few)
    by steps.Comes = omega (arith, small.few)
    by (steps.Leaves place) = omega (arith, small.few)
