-- The graph of a book by its numbers: what lives is reckoned from what lives, and each point that lives has one number.
use Rattle.scr_funds.proofs.Members.{Contains-from_IsMember, each-from_members}
use Rattle.scr_book.specs.RolledSheets.{RolledSheet}
use Rattle.scr_book.specs.Rolls.{AreRollsOf}
use Rattle.scr_book.proofs.RollSteps.{distinct-kept}
use Rattle.scr_block_graph.specs.Books.{rolled_of}
use Rattle.scr_block_graph.specs.Graph.{AreRolls, sources_in}
use Rattle.scr_block_graph.proofs.Lives.{sources-live-in}
use Rattle.scr_reachability.specs.Graph.{IsLive}
use Rattle.scr_tree.specs.Points.{book_graph}
use Rattle.scr_tree.specs.Ready.{IsBasis, IsUp, StandsOn}
use Rattle.scr_tree.specs.declared.basis.Basis.{Basis}

pub rolls-are : (book : RolledSheet) → AreRollsOf book.sheet book.rolls → AreRolls (rolled_of book)
rolls-are book kept = record { members = kept.members; once = distinct-kept book.sheet book.rolls kept }

pub book-up : (b : Basis) → IsBasis b → IsUp (book_graph (rolled_of b.inputs.book.now)) (StandsOn b) b.places.now.size
book-up b is = record {
  closed = λ point live.
      each-from_members (IsLive (book_graph (rolled_of b.inputs.book.now))) (sources_in (rolled_of b.inputs.book.now) point)
      (λ source h.
      sources-live-in (rolled_of b.inputs.book.now) is.valid (rolls-are b.inputs.book.now is.graph.numbers_of.rolls) point source live
      (Contains-from_IsMember (sources_in (rolled_of b.inputs.book.now) point) source h));
  numbers = is.graph.numbers_of.numbers;
}
