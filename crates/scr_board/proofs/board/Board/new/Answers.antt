use Rattle.std.proofs.Common.{ℕ, List, [], ◌∷◌, ap, inl, length, sym, ◌∙◌}
use Rattle.scr_board.specs.Rule.{Holds}
use Rattle.scr_board.specs.Views.{blank}
use Rattle.scr_board.proofs.Opening.{opening-long}
use Rattle.scr_board.proofs.board.Board.new.Goals as goal

pub of_words-requires : goal.of_words-requires
unfolding Holds
of_words-requires g c = inl (ap (λ (words : List ℕ). blank words ∷ []) (sym c.as_slice.ensures.value))

pub opened-seat-requires-clause-words : goal.opened-seat-requires-clause-words
opened-seat-requires-clause-words g c =
    c.in_ok-table.ensures.0 ∙ ap (λ (xs : List ℕ). length xs) (c.as_slice.ensures.value ∙ c.in_ok-words.ensures)
    ∙ opening-long (g.G.Graph.round c.args.graph.now)
