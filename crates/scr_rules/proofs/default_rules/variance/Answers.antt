use Rattle.std.proofs.Common.{ℕ, ◌*◌, ◌≤◌, List, [], ◌∷◌, slice_index, lit<}
use Rattle.scr_rules.proofs.DefaultCode.{square-within}
use Rattle.scr_rules.proofs.DefaultSizes.{six}
use Rattle.scr_rules.proofs.default_rules.variance.Goals as goal

pub variance-requires-clause-squares : goal.variance-requires-clause-squares
variance-requires-clause-squares c =
    let losses : List ℕ = c.loss.result ∷ c.loss-2.result ∷ c.loss-3.result ∷ c.loss-4.result ∷ c.loss-5.result ∷ c.loss-6.result ∷ [] in
    let squares : List ℕ = c.square.result ∷ c.square-2.result ∷ c.square-3.result ∷ c.square-4.result ∷ c.square-5.result ∷ c.square-6.result ∷ [] in
    six (λ k. slice_index squares k ≤ slice_index losses k * slice_index losses k)
    (square-within c.loss.result c.square.result _ _ _ _ c.loss.ensures.value c.square.ensures.value c.at.ensures c.at-7.ensures (c.requires.squares 0 (lit< tt)))
    (square-within c.loss-2.result c.square-2.result _ _ _ _ c.loss-2.ensures.value c.square-2.ensures.value c.at-2.ensures c.at-8.ensures (c.requires.squares 1 (lit< tt)))
    (square-within c.loss-3.result c.square-3.result _ _ _ _ c.loss-3.ensures.value c.square-3.ensures.value c.at-3.ensures c.at-9.ensures (c.requires.squares 2 (lit< tt)))
    (square-within c.loss-4.result c.square-4.result _ _ _ _ c.loss-4.ensures.value c.square-4.ensures.value c.at-4.ensures c.at-10.ensures (c.requires.squares 3 (lit< tt)))
    (square-within c.loss-5.result c.square-5.result _ _ _ _ c.loss-5.ensures.value c.square-5.ensures.value c.at-5.ensures c.at-11.ensures (c.requires.squares 4 (lit< tt)))
    (square-within c.loss-6.result c.square-6.result _ _ _ _ c.loss-6.ensures.value c.square-6.ensures.value c.at-6.ensures c.at-12.ensures (c.requires.squares 5 (lit< tt)))
