-- The words that the round lists for a node are those of its figure.
use Rattle.std.proofs.Common.{◌≡◌, ℕ, zero, suc, ◌<◌, List, [], ◌∷◌, Some, None, length, map, get_or, slice_get, refl, ap, ◌∙◌, arith}
use Rattle.scr_num.specs.Rounding.{Ends}
use Rattle.scr_board.specs.declared.lists.Round.{Round}
use Rattle.scr_board.specs.Rounds.{word_of}
use Rattle.scr_board.specs.BoardRounds.{BoardRound, IsBoardRound, lists_of}
use Rattle.scr_board.specs.Words.{words_of}

words-at : (worked : List Ends) (n : ℕ) (e : Ends) → slice_get worked n ≡ Some e → get_or (map words_of worked) n [] ≡ words_of e
words-at [] n e at = absurd (no at)
  where
    no : None ≡ Some e → ⊥
    no f = cc
words-at (x ∷ worked) zero e at = ap words_of (same at)
  where
    same : Some x ≡ Some e → x ≡ e
    same f = cc
words-at (x ∷ worked) (suc n) e at = words-at worked n e at

-- word j of the figure of a node
pub figure-word : (round : BoardRound) (lists : Round) (n j : ℕ) (e : Ends) → lists ≡ lists_of round → slice_get round.worked n ≡ Some e
    → word_of lists n j ≡ get_or (words_of e) j 0
figure-word round lists n j e is at = ap (λ (R : Round). word_of R n j) is ∙ ap (λ (ws : List ℕ). get_or ws j 0) (words-at round.worked n e at)

-- a node of the round has a figure
pub figure-of : (round : BoardRound) (n : ℕ) → IsBoardRound round → n < length round.places → (e : Ends) × (slice_get round.worked n ≡ Some e)
figure-of round n formed node = found round.worked n (let long = formed.long in omega (arith, long, node))
  where
    found : (worked : List Ends) (k : ℕ) → k < length worked → (e : Ends) × (slice_get worked k ≡ Some e)
    found [] k low = absurd (omega (arith, low))
    found (x ∷ worked) zero low = (x, refl)
    found (x ∷ worked) (suc k) low = found worked k (omega (arith, low))
