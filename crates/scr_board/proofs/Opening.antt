-- The words with which a board opens.
use Rattle.std.proofs.Common.{◌≡◌, ℕ, zero, suc, ◌+◌, ◌*◌, ◌<◌, List, [], ◌∷◌, ◌++◌, length, map, get_or, drop, refl, sym, ap, ◌∙◌, arith}
use Rattle.std.proofs.lemmas.List.{append_assoc, length-map}
use Rattle.scr_board.specs.Making.{node_words, opening_words}
use Rattle.scr_board.specs.BoardRounds.{BoardRound, Spot, lists_of, nodes_in}
use Rattle.scr_board.specs.Rule.{AreOpening}
use Rattle.scr_board.proofs.Rows.{drop-next, get-at}

words-long : (rows : List (List Spot)) → length (node_words rows) ≡ 5 * length rows
words-long [] = refl
words-long (row ∷ rows) = let more = words-long rows in omega (arith, more)

words-count : (rows : List (List Spot)) (n : ℕ) → n < length rows → get_or (node_words rows) (5 * n) 0 ≡ length (get_or (map nodes_in rows) n [])
words-count [] n low = absurd (omega (arith, low))
words-count (row ∷ rows) zero low = refl
words-count (row ∷ rows) (suc n) low =
    let next : 5 * suc n ≡ suc (suc (suc (suc (suc (5 * n))))) = omega arith in
    ap (λ i. get_or (node_words (row ∷ rows)) i 0) next ∙ words-count rows n (omega (arith, low))

pub opening : (round : BoardRound) → AreOpening (lists_of round) (opening_words round)
opening round = record {
  long = let long = words-long round.places in let count = length-map round.places nodes_in in omega (arith, long, count);
  ticket = refl;
  left = λ n low.
      let next : 5 * n + 1 ≡ suc (5 * n) = omega arith in
      let count = length-map round.places nodes_in in
      ap (λ i. get_or (opening_words round) i 0) next ∙ words-count round.places n (omega (arith, low, count));
}

pub opening-long : (round : BoardRound) → length (opening_words round) ≡ 5 * length round.places + 1
opening-long round = let long = words-long round.places in omega (arith, long)

-- the words so far with one node more
pub words-next : (places : List (List Spot)) (n count : ℕ) (so_far now all : List ℕ) → n < length places → count ≡ length (nodes_in (get_or places n []))
    → now ≡ so_far ++ count ∷ 0 ∷ 0 ∷ 0 ∷ 0 ∷ [] → so_far ++ node_words (drop n places) ≡ all → now ++ node_words (drop (n + 1) places) ≡ all
words-next places n count so_far now all low is pushed before =
    ap (λ xs. xs ++ node_words (drop (n + 1) places)) pushed
    ∙ append_assoc so_far (count ∷ 0 ∷ 0 ∷ 0 ∷ 0 ∷ []) (node_words (drop (n + 1) places))
    ∙ ap (λ c. so_far ++ c ∷ 0 ∷ 0 ∷ 0 ∷ 0 ∷ node_words (drop (n + 1) places)) is
    ∙ ap (λ rows. so_far ++ node_words rows) (sym (drop-next places n (get_or places n []) (get-at places n [] low)))
    ∙ before
