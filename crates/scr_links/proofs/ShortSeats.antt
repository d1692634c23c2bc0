-- Seats in 16 bits tell those in 32.
use Rattle.std.proofs.Common.{◌≡◌, ℕ, zero, suc, ◌+◌, ◌-◌, ◌<◌, List, ◌∷◌, ◌++◌, length, map, min, replicate, set, refl, ap, sym, ◌∙◌, arith, ne_eqb}
use Rattle.std.proofs.lemmas.Bool.{cond-false}
use Rattle.std.proofs.lemmas.List.{length-map, map-append, map-set}
use Rattle.scr_links.specs.Chains.{none}
use Rattle.scr_links.specs.Seats.{long_seat, short_none}

-- a seat below the room is not the number that tells of none
pub long_set : (seats : List ℕ) (block seat memory : ℕ) → seat < min short_none memory
    → map long_seat (set seats block seat) ≡ set (map long_seat seats) block seat
long_set seats block seat memory low = map-set long_seat seats block seat ∙ ap (set (map long_seat seats) block) same
  where
    same : long_seat seat ≡ seat
    same = cond-false _ _ _ (ne_eqb seat short_none (λ e. absurd (omega (arith, e, low))))

long_none : (n : ℕ) → map long_seat (replicate n short_none) ≡ replicate n none
long_none zero = refl
long_none (suc n) = ap (λ seats. none ∷ seats) (long_none n)

pub long_filled : (seats : List ℕ) (block : ℕ)
    → map long_seat (seats ++ replicate (block + 1 - length seats) short_none)
    ≡ map long_seat seats ++ replicate (block + 1 - length (map long_seat seats)) none
long_filled seats block =
    map-append long_seat seats (replicate (block + 1 - length seats) short_none)
    ∙ ap (λ more. map long_seat seats ++ more) (long_none (block + 1 - length seats))
    ∙ ap (λ size. map long_seat seats ++ replicate (block + 1 - size) none) (sym (length-map seats long_seat))
