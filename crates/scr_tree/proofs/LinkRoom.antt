-- Room for links that come next.
use Rattle.std.proofs.Common.{◌≡◌, ℕ, ◌+◌, ◌<◌, ◌≤◌, ◌^◌, List, max, All, Option, Some, None, IfSome, SomeIff, Result, Ok, Err, OnOk, OnErr, ap, arith}
use Rattle.std.proofs.lemmas.List.Elements.{All-weaker}
use Rattle.scr_links.specs.Edges.{Linked, linked}

-- what is said of the number above the greatest, if there is one
module _ (last : ℕ) (found : Option ℕ) (told : SomeIff found (last + 1 < 2 ^ 32) (last + 1)) where
  pub above-last : (number : ℕ) → number ≤ last → IfSome found (λ above. number < above)
  above-last number low = by found told
    where
      by : (f : Option ℕ) → SomeIff f (last + 1 < 2 ^ 32) (last + 1) → IfSome f (λ above. number < above)
      by None none = tt
      by (Some above) is = let same = is.1 in omega (arith, same, low)

  pub all-above : (sources : List ℕ) → All (λ source. source ≤ last) sources → IfSome found (λ above. All (λ source. source < above) sources)
  all-above sources all = by found told
    where
      by : (f : Option ℕ) → SomeIff f (last + 1 < 2 ^ 32) (last + 1) → IfSome f (λ above. All (λ source. source < above) sources)
      by None none = tt
      by (Some above) is =
          All-weaker (λ source. source ≤ last) (λ source. source < above) (λ source low. let same = is.1 in omega (arith, same, low)) sources all

  pub least-above : (number : ℕ) (sources : List ℕ)
      → ((size : ℕ) → number < size → All (λ source. source < size) sources → last < size)
      → IfSome found (λ above. (size : ℕ) → number < size → All (λ source. source < size) sources → above ≤ size)
  least-above number sources least = by found told
    where
      by : (f : Option ℕ) → SomeIff f (last + 1 < 2 ^ 32) (last + 1)
          → IfSome f (λ above. (size : ℕ) → number < size → All (λ source. source < size) sources → above ≤ size)
      by None none = tt
      by (Some above) is = λ size low all. let same = is.1 in let less = least size low all in omega (arith, same, less)

module _ {A E : Type 0} (result : Result A E) (old new : Linked) (more size : ℕ)
    (ok : OnOk result (new ≡ linked old.edges (max old.spare more) (max old.size size))) (err : OnErr result (new ≡ old)) where
  pub room-edges : new.edges ≡ old.edges
  room-edges = by result ok err
    where
      by : (r : Result A E) → OnOk r (new ≡ linked old.edges (max old.spare more) (max old.size size)) → OnErr r (new ≡ old) → new.edges ≡ old.edges
      by (Ok a) is none = ap (λ (l : Linked). l.edges) is
      by (Err e) none is = ap (λ (l : Linked). l.edges) is

  -- to a size that most keeps to
  pub room-size : (most : ℕ) → size ≤ most → old.size ≤ most → new.size ≤ most
  room-size most low small = by result ok err
    where
      by : (r : Result A E) → OnOk r (new ≡ linked old.edges (max old.spare more) (max old.size size)) → OnErr r (new ≡ old) → new.size ≤ most
      by (Ok a) is none = let same = ap (λ (l : Linked). l.size) is in omega (arith, same, low, small)
      by (Err e) none is = let same = ap (λ (l : Linked). l.size) is in omega (arith, same, small)
