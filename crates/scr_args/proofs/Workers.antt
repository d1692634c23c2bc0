-- The number of workers that words say is one from 1 to 64.
use Rattle.std.proofs.Common.{◌≡◌, ◌≤◌, ℕ, Bool, true, false, ◌&&◌, cond, nat_le, List, Option, Some, None, option_map, option_and_then, String, refl, sym, ap, subst, ◌∙◌}
use Rattle.std.specs.Global.{Global}
use Rattle.std.specs.Prelude.{codes, string_bytes, map}
use Rattle.std.proofs.lemmas.Bool.{leb-true}
use Rattle.scr_args.specs.Forms.{Said, form, said, said_by, workers_of}
use Rattle.scr_args.specs.Numbers.{from_1_to_64, made_in, number_in, workers_in}
use Rattle.scr_args.specs.Options.{Given, options_in, value_of}

abbrev Within : ℕ → Type 0
Within number = (1 ≤ number) × (number ≤ 64)

from-within : (n m : ℕ) → from_1_to_64 n ≡ Some m → Within m
from-within n m e = by (nat_le 1 n) (nat_le n 64) refl refl e
  where
    by : (a b : Bool) → nat_le 1 n ≡ a → nat_le n 64 ≡ b → cond (a && b) (Some n) None ≡ Some m → Within m
    by true true p q h = let is : n ≡ m = cc in subst Within is (leb-true 1 n p, leb-true n 64 q)
    by true false p q h = absurd (cc)
    by false b p q h = absurd (cc)

workers-within : (digits : List ℕ) (m : ℕ) → workers_in digits ≡ Some m → Within m
workers-within digits m e = by (number_in 2 digits) e
  where
    by : (o : Option ℕ) → option_and_then from_1_to_64 o ≡ Some m → Within m
    by None h = absurd (cc)
    by (Some n) h = from-within n m h

module _ (make : ℕ → Said) (own : (n : ℕ) → workers_of (make n) ≡ n) (digits : List ℕ) where
  mapped : (s : Said) → option_map make (workers_in digits) ≡ Some s → Within (workers_of s)
  mapped s e = by (workers_in digits) refl e
    where
      by : (o : Option ℕ) → workers_in digits ≡ o → option_map make o ≡ Some s → Within (workers_of s)
      by None p h = absurd (cc)
      by (Some n) p h =
          let is : make n ≡ s = cc in
          subst Within (sym (own n) ∙ ap workers_of is) (workers-within digits n p)

form-within : (factors book edits made workers : Option (List ℕ)) (s : Said)
    → form factors book edits made workers ≡ Some s → Within (workers_of s)
form-within (Some factors) (Some book) (Some edits) None (Some workers) s h =
    mapped (Said.Files factors book edits) (λ n. refl) workers s h
form-within (Some factors) None None (Some made) (Some workers) s h = by (made_in made) h
  where
    by : (o : Option ℕ) → option_and_then (λ n. option_map (Said.Make factors n) (workers_in workers)) o ≡ Some s
        → Within (workers_of s)
    by None e = absurd (cc)
    by (Some n) e = mapped (Said.Make factors n) (λ k. refl) workers s e
form-within factors book edits made workers s h = absurd (cc)

pub within : (words : List (String Global)) (s : Said) → said words ≡ Some s
    → (1 ≤ workers_of s) × (workers_of s ≤ 64)
unfolding said
within words s e = by (options_in (map string_bytes words)) e
  where
    by : (o : Option (List Given)) → option_and_then (λ options. said_by (value_of options)) o ≡ Some s
        → Within (workers_of s)
    by None h = absurd (cc)
    by (Some options) h =
        form-within (value_of options (codes "factors")) (value_of options (codes "book"))
        (value_of options (codes "edits")) (value_of options (codes "make")) (value_of options (codes "workers")) s h
