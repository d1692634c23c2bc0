-- A product with a number of millionths, the whole millions apart from the rest.
use Rattle.std.proofs.Common.{◌≡◌, ℕ, ◌+◌, ◌*◌, ◌/◌, ◌%◌, ℤ, pos, ◌+ℤ◌, ◌*ℤ◌, ap, ap₂, ◌∙◌, arith, lit<}
use Rattle.std.proofs.lemmas.Int.{ints}
use Rattle.scr_num.specs.Rounding.{Ends, floor_div, ceil_div, add_ends, scale_ends}
use Rattle.scr_num.proofs.Quotients.{floor_div-times, floor_div-next, ceil_div-times, ceil_div-next}

-- z times t, of which h are the whole millions and r are left
record IsSplit (z : ℤ) (t h r : ℕ) : Type 0 where
  whole : z *ℤ pos t ≡ (z *ℤ pos h) *ℤ pos 1_000_000 +ℤ z *ℤ pos r

split_of : (z : ℤ) (t : ℕ) → IsSplit z t (t / 1_000_000) (t % 1_000_000)
split_of z t = let e : t ≡ 1_000_000 * (t / 1_000_000) + t % 1_000_000 = omega arith in record { whole = times_sum z t (t / 1_000_000) (t % 1_000_000) e }
  where
    times_sum : (z : ℤ) (t h r : ℕ) → t ≡ 1_000_000 * h + r → z *ℤ pos t ≡ (z *ℤ pos h) *ℤ pos 1_000_000 +ℤ z *ℤ pos r
    times_sum z t h r e = rw e (omega (arith, ints))

floor_of_one : (z : ℤ) → floor_div z 1 ≡ z
floor_of_one z = let below = floor_div-times z 1 (lit< tt) in let next = floor_div-next z 1 (lit< tt) in omega (arith, ints, below, next)

ceil_of_one : (z : ℤ) → ceil_div z 1 ≡ z
ceil_of_one z = let above = ceil_div-times z 1 (lit< tt) in let next = ceil_div-next z 1 (lit< tt) in omega (arith, ints, above, next)

floor_sum : (w a b : ℤ) → w ≡ a *ℤ pos 1_000_000 +ℤ b → a +ℤ floor_div b 1_000_000 ≡ floor_div w 1_000_000
floor_sum w a b e =
    let p = floor_div-times b 1_000_000 (lit< tt) in
    let q = floor_div-next b 1_000_000 (lit< tt) in
    let r = floor_div-times w 1_000_000 (lit< tt) in
    let s = floor_div-next w 1_000_000 (lit< tt) in
    omega (arith, ints, p, q, r, s, e)

ceil_sum : (w a b : ℤ) → w ≡ a *ℤ pos 1_000_000 +ℤ b → a +ℤ ceil_div b 1_000_000 ≡ ceil_div w 1_000_000
ceil_sum w a b e =
    let p = ceil_div-times b 1_000_000 (lit< tt) in
    let q = ceil_div-next b 1_000_000 (lit< tt) in
    let r = ceil_div-times w 1_000_000 (lit< tt) in
    let s = ceil_div-next w 1_000_000 (lit< tt) in
    omega (arith, ints, p, q, r, s, e)

pub millions_and_rest : (e : Ends) (t : ℕ) → add_ends (scale_ends e (t / 1_000_000) 1) (scale_ends e (t % 1_000_000) 1_000_000) ≡ scale_ends e t 1_000_000
millions_and_rest e t =
    ap₂ (λ (x : ℤ) (y : ℤ). let r : Ends = record { low = x; high = y } in r)
    (ap (λ (x : ℤ). x +ℤ floor_div (e.low *ℤ pos (t % 1_000_000)) 1_000_000) (floor_of_one (e.low *ℤ pos (t / 1_000_000)))
    ∙ floor_sum (e.low *ℤ pos t) (e.low *ℤ pos (t / 1_000_000)) (e.low *ℤ pos (t % 1_000_000)) (split_of e.low t).whole)
    (ap (λ (x : ℤ). x +ℤ ceil_div (e.high *ℤ pos (t % 1_000_000)) 1_000_000) (ceil_of_one (e.high *ℤ pos (t / 1_000_000)))
    ∙ ceil_sum (e.high *ℤ pos t) (e.high *ℤ pos (t / 1_000_000)) (e.high *ℤ pos (t % 1_000_000)) (split_of e.high t).whole)
