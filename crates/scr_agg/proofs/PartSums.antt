-- What each part of some lies within, and a step of the sums along a row and over the rows.
use Rattle.std.proofs.Common.{◌≡◌, ℕ, zero, suc, ◌+◌, ◌*◌, ◌<◌, ◌≤◌, ℤ, pos, negsuc, ◌≤ℤ◌, List, [], ◌∷◌, length, get_or, map, unsigned_abs, refl, sym, subst, arith}
use Rattle.std.proofs.lemmas.Int.{ints}
use Rattle.std.proofs.lemmas.Nat.{mul-le}
use Rattle.std.proofs.lemmas.List.{length-map}
use Rattle.scr_num.specs.Table.{row_sum}
use Rattle.scr_num.specs.Rounding.{or_zero}
use Rattle.scr_num.specs.declared.span.Span.{Span}
use Rattle.scr_agg.specs.declared.form.Side.{Side}
use Rattle.scr_agg.specs.declared.form.Side.TheVariants.{Low, High}
use Rattle.scr_agg.specs.declared.form.Sign.{Sign}
use Rattle.scr_agg.specs.Correlated.{NotNegative, total_high}
use Rattle.scr_agg.specs.Forms.{end_of, weight_of, weighed, row_of}
use Rattle.scr_agg.proofs.Sums.{row_from, sum_from, row_from-next, row_step, sum_step}

above : (z : ℤ) → z ≤ℤ pos (or_zero z)
above (pos n) = omega (arith, ints)
above (negsuc n) = omega (arith, ints)

-- its low end is not negative, and its high one at most the sum of all
pub part_within : (parts : List Span) (j : ℕ) (part : Span) → NotNegative parts → j < length parts
    → part ≡ get_or parts j part
    → (pos 0 ≤ℤ part.low) × (part.high ≤ℤ pos (total_high parts))
part_within [] j part h lt e = absurd (omega arith)
part_within (p ∷ parts) zero part h lt e =
    subst (λ (q : Span). (pos 0 ≤ℤ q.low) × (q.high ≤ℤ pos (total_high (p ∷ parts)))) (sym e)
    (h.0, omega (arith, ints, above p.high))
part_within (p ∷ parts) (suc j) part h lt e =
    let rest = part_within parts j part h.1 (omega arith) e in
    (rest.0, omega (arith, ints, rest.1))

no_end : (low high : ℤ) → pos 0 ≤ℤ low → low ≤ℤ high → unsigned_abs high ≡ 0 → unsigned_abs low ≡ 0
no_end (pos l) (pos h) a b e = omega (arith, ints)
no_end (pos l) (negsuc h) a b e = absurd (omega (arith, ints))
no_end (negsuc l) high a b e = absurd (omega (arith, ints))

-- a part whose high end is 0 has no low one
pub no_low_end : (part : Span) → pos 0 ≤ℤ part.low → end_of High part ≡ 0 → end_of Low part ≡ 0
no_low_end part h e = no_end part.low part.high h part.ordered e

row_scaled : (sign : Sign) (x : ℕ) (cells : List ℤ) (ys : List ℕ)
    → row_sum 0 ◌+◌ (weighed sign) x cells ys ≡ row_sum 0 ◌+◌ (weighed sign) 1 cells ys * x
unfolding row_sum
row_scaled sign x [] ys = omega arith
row_scaled sign x (c ∷ cells) [] = omega arith
row_scaled sign x (c ∷ cells) (y ∷ ys) = omega (arith, row_scaled sign x cells ys)

pub small_product : (w y : ℕ) → w < 65536 → y < 18_446_744_073_709_551_616 → w * y < 1_208_925_819_614_629_174_706_176
small_product w y h k =
    let most = mul-le w y 65535 18_446_744_073_709_551_615 (omega arith) (omega arith) in omega (arith, most)

module _ (side : Side) (sign : Sign) (parts : List Span) where
  -- one step along a row, and how large the sum gets
  pub row_next : (cells : List ℤ) (j sum w y : ℕ) (part : Span) → j < length cells → j < length parts
      → part ≡ get_or parts j part → w ≡ weight_of sign (get_or cells j (pos 0)) → y ≡ end_of side part
      → w < 65536 → y < 18_446_744_073_709_551_616
      → sum + row_from (weighed sign) 1 cells (map (end_of side) parts) j
      ≡ row_from (weighed sign) 1 cells (map (end_of side) parts) 0
      → sum ≤ j * 1_208_925_819_614_629_174_706_176
      → ((sum + w * y) + row_from (weighed sign) 1 cells (map (end_of side) parts) (j + 1)
      ≡ row_from (weighed sign) 1 cells (map (end_of side) parts) 0)
      × (sum + w * y ≤ (j + 1) * 1_208_925_819_614_629_174_706_176)
  row_next cells j sum w y part h k e ew ey small low so_far most =
      let product = small_product w y small low in (
        rw (ew, ey) (omega (arith, row_step (weighed sign) 1 cells (end_of side) parts j sum part h k e so_far)),
        omega (arith, product),
      )

  pub row_skip : (cells : List ℤ) (j sum w : ℕ) → j < length cells → j < length parts
      → w ≡ weight_of sign (get_or cells j (pos 0)) → w ≡ 0
      → sum + row_from (weighed sign) 1 cells (map (end_of side) parts) j
      ≡ row_from (weighed sign) 1 cells (map (end_of side) parts) 0
      → sum + row_from (weighed sign) 1 cells (map (end_of side) parts) (j + 1)
      ≡ row_from (weighed sign) 1 cells (map (end_of side) parts) 0
  row_skip cells j sum w h k ew none so_far =
      let next = row_from-next (weighed sign) 1 cells (map (end_of side) parts) j h (rw length-map k) in
      let weightless : weight_of sign (get_or cells j (pos 0)) ≡ 0 = omega arith in
      let here : weight_of sign (get_or cells j (pos 0)) * (1 * get_or (map (end_of side) parts) j 0) ≡ 0 =
      rw weightless (omega arith) in
      omega (arith, next, here)

  -- one step over the rows
  pub form_next : (rows : List (List ℤ)) (i sum r x : ℕ) (part : Span) → i < length rows → i < length parts
      → part ≡ get_or parts i part → r ≡ row_of side sign 1 (get_or rows i []) parts → x ≡ end_of side part
      → sum + sum_from (weighed sign) rows (map (end_of side) parts) (map (end_of side) parts) i
      ≡ sum_from (weighed sign) rows (map (end_of side) parts) (map (end_of side) parts) 0
      → (sum + r * x) + sum_from (weighed sign) rows (map (end_of side) parts) (map (end_of side) parts) (i + 1)
      ≡ sum_from (weighed sign) rows (map (end_of side) parts) (map (end_of side) parts) 0
  form_next rows i sum r x part h k e er ex so_far =
      rw (er, ex)
      (omega (
        arith,
        sum_step (weighed sign) rows (end_of side) parts i sum part h k e so_far,
        row_scaled sign (end_of side part) (get_or rows i []) (map (end_of side) parts),
      ))

  pub form_skip : (rows : List (List ℤ)) (i sum : ℕ) (part : Span) → i < length rows → i < length parts
      → part ≡ get_or parts i part → end_of side part ≡ 0
      → sum + sum_from (weighed sign) rows (map (end_of side) parts) (map (end_of side) parts) i
      ≡ sum_from (weighed sign) rows (map (end_of side) parts) (map (end_of side) parts) 0
      → sum + sum_from (weighed sign) rows (map (end_of side) parts) (map (end_of side) parts) (i + 1)
      ≡ sum_from (weighed sign) rows (map (end_of side) parts) (map (end_of side) parts) 0
  form_skip rows i sum part h k e none so_far =
      omega (arith, form_next rows i sum (row_of side sign 1 (get_or rows i []) parts) 0 part h k e refl (sym none) so_far)
