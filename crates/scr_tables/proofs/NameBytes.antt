-- A name's bytes in their 32 places.
use Rattle.std.proofs.Common.{◌≡◌, ℕ, suc, ◌-◌, ◌<◌, ◌≤◌, ◌++◌, ◌∷◌, List, [], length, take, set, get_or, replicate, arith, ap, sym, ◌∙◌, ◌+◌, length-append}
use Rattle.std.proofs.Math.Seq.{take-append_seam}
use Rattle.std.proofs.lemmas.List.{length-replicate, length-take-le, take_more, set_at, append_assoc}
use Rattle.scr_tables.specs.Names.{padded}

-- the bytes are read back, and the places stay 32
pub padded-cells : (text cells : List ℕ) → length text ≤ 32 → cells ≡ padded text
    → (length text ≤ 32) × (cells ≡ padded (take (length text) cells)) × (length cells ≡ 32)
padded-cells text cells short is =
    let front : take (length text) cells ≡ text =
    ap (take (length text)) is ∙ take-append_seam text (replicate (32 - length text) 0) in
    let zeros : List ℕ = replicate (32 - length text) 0 in
    let rest : length zeros ≡ 32 - length text = length-replicate (32 - length text) 0 in
    let long : length cells ≡ length text + length zeros = ap length is ∙ length-append text zeros in
    (short, is ∙ ap padded (sym front), omega arith)

-- one byte more, in front of the zeros
pub padded-next : (xs : List ℕ) (n : ℕ) → n < length xs → n < 32
    → set (padded (take n xs)) n (get_or xs n 0) ≡ padded (take (n + 1) xs)
padded-next xs n within small =
    let front = take n xs in
    let b = get_or xs n 0 in
    let rest : List ℕ = replicate (31 - n) 0 in
    let long : length front ≡ n = length-take-le n xs (omega (arith, within)) in
    let more : take (n + 1) xs ≡ front ++ (b ∷ []) = take_more xs n 0 within in
    let longer : length (take (n + 1) xs) ≡ n + 1 = length-take-le (n + 1) xs (omega (arith, within)) in
    let room : 32 - length front ≡ suc (31 - n) = omega (arith, long, small) in
    let zeros : padded front ≡ front ++ (0 ∷ rest) = ap (λ k. front ++ replicate k 0) room in
    let left : 32 - length (take (n + 1) xs) ≡ 31 - n = omega (arith, longer) in
    let fewer : padded (take (n + 1) xs) ≡ take (n + 1) xs ++ rest = ap (λ k. take (n + 1) xs ++ replicate k 0) left in
    ap (λ cells. set cells n b) zeros
    ∙ set_at front 0 rest b n long
    ∙ sym (fewer ∙ ap (λ t. t ++ rest) more ∙ append_assoc front (b ∷ []) rest)

-- the bytes in front of the zeros
pub padded-front : (xs : List ℕ) (n : ℕ) → n ≤ length xs → take n (padded (take n xs)) ≡ take n xs
padded-front xs n within =
    let long : length (take n xs) ≡ n = length-take-le n xs within in
    ap (λ k. take k (padded (take n xs))) (sym long)
    ∙ take-append_seam (take n xs) (replicate (32 - length (take n xs)) 0)
