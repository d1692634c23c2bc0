-- A passage that is ended.
use Rattle.std.proofs.Common.{◌≡◌, ℕ, ◌+◌, ◌<◌, ◌==◌, true, List, [], ◌∷◌, ◌++◌, length, take, get_or, slice_index, sym, ap, ◌∙◌, append_assoc, append-nil, arith}
use Rattle.std.specs.Global.{Vec}
use Rattle.std.proofs.lemmas.List.{take_more}
use Rattle.std.proofs.lemmas.Grind.{flat_map-append}
use Rattle.scr_line_chunks.specs.Passages.{AreWhole, IsWhole, joined}

-- bytes up to a newline
pub up_to : (bytes : List ℕ) (end : ℕ) → end < length bytes → (slice_index bytes end == 10) ≡ true → IsWhole (take (end + 1) bytes)
up_to bytes end within newline =
    let is : get_or bytes end 0 ≡ 10 = grind (arith, newline) in
    (take end bytes, take_more bytes end 0 within ∙ ap (λ b. take end bytes ++ b ∷ []) is)

-- bytes before whole lines
pub whole_behind : (before lines : List ℕ) → IsWhole lines → IsWhole (before ++ lines)
whole_behind before lines (front, e) = (before ++ front, ap (λ l. before ++ l) e ∙ sym (append_assoc before front (10 ∷ [])))

pub all_whole : (passages : List (Vec ℕ)) (passage : Vec ℕ) → AreWhole passages → IsWhole passage.items
    → AreWhole (passages ++ passage ∷ [])
all_whole [] passage all one = (one, tt)
all_whole (p ∷ passages) passage all one = (all.0, all_whole passages passage all.1 one)

pub joined_next : (passages : List (Vec ℕ)) (passage : Vec ℕ) → joined (passages ++ passage ∷ []) ≡ joined passages ++ passage.items
joined_next passages passage =
    flat_map-append (λ (p : Vec ℕ). p.items) passages (passage ∷ []) ∙ ap (λ l. joined passages ++ l) (append-nil passage.items)
