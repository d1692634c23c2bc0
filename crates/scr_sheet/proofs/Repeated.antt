-- Arrays that repeat one value, as `[value; n]` makes them: what a proof of machine code asks of them.
use Rattle.std.proofs.Common.{ℕ, zero, suc, [], ◌∷◌, refl, T, replicate}
use lib.ListN.{length-replicate}
use mir.Syntax.{Ty, ty_array}
use mir.Val.{Val, of_list, WT, WTs, all_n, has_ty}
use prog.Align.{both}
use denote.Array.{Array, each, array_val}
use denote.RattleType.{RattleType}
use denote.Shadow.{shadow}
use denote.Laws.{Is}

elements-typed : (element : Ty) (v : Val) → T (has_ty element v) × WT v → (n : ℕ) → T (all_n (has_ty element) n (of_list (replicate n v))) × WTs (of_list (replicate n v))
elements-typed element v typed zero = (tt, tt)
elements-typed element v typed (suc n) =
    let rest = elements-typed element v typed n in
    (both (has_ty element v) (all_n (has_ty element) n (of_list (replicate n v))) typed.0 rest.0, (typed.1, rest.1))

-- the machine value has the array's type
pub repeated-typed : (element : Ty) (v : Val) → T (has_ty element v) × WT v → (n : ℕ) → T (has_ty (ty_array element n) (array_val (replicate n v))) × WT (array_val (replicate n v))
repeated-typed element v typed n = elements-typed element v typed n

elements-are : (R : RattleType) (x : R.Denot) (v : Val) → Is R x (v ∷ []) → (n : ℕ) → shadow (each R.Denot R.own_val (replicate n x) (replicate n v))
elements-are R x v is zero = tt
elements-are R x v is (suc n) = (is, elements-are R x v is n)

-- where it stands for `x`, the array's stands for `x` as often
pub repeated-is : (R : RattleType) (x : R.Denot) (v : Val) → Is R x (v ∷ []) → (n : ℕ) → Is (Array R n) (replicate n x) (array_val (replicate n v) ∷ [])
repeated-is R x v is n = (replicate n v, ((refl, length-replicate n x), elements-are R x v is n))
