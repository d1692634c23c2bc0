-- The toolchain has no rule for the literal of a struct that holds arrays of arrays of pairs beside a name, so this
-- is its proof by hand. It goes through the machine's code one statement after another.
use Rattle.std.proofs.Common.{ℕ, [], ◌∷◌, refl, lit<, w32, w64, T, replicate, pos}
use Rattle.std.proofs.raw_atomic.Walks.{proved}
use mir.Syntax.{ty_int, ty_array}
use mir.Val.{Val, vint, vstruct, of_list, WT, has_ty}
use types.Kit.{raw, ◌$◌, ◌∵◌, !, qed, keep, join, suffices, done}
use types.Part.{agg, rep}
use types.Run.{enter, returns, lit, no_more, and_then}
use types.ByLocal.{alloc_all, pass_all, free_all, look_at, get, sets}
use denote.Array.{array_val}
use denote.Builtin.{u64, i64, Array}
use denote.Exit.{yes}
use denote.Laws.{Is}
use denote.Memory.{lone}
use denote.RattleType.{RattleType}
use denote.Signature.{plain}
use denote.Steps.{nothing, owned}
use denote.Struct.Laws.{makes}
use denote.Struct.Tuple.{Tuple}
use denote.Triple.Entry.{on_entry}
use denote.Triple.Walked.{Stays, walk_of, says, stay_dropped, Goes-dropped, ends_at}
use Rattle.scr_dates.specs.contracts.day.Day as day
use Rattle.scr_dates.proofs.day.Day.TheLaws as day_laws
use Rattle.scr_tables.specs.contracts.name.Name as name
use Rattle.scr_tables.proofs.name.Name.TheLaws as name_laws
use Rattle.scr_sheet.specs.declared.numbers.Numbers.{Numbers}
use Rattle.scr_sheet.specs.BalanceSheet.{opening_numbers, no_volumes}
use Rattle.scr_sheet.specs.contracts.numbers.Numbers as numbers
use Rattle.scr_sheet.proofs.numbers.Numbers.TheLaws as numbers_laws
use Rattle.scr_sheet.proofs.Repeated.{repeated-typed, repeated-is}
use Rattle.scr_sheet.specs.contracts.opening.zeros as f
use Rattle.scr_sheet.proofs.opening.zeros.Statement.{statement}
use Rattle.scr_sheet.proofs.opening.zeros.Code as code

-- ---- the machine values, with their types and what they stand for

abbrev none : Val
none = vint w64 0

none_typed : T (has_ty (ty_int w64) none) × WT none
none_typed = (tt, record { fits = lit< tt })

-- so many numbers, each 0
abbrev nones : ℕ → Val
nones n = array_val (replicate n none)

nones_typed : (n : ℕ) → T (has_ty (ty_array (ty_int w64) n) (nones n)) × WT (nones n)
nones_typed n = repeated-typed (ty_int w64) none none_typed n

nones_are : (n : ℕ) → Is (Array u64 tt n) (replicate n 0) (nones n ∷ [])
nones_are n = repeated-is u64 0 none (refl, lit< tt) n

-- the volumes of a region
abbrev Pair : RattleType
Pair = Tuple (u64 ∷ u64 ∷ [])

abbrev pair : Val
pair = vstruct (of_list (none ∷ none ∷ []))

pair_typed : T (has_ty (lone Pair.mir) pair) × WT pair
pair_typed = (tt, (none_typed.1, (none_typed.1, tt)))

pair_is : Is Pair (0, 0) (pair ∷ [])
pair_is = ((none ∷ [], (none ∷ [], tt)), (refl, ((refl, lit< tt), ((refl, lit< tt), tt))))

-- those of a segment
abbrev segment : Val
segment = array_val (replicate 18 pair)

segment_typed : T (has_ty (ty_array (lone Pair.mir) 18) segment) × WT segment
segment_typed = repeated-typed (lone Pair.mir) pair pair_typed 18

-- and of so many segments
abbrev segments : ℕ → Val
segments n = array_val (replicate n segment)

segments_typed : (n : ℕ) → T (has_ty (ty_array (ty_array (lone Pair.mir) 18) n) (segments n)) × WT (segments n)
segments_typed n = repeated-typed (ty_array (lone Pair.mir) 18) segment segment_typed n

segments_are : (n : ℕ) → Is (Array (Array Pair tt 18) tt n) (replicate n no_volumes) (segments n ∷ [])
segments_are n = repeated-is (Array Pair tt 18) no_volumes segment (repeated-is Pair (0, 0) pair pair_is 18) n

abbrev half : Val
half = vint w32 0

-- ---- the walk

abbrev stayed : Stays f.ended.signature.params f.ended.kept
stayed = (stay_dropped _ yes, (stay_dropped _ yes, tt))

pub zeros_spec : {M : Type 1} → statement M
zeros_spec 𝓤 𝓛 𝓜 𝓡 wired =
    let c = f.clauses 𝓛 𝓜.mem 𝓡.returns in
    proved 𝓛 f.ended stayed c 𝓜 𝓡 (Goes-dropped 𝓛 0 (plain (λ _. day.the_row)) yes (λ κs x w. refl), (Goes-dropped 𝓛 0 (plain (λ _. name.the_row)) yes (λ κs x w. refl), tt))
    f.Key.name code.function (code.unfolded 𝓤 𝓛.H 𝓜 𝓡 wired)
    (λ κs. ((λ x. (day_laws.the_told).val x ∷ []), ((λ x. (name_laws.the_told).val x ∷ []), tt))) (λ κs. ((day_laws.the_told).tells, ((name_laws.the_told).tells, tt))) (λ κs qs bounds a g are.
    let start : Val = (day_laws.the_told).val a.0 in let named : Val = (name_laws.the_told).val a.1.0 in
    let y : (walk_of 𝓛 f.ended stayed c).Ghost = ((κs, qs, bounds, a, (start ∷ [], (named ∷ [], tt))), g) in
    let v : Val = vstruct (of_list (start ∷ named ∷ nones 25 ∷ segments 12 ∷ segments 4 ∷ nones 13 ∷ nones 3 ∷ nones 2 ∷ nones 2 ∷ nones 3 ∷ nones 7 ∷ half ∷ half ∷ none ∷ none ∷ none ∷ [])) in
    let r : Numbers = record opening_numbers { asof = a.0; currency = a.1.0 } in
    let is : Is numbers.the_row r (v ∷ []) = (
      (start ∷ [], (named ∷ [], (nones 25 ∷ [], (segments 12 ∷ [], (segments 4 ∷ [], (nones 13 ∷ [], (nones 3 ∷ [], (nones 2 ∷ [], (nones 2 ∷ [], (nones 3 ∷ [], (nones 7 ∷ [], (half ∷ [], (half ∷ [], (none ∷ [], (none ∷ [], (none ∷ [], tt)))))))))))))))),
      (
        refl,
        (
          are.0,
          (
            are.1.0,
            (
              nones_are 25,
              (
                segments_are 12,
                (
                  segments_are 4,
                  (
                    nones_are 13,
                    (
                      nones_are 3,
                      (
                        nones_are 2,
                        (
                          nones_are 2,
                          (
                            repeated-is i64 (pos 0) none (refl, lit< tt) 3,
                            (
                              nones_are 7,
                              ((refl, lit< tt), ((refl, lit< tt), ((refl, lit< tt), ((refl, lit< tt), ((refl, lit< tt), tt))))),
                            ),
                          ),
                        ),
                      ),
                    ),
                  ),
                ),
              ),
            ),
          ),
        ),
      ),
    ) in
    qed 𝓛 (raw (on_entry 𝓛 f.signature κs qs a y.0.4) ∷ raw ((c κs a).requires g) ∷ []) ∵ keep ! [] $
    enter ! _ _ _ _ _ $ alloc_all ! (λ l. pass_all ! refl ((((day_laws.the_row_laws).lawful 𝓛).typed a.0 _ are.0).0, ((name_laws.the_row_laws).lawful 𝓛).typed a.1.0 _ are.1.0) $
    sets ! (rep ! 25 (lit ! tt)) refl (nones_typed 25) $
    sets ! (agg ! (and_then ! (lit ! tt) (and_then ! (lit ! tt) (no_more !)))) refl pair_typed $
    sets ! (rep ! 18 (get ! refl)) refl segment_typed $ sets ! (rep ! 12 (get ! refl)) refl (segments_typed 12) $
    sets ! (agg ! (and_then ! (lit ! tt) (and_then ! (lit ! tt) (no_more !)))) refl pair_typed $
    sets ! (rep ! 18 (get ! refl)) refl segment_typed $ sets ! (rep ! 4 (get ! refl)) refl (segments_typed 4) $
    sets ! (rep ! 13 (lit ! tt)) refl (nones_typed 13) $ sets ! (rep ! 3 (lit ! tt)) refl (nones_typed 3) $
    sets ! (rep ! 2 (lit ! tt)) refl (nones_typed 2) $ sets ! (rep ! 2 (lit ! tt)) refl (nones_typed 2) $
    sets ! (rep ! 3 (lit ! tt)) refl (nones_typed 3) $ sets ! (rep ! 7 (lit ! tt)) refl (nones_typed 7) $
    sets ! (agg ! (and_then ! (get ! refl) (and_then ! (get ! refl) (and_then ! (get ! refl) (and_then ! (get ! refl) (and_then ! (get ! refl) (and_then ! (get ! refl) (and_then ! (get ! refl) (and_then ! (get ! refl) (and_then ! (get ! refl) (and_then ! (get ! refl) (and_then ! (get ! refl) (and_then ! (lit ! tt) (and_then ! (lit ! tt) (and_then ! (lit ! tt) (and_then ! (lit ! tt) (and_then ! (lit ! tt) (no_more !)))))))))))))))))) refl ((((numbers_laws.the_row_laws).lawful 𝓛).typed r (v ∷ []) is).0) $
    owned ! numbers.the_row (Is numbers.the_row) (makes numbers.the_type numbers_laws.the_plain 𝓛) r (v ∷ []) is $
    returns ! (look_at ! 0 refl) $ free_all ! refl $
    suffices ! _ (ends_at 𝓛 f.ended stayed c y v r (tt, (tt, tt)) (tt, (tt, tt))) $ says ! refl $
    nothing ! $ nothing ! $ join ! $ nothing ! $ join ! $ nothing ! $ done !))
