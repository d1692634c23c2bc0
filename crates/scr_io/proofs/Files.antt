-- Lemmas on looking up a file by its name.
use Rattle.std.proofs.Common.{◌≡◌, ℕ, ◌+◌, ◌<◌, drop, Bool, true, false, cond, List, [], ◌∷◌, length, map, Option, None, Some, MatchOption, slice_get, nat_eq, String, string_bytes, refl, sym, ap, subst, ◌∙◌, arith, inl, inr}
use Rattle.std.proofs.lemmas.List.Folds.{find_at}
use Rattle.std.proofs.lemmas.List.{drop-drop}
use Rattle.std.proofs.Math.Seq.{drop-nil}
use Rattle.std.proofs.lemmas.Option.{slice_get_cases, gets}
use Rattle.std.proofs.lemmas.Grind.{common_steps}
use Rattle.std.proofs.lemmas.Bool.Decides.{nat_tests}
use Rattle.std.specs.List.{find, position}
use Rattle.std.specs.Option.{option_map}
use Rattle.std.specs.Cmp.Lexicographic.{pointwise}
use Rattle.std.specs.Global.{Global, Vec}
use Rattle.scr_io.specs.Memory.{ShelfState, file_of, bytes_under}
use Rattle.scr_io.specs.MemShelf.{bytes_at, left_of, state_of}
use Rattle.scr_io.specs.declared.memory.MemShelf.TheInside.{Inside}

-- the first that passes after a map is the image of the first whose image passes
find-map : {X Y : Type 0} (f : X → Y) (p : Y → Bool) (xs : List X) → find p (map f xs) ≡ option_map f (find (λ x. p (f x)) xs)
find-map f p [] = refl
find-map f p (x ∷ xs) = elim (p (f x)) as (λ b. cond b (Some (f x)) (find p (map f xs)) ≡ option_map f (cond b (Some x) (find (λ y. p (f y)) xs)))
    [ true ↦ refl | false ↦ find-map f p xs ]

-- the first that passes stands at the first place that passes
find-position : {X : Type 0} (p : X → Bool) (xs : List X) → MatchOption (position p xs) (find p xs ≡ None) (λ k. (k < length xs) × (find p xs ≡ slice_get xs k))
find-position p xs =
    let at = find_at p xs in
    grind (arith, common_steps, nat_tests, gets, at)

abbrev items_of : String Global × Vec ℕ → List ℕ
items_of file = file.1.items

-- a place within the files has a file
bytes_at-within : (files : List (String Global × Vec ℕ)) (place : ℕ) → place < length files → option_map items_of (slice_get files place) ≡ Some (bytes_at files place)
bytes_at-within files place h = elim (slice_get_cases files place).1 [ inl w ↦ rw w.2 refl | inr w ↦ absurd (omega arith) ]

bytes_under-map : (files : List (String Global × Vec ℕ)) (name : List ℕ) →
    bytes_under (map file_of files) name ≡ option_map items_of (find (λ file. pointwise nat_eq (string_bytes file.0) name) files)
bytes_under-map files name =
    let found = find (λ (file : String Global × Vec ℕ). pointwise nat_eq (string_bytes file.0) name) files in
    ap (option_map (λ file. file.1)) (find-map file_of (λ file. pointwise nat_eq file.0 name) files)
    ∙ (elim found as (λ o. option_map (λ (file : List ℕ × List ℕ). file.1) (option_map file_of o) ≡ option_map items_of o) [ None ↦ refl | Some file ↦ refl ])

bytes_under-found : (files : List (String Global × Vec ℕ)) (found : Option (String Global × Vec ℕ)) (bytes : Option (List ℕ)) (o : Option ℕ) → bytes ≡ option_map items_of found
    → MatchOption o (found ≡ None) (λ place. (place < length files) × (found ≡ slice_get files place))
    → MatchOption o (bytes ≡ None) (λ place. (place < length files) × (bytes ≡ Some (bytes_at files place)))
bytes_under-found files found bytes None e h = e ∙ ap (option_map items_of) h
bytes_under-found files found bytes (Some place) e h = (h.0, e ∙ ap (option_map items_of) h.1 ∙ bytes_at-within files place h.0)

-- the first file of that name stands at the first place of that name
pub bytes_under_position : (files : List (String Global × Vec ℕ)) (name : List ℕ) (found : Option ℕ)
    → found ≡ position (λ file. pointwise nat_eq (string_bytes file.0) name) files
    → MatchOption found (bytes_under (map file_of files) name ≡ None)
    (λ place. (place < length files) × (bytes_under (map file_of files) name ≡ Some (bytes_at files place)))
bytes_under_position files name found e =
    rw e (bytes_under-found files _ _ _ (bytes_under-map files name) (find-position (λ file. pointwise nat_eq (string_bytes file.0) name) files))

-- a name that stands at no place is absent
pub bytes_under_none : (s : Inside) (state : ShelfState) (files : List (String Global × Vec ℕ)) (name : List ℕ)
    → state_of s ≡ state → files ≡ s.files.items → None ≡ position (λ file. pointwise nat_eq (string_bytes file.0) name) files
    → bytes_under state.files name ≡ None
bytes_under_none s state files name view same e =
    subst (λ (t : ShelfState). bytes_under t.files name ≡ None) view
    (subst (λ l. bytes_under (map file_of l) name ≡ None) same (bytes_under_position files name None e))

-- a name that stands at a place has the bytes there
pub bytes_under_some : (s : Inside) (state : ShelfState) (files : List (String Global × Vec ℕ)) (name : List ℕ) (place : ℕ)
    → state_of s ≡ state → files ≡ s.files.items → Some place ≡ position (λ file. pointwise nat_eq (string_bytes file.0) name) files
    → bytes_under state.files name ≡ Some (bytes_at s.files.items place)
bytes_under_some s state files name place view same e =
    subst (λ (t : ShelfState). bytes_under t.files name ≡ Some (bytes_at s.files.items place)) view
    (subst (λ l. bytes_under (map file_of l) name ≡ Some (bytes_at l place)) same (bytes_under_position files name (Some place) e).1)

-- n more bytes were read
pub left_of-more : (files : List (String Global × Vec ℕ)) (place : Option ℕ) (offset n : ℕ) → left_of files place (offset + n) ≡ drop n (left_of files place offset)
left_of-more files None offset n = sym (drop-nil n)
left_of-more files (Some k) offset n = sym (drop-drop n offset (bytes_at files k))
