-- What the options of a command need and exclude.
use Rattle.std.proofs.Common.{◌≡◌, ◌&&◌, ℕ, Bool, true, false, not, List, [], ◌∷◌, ◌++◌, map, ap, ap₂, refl, ◌∙◌, true≢false, sym}
use Rattle.std.proofs.lemmas.List.{map-append}
use Rattle.clap.proofs.SimpleLemmas.{is_nil}
use Rattle.clap.specs.Built.{AddsArg}
use Rattle.clap.specs.Facts.{args_of}
use Rattle.clap.specs.Walk.{is_empty, is_free_arg}
use Rattle.clap.specs.declared.builder.arg.Arg.{Arg}
use Rattle.clap.specs.declared.builder.command.Command.{Command}
use Rattle.scr_explain.specs.Command.{apart_from}

-- an option more
pub apart_more : (old : Command) (option : Arg) (new : Command) (before : List (List (List ℕ))) (own : List (List ℕ))
    → map apart_from (args_of old) ≡ before → apart_from option ≡ own → AddsArg old option new
    → map apart_from (args_of new) ≡ before ++ own ∷ []
apart_more old option new before own so_far is adds =
    ap (map apart_from) adds.args
    ∙ map-append apart_from (args_of old) (adds.arg ∷ [])
    ∙ ap₂ (λ xs x. xs ++ x ∷ []) so_far (ap (map (λ name. name.now)) adds.rules.conflicts ∙ is)

right : (a b : Bool) → (a && b) ≡ true → b ≡ true
right true b both = both
right false b both = absurd (true≢false (sym both))

left : (a b : Bool) → (a && b) ≡ true → a ≡ true
left true b both = refl
left false b both = both

-- an option without a rule on others is needed whatever others are there
pub free_unless : (option : Arg) → is_free_arg option ≡ true → option.r_unless.items ≡ []
free_unless option free =
    let a = right (not option.exclusive) _ free in
    let b = right (is_empty option.conflicts.items) _ a in
    let c = right (is_empty option.needs.items) _ b in
    let d = right (is_empty option.r_ifs.items) _ c in
    let e = right (is_empty option.r_ifs_all.items) _ d in
    is_nil option.r_unless.items (left (is_empty option.r_unless.items) _ e)
