use Rattle.std.proofs.Common.{◌≡◌, ◌∙◌}
use Rattle.scr_args.specs.declared.words.WordsFault.TheVariants as faults
use Rattle.scr_args.proofs.Matched.{matched, refused}
use Rattle.scr_args.proofs.words.matched.Goals as goal

pub returns-in-Ok-try_get_matches_from-clause-ok : goal.returns-in-Ok-try_get_matches_from-clause-ok
returns-in-Ok-try_get_matches_from-clause-ok c =
    λ some. matched c.args.words.now _ _ _ c.in-Ok.ensures c.in-Ok-try_get_matches_from.ensures.matches
    c.said_by_matches.ensures some

pub returns-in-Err-clause-usage : goal.returns-in-Err-clause-usage
returns-in-Err-clause-usage c =
    λ is. refused c.args.words.now _ _ c.in-Ok.ensures c.in-Err.ensures.passes
    (λ memory.
    let told : c.fault_of.result ≡ faults.NoMemory = c.fault_of.ensures.1 (c.kind.ensures ∙ memory) in
    absurd (cc))
