-- A letter and a number are a name.
use Rattle.std.proofs.Common.{◌≡◌, ◌++◌, Some, refl, arith}
use Rattle.std.specs.Prelude.{decimal}
use Rattle.std.proofs.lemmas.Grind.{common_steps}
use Rattle.scr_made.specs.Names.{numbered}
use Rattle.scr_made.proofs.NamesRead.{found}
use Rattle.scr_made.proofs.names.numbered.Goals as goal

pub unwrap-requires : goal.unwrap-requires
unwrap-requires c =
    let spelled : c.as_bytes.result.now ≡ c.args.letter.now ++ decimal c.args.k = grind (arith, common_steps) in
    let read = found c.as_bytes.result.now c.args.letter.now c.args.k c.parse.result c.parse.ensures.cases spelled
    c.requires (omega arith) in
    rw read refl

pub returns : goal.returns
unfolding numbered
returns c =
    let spelled : c.as_bytes.result.now ≡ c.args.letter.now ++ decimal c.args.k = grind (arith, common_steps) in
    let read : c.parse.result ≡ Some (c.args.letter.now ++ decimal c.args.k) =
    found c.as_bytes.result.now c.args.letter.now c.args.k c.parse.result c.parse.ensures.cases spelled
    c.requires (omega arith) in
    cc
