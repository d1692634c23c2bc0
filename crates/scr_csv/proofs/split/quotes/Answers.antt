-- A bit for each double quote.
use Rattle.std.proofs.Common.{eqb, arith, w8}
use Rattle.std.proofs.lemmas.Simd.{bitmask_splat}
use Rattle.scr_csv.proofs.split.quotes.Goals as goal

pub returns : goal.returns
returns c = bitmask_splat w8 eqb c.args.lanes 16 34 c.fits-lanes.0 (omega arith)
