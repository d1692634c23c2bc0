use Rattle.std.proofs.Common.{nat_eq}
use Rattle.std.specs.Cmp.Lexicographic.{bytes_decides, nat_list_eq_equiv, pointwise}
use Rattle.scr_funds.proofs.BoundedTotals.{total-within}
use Rattle.scr_funds.proofs.LookThroughLaws.{total_is, total_only, totals_whole}
use Rattle.scr_funds.proofs.laws.look_through.Goals as goal

pub returns-clause-equation : goal.returns-clause-equation
returns-clause-equation c = total_is (pointwise nat_eq) (λ x y h. (bytes_decides x y).0 h) nat_list_eq_equiv.refl

pub returns-clause-only : goal.returns-clause-only
returns-clause-only c = total_only (pointwise nat_eq) (λ x y h. (bytes_decides x y).0 h) nat_list_eq_equiv.refl

pub returns-clause-whole : goal.returns-clause-whole
returns-clause-whole c = totals_whole (pointwise nat_eq) (λ x y h. (bytes_decides x y).0 h) nat_list_eq_equiv.refl

pub returns-clause-within : goal.returns-clause-within
returns-clause-within c = total-within (pointwise nat_eq) (λ x y h. (bytes_decides x y).0 h) nat_list_eq_equiv.refl
