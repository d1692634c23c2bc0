use Rattle.std.proofs.Common.{refl}
use Rattle.scr_funds.proofs.EarliestPaths.{path_within-told, path_within-none, path_within-is}
use Rattle.scr_funds.proofs.laws.paths.Goals as goal

pub returns-clause-told : goal.returns-clause-told
returns-clause-told c = λ same tells components. path_within-told same (λ x y. (tells x y).0)
    (λ x. (tells x x).1 refl) components

pub returns-clause-none : goal.returns-clause-none
returns-clause-none c = λ same tells components. path_within-none same (λ x y. (tells x y).0)
    (λ x. (tells x x).1 refl) components

pub returns-clause-is : goal.returns-clause-is
returns-clause-is c = λ same tells components. path_within-is same (λ x y. (tells x y).0)
    (λ x. (tells x x).1 refl) components
