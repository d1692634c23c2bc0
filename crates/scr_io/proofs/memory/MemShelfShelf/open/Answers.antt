use Rattle.std.proofs.Common.{◌≡◌, None, Some, refl, arith}
use Rattle.std.proofs.lemmas.Grind.{common_steps}
use Rattle.scr_io.specs.Memory.{bytes_under}
use Rattle.scr_io.specs.MemShelf.{bytes_at}
use Rattle.scr_io.proofs.Files.{bytes_under_none, bytes_under_some}
use Rattle.scr_io.proofs.memory.MemShelfShelf.open.Goals as goal

pub returns-in_default-clause-outcome : goal.returns-in_default-clause-outcome
returns-in_default-clause-outcome c =
    let absent : bytes_under c.args.self.now.files c.args.name.now ≡ None = bytes_under_none c.self.inside _ _ _ c.self.view_is c.deref.ensures.value c.in_default.ensures in
    rw absent refl

pub returns-in_default-clause-state : goal.returns-in_default-clause-state
returns-in_default-clause-state c =
    let absent : bytes_under c.args.self.now.files c.args.name.now ≡ None = bytes_under_none c.self.inside _ _ _ c.self.view_is c.deref.ensures.value c.in_default.ensures in
    rw absent (grind (arith, common_steps))

pub returns-then-contains-clause-state : goal.returns-then-contains-clause-state
returns-then-contains-clause-state c =
    let found : bytes_under c.args.self.now.files c.args.name.now ≡ Some (bytes_at c.self.inside.files.items c.in-Some.place) = bytes_under_some c.self.inside _ _ _ _ c.self.view_is c.deref.ensures.value c.in-Some.ensures in
    rw found (grind (arith, common_steps))

pub returns-clause-outcome : goal.returns-clause-outcome
returns-clause-outcome c =
    let found : bytes_under c.args.self.now.files c.args.name.now ≡ Some (bytes_at c.self.inside.files.items c.in-Some.place) = bytes_under_some c.self.inside _ _ _ _ c.self.view_is c.deref.ensures.value c.in-Some.ensures in
    rw found (grind (arith, common_steps))

pub returns-clause-state : goal.returns-clause-state
returns-clause-state c =
    let found : bytes_under c.args.self.now.files c.args.name.now ≡ Some (bytes_at c.self.inside.files.items c.in-Some.place) = bytes_under_some c.self.inside _ _ _ _ c.self.view_is c.deref.ensures.value c.in-Some.ensures in
    rw found (grind (arith, common_steps))
