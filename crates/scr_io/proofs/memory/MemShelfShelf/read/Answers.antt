use Rattle.std.proofs.Common.{◌≡◌, ap, sym, ◌∙◌, take, drop}
use Rattle.scr_io.specs.Memory.{ShelfState}
use Rattle.scr_io.specs.MemShelf.{left_of}
use Rattle.scr_io.proofs.Files.{left_of-more}
use Rattle.scr_io.proofs.Pieces.{Consumes-front}
use Rattle.scr_io.proofs.memory.MemShelfShelf.read.Goals as goal

pub returns-clause-bytes : goal.returns-clause-bytes
returns-clause-bytes c =
    let n = c.give-count.result in
    let seen = ap (λ (s : ShelfState). s.left) c.self.view_is in
    let lent : c.left_in-left.result.now ≡ c.args.self.now.left =
    c.left_in-left.ensures.left ∙ ap (λ files. left_of files c.self.inside.place c.self.inside.offset) c.deref-2.ensures.value ∙ seen in
    Consumes-front _ _ _ _ (c.give-count.ensures.front ∙ ap (take n) lent)
    (left_of-more c.self.inside.files.items c.self.inside.place c.self.inside.offset n ∙ ap (drop n) seen)
    (λ none room. sym lent ∙ c.give-count.ensures.end none room)
