-- Byte by byte the copy has the fields so far, and at the line's end it has all.
use Rattle.std.proofs.Common.{◌≡◌, ℕ, ◌+◌, ◌<◌, ◌∙◌, List, [], true, length, drop, get_or, sym, ap, subst, arith}
use Rattle.std.specs.List.{list_all}
use Rattle.std.proofs.lemmas.Bool.{and_parts}
use Rattle.std.proofs.lemmas.List.{drop_all, drop_more}
use Rattle.scr_csv.specs.LineFields.{is_printed}
use Rattle.scr_csv.specs.Splits.{Copied}
use Rattle.scr_csv.proofs.Splitting.{copied-start, copied-whole}
use Rattle.scr_csv.proofs.split.copy_of.Goals as goal

-- the byte at hand is printed, and so are those after it
printed_from : (text : List ℕ) (i : ℕ) → i < length text → list_all is_printed (drop i text) ≡ true
    → (is_printed (get_or text i 0) ≡ true) × (list_all is_printed (drop (i + 1) text) ≡ true)
printed_from text i inside h =
    and_parts (is_printed (get_or text i 0)) (list_all is_printed (drop (i + 1) text))
    (sym (ap (list_all is_printed) (drop_more text i 0 inside)) ∙ h)

pub bytes-init : goal.bytes-init
bytes-init c = record {
  printed = c.requires.printed;
  copied = rw c.new.ensures.items (copied-start c.args.text.now);
}

pub take-requires : goal.take-requires
take-requires c = record {
  printed = (printed_from c.args.text.now c.bytes.byte-index c.bytes-test.true c.bytes.invariant.printed).0;
}

pub bytes-preserved : goal.bytes-preserved
bytes-preserved c =
    let text = c.args.text.now in
    let i = c.bytes.byte-index in
    record {
      printed = (printed_from text i c.bytes-test.true c.bytes.invariant.printed).1;
      copied = c.in_ok-take.ensures.steps (drop (i + 1) text) text
          (subst (λ rest. Copied c.bytes.split.place c.bytes.split.copy.items rest text)
          (drop_more text i 0 c.bytes-test.true) c.bytes.invariant.copied);
    }

pub returns : goal.returns
returns c =
    let text = c.args.text.now in
    let none : drop c.bytes.byte-index text ≡ [] = drop_all c.bytes.byte-index text
    (omega (arith, c.bytes-test.false)) in
    copied-whole c.bytes.split.place c.bytes.split.copy.items (drop c.bytes.byte-index text) text none
    c.requires.printed c.requires.filled c.bytes.invariant.copied
