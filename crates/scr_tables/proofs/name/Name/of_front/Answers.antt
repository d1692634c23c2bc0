-- One byte more, and the bytes that there are.
use Rattle.std.proofs.Common.{◌≡◌, ◌<◌, true, false, length, take, get_or, set, ap, sym, ◌∙◌, inl, inr, arith, rules}
use Rattle.std.specs.List.{prefix_len}
use Rattle.std.proofs.lemmas.Bool.{cases_lt}
use Rattle.std.proofs.lemmas.List.Folds.{length-prefix_len}
use Rattle.std.proofs.lemmas.List.Sums.{prefix_len_is}
use Rattle.scr_tables.specs.Names.{is_name_byte}
use Rattle.scr_tables.proofs.NameBytes.{padded-next, padded-front}
use Rattle.scr_tables.proofs.name.Name.of_front.Goals.{then-bytes-test+else-is_name_byte, else-bytes-test}
use Rattle.scr_tables.proofs.name.Name.of_front.Goals as goal

pub bytes-preserved : goal.bytes-preserved
bytes-preserved c =
    let text = c.args.text.now in
    let n = c.bytes.count in
    let own : is_name_byte (get_or text n 0) ≡ true = search rules in
    record {
      within = omega (arith, c.bytes-test.true);
      cells = ap (λ cells. set cells n (get_or text n 0)) c.bytes.invariant.cells
          ∙ padded-next text n (omega (arith, c.bytes-test.true)) (omega (arith, c.bytes-test.true, c.requires.few));
      passed = λ k h. elim (cases_lt k n) [
        | inl before ↦ c.bytes.invariant.passed k before
        | inr after ↦
            let same : k ≡ n = omega (arith, h, after) in
            ap (λ j. is_name_byte (get_or text j 0)) same ∙ own
      ];
    }

pub returns-clause-name : goal.returns-clause-name
returns-clause-name c =
    let text = c.args.text.now in
    let n = c.bytes.count in
    let within = c.bytes.invariant.within in
    let stops : n < length text → is_name_byte (get_or text n 0) ≡ false =
    λ more. elim c.bytes-test.branch [
      | then-bytes-test+else-is_name_byte w ↦ sym w.is_name_byte.ensures ∙ w.if-is_name_byte.false
      | else-bytes-test w ↦ absurd (omega (arith, w.bytes-test.false, more))
    ] in
    let run : prefix_len is_name_byte text ≡ n =
    prefix_len_is is_name_byte text n 0 within c.bytes.invariant.passed stops in
    ap (take n) c.bytes.invariant.cells ∙ padded-front text n within ∙ ap (λ k. take k text) (sym run)

pub returns-clause-count : goal.returns-clause-count
returns-clause-count c =
    let text = c.args.text.now in
    let n = c.bytes.count in
    let stops : n < length text → is_name_byte (get_or text n 0) ≡ false =
    λ more. elim c.bytes-test.branch [
      | then-bytes-test+else-is_name_byte w ↦ sym w.is_name_byte.ensures ∙ w.if-is_name_byte.false
      | else-bytes-test w ↦ absurd (omega (arith, w.bytes-test.false, more))
    ] in
    let run : prefix_len is_name_byte text ≡ n =
    prefix_len_is is_name_byte text n 0 c.bytes.invariant.within c.bytes.invariant.passed stops in
    sym (length-prefix_len is_name_byte text ∙ run)
