use Rattle.std.proofs.Common.{◌≡◌, Bool, true, false, List, ℕ, Some, None, Result, Ok, Err, cond, refl, sym, ◌∙◌}
use Rattle.std.specs.Str.{IsUtf8, is_utf8}
use Rattle.std.proofs.lemmas.Str.{IsUtf8-from_is_utf8, is_utf8-from_IsUtf8}
use Rattle.toml.specs.Data.{Members}
use Rattle.toml.specs.Parse.{parse_document}
use Rattle.toml.specs.View.{table_view}
use Rattle.scr_factors.specs.declared.fault.FactorFault.{FactorFault}
use Rattle.scr_factors.specs.declared.fault.FactorFault.TheVariants.{NotToml, Missing, BadValue, NotSymmetric, NoMemory}
use Rattle.scr_factors.specs.Values.{FactorValues}
use Rattle.scr_factors.specs.Reading.{values_in, values_if, values_of, Answers}
use Rattle.scr_factors.proofs.read.read_factors.Goals as goal

-- the answer that is due is an answer
due-answers : (due answer : Result FactorValues FactorFault) → due ≡ answer → Answers due answer
due-answers due (Ok values) h = h
due-answers due (Err NotToml) h = h
due-answers due (Err (Missing key)) h = h
due-answers due (Err (BadValue key)) h = h
due-answers due (Err (NotSymmetric i j)) h = h
due-answers due (Err NoMemory) h = tt

-- of TOML in UTF-8
values_in-read : (bytes : List ℕ) (document : Members) → IsUtf8 bytes → parse_document bytes ≡ Some document
    → values_in bytes ≡ values_of document
values_in-read bytes document utf8 parsed = rw (is_utf8-from_IsUtf8 bytes utf8, parsed) refl

-- and of other bytes
values_in-refused : (bytes : List ℕ) → (IsUtf8 bytes → parse_document bytes ≡ None) → values_in bytes ≡ Err NotToml
values_in-refused bytes h = go (is_utf8 bytes) refl
  where
    go : (b : Bool) → is_utf8 bytes ≡ b → cond b (values_if (parse_document bytes)) (Err NotToml) ≡ Err NotToml
    go true e = rw (h (IsUtf8-from_is_utf8 bytes e)) refl
    go false e = refl

pub returns-in-Ok : goal.returns-in-Ok
returns-in-Ok c =
    let read = c.in-Ok.ensures.ok in
    due-answers (values_in c.args.bytes.now) c.values_of.result
    (values_in-read c.args.bytes.now (table_view c.in-Ok.document) read.0 read.1 ∙ sym c.values_of.ensures)

pub returns-in-Err-2 : goal.returns-in-Err-2
returns-in-Err-2 c =
    values_in-refused c.args.bytes.now (c.in-Err.ensures.refused (λ m. let told = c.if-is_memory.ensures.1 m in cc))
