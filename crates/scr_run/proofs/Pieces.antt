-- A text that is written piece by piece.
use Rattle.std.proofs.Common.{◌≡◌, ℕ, List, [], ◌++◌, refl, ap, sym, subst, ◌∙◌, append_assoc, append-nil}
use Rattle.std.specs.Io.KnownBytes.{Appends}
use Rattle.std.proofs.KnownBytes.{Appends-nil, Appends-trans}
use Rattle.scr_io.specs.Front.{AppendsFront}
use Rattle.scr_obligations.specs.Moment.{Sunk}
use Rattle.scr_run.specs.Writing.{Leaves}

module _ (old : Sunk) (whole : List ℕ) where
  -- before the first piece
  pub leaves_all : Leaves old old whole whole
  leaves_all = ([], refl, Appends-nil old.written)

  -- the next piece was written
  pub leaves_next : (mid new : Sunk) (piece rest : List ℕ) → Leaves old mid whole (piece ++ rest)
      → Appends mid.written new.written piece → Leaves old new whole rest
  leaves_next mid new piece rest l appended = (
    l.0 ++ piece,
    l.1
        ∙ sym (append_assoc l.0 piece rest),
    Appends-trans old.written mid.written new.written l.0 piece l.2 appended,
  )

  -- a front of the next piece was written
  pub front_next : (mid new : Sunk) (piece rest : List ℕ) → Leaves old mid whole (piece ++ rest)
      → AppendsFront mid.written new.written piece → AppendsFront old.written new.written whole
  front_next mid new piece rest l f = (
    l.0 ++ f.0,
    (
      f.1.0 ++ rest,
      l.1 ∙ ap (λ p. l.0 ++ (p ++ rest)) f.1.1 ∙ ap (λ r. l.0 ++ r) (append_assoc f.0 f.1.0 rest)
          ∙ sym (append_assoc l.0 f.0 (f.1.0 ++ rest)),
    ),
    Appends-trans old.written mid.written new.written l.0 f.0 l.2 f.2,
  )

  -- what was written so far is a front
  pub front_left : (now : Sunk) (rest : List ℕ) → Leaves old now whole rest → AppendsFront old.written now.written whole
  front_left now rest l = (l.0, (rest, l.1), l.2)

  -- nothing is left
  pub leaves_none : (now : Sunk) (rest : List ℕ) → rest ≡ [] → Leaves old now whole rest
      → Appends old.written now.written whole
  leaves_none now rest none l =
      subst (Appends old.written now.written) (sym (l.1 ∙ ap (λ r. l.0 ++ r) none ∙ append-nil l.0)) l.2
