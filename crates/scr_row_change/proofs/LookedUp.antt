-- What is read of a row through a name, where one row of the table is exchanged; and what is found in a table.
use Rattle.std.proofs.Common.{◌≡◌, ℕ, Bool, true, not, ◌||◌, List, [], ◌∷◌, map, flat_map, Option, Some, inl, inr, sym, ap, subst}
use Rattle.std.specs.Bool.{Decides}
use Rattle.std.specs.List.{IsDistinct}
use Rattle.std.proofs.lemmas.Bool.Decides.{Decides-at}
use Rattle.scr_funds.proofs.Members.{IsMember, IsMember-left, IsMember-right, each-from_members}
use Rattle.scr_tables.specs.Names.{same_name}
use Rattle.scr_tables.specs.Tables.{row_of}
use Rattle.scr_tables.proofs.TableRows.{All-row_of, name_of-row_of, same_name-is, same_or_other}
use Rattle.scr_row_change.specs.Exchanges.{exchanged, HasName}
use Rattle.scr_row_change.proofs.Compared.{always}
use Rattle.scr_row_change.proofs.Exchanged.{row-other, row-own}

module _ {Row A : Type 0} (name_of : Row → List ℕ) (name : List ℕ) (new : Option Row) (rows : List Row)
    (distinct : IsDistinct same_name (map name_of rows)) (named : HasName name_of name new) (read : Option Row → A)
    (same : Bool) (told : Decides same (read (row_of name_of name rows) ≡ read new)) where
  -- of another name it stays, and of this one it is told
  pub looked-up : (x : List ℕ) → Decides (not (same_name x name) || same)
      (read (row_of name_of x rows) ≡ read (row_of name_of x (exchanged name_of name new rows)))
  looked-up x =
      same_or_other x name
      (λ e. Decides-at (not (same_name x name) || same) same (ap (λ t. not t || same) e)
      (subst (λ n. Decides same
      (read (row_of name_of n rows) ≡ read (row_of name_of n (exchanged name_of name new rows))))
      (sym (same_name-is x name e))
      (subst (λ row. Decides same (read (row_of name_of name rows) ≡ read row))
      (sym (row-own name_of name new rows distinct named)) told)))
      (λ e. Decides-at (not (same_name x name) || same) true (ap (λ t. not t || same) e)
      (always (ap read (sym (row-other name_of name new rows named x e)))))

-- ---- what is found

module _ {Row : Type 0} (name_of : Row → List ℕ) (name : List ℕ) (rows : List Row) (row : Row)
    (found : row_of name_of name rows ≡ Some row) where
  pub found-member : IsMember row rows
  found-member =
      All-row_of name_of (λ r. IsMember r rows) name rows row found
      (each-from_members (λ r. IsMember r rows) rows (λ r m. m))

  pub found-name : name ≡ name_of row
  found-name = same_name-is name (name_of row) (name_of-row_of name_of name rows row found)

  -- a figure of the row is one of the figures of all rows
  pub found-figure : {A : Type 0} (figures : Row → List A) (figure : A) → IsMember figure (figures row)
      → IsMember figure (flat_map figures rows)
  found-figure {A = A} figures figure m = among rows found-member
    where
      among : (rs : List Row) → IsMember row rs → IsMember figure (flat_map figures rs)
      among [] h = absurd h
      among (r ∷ rs) (inl e) =
          IsMember-left (figures r) (flat_map figures rs) figure (subst (λ s. IsMember figure (figures s)) e m)
      among (r ∷ rs) (inr h) = IsMember-right (figures r) (flat_map figures rs) figure (among rs h)
