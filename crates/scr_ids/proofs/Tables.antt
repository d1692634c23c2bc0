-- Tables by number, and ranges that stay.
use Rattle.std.proofs.Common.{◌≡◌, ℕ, zero, suc, ◌<◌, true, List, refl, sym, ap, subst, ◌∙◌, arith}
use Rattle.std.proofs.lemmas.Bool.{eqb-true}
use Rattle.scr_ids.specs.Ranges.{number_of, same_table, stride}
use Rattle.scr_ids.specs.Kept.{AreKept, IsOwned, Range, range_at}
use Rattle.scr_ids.specs.declared.table.Table.{Table}
use Rattle.scr_ids.specs.declared.table.Table.TheVariants as tables

-- the table of a number
abbrev table_of : ℕ → Table
table_of zero = tables.Whole
table_of (suc zero) = tables.Fund
table_of (suc (suc zero)) = tables.Security
table_of (suc (suc (suc zero))) = tables.Liability
table_of (suc (suc (suc (suc zero)))) = tables.Group
table_of (suc (suc (suc (suc (suc zero))))) = tables.Currency
table_of n = tables.Part

back : (table : Table) → table_of (number_of table) ≡ table
back tables.Whole = refl
back tables.Fund = refl
back tables.Security = refl
back tables.Liability = refl
back tables.Group = refl
back tables.Currency = refl
back tables.Part = refl

-- tables of one number are one
pub same_table-is : (table other : Table) → same_table table other ≡ true → table ≡ other
same_table-is table other e = sym (back table) ∙ ap table_of (eqb-true (number_of table) (number_of other) e) ∙ back other

pub same_table-self : (table : Table) → same_table table table ≡ true
same_table-self tables.Whole = refl
same_table-self tables.Fund = refl
same_table-self tables.Security = refl
same_table-self tables.Liability = refl
same_table-self tables.Group = refl
same_table-self tables.Currency = refl
same_table-self tables.Part = refl

pub stride-some : (table : Table) → 0 < stride table
stride-some tables.Whole = omega arith
stride-some tables.Fund = omega arith
stride-some tables.Security = omega arith
stride-some tables.Liability = omega arith
stride-some tables.Group = omega arith
stride-some tables.Currency = omega arith
stride-some tables.Part = omega arith

-- the same ranges, told of another view
module _ (made_in made_now : Table → ℕ) (first_of first_now : Table → ℕ → ℕ) (ranges : List Range) (owner : List ℕ)
    (same_made : (table : Table) → made_now table ≡ made_in table)
    (same_first : (table : Table) (k : ℕ) → first_now table k ≡ first_of table k) where
  pub kept-same : AreKept made_in first_of ranges owner → AreKept made_now first_now ranges owner
  kept-same kept = record {
    owned = λ table k j inside family.
        subst (λ start. IsOwned ranges owner table k start j) (sym (same_first table k))
        (kept.owned table k j (subst (λ n. k < n) (same_made table) inside) family);
    listed = λ id known. let of = kept.listed id known in record {
      place = subst (λ n. (range_at ranges id).place < n) (sym (same_made (range_at ranges id).table)) of.place;
      start = same_first (range_at ranges id).table (range_at ranges id).place ∙ of.start;
      owns = of.owns;
    };
    held = kept.held;
  }
