-- How an amount is printed (this project's own).
use Rattle.std.specs.Prelude.{ℕ, ◌+◌, ◌/◌, ◌%◌, ◌++◌, ℤ, pos, negsuc, List, codes, decimal}

-- so many cents, in euros with two decimals
unfoldable pub euros : ℕ → List ℕ
euros cents = ((decimal (cents / 100) ++ codes ".") ++ decimal (cents / 10 % 10)) ++ decimal (cents % 10)

-- a negative amount has a `-` before it
unfoldable pub amount : ℤ → List ℕ
amount (pos cents) = euros cents
amount (negsuc n) = codes "-" ++ euros (n + 1)
