-- How a refused record is told (this project's own).
use Rattle.std.specs.Prelude.{ℕ, ℤ, ◌++◌, List, [], ◌∷◌, codes, decimal, flat_map}
use Rattle.std.specs.Fmt.{signed_decimal}
use Rattle.scr_sheet.specs.declared.fault.Fault.{Fault}
use Rattle.scr_sheet.specs.declared.fault.Fault.TheVariants as faults
use Rattle.scr_sheet.specs.declared.fault.Quantity.{Quantity}
use Rattle.scr_sheet.specs.declared.fault.Quantity.TheVariants as quantities
use Rattle.scr_sheet.specs.declared.fault.User.{User}
use Rattle.scr_sheet.specs.declared.fault.User.TheVariants as users
use Rattle.scr_fields.specs.KeyWords.{absorb_text}

-- the number of a fault
abbrev pub fault_number : Fault → ℕ
fault_number (faults.Syntax k) = 1
fault_number (faults.UnknownName name) = 2
fault_number (faults.WrongKind name) = 3
fault_number (faults.InUse name user) = 4
fault_number (faults.Cycle path) = 5
fault_number (faults.Range quantity value limit) = 6
fault_number faults.NoMemory = 7

abbrev pub quantity_name : Quantity → List ℕ
quantity_name quantities.Rate = codes "rate"
quantity_name quantities.Duration = codes "duration"
quantity_name quantities.Weight = codes "weight"
quantity_name quantities.Flow = codes "flow"
quantity_name quantities.Hold = codes "hold"
quantity_name quantities.Amount = codes "amount"
quantity_name quantities.Provision = codes "provision"
quantity_name quantities.Sym = codes "sym"
quantity_name quantities.TaxRate = codes "taxrate"
quantity_name quantities.SecFlows = codes "secflows"
quantity_name quantities.Held = codes "held"
quantity_name quantities.LiabilityFlows = codes "lineflows"
quantity_name quantities.Volumes = codes "volumes"
quantity_name quantities.Defaults = codes "defaults"
quantity_name quantities.Years = codes "years"
quantity_name quantities.Currencies = codes "currencies"
quantity_name quantities.Securities = codes "securities"
quantity_name quantities.Funds = codes "funds"
quantity_name quantities.Components = codes "components"
quantity_name quantities.Liabilities = codes "lines"
quantity_name quantities.Groups = codes "groups"
quantity_name quantities.Exposures = codes "exposures"

unfoldable pub absorb_user : List ℕ → List ℕ
absorb_user key = codes "absorb." ++ key

-- what uses a name
abbrev pub user_text : User → List ℕ
user_text users.Asof = codes "asof"
user_text users.Hold = codes "hold"
user_text users.Lflow = codes "lflow"
user_text (users.Absorb key) = absorb_user (absorb_text key)
user_text (users.Row name) = name

unfoldable pub syntax_text : ℕ → List ℕ
syntax_text field = codes "syntax in field " ++ decimal field

-- a label and a name
unfoldable pub labelled_name : List ℕ → List ℕ → List ℕ
labelled_name label name = label ++ name

unfoldable pub in_use_text : List ℕ → User → List ℕ
in_use_text name user = (name ++ codes " in use by ") ++ user_text user

-- a name that comes after another on a path
unfoldable pub next_name : List ℕ → List ℕ
next_name name = codes " > " ++ name

-- the names of a path, one after another
abbrev pub path_text : List (List ℕ) → List ℕ
path_text [] = []
path_text (name ∷ names) = name ++ flat_map next_name names

unfoldable pub cycle_text : List (List ℕ) → List ℕ
cycle_text path = codes "cycle " ++ path_text path

-- the quantity with its value and the bound that it crosses
unfoldable pub range_text : Quantity → ℤ → ℤ → List ℕ
range_text quantity value limit =
    (((quantity_name quantity ++ codes " is ") ++ signed_decimal value) ++ codes ", limit ") ++ signed_decimal limit

abbrev pub fault_text : Fault → List ℕ
fault_text (faults.Syntax field) = syntax_text field
fault_text (faults.UnknownName name) = labelled_name (codes "unknown name ") name
fault_text (faults.WrongKind name) = labelled_name (codes "wrong kind ") name
fault_text (faults.InUse name user) = in_use_text name user
fault_text (faults.Cycle path) = cycle_text path
fault_text (faults.Range quantity value limit) = range_text quantity value limit
fault_text faults.NoMemory = codes "out of memory"

-- the number by which a fault is told, and its text
unfoldable pub refusal_text : Fault → List ℕ
refusal_text fault = (decimal (fault_number fault) ++ codes " ") ++ fault_text fault
