-- The keys of the factor file, and where they stand in it (this project's own).
use Rattle.std.specs.Prelude.{ℕ, List, Option, Some, None, codes, option_and_then}
use Rattle.toml.specs.Data.{Data, Members, get_member, as_table}
use Rattle.scr_factors.specs.declared.key.Key.{Key}
use Rattle.scr_factors.specs.declared.key.Key.TheVariants.{Form, SpreadS0, SpreadS1, SpreadS2, SpreadS3, SpreadS4}
use Rattle.scr_factors.specs.declared.key.Key.TheVariants.{SpreadS5, SpreadS6, SpreadNone, NlPremium, NlReserve, NlCorr}
use Rattle.scr_factors.specs.declared.key.Key.TheVariants.{NsltPremium, NsltReserve}

-- the name of the table that a key stands in, or none for a key of the file itself
abbrev pub key_table : Key → Option (List ℕ)
key_table Form = None
key_table SpreadS0 = Some (codes "spread")
key_table SpreadS1 = Some (codes "spread")
key_table SpreadS2 = Some (codes "spread")
key_table SpreadS3 = Some (codes "spread")
key_table SpreadS4 = Some (codes "spread")
key_table SpreadS5 = Some (codes "spread")
key_table SpreadS6 = Some (codes "spread")
key_table SpreadNone = Some (codes "spread")
key_table NlPremium = Some (codes "nl")
key_table NlReserve = Some (codes "nl")
key_table NlCorr = Some (codes "nl")
key_table NsltPremium = Some (codes "nslt")
key_table NsltReserve = Some (codes "nslt")

-- its name there
abbrev pub key_name : Key → List ℕ
key_name Form = codes "form"
key_name SpreadS0 = codes "s0"
key_name SpreadS1 = codes "s1"
key_name SpreadS2 = codes "s2"
key_name SpreadS3 = codes "s3"
key_name SpreadS4 = codes "s4"
key_name SpreadS5 = codes "s5"
key_name SpreadS6 = codes "s6"
key_name SpreadNone = codes "none"
key_name NlPremium = codes "premium"
key_name NlReserve = codes "reserve"
key_name NlCorr = codes "corr"
key_name NsltPremium = codes "premium"
key_name NsltReserve = codes "reserve"

-- the value that a document has at a key, if it has the table and the key
abbrev pub value_in : Option (List ℕ) → List ℕ → Members → Option Data
value_in None name document = get_member name document
value_in (Some table) name document =
    option_and_then (get_member name) (option_and_then as_table (get_member table document))

abbrev pub value_at : Key → Members → Option Data
value_at key document = value_in (key_table key) (key_name key) document
