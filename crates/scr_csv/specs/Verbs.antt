-- The verbs of records and their words (this project's own).
use Rattle.std.specs.Prelude.{ℕ, ◌∷◌, List, [], codes}
use Rattle.scr_csv.specs.declared.verb.Verb.{Verb}
use Rattle.scr_csv.specs.declared.verb.Verb.TheVariants as verbs

abbrev pub verb_word : Verb → List ℕ
verb_word verbs.Asof = codes "asof"
verb_word verbs.Curve = codes "curve"
verb_word verbs.Group = codes "group"
verb_word verbs.Security = codes "sec"
verb_word verbs.Flows = codes "flows"
verb_word verbs.Fund = codes "fund"
verb_word verbs.Hold = codes "hold"
verb_word verbs.Liability = codes "line"
verb_word verbs.LiabilityFlows = codes "lflow"
verb_word verbs.Absorb = codes "absorb"
verb_word verbs.Segment = codes "seg"
verb_word verbs.Cat = codes "cat"
verb_word verbs.Lapse = codes "lapse"
verb_word verbs.Rein = codes "rein"
verb_word verbs.Bank = codes "bank"
verb_word verbs.Due = codes "due"
verb_word verbs.Op = codes "op"
verb_word verbs.Sym = codes "sym"
verb_word verbs.Tax = codes "tax"
verb_word verbs.Fdb = codes "fdb"
verb_word verbs.Intangible = codes "intangible"
verb_word verbs.Remove = codes "drop"

-- every verb, of which those that come most often stand first
abbrev pub all_verbs : List Verb
all_verbs =
    verbs.Hold ∷ verbs.Security ∷ verbs.Flows ∷ verbs.LiabilityFlows ∷ verbs.Fund ∷ verbs.Group ∷ verbs.Rein ∷
    verbs.Bank ∷ verbs.Liability ∷ verbs.Curve ∷ verbs.Segment ∷ verbs.Cat ∷ verbs.Absorb ∷ verbs.Remove ∷
    verbs.Lapse ∷ verbs.Due ∷ verbs.Op ∷ verbs.Sym ∷ verbs.Tax ∷ verbs.Fdb ∷ verbs.Intangible ∷
    verbs.Asof ∷ []
