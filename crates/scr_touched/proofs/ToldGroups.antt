-- An exchanged group of counterparties touches just the figures that its test tells, and they are among its candidates.
use Rattle.std.proofs.Common.{◌≡◌, ℕ, Bool, true, false, not, ◌&&◌, ◌||◌, ◌++◌, List, Option, Some, None, is_some, refl, sym, ap, subst, ◌∙◌, inl, inr, append_assoc}
use Rattle.std.specs.Bool.{Decides, beq}
use Rattle.std.specs.Option.{option_map_or}
use Rattle.std.proofs.lemmas.Bool.Decides.{Decides-and, Decides-eqb, Decides-like}
use Rattle.scr_factors.specs.Values.{FactorValues}
use Rattle.scr_funds.proofs.Members.{IsMember, IsMember-left, IsMember-right}
use Rattle.scr_tables.specs.Names.{same_name}
use Rattle.scr_tables.specs.Tables.{row_of}
use Rattle.scr_tables.proofs.TableRows.{same_name-is, same_name-flip, same_or_other}
use Rattle.scr_profile.specs.declared.group_kind.GroupKind.{GroupKind}
use Rattle.scr_profile.specs.declared.group_kind.GroupKind.TheVariants as group_kinds
use Rattle.scr_profile.specs.DefaultClasses.{class_of_step, first_step}
use Rattle.scr_profile.specs.declared.default_class.DefaultClass.{DefaultClass}
use Rattle.scr_profile.proofs.Words.{class-told}
use Rattle.scr_sheet.specs.BalanceSheet.{group_name, position_name, position_of}
use Rattle.scr_sheet.specs.Validity.{Valid}
use Rattle.scr_sheet.specs.declared.rows.Group.{Group}
use Rattle.scr_sheet.specs.declared.rows.Position.{Position}
use Rattle.scr_sheet.specs.declared.sheet.BalanceSheet.{BalanceSheet}
use Rattle.scr_nodes.proofs.OwnRows.{distinct-groups}
use Rattle.scr_nodes.specs.Live.{is_bond}
use Rattle.scr_nodes.specs.Own.Own.{Square, Stressed}
use Rattle.scr_nodes.specs.OwnOf.{bond_stressed, group_square}
use Rattle.scr_nodes.specs.Rows.{is_of_default_class, is_of_group, step_of_group}
use Rattle.scr_nodes.specs.Sources.{concentration_square, group_loss, security_spread, sources_of}
use Rattle.scr_nodes.specs.declared.node.Node.{Node}
use Rattle.scr_nodes.specs.declared.node.Node.TheVariants as nodes
use Rattle.scr_nodes.specs.declared.node.OfSecurity.TheVariants as of_securities
use Rattle.scr_nodes.specs.declared.node.OfGroup.TheVariants as of_groups
use Rattle.scr_nodes.specs.declared.node.Whole.TheVariants as wholes
use Rattle.scr_row_change.specs.Readings.{is_same_kind, kind_of, step_of, same_step}
use Rattle.scr_touched.specs.Groups.{group_touches, group_nodes, later_group_nodes, own_nodes, class_nodes, spread_nodes, counts_in, is_moved, square_touched}
use Rattle.scr_row_change.specs.Changes.{after}
use Rattle.scr_row_change.specs.Comparisons.{is_kept}
use Rattle.scr_touched.specs.Comparisons.{is_touched}
use Rattle.scr_row_change.specs.Exchanges.{HasName}
use Rattle.scr_row_change.specs.declared.change.Change.TheVariants as changes
use Rattle.scr_row_change.proofs.Compared.{always, Decides-number_or_none, first_of_both}
use Rattle.scr_touched.proofs.Decided.{Tells, Tells-at, told-by, unread, untouched, moved}
use Rattle.scr_row_change.proofs.Exchanged.{one-row, row-own, row-other, listed, listed_all}
use Rattle.scr_row_change.proofs.Covered.{in-either}
use Rattle.scr_row_change.proofs.Given.{in-chosen}
use Rattle.scr_touched.proofs.Given.{same-class, own-moved}

Decides-kinds : (a b : GroupKind) → Decides (is_same_kind a b) (a ≡ b)
Decides-kinds group_kinds.Name group_kinds.Name = always refl
Decides-kinds group_kinds.Covered group_kinds.Covered = always refl
Decides-kinds group_kinds.Property group_kinds.Property = always refl
Decides-kinds group_kinds.State group_kinds.State = always refl
Decides-kinds a b = ((λ e. absurd (cc)), (λ e. absurd (cc)))

module _ (factors : FactorValues) (sheet : BalanceSheet) (name : List ℕ) (new : Option Group)
    (valid : Valid sheet) (named : HasName group_name name new) where
  abbrev pub old : Option Group
  old = row_of group_name name sheet.groups

  abbrev later : BalanceSheet
  later = after (changes.Group name new) sheet

  -- the group of a name before and after
  abbrev found : List ℕ → Option Group
  found x = row_of group_name x sheet.groups

  abbrev found_after : List ℕ → Option Group
  found_after x = row_of group_name x later.groups

  own-row : (test : Option Group → Option Group → Bool) → ((row : Option Group) → test row row ≡ false)
      → (node : Node) (x : List ℕ) → Tells factors sheet later node (test (found x) (found_after x))
      → Tells factors sheet later node (same_name x name && test old new)
  own-row test still node x told =
      Tells-at factors sheet later node (same_name x name && test old new) (test (found x) (found_after x))
      (one-row group_name name new sheet.groups (distinct-groups sheet valid) named test still x) told

  -- ---- kinds and steps

  square-is : (g : Option Group) → option_map_or group_square g (Square group_kinds.Name None)
      ≡ Square (kind_of g) (step_of g)
  square-is None = refl
  square-is (Some g) = refl

  square-same : (p q : Option Group) → Decides (is_same_kind (kind_of p) (kind_of q) && same_step p q)
      (option_map_or group_square p (Square group_kinds.Name None)
      ≡ option_map_or group_square q (Square group_kinds.Name None))
  square-same p q =
      Decides-like (is_same_kind (kind_of p) (kind_of q) && same_step p q)
      (λ h. square-is p ∙ (λ i. Square (h.0 i) (h.1 i)) ∙ sym (square-is q))
      (λ e. of (kind_of p) (kind_of q) (step_of p) (step_of q) (sym (square-is p) ∙ e ∙ square-is q))
      (Decides-and (is_same_kind (kind_of p) (kind_of q)) (same_step p q) (Decides-kinds (kind_of p) (kind_of q))
      (Decides-number_or_none (step_of p) (step_of q)))
    where
      of : (k l : GroupKind) (s t : Option ℕ) → Square k s ≡ Square l t → (k ≡ l) × (s ≡ t)
      of k l s t e = (cc, cc)

  square-still : (g : Option Group) → square_touched g g ≡ false
  square-still g =
      untouched (is_some g) (is_same_kind (kind_of g) (kind_of g) && same_step g g) true ((square-same g g).1 refl) refl

  moved-still : (g : Option Group) → is_moved g g ≡ false
  moved-still g = untouched (is_some g) true true refl refl

  -- the step of a group before and after
  step-same : (x : List ℕ) → Decides (not (same_name name x) || same_step old new)
      (step_of (found x) ≡ step_of (found_after x))
  step-same x =
      same_or_other name x
      (λ e. subst (λ b. Decides (not b || same_step old new) (step_of (found x) ≡ step_of (found_after x))) (sym e)
      (subst (λ n. Decides (same_step old new) (step_of (found n) ≡ step_of (found_after n))) (same_name-is name x e)
      (subst (λ g. Decides (same_step old new) (step_of old ≡ step_of g))
      (sym (row-own group_name name new sheet.groups (distinct-groups sheet valid) named))
      (Decides-number_or_none (step_of old) (step_of new)))))
      (λ e. subst (λ b. Decides (not b || same_step old new) (step_of (found x) ≡ step_of (found_after x))) (sym e)
      (always (ap step_of (sym (row-other group_name name new sheet.groups named x (same_name-flip x name ∙ e))))))

  bond-same : (duration : ℕ) (group : Option (List ℕ))
      → Decides (not (option_map_or (same_name name) group false) || same_step old new)
      (Stressed factors (option_map_or (step_of_group sheet) group None) duration
      ≡ Stressed factors (option_map_or (step_of_group later) group None) duration)
  bond-same duration None = always refl
  bond-same duration (Some x) =
      Decides-like (not (same_name name x) || same_step old new) (λ e. ap (λ s. Stressed factors s duration) e)
      (λ e. of (step_of (found x)) (step_of (found_after x)) e) (step-same x)
    where
      of : (s t : Option ℕ) → Stressed factors s duration ≡ Stressed factors t duration → s ≡ t
      of s t e = cc

  spread-same : (position : Option Position)
      → Decides (not (option_map_or (is_of_group name) position false) || same_step old new)
      (option_map_or (bond_stressed factors sheet) position (Stressed factors None 0)
      ≡ option_map_or (bond_stressed factors later) position (Stressed factors None 0))
  spread-same None = always refl
  spread-same (Some position) = bond-same position.security.duration position.security.group

  -- ---- all figures

  of-class : (class : DefaultClass) → Decides (is_kept (is_of_default_class class) old new)
      (sources_of sheet (nodes.Whole (wholes.ClassLoss class)) ≡ sources_of later (nodes.Whole (wholes.ClassLoss class)))
  of-class class =
      listed group_name name new sheet.groups named (is_of_default_class class) group_loss
      (λ a b e. ap (λ name. nodes.Group name of_groups.Loss) e)

  pub told : (node : Node) → Tells factors sheet later node (group_touches sheet name old new node)
  told (nodes.Security x of_securities.Spread) =
      told-by factors sheet later (nodes.Security x of_securities.Spread) (is_bond sheet x) (is_bond sheet x)
      (not (counts_in sheet name x) || same_step old new) true refl refl
      (spread-same (position_of x sheet.securities)) (always refl)
  told (nodes.Group x of_groups.Total) =
      own-row is_moved moved-still (nodes.Group x of_groups.Total) x
      (told-by factors sheet later (nodes.Group x of_groups.Total) (is_some (found x)) (is_some (found_after x)) true true refl
      refl
      (always refl) (always refl))
  told (nodes.Group x of_groups.ConcentrationSquare) =
      own-row square_touched square-still (nodes.Group x of_groups.ConcentrationSquare) x
      (told-by factors sheet later (nodes.Group x of_groups.ConcentrationSquare) (is_some (found x)) (is_some (found_after x))
      (is_same_kind (kind_of (found x)) (kind_of (found_after x)) && same_step (found x) (found_after x)) true refl refl
      (square-same (found x) (found_after x)) (always refl))
  told (nodes.Whole wholes.Concentration) =
      told-by factors sheet later (nodes.Whole wholes.Concentration) true true true (beq (is_some old) (is_some new)) refl refl
      (always refl)
      (listed_all group_name name new sheet.groups named concentration_square (λ a b e. ap (λ name. nodes.Group name of_groups.ConcentrationSquare) e))
  told (nodes.Group x of_groups.Loss) =
      own-row is_moved moved-still (nodes.Group x of_groups.Loss) x
      (told-by factors sheet later (nodes.Group x of_groups.Loss) (is_some (found x)) (is_some (found_after x)) true true refl refl
      (always refl) (always refl))
  told (nodes.Whole (wholes.ClassLoss class)) =
      told-by factors sheet later (nodes.Whole (wholes.ClassLoss class)) true true true
      (is_kept (is_of_default_class class) old new) refl refl (always refl) (of-class class)
  told (nodes.Whole (wholes.ClassSquare class)) =
      told-by factors sheet later (nodes.Whole (wholes.ClassSquare class)) true true true
      (is_kept (is_of_default_class class) old new) refl refl (always refl) (of-class class)
  told (nodes.Whole (wholes.ClassSum class)) =
      unread factors sheet later (nodes.Whole (wholes.ClassSum class)) (same-class factors sheet later class refl refl)
  told node = unread factors sheet later node (record { live = refl; own = refl; sources = refl })

  -- ---- candidates

  abbrev others : List Node
  others = (class_nodes old ++ class_nodes new) ++ spread_nodes sheet name

  name-is : (x : List ℕ) (b : Bool) → (same_name x name && b) ≡ true → x ≡ name
  name-is x b e = same_name-is x name (first_of_both (same_name x name) b e)

  not-either : (a b : Bool) → (not a || b) ≡ false → a ≡ true
  not-either true b e = refl
  not-either false b e = absurd (cc)

  -- all, by the rows that they are figures of
  abbrev whole : List Node
  whole = own_nodes name ++ ((class_nodes old ++ class_nodes new) ++ spread_nodes sheet name)

  in-class : (node : Node) (class : DefaultClass)
      → is_touched true true true (is_kept (is_of_default_class class) old new) ≡ true
      → ((group : Group) → is_of_default_class class group ≡ true → IsMember node (class_nodes (Some group)))
      → IsMember node whole
  in-class node class e each =
      IsMember-right (own_nodes name) others node
      (IsMember-left (class_nodes old ++ class_nodes new) (spread_nodes sheet name) node
      (in-either (is_of_default_class class) class_nodes node each old new
      (moved true true (is_kept (is_of_default_class class) old new) e)))

  whole-covers : (node : Node) → group_touches sheet name old new node ≡ true
      → IsMember node whole
  whole-covers (nodes.Security x of_securities.Spread) e =
      IsMember-right (own_nodes name) others (nodes.Security x of_securities.Spread)
      (IsMember-right (class_nodes old ++ class_nodes new) (spread_nodes sheet name) (nodes.Security x of_securities.Spread)
      (in-chosen position_name (is_of_group name) security_spread (λ name. nodes.Security name of_securities.Spread) (λ row. refl) x sheet.securities
      (not-either (counts_in sheet name x) (same_step old new)
      (own-moved (is_bond sheet x) (not (counts_in sheet name x) || same_step old new) e))))
  whole-covers (nodes.Group x of_groups.Total) e = inl (ap (λ name. nodes.Group name of_groups.Total) (name-is x (is_moved old new) e))
  whole-covers (nodes.Group x of_groups.ConcentrationSquare) e =
      inr (inl (ap (λ name. nodes.Group name of_groups.ConcentrationSquare) (name-is x (square_touched old new) e)))
  whole-covers (nodes.Group x of_groups.Loss) e = inr (inr (inl (ap (λ name. nodes.Group name of_groups.Loss) (name-is x (is_moved old new) e))))
  whole-covers (nodes.Whole wholes.Concentration) e = inr (inr (inr (inl refl)))
  whole-covers (nodes.Whole (wholes.ClassLoss class)) e =
      in-class (nodes.Whole (wholes.ClassLoss class)) class e
      (λ group f. inl (ap (λ name. nodes.Whole (wholes.ClassLoss name)) (sym (class-told (class_of_step group.step) class ((Decides-eqb (first_step (class_of_step group.step)) (first_step class)).0 f)))))
  whole-covers (nodes.Whole (wholes.ClassSquare class)) e =
      in-class (nodes.Whole (wholes.ClassSquare class)) class e
      (λ group f. inr (inl (ap (λ name. nodes.Whole (wholes.ClassSquare name)) (sym (class-told (class_of_step group.step) class ((Decides-eqb (first_step (class_of_step group.step)) (first_step class)).0 f))))))
  whole-covers node e = absurd (cc)

  pub covers : (node : Node) → group_touches sheet name old new node ≡ true
      → IsMember node (group_nodes name old ++ later_group_nodes sheet name new)
  covers node e =
      subst (λ xs. IsMember node (own_nodes name ++ xs))
      (append_assoc (class_nodes old) (class_nodes new) (spread_nodes sheet name)) (whole-covers node e)
