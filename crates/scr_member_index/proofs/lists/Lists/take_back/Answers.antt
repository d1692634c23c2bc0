use Rattle.std.proofs.Common.{◌≡◌, ℕ, ap, subst, ◌∙◌, refl}
use Rattle.scr_sum_slots.specs.Firsts.{firsts_in}
use Rattle.scr_sheet.specs.declared.keys.Table.{Table}
use Rattle.scr_sheet.specs.declared.keys.Table.TheVariants as tables
use Rattle.scr_member_index.specs.Lists.{firsts_at}
use Rattle.scr_member_index.specs.Following.{CanTakeBack, IsStill}
use Rattle.scr_member_index.specs.declared.lists.Lists.{Lists}
use Rattle.scr_member_index.proofs.Made.{four-tables}
use Rattle.scr_member_index.proofs.lists.Lists.take_back.Goals as goal

pub returns-in-Security : goal.returns-in-Security
returns-in-Security c = λ before can.
    let move = c.args.change.now in
    let now : Lists = c.args.self.now in
    let after : Lists = record { securities = c.take_back.new.firsts; liabilities = c.args.self.now.liabilities; funds = c.args.self.now.funds; groups = c.args.self.now.groups; parts = c.take_back.new.parts } in
    let own : CanTakeBack move before.securities now.securities before.parts now.parts =
    subst (λ (t : Table). CanTakeBack move (firsts_at t before) (firsts_at t now) before.parts now.parts) c.in-Security.is can.own in
    let still : IsStill before.securities c.take_back.new.firsts before.parts c.take_back.new.parts = c.take_back.ensures before.securities before.parts own in
    record {
      firsts = four-tables (λ table. (list : ℕ) → firsts_in list (firsts_at table after) ≡ firsts_in list (firsts_at table before))
          still.firsts
          (λ list. ap (firsts_in list) (can.elsewhere tables.Liability refl (λ e. let both : tables.Liability ≡ tables.Security = e ∙ c.in-Security.is in absurd (cc))))
          (λ list. ap (firsts_in list) (can.elsewhere tables.Fund refl (λ e. let both : tables.Fund ≡ tables.Security = e ∙ c.in-Security.is in absurd (cc))))
          (λ list. ap (firsts_in list) (can.elsewhere tables.Group refl (λ e. let both : tables.Group ≡ tables.Security = e ∙ c.in-Security.is in absurd (cc))));
      parts = still.parts;
    }

pub returns-in-Liability : goal.returns-in-Liability
returns-in-Liability c = λ before can.
    let move = c.args.change.now in
    let now : Lists = c.args.self.now in
    let after : Lists = record { securities = c.args.self.now.securities; liabilities = c.take_back-in-Liability.new.firsts; funds = c.args.self.now.funds; groups = c.args.self.now.groups; parts = c.take_back-in-Liability.new.parts } in
    let own : CanTakeBack move before.liabilities now.liabilities before.parts now.parts =
    subst (λ (t : Table). CanTakeBack move (firsts_at t before) (firsts_at t now) before.parts now.parts) c.in-Liability.is can.own in
    let still : IsStill before.liabilities c.take_back-in-Liability.new.firsts before.parts c.take_back-in-Liability.new.parts = c.take_back-in-Liability.ensures before.liabilities before.parts own in
    record {
      firsts = four-tables (λ table. (list : ℕ) → firsts_in list (firsts_at table after) ≡ firsts_in list (firsts_at table before))
          (λ list. ap (firsts_in list) (can.elsewhere tables.Security refl (λ e. let both : tables.Security ≡ tables.Liability = e ∙ c.in-Liability.is in absurd (cc))))
          still.firsts
          (λ list. ap (firsts_in list) (can.elsewhere tables.Fund refl (λ e. let both : tables.Fund ≡ tables.Liability = e ∙ c.in-Liability.is in absurd (cc))))
          (λ list. ap (firsts_in list) (can.elsewhere tables.Group refl (λ e. let both : tables.Group ≡ tables.Liability = e ∙ c.in-Liability.is in absurd (cc))));
      parts = still.parts;
    }

pub returns-in-Fund : goal.returns-in-Fund
returns-in-Fund c = λ before can.
    let move = c.args.change.now in
    let now : Lists = c.args.self.now in
    let after : Lists = record { securities = c.args.self.now.securities; liabilities = c.args.self.now.liabilities; funds = c.take_back-in-Fund.new.firsts; groups = c.args.self.now.groups; parts = c.take_back-in-Fund.new.parts } in
    let own : CanTakeBack move before.funds now.funds before.parts now.parts =
    subst (λ (t : Table). CanTakeBack move (firsts_at t before) (firsts_at t now) before.parts now.parts) c.in-Fund.is can.own in
    let still : IsStill before.funds c.take_back-in-Fund.new.firsts before.parts c.take_back-in-Fund.new.parts = c.take_back-in-Fund.ensures before.funds before.parts own in
    record {
      firsts = four-tables (λ table. (list : ℕ) → firsts_in list (firsts_at table after) ≡ firsts_in list (firsts_at table before))
          (λ list. ap (firsts_in list) (can.elsewhere tables.Security refl (λ e. let both : tables.Security ≡ tables.Fund = e ∙ c.in-Fund.is in absurd (cc))))
          (λ list. ap (firsts_in list) (can.elsewhere tables.Liability refl (λ e. let both : tables.Liability ≡ tables.Fund = e ∙ c.in-Fund.is in absurd (cc))))
          still.firsts
          (λ list. ap (firsts_in list) (can.elsewhere tables.Group refl (λ e. let both : tables.Group ≡ tables.Fund = e ∙ c.in-Fund.is in absurd (cc))));
      parts = still.parts;
    }

pub returns-in-Group : goal.returns-in-Group
returns-in-Group c = λ before can.
    let move = c.args.change.now in
    let now : Lists = c.args.self.now in
    let after : Lists = record { securities = c.args.self.now.securities; liabilities = c.args.self.now.liabilities; funds = c.args.self.now.funds; groups = c.take_back-in-Group.new.firsts; parts = c.take_back-in-Group.new.parts } in
    let own : CanTakeBack move before.groups now.groups before.parts now.parts =
    subst (λ (t : Table). CanTakeBack move (firsts_at t before) (firsts_at t now) before.parts now.parts) c.in-Group.is can.own in
    let still : IsStill before.groups c.take_back-in-Group.new.firsts before.parts c.take_back-in-Group.new.parts = c.take_back-in-Group.ensures before.groups before.parts own in
    record {
      firsts = four-tables (λ table. (list : ℕ) → firsts_in list (firsts_at table after) ≡ firsts_in list (firsts_at table before))
          (λ list. ap (firsts_in list) (can.elsewhere tables.Security refl (λ e. let both : tables.Security ≡ tables.Group = e ∙ c.in-Group.is in absurd (cc))))
          (λ list. ap (firsts_in list) (can.elsewhere tables.Liability refl (λ e. let both : tables.Liability ≡ tables.Group = e ∙ c.in-Group.is in absurd (cc))))
          (λ list. ap (firsts_in list) (can.elsewhere tables.Fund refl (λ e. let both : tables.Fund ≡ tables.Group = e ∙ c.in-Group.is in absurd (cc))))
          still.firsts;
      parts = still.parts;
    }
