-- What is due can be linked.
use Rattle.std.proofs.Common.{ℕ, ◌<◌, ◌≤◌, List, nat_eq, Contains, sym, subst, arith}
use Rattle.std.specs.List.{IsDistinct}
use Rattle.scr_funds.proofs.Members.{All-from_members, IsMember, IsMember-mapped, Contains-from_IsMember, at_member, each-from_members}
use Rattle.scr_links.specs.Edges.{Linked}
use Rattle.scr_reachability.specs.declared.ranks.Due.{Due}
use Rattle.scr_reachability.specs.LinkedDues.{AreDuesFor, IsDueAt, numbers_of, sources_count}
use Rattle.scr_reachability.specs.Graph.{Graph}
use Rattle.scr_reachability.specs.Linked.{AreNumbers, linked_to}
use Rattle.scr_reachability.specs.Relinking.{AreLinkable, IsWithin}
use Rattle.scr_reachability.proofs.Placed.{standing}

module _ {Node : Type 0} (graph : Graph Node) (At : Node → ℕ → Type 0) (size : ℕ) (numbers : AreNumbers graph At size) (starts : List ℕ)
    (at : (number : ℕ) → Contains starts number → (node : Node) × At node number) where
  pub linkable : (dues : List Due) (links : Linked) → AreDuesFor graph At starts dues → IsDistinct nat_eq starts
      → size ≤ links.size → sources_count dues ≤ links.spare → AreLinkable links dues
  linkable dues links are once room spare = record {
    once = subst (IsDistinct nat_eq) (sym are.numbers) once;
    within = each-from_members (IsWithin links.size) dues within;
    spare = spare;
  }
    where
      within : (due : Due) → IsMember due dues → IsWithin links.size due
      within due h =
          let start : Contains starts due.number = subst (λ numbers. Contains numbers due.number) are.numbers
          (Contains-from_IsMember (numbers_of dues) due.number (IsMember-mapped (λ (due : Due). due.number) dues due h)) in
          let n = at due.number start in
          let low = numbers.within n.0 due.number n.1 in
          let to = at_member (IsDueAt graph At) dues due are.each h n.0 n.1 in record {
            number = omega (arith, low, room);
            sources = All-from_members (λ source. source < links.size) due.sources.items
                (λ source m. let s = standing At due.sources.items (linked_to graph n.0) to source m in
                let below = numbers.within s.0 source s.2 in omega (arith, below, room));
          }
