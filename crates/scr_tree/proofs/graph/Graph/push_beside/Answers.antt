use Rattle.std.proofs.Common.{◌≡◌, ◌-◌, ◌++◌, ◌∷◌, [], ℕ, List, true, append_assoc, ap, ◌∙◌, rules}
use Rattle.scr_figure_ids.specs.Families.{family_of, table_of}
use Rattle.scr_tree.proofs.PointSources.{is_rate, is_spread, is_square, rate-sources, spread-sources, square-sources}
use Rattle.scr_tree.proofs.graph.Graph.push_beside.Goals as goal

pub returns-in_ok-push-in-Security-default-Rate-2 : goal.returns-in_ok-push-in-Security-default-Rate-2
returns-in_ok-push-in-Security-default-Rate-2 c =
    let numbers = c.args.self.now.numbers in
    let old = c.args.list.now.items in
    let is : is_rate c.args.node.now ≡ true = search rules in
    let at = c.requires.at in (
      c.first_of.result ∷ (c.args.number - 2) ∷ [],
      c.in_ok-push-in-Security-default-Rate-2.ensures.items
          ∙ ap (λ (xs : List ℕ). xs ++ (c.args.number - 2) ∷ []) c.in_ok-push-in-Security-default-Rate.ensures.items
          ∙ append_assoc old (c.first_of.result ∷ []) ((c.args.number - 2) ∷ []),
      rate-sources numbers.book.now numbers.places.now numbers.lists.now c.requires.numbers c.args.node.now c.args.number c.first_of.result is at
          (c.first_of.ensures (table_of c.args.node.now) at.k (family_of c.args.node.now) at.at),
    )

pub returns-in_ok-push-in-Security-default-Spread : goal.returns-in_ok-push-in-Security-default-Spread
returns-in_ok-push-in-Security-default-Spread c =
    let numbers = c.args.self.now.numbers in
    let is : is_spread c.args.node.now ≡ true = search rules in (
      (c.args.number - 5) ∷ [],
      c.in_ok-push-in-Security-default-Spread.ensures.items,
      spread-sources numbers.book.now numbers.places.now numbers.lists.now c.requires.numbers c.args.node.now c.args.number is c.requires.at,
    )

pub returns-in_ok-push-in-Group-default-ConcentrationSquare-2 : goal.returns-in_ok-push-in-Group-default-ConcentrationSquare-2
returns-in_ok-push-in-Group-default-ConcentrationSquare-2 c =
    let numbers = c.args.self.now.numbers in
    let old = c.args.list.now.items in
    let is : is_square c.args.node.now ≡ true = search rules in (
      153 ∷ (c.args.number - 1) ∷ [],
      c.in_ok-push-in-Group-default-ConcentrationSquare-2.ensures.items
          ∙ ap (λ (xs : List ℕ). xs ++ (c.args.number - 1) ∷ []) c.in_ok-push-in-Group-default-ConcentrationSquare.ensures.items
          ∙ append_assoc old (153 ∷ []) ((c.args.number - 1) ∷ []),
      square-sources numbers.book.now numbers.places.now numbers.lists.now c.requires.numbers c.args.node.now c.args.number is c.requires.at,
    )
