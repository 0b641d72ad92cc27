-- A tree of forms, once a listener ended.
use Rattle.std.proofs.Common.{◌≡◌, ◌<◌, ◌+◌, ℕ, [], ◌∷◌, ◌==◌, Option, None, true, cond, sym, ap, subst, ◌∙◌, arith}
use Rattle.std.specs.List.{list_any}
use Rattle.rt_tree.specs.PathTree.{Key, Path}
use Rattle.rt_query.specs.Queries.{Query}
use Rattle.rt_nodes.specs.Forest.{IsRow, row_at}
use Rattle.rt_nodes.specs.Changes.{Changed}
use Rattle.rt_nodes.proofs.Reached.{row_at_is}
use Rattle.rt_nodes.proofs.Growing.{same_changed}
use Rattle.rt_forms.specs.Numbers.{without_number}
use Rattle.rt_forms.specs.Forms.{Forms, numbers, share_form}
use Rattle.rt_forms.specs.inside.Trees.{Standing, Trees, Nodes, own, seen, seen_in, Ends, Takes, IsTaken, passed}
use Rattle.rt_forms.specs.inside.FormsView.{IsForms}
use Rattle.rt_forms.proofs.FormLaws.{share_form_is}
use Rattle.rt_forms.proofs.LessLaws.{own_bound, some_of}
use Rattle.rt_forms.proofs.TakeLaws.{takes_here, takes_below, seen_in_bound}
use Rattle.rt_forms.proofs.ViewLaws.{once_in, forms_after, at_path}

module _ (a b : Forms) (h : IsForms a) (g : Trees) (q : Query) (n : ℕ) (row : IsRow b.nodes b.first None None g)
    (changed : Changed a.nodes b.nodes (row_at a.nodes a.first) g) (takes : Takes a.top (row_at a.nodes a.first) b.top g q.path q n) where
  taken_is : IsForms b
  taken_is = forms_after a b h g row changed (takes.standing [] h.top h.good) (takes.good [] h.good)

  taken_numbers : (r : Query) → numbers b r ≡ cond (share_form r q) (without_number n (numbers a r)) (numbers a r)
  taken_numbers r =
      ap (seen r r.path b.top) (row_at_is b.nodes b.first None None g row)
      ∙ takes.numbers r r.path
      ∙ ap (λ t. cond t (without_number n (numbers a r)) (numbers a r)) (sym (share_form_is r q))

-- below the root
module _ (a : Forms) (h : IsForms a) (q : Query) (k : Key) (p : Path) (goes : q.path ≡ k ∷ p) (m : ℕ) (there : list_any (λ i. i == m) (numbers a q) ≡ true) where
  pub end_in : list_any (λ i. i == m) (seen_in q k p (row_at a.nodes a.first)) ≡ true
  end_in = ap (list_any (λ i. i == m)) (sym (at_path a h q k p goes)) ∙ there

  pub end_some : 0 < (a.top).count
  end_some =
      let some = some_of (λ i. i == m) (seen_in q k p (row_at a.nodes a.first)) end_in in
      let le = seen_in_bound q k p [] (row_at a.nodes a.first) h.good in
      let sum = (h.top).count in
      omega (arith, some, le, sum)

  module _ (u : Nodes) (r : Option ℕ) (y : Standing) (fell : a.top ≡ passed y) (taken : IsTaken a.nodes u a.first r None k p q m) where
    takes : Takes a.top (row_at a.nodes a.first) y (row_at u r) q.path q m
    takes = subst (λ x. Takes a.top (row_at a.nodes a.first) y (row_at u r) x q m) (sym goes) (takes_below a.top y (row_at a.nodes a.first) (row_at u r) k p q m fell taken.takes)

    pub part_ends : IsForms (record { top = y; nodes = u; first = r })
    part_ends = taken_is a (record { top = y; nodes = u; first = r }) h (row_at u r) q m taken.row taken.changed takes

    pub part_left : (s : Query) → numbers (record { top = y; nodes = u; first = r }) s ≡ cond (share_form s q) (without_number m (numbers a s)) (numbers a s)
    part_left = taken_numbers a (record { top = y; nodes = u; first = r }) h (row_at u r) q m taken.row taken.changed takes

-- or at it
module _ (a : Forms) (h : IsForms a) (q : Query) (m : ℕ) (short : q.path ≡ []) where
  pub top_there : list_any (λ i. i == m) (numbers a q) ≡ true → list_any (λ i. i == m) (own q a.top) ≡ true
  top_there there = ap (λ x. list_any (λ i. i == m) (seen q x a.top (row_at a.nodes a.first))) (sym short) ∙ there

  pub top_some : list_any (λ i. i == m) (numbers a q) ≡ true → 0 < (a.top).count
  top_some there =
      let some = some_of (λ i. i == m) (own q a.top) (top_there there) in
      let le = own_bound q a.top in
      let sum = (h.top).count in
      omega (arith, some, le, sum)

  module _ (y : Standing) (ends : Ends a.top y q m) where
    takes_top : Takes a.top (row_at a.nodes a.first) y (row_at a.nodes a.first) q.path q m
    takes_top = subst (λ x. Takes a.top (row_at a.nodes a.first) y (row_at a.nodes a.first) x q m) (sym short) (takes_here a.top y (row_at a.nodes a.first) q m (ends.by_path [] (h.top).at))

    still : Changed a.nodes a.nodes (row_at a.nodes a.first) (row_at a.nodes a.first)
    still = same_changed a.nodes (row_at a.nodes a.first) (once_in a h)

    pub top_ends : IsForms (record { top = y; nodes = a.nodes; first = a.first })
    top_ends = taken_is a (record { top = y; nodes = a.nodes; first = a.first }) h (row_at a.nodes a.first) q m h.row still takes_top

    pub top_left : (s : Query) → numbers (record { top = y; nodes = a.nodes; first = a.first }) s ≡ cond (share_form s q) (without_number m (numbers a s)) (numbers a s)
    top_left = taken_numbers a (record { top = y; nodes = a.nodes; first = a.first }) h (row_at a.nodes a.first) q m h.row still takes_top

    pub top_fewer : y.count + 1 ≡ (a.top).count
    top_fewer = (ends.by_path [] (h.top).at).count
