use Rattle.std.proofs.Common.{rules, ◌≡◌, ◌∙◌, ℕ, ◌<◌, ◌≤◌, arith, length, get_or, ap, sym, subst, Some, true, false, is_some, List}
use Rattle.std.proofs.lemmas.List.Elements.{at_read}
use Rattle.std.specs.List.Sorted.{IsPartitionPoint}
use Rattle.std.specs.Ordering.{is_lt}
use Rattle.rt_tree.specs.PathTree.{path_cmp, path_eq}
use Rattle.rt_query.specs.Queries.{Query}
use Rattle.rt_query.specs.QueryEq.{query_eq}
use Rattle.rt_query.specs.laws.QueryEq.{query_eq_tells}
use Rattle.rt_cache.specs.declared.forms.Form.{Form}
use Rattle.rt_cache.specs.declared.windows.Window.{Window}
use Rattle.rt_cache.specs.inside.Held.{entries_of}
use Rattle.rt_cache.specs.inside.Listed.{form_query}
use Rattle.rt_cache.proofs.ByPaths.{before_more, none_of_path_left, fails_before}
use Rattle.rt_cache.proofs.Sources.{has_it}
use Rattle.rt_cache.proofs.Suppliers.{first_of_path, none_of_forms, supplies_of_path}
use Rattle.rt_cache.proofs.windows.place_of_first.Goals as goal

pub loop-place-init : goal.loop-place-init
loop-place-init c =
    let xs : List Form = c.args.forms.now in
    let ws : List Window = c.args.windows.now in
    let q : Query = c.args.query.now in
    let point : IsPartitionPoint (λ (x : Form). is_lt (path_cmp (x.query).path q.path) ≡ true) (λ (x : Form). is_lt (path_cmp (x.query).path q.path) ≡ false) xs c.first_from-place.result =
    subst (λ z. IsPartitionPoint (λ (x : Form). is_lt (path_cmp (x.query).path z) ≡ true) (λ (x : Form). is_lt (path_cmp (x.query).path z) ≡ false) xs c.first_from-place.result)
    c.path.ensures c.first_from-place.ensures.point in (
      c.first_from-place.ensures.within,
      λ k d lt. fails_before q.path ((get_or xs k d).query).path (has_it (entries_of ws) q (get_or xs k d).query) (point.0 k d (omega arith) lt)
          (supplies_of_path ws q (get_or xs k d).query c.requires.filtered),
      λ k d le lt. point.1 k d le lt,
    )

pub loop-place-preserved : goal.loop-place-preserved
loop-place-preserved c =
    let xs : List Form = c.args.forms.now in
    let ws : List Window = c.args.windows.now in
    let q : Query = c.args.query.now in
    let item : Form = c.index-forms-place.result in
    let within : c.loop-place.place < length xs = search rules in
    let at : item ≡ get_or xs c.loop-place.place item = search rules in
    let none : is_some c.place_supplying.result ≡ false = search rules in (
      omega (arith, within),
      before_more (λ (x : Form). has_it (entries_of ws) q x.query) xs c.loop-place.place item within
          (ap (has_it (entries_of ws) q) (sym (c.query-form.ensures ∙ ap form_query at)) ∙ sym c.place_supplying.ensures.known ∙ none) c.loop-place.invariant.1,
      λ k d le lt. c.loop-place.invariant.2 k d (omega (arith, le)) lt,
    )

pub returns-then-ne-clause-none : goal.returns-then-ne-clause-none
returns-then-ne-clause-none c =
    let xs : List Form = c.args.forms.now in
    let ws : List Window = c.args.windows.now in
    let q : Query = c.args.query.now in
    let item : Form = c.index-forms-place.result in
    let within : c.loop-place.place < length xs = search rules in
    let at : item ≡ get_or xs c.loop-place.place item = search rules in
    let other : path_eq (item.query).path q.path ≡ false = search rules in
    none_of_forms xs ws q
    (none_of_path_left form_query q.path (λ (x : Form). has_it (entries_of ws) q x.query) xs c.loop-place.place (λ k d lt. supplies_of_path ws q (get_or xs k d).query c.requires.filtered) c.requires.forms within c.loop-place.invariant.1
    (λ d. c.loop-place.invariant.2 c.loop-place.place d (omega arith) within)
    (at_read xs (λ (x : Form). path_eq (x.query).path q.path ≡ false) c.loop-place.place item within at other))

pub returns-in-Some-clause-source : goal.returns-in-Some-clause-source
returns-in-Some-clause-source c = λ d.
    let xs : List Form = c.args.forms.now in
    let ws : List Window = c.args.windows.now in
    let q : Query = c.args.query.now in
    let item : Form = c.index-forms-place.result in
    let within : c.loop-place.place < length xs = search rules in
    let at : item ≡ get_or xs c.loop-place.place item = search rules in
    let some : is_some c.place_supplying.result ≡ true = search rules in
    let own : query_eq (get_or ws c.in-Some.own d).query item.query ≡ true = search rules in
    first_of_path xs ws q c.loop-place.place item within at c.loop-place.invariant.1
    (ap (has_it (entries_of ws) q) (sym c.query-form.ensures) ∙ sym c.place_supplying.ensures.known ∙ some)
    ∙ ap (λ x. Some x) (sym ((query_eq_tells (get_or ws c.in-Some.own d).query item.query).0 own))

pub returns-in-Some-clause-first : goal.returns-in-Some-clause-first
returns-in-Some-clause-first c = λ k d lt.
    let ws : List Window = c.args.windows.now in
    let f : Query = c.query-form.result.now in
    let own : query_eq (get_or ws c.in-Some.own d).query f ≡ true = search rules in
    let first : (j : ℕ) (e : Window) → j < c.in-Some.own → query_eq (get_or ws j e).query f ≡ false = search rules in
    ap (query_eq (get_or ws k d).query) ((query_eq_tells (get_or ws c.in-Some.own d).query f).0 own) ∙ first k d lt

pub returns-clause-none : goal.returns-clause-none
returns-clause-none c =
    let xs : List Form = c.args.forms.now in
    let done : length xs ≤ c.loop-place.place = search rules in
    none_of_forms xs c.args.windows.now c.args.query.now (λ k d lt. c.loop-place.invariant.1 k d (omega (arith, lt, done)))
