use Rattle.std.proofs.Common.{◌≡◌, true, false, Bool, not, ◌||◌, List, [], ◌∷◌, refl, sym, ap, ◌∙◌, rules, tests}
use Rattle.std.specs.List.{list_any}
use Rattle.std.specs.Map.{keys_of}
use Rattle.std.proofs.lemmas.Iterator.{YieldsList-from_slice}
use Rattle.std.proofs.lemmas.Iterator.Search.{any_from_yields_List}
use Rattle.rt_tree.specs.PathTree.{Key, PathTree, key_eq, is_null}
use Rattle.rt_tree.specs.Children.{children_of}
use Rattle.rt_view.proofs.view.leaves_child.Goals as goal

any_key : (test : Key → Bool) (cs : List (Key × PathTree)) → list_any test (keys_of cs) ≡ list_any (λ c. test c.0) cs
any_key test [] = refl
any_key test (c ∷ cs) = ap (λ b. test c.0 || b) (any_key test cs)

abbrev any_other : List (Key × PathTree) → List (Key × PathTree) → Bool
any_other named cs = list_any (λ e. not (list_any (λ d. key_eq d.0 e.0) named)) cs

or_false : (b : Bool) → (b || false) ≡ b
or_false true = refl
or_false false = refl

pub returns-then-any : goal.returns-then-any
returns-then-any c =
    let full = any_from_yields_List (λ d. not (is_null d.1)) _ _ c.any.result c.any.ensures.ran (YieldsList-from_slice c.args.named.now (cc)) (λ x b q k. search (rules, tests)) in
    ap (λ b. b || any_other c.args.named.now (children_of c.args.tree.now)) (sym c.if-any.true ∙ full)

pub returns-in-Some : goal.returns-in-Some
returns-in-Some c =
    let full = any_from_yields_List (λ d. not (is_null d.1)) _ _ c.any.result c.any.ensures.ran (YieldsList-from_slice c.args.named.now (cc)) (λ x b q k. search (rules, tests)) in
    let other : c.has_other.result ≡ list_any (λ k. not (list_any (λ d. key_eq d.0 k) c.args.named.now)) (keys_of (children_of c.args.tree.now)) = search rules in
    other ∙ any_key (λ k. not (list_any (λ d. key_eq d.0 k) c.args.named.now)) (children_of c.args.tree.now)
    ∙ ap (λ b. b || any_other c.args.named.now (children_of c.args.tree.now)) (sym c.if-any.false ∙ full)

pub returns-in-None : goal.returns-in-None
returns-in-None c =
    let full = any_from_yields_List (λ d. not (is_null d.1)) _ _ c.any.result c.any.ensures.ran (YieldsList-from_slice c.args.named.now (cc)) (λ x b q k. search (rules, tests)) in
    let none : children_of c.args.tree.now ≡ [] = search rules in
    sym c.if-any.false ∙ full ∙ sym (or_false _)
    ∙ ap (λ cs. list_any (λ d. not (is_null d.1)) c.args.named.now || any_other c.args.named.now cs) (sym none)
