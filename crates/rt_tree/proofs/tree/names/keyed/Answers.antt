use Rattle.std.proofs.Common.{◌≡◌, [], ◌∷◌, ◌++◌, ◌∙◌, sym, ap, arith, rules, length, append_assoc, append-nil}
use Rattle.std.specs.Vec.Iter.{into_iter_items, into_iter_len}
use Rattle.std.proofs.lemmas.List.{nil_from_length}
use Rattle.rt_tree.specs.Named.{by_name, children_fault}
use Rattle.rt_tree.proofs.Named.{fine_first, fine_rest}
use Rattle.rt_tree.proofs.tree.names.keyed.Goals as goal

pub loop-name-init : goal.loop-name-init
loop-name-init c =
    let all = into_iter_items c.into_iter-name-iterator.result in
    let whole : all ≡ c.args.children.items = search rules in
    let long : into_iter_len c.into_iter-name-iterator.result ≡ length all = search rules in (
      ap (λ ks. ks ++ by_name all) c.in_ok-keyed.ensures.items ∙ ap by_name whole,
      ap (λ es. children_fault (by_name es)) whole ∙ c.requires,
      long,
    )

pub push_keyed-requires : goal.push_keyed-requires
push_keyed-requires c =
    fine_first _ _ c.in-Some.name.now c.in-Some.child (ap by_name c.in-Some.ensures.steps.0) c.loop-name.invariant.1

pub loop-name-preserved : goal.loop-name-preserved
loop-name-preserved c =
    let l = c.loop-name in
    let rest = by_name (into_iter_items c.next.new.self) in
    let steps = ap by_name c.in-Some.ensures.steps.0 in (
      ap (λ ks. ks ++ rest) c.in_ok-push_keyed.ensures ∙ append_assoc l.keyed.items ((c.in-Some.name.now, c.in-Some.child) ∷ []) rest
          ∙ ap (λ es. l.keyed.items ++ es) (sym steps) ∙ l.invariant.0,
      fine_rest _ _ c.in-Some.name.now c.in-Some.child steps l.invariant.1,
      omega (arith, ap length c.in-Some.ensures.steps.0, c.in-Some.ensures.steps.1, l.invariant.2),
    )

pub returns : goal.returns
returns c =
    let l = c.loop-name in
    let none : into_iter_items l.name-iterator ≡ [] = nil_from_length _ (sym l.invariant.2 ∙ c.in-None.ensures.steps.0) in
    sym (append-nil l.keyed.items) ∙ ap (λ es. l.keyed.items ++ by_name es) (sym none) ∙ l.invariant.0
