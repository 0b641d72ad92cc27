use Rattle.std.proofs.Common.{◌≡◌, [], ◌∷◌, ◌++◌, Some, option_map, option_and_then, refl, sym, ap, ap₂, ◌∙◌, subst, arith, append_assoc, append-nil}
use Rattle.std.proofs.lemmas.Result.{on_ok_weaker}
use Rattle.std.specs.List.Sorted.{IsStrictlySortedBy}
use Rattle.std.specs.Map.{keys_of}
use Rattle.json.specs.Token.{begin_object, key}
use Rattle.json.specs.Json as json
use Rattle.json.specs.Tree as text
use Rattle.serde_json.specs.Data.{object, put, depth, members_depth}
use Rattle.serde_json.specs.Data as value
use Rattle.serde_json.specs.Read.{of_members}
use Rattle.serde_json.specs.Written.{outline, members_outline, WritesValue, WritesMembers}
use Rattle.rt_tree.specs.Leaves.{key_cmp}
use Rattle.rt_tree.specs.Trees.{levels, IsAllowed}
use Rattle.rt_tree.specs.Writing.{members_with, data_of}
use Rattle.rt_tree.proofs.Equals.{below}
use Rattle.rt_tree.proofs.Nodes.{at-Null, at-Leaf, at-Object, kept-Object, allowed-node}
use Rattle.rt_tree.proofs.Writings.{data_of-null, data_of-of_leaf, data_of-object, put-last}
use Rattle.rt_tree.proofs.tree.text.+write.Goals as goal

pub write_tree-write_children-requires : goal.write_tree-write_children-requires
write_tree-write_children-requires t c =
    let kept = kept-Object c.tree.invariant c.in-Object.is in (
      omega (arith, c.decreases, ap levels (at-Object c.tree.view_is c.in-Object.is), below _ kept),
      kept.ordered,
    )

pub write_tree-returns-in-Null-clause-ok : goal.write_tree-returns-in-Null-clause-ok
write_tree-returns-in-Null-clause-ok t c =
    let seen : value.null ≡ data_of c.args.tree.now = sym (ap data_of (at-Null c.tree.view_is c.in-Null.is) ∙ data_of-null) in
    on_ok_weaker c.null.result (λ e. (json.null, e, ap Some seen, omega arith, ap outline seen)) c.null.ensures.ok

pub write_tree-returns-in-Leaf-clause-ok : goal.write_tree-returns-in-Leaf-clause-ok
write_tree-returns-in-Leaf-clause-ok t c =
    let seen = ap data_of (at-Leaf c.tree.view_is c.in-Leaf.is) ∙ data_of-of_leaf c.in-Leaf.leaf in
    on_ok_weaker c.write_leaf.result (λ w. subst (λ d. WritesValue d c.args.out.now.tokens c.write_leaf.new.out.tokens) (sym seen) w) c.write_leaf.ensures.ok

pub write_tree-returns-in_ok-begin_object-in-Object-clause-ok : goal.write_tree-returns-in_ok-begin_object-in-Object-clause-ok
write_tree-returns-in_ok-begin_object-in-Object-clause-ok t c =
    let seen = ap data_of (at-Object c.tree.view_is c.in-Object.is) ∙ data_of-object _ (kept-Object c.tree.invariant c.in-Object.is) in
    let opened : c.begin_object.new.self.tokens ≡ c.args.out.now.tokens ++ begin_object ∷ [] = c.in_ok-begin_object-in-Object.ensures.ok in
    on_ok_weaker c.write_children.result (λ w. (
      json.object w.0,
      w.1 ∙ ap (λ ts. ts ++ text.members_tokens w.0) opened ∙ append_assoc _ (begin_object ∷ []) _,
      ap (option_map object) w.2 ∙ ap Some (sym seen),
      omega (arith, w.3, ap depth seen),
      ap json.object w.4 ∙ ap outline (sym seen),
    )) c.write_children.ensures.ok

pub write_children-loop-key-init : goal.write_children-loop-key-init
write_children-loop-key-init t c = (refl, [], refl, λ ms reads shallow same. (ms, refl, reads, shallow, same))

pub write_children-loop-key-preserved : goal.write_children-loop-key-preserved
write_children-loop-key-preserved t c =
    let l = c.loop-key in
    let done = l.invariant.1 in
    let k = c.in-Some.key.now in
    let u = c.in-Some.child.now in
    let left = c.next.new.self in
    let gives : c.into_iter-key-iterator.result ≡ c.args.children.now.entries = c.into_iter-key-iterator.ensures.into_iter_gives.0 in
    let step : l.key-iterator ≡ (k, u) ∷ left = c.in-Some.ensures.steps in
    let all : c.into_iter-key-iterator.result ≡ done ++ (k, u) ∷ left = l.invariant.2 ∙ ap (λ es. done ++ es) step in
    let last = put-last done left k u (subst (λ es. IsStrictlySortedBy key_cmp (keys_of es)) (sym gives ∙ all) c.requires) in
    let named : c.key.new.self.tokens ≡ l.out.tokens ++ key k ∷ [] = c.in_ok-key.ensures.ok ∙ ap (λ n. l.out.tokens ++ key n ∷ []) c.text.ensures.text in
    let w = c.in_ok-write_tree.ensures.ok in (
      c.write_tree.ensures.before ∙ c.key.ensures.room.0 ∙ l.invariant.0,
      done ++ (k, u) ∷ [],
      all ∙ sym (append_assoc done ((k, u) ∷ []) left),
      λ ms reads shallow same.
          let tokens : l.out.tokens ++ text.members_tokens (json.member k w.0 ms) ≡ c.write_tree.new.out.tokens ++ text.members_tokens ms =
          sym (ap (λ ts. ts ++ text.members_tokens ms) (w.1 ∙ ap (λ ts. ts ++ text.json_tokens w.0) named) ∙ append_assoc _ (text.json_tokens w.0) _ ∙ append_assoc l.out.tokens (key k ∷ []) _) in
          subst (WritesMembers (members_with data_of c.into_iter-key-iterator.result) c.args.out.now.tokens) tokens
          (l.invariant.3 (json.member k w.0 ms) (ap (option_and_then (λ d. of_members ms (put k d (members_with data_of done)))) w.2 ∙ ap (of_members ms) last ∙ reads)
          (omega (arith, w.3, shallow, ap (λ es. members_depth (members_with data_of es)) step))
          (ap₂ (json.member k) w.4 same ∙ ap (λ es. members_outline (members_with data_of es)) (sym step))),
    )

pub write_children-returns-clause-ok : goal.write_children-returns-clause-ok
write_children-returns-clause-ok t c =
    let l = c.loop-key in
    let done = l.invariant.1 in
    let gives : c.into_iter-key-iterator.result ≡ c.args.children.now.entries = c.into_iter-key-iterator.ensures.into_iter_gives.0 in
    let all : c.into_iter-key-iterator.result ≡ done = l.invariant.2 ∙ ap (λ es. done ++ es) c.in-None.ensures.steps.0 ∙ append-nil done in
    on_ok_weaker c.end_object.result (λ e.
    subst (λ es. WritesMembers (members_with data_of es) c.args.out.now.tokens c.end_object.new.self.tokens) gives
    (subst (WritesMembers (members_with data_of c.into_iter-key-iterator.result) c.args.out.now.tokens) (sym e)
    (l.invariant.3 json.no_members (ap (λ es. Some (members_with data_of es)) (sym all)) (omega arith)
    (ap (λ es. members_outline (members_with data_of es)) (sym c.in-None.ensures.steps.0))))) c.end_object.ensures.ok

pub write_tree-returns-in-Null-clause-allowed : goal.write_tree-returns-in-Null-clause-allowed
write_tree-returns-in-Null-clause-allowed t c = subst IsAllowed c.tree.view_is (allowed-node c.tree.inside.node c.tree.invariant)

pub write_tree-returns-in-Leaf-clause-allowed : goal.write_tree-returns-in-Leaf-clause-allowed
write_tree-returns-in-Leaf-clause-allowed t c = subst IsAllowed c.tree.view_is (allowed-node c.tree.inside.node c.tree.invariant)
