use Rattle.std.proofs.Common.{rules, ◌≡◌, ◌∷◌, ◌++◌, [], ◌∙◌, ap, string_bytes, sym, subst, arith}
use Rattle.std.specs.Map.{values_of}
use denote.Param.Weighed.{most}
use Rattle.serde_json.proofs.value.Value.TheLaws.{the_size}
use Rattle.serde_json.specs.View.{members_view}
use Rattle.rt_tree.specs.Reading.{member_trees}
use Rattle.rt_journal.proofs.Members.{all_read, next_member}
use Rattle.rt_journal.proofs.file.+tree_of.Goals as goal

pub tree_of_members-loop-name-init : goal.tree_of_members-loop-name-init
tree_of_members-loop-name-init t c =
    let same : c.into_iter-name-iterator.result ≡ c.args.members.now.entries =
    c.into_iter-name-iterator.ensures.into_iter_gives ∙ c.iter-name-items.ensures.rest in
    let empty : c.new-children.result.items ≡ [] = search rules in (
      ap (λ es. member_trees (members_view es)) (sym same)
          ∙ ap (λ xs. xs ++ member_trees (members_view c.into_iter-name-iterator.result)) (sym empty),
      omega (arith, ap (λ es. most the_size (values_of es)) same),
    )

pub tree_of_members-loop-name-preserved : goal.tree_of_members-loop-name-preserved
tree_of_members-loop-name-preserved t c =
    let pushed : c.push.new.self.items ≡ c.loop-name.children.items ++ (c.in_ok-key.key, c.in_ok-child.child) ∷ [] =
    search rules in
    let named : c.in_ok-key.key ≡ string_bytes c.in-Some.name.now = search rules in (
      subst (λ xs. member_trees (members_view c.args.members.now.entries)
          ≡ xs ++ member_trees (members_view c.next.new.self)) (sym pushed)
          (next_member _ c.loop-name.children.items c.loop-name.name-iterator c.next.new.self c.in-Some.name.now
          c.in-Some.member.now c.in_ok-key.key c.in_ok-child.child c.in-Some.ensures.steps named
          c.in_ok-child.ensures.ok c.loop-name.invariant.0),
      omega (arith, c.loop-name.invariant.1, ap (λ es. most the_size (values_of es)) c.in-Some.ensures.steps),
    )

pub tree_of_members-returns : goal.tree_of_members-returns
tree_of_members-returns t c = record {
  ok = all_read c.from_children.result (member_trees (members_view c.args.members.now.entries))
      c.loop-name.children.items c.reverse.new.self.items c.loop-name.name-iterator c.in-None.ensures.steps.0
      c.loop-name.invariant.0 c.reverse.ensures.items c.from_children.ensures.ok;
}
