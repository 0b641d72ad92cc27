use Rattle.std.proofs.Common.{◌≡◌, [], Some, sym, ap, subst, ◌∙◌}
use Rattle.std.specs.Option.{option_map}
use Rattle.slab.specs.Slab.{get}
use Rattle.rt_nodes.specs.Forest.{row_at}
use Rattle.rt_nodes.specs.Changes.{with_content}
use Rattle.rt_nodes.specs.Nodes.{Inserted}
use Rattle.rt_forms.specs.inside.Trees.{Made, Gained, empty, passed}
use Rattle.rt_forms.proofs.NodeLaws.{alone_grown, alone_made, under_grown, under_made}
use Rattle.rt_forms.proofs.ViewLaws.{no_path}
use Rattle.rt_forms.proofs.growth.+grow.Goals as goal

pub returns-in-Ok-clause-grown : goal.returns-in-Ok-clause-grown
returns-in-Ok-clause-grown t c =
    let put_in = subst (λ x. Inserted c.args.nodes.now c.insert-2.new.self c.in_ok-index-2.index c.args.key.now c.args.parent x) c.new.ensures c.in_ok-index-2.ensures.ok in
    let value : c.pass.new.self ≡ passed empty = c.pass.ensures ∙ ap passed c.new-standing.ensures in
    let written = subst (λ x. get c.set_content.new.self c.in_ok-index-2.index ≡ option_map (with_content x (Some c.in-Ok.below)) (get c.grow.new.nodes c.in_ok-index-2.index)) value c.set_content.ensures.written in
    under_grown c.args.nodes.now c.insert-2.new.self c.in_ok-index-2.index c.args.key.now c.args.parent put_in c.grow.new.nodes c.set_content.new.self c.in-Ok.below c.in-Ok.ensures.grown
    written c.set_content.ensures.others c.set_content.ensures.len

pub returns-in-Ok-clause-made : goal.returns-in-Ok-clause-made
returns-in-Ok-clause-made t c =
    let put_in = subst (λ x. Inserted c.args.nodes.now c.insert-2.new.self c.in_ok-index-2.index c.args.key.now c.args.parent x) c.new.ensures c.in_ok-index-2.ensures.ok in
    let value : c.pass.new.self ≡ passed empty = c.pass.ensures ∙ ap passed c.new-standing.ensures in
    let written = subst (λ x. get c.set_content.new.self c.in_ok-index-2.index ≡ option_map (with_content x (Some c.in-Ok.below)) (get c.grow.new.nodes c.in_ok-index-2.index)) value c.set_content.ensures.written in
    subst (λ p. Made (row_at c.set_content.new.self (Some c.in_ok-index-2.index)) c.in_ok-index-2.index c.args.key.now p c.args.query.now c.args.number) (sym c.in-Some.ensures.cases.0)
    (under_made c.args.nodes.now c.insert-2.new.self c.in_ok-index-2.index c.args.key.now c.args.parent put_in c.grow.new.nodes c.set_content.new.self c.in-Ok.below c.in-Ok.ensures.grown
    written c.set_content.ensures.others c.set_content.ensures.len c.in-Some.child.now c.in-Some.rest.now c.args.query.now c.args.number c.in-Ok.ensures.made)

pub returns-in_default-clause-grown : goal.returns-in_default-clause-grown
returns-in_default-clause-grown t c = alone_grown c.args.nodes.now c.insert.new.self c.in_ok-index.index c.args.key.now c.args.parent c.add.new.self c.in_ok-index.ensures.ok

pub returns-in_default-clause-made : goal.returns-in_default-clause-made
returns-in_default-clause-made t c =
    let short : c.args.rest.now ≡ [] = no_path c.args.rest.now c.in_default.ensures.cases in
    let gained = subst (λ x. Gained x c.add.new.self c.args.query.now c.args.number) c.new-standing.ensures c.in_ok-add.ensures.ok in
    subst (λ p. Made (row_at c.insert.new.self (Some c.in_ok-index.index)) c.in_ok-index.index c.args.key.now p c.args.query.now c.args.number) (sym short)
    (alone_made c.args.nodes.now c.insert.new.self c.in_ok-index.index c.args.key.now c.args.parent c.add.new.self c.in_ok-index.ensures.ok c.args.query.now c.args.number gained)
