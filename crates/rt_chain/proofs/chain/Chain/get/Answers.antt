use Rattle.std.proofs.Common.{ap, subst, ◌∙◌}
use Rattle.std.specs.Option.{option_map}
use Rattle.rt_chain.specs.inside.Halves.{IsCut}
use Rattle.rt_chain.specs.declared.chain.Node.{Node}
use Rattle.rt_chain.proofs.Cuts.{value_at}
use Rattle.rt_chain.proofs.chain.Chain.get.Goals as goal

pub returns-clause-value : goal.returns-clause-value
returns-clause-value g c fs gs k v is =
    let a = subst (IsCut g.K.Ord.cmp c.self.inside.places.entries c.self.inside.nodes c.self.inside.last c.self.inside.first c.self.inside.count) c.self.view_is c.self.invariant in
    c.value_of.ensures ∙ value_at a fs gs k c.args.slot v is

pub returns-clause-none : goal.returns-clause-none
returns-clause-none g c other =
    let a = subst (IsCut g.K.Ord.cmp c.self.inside.places.entries c.self.inside.nodes c.self.inside.last c.self.inside.first c.self.inside.count) c.self.view_is c.self.invariant in
    c.value_of.ensures ∙ ap (option_map (λ (x : Node g.row.V.Denot). x.value)) (a.all.linked.whole c.args.slot other)
