use Rattle.std.proofs.Common.{◌≡◌, cond, None, ap, sym, subst, ◌∙◌}
use Rattle.rt_chain.specs.Chains.{below, in_half, last_or, slots_of}
use Rattle.rt_chain.specs.inside.Links.{slot_below}
use Rattle.rt_chain.specs.inside.Halves.{IsCut}
use Rattle.rt_chain.specs.declared.chain.Half.{Half}
use Rattle.rt_chain.specs.declared.chain.Half.TheVariants.{Front, Behind}
use Rattle.rt_chain.proofs.Looks.{before_slot, before_step}
use Rattle.rt_chain.proofs.chain.Chain.slot_before.Goals as goal
use Rattle.rt_chain.proofs.chain.Chain.slot_before.Goals.{in-Some, in-None}

pub returns-in-Front : goal.returns-in-Front
returns-in-Front g c =
    let a = subst (IsCut g.K.Ord.cmp c.self.inside.places.entries c.self.inside.nodes c.self.inside.last c.self.inside.first c.self.inside.count) c.self.view_is c.self.invariant in
    let lower : c.match-find.lower ≡ slot_below (g.K.Ord.cmp c.args.key.now) c.self.inside.places.entries =
    elim c.match-find.branch [
      | in-Some w ↦ w.lower-is ∙ w.previous_of-lower.ensures ∙ before_slot a g.met.K.Ord.total c.args.key.now w.in-Some.slot (sym c.find.ensures ∙ w.in-Some.is)
      | in-None w ↦ w.lower-is ∙ w.below-lower.ensures
    ] in
    c.either.ensures ∙ ap (λ b. cond b c.self.inside.last c.match-find.lower) c.is_behind-behind.ensures ∙ before_step a g.met.K.Ord.total c.args.key.now Front c.match-find.lower lower
    ∙ ap (λ (h : Half). last_or None (slots_of (below (g.K.Ord.cmp c.args.key.now) (in_half h c.args.self.now)))) (sym c.in-Front.is)

pub returns-in-Behind : goal.returns-in-Behind
returns-in-Behind g c =
    let a = subst (IsCut g.K.Ord.cmp c.self.inside.places.entries c.self.inside.nodes c.self.inside.last c.self.inside.first c.self.inside.count) c.self.view_is c.self.invariant in
    let lower : c.match-find.lower ≡ slot_below (g.K.Ord.cmp c.args.key.now) c.self.inside.places.entries =
    elim c.match-find.branch [
      | in-Some w ↦ w.lower-is ∙ w.previous_of-lower.ensures ∙ before_slot a g.met.K.Ord.total c.args.key.now w.in-Some.slot (sym c.find.ensures ∙ w.in-Some.is)
      | in-None w ↦ w.lower-is ∙ w.below-lower.ensures
    ] in
    c.either-in-Behind.ensures ∙ ap (λ b. cond b c.match-find.lower None) c.is_behind-behind.ensures ∙ before_step a g.met.K.Ord.total c.args.key.now Behind c.match-find.lower lower
    ∙ ap (λ (h : Half). last_or None (slots_of (below (g.K.Ord.cmp c.args.key.now) (in_half h c.args.self.now)))) (sym c.in-Behind.is)
