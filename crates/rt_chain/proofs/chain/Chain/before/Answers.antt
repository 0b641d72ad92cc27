use Rattle.std.proofs.Common.{◌≡◌, ℕ, List, Some, None, ap, sym, subst, ◌∙◌, rules}
use Rattle.std.specs.Option.{option_and_then, option_copied, option_map}
use Rattle.rt_chain.specs.Chains.{below, in_half, last_in}
use Rattle.rt_chain.specs.inside.Links.{value_in}
use Rattle.rt_chain.specs.inside.Halves.{IsCut}
use Rattle.rt_chain.proofs.Looks.{before_value}
use Rattle.rt_chain.proofs.Steps.{nothing_last}
use Rattle.rt_chain.proofs.chain.Chain.before.Goals as goal

pub returns-in_err-slot : goal.returns-in_err-slot
returns-in_err-slot g c =
    let none : c.slot_before.result ≡ None = search rules in
    let out : c.from_residual.result ≡ None = search rules in
    let nothing = nothing_last (below (g.K.Ord.cmp c.args.key.now) (in_half c.args.half c.args.self.now)) (sym c.slot_before.ensures ∙ none) in
    ap option_copied out ∙ sym (ap (λ (es : List (g.row.K.Denot × (ℕ × g.row.V.Denot))). option_map (λ (e : g.row.K.Denot × (ℕ × g.row.V.Denot)). e.1.1) (last_in es)) nothing)

pub returns : goal.returns
returns g c =
    let a = subst (IsCut g.K.Ord.cmp c.self.inside.places.entries c.self.inside.nodes c.self.inside.last c.self.inside.first c.self.inside.count) c.self.view_is c.self.invariant in
    let some : c.slot_before.result ≡ Some c.in_ok-slot.slot = search rules in
    c.value_of.ensures ∙ ap (option_and_then (value_in c.self.inside.nodes)) (sym some ∙ c.slot_before.ensures) ∙ before_value a g.met.K.Ord.total c.args.key.now c.args.half
