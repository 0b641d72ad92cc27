use Rattle.std.proofs.Common.{◌≡◌, None, ap, sym, ◌∙◌, rules}
use Rattle.rt_chain.specs.inside.Links.{slot_after}
use Rattle.rt_chain.proofs.Entries.{head-first}
use Rattle.rt_chain.proofs.chain.after.Goals as goal

pub returns-in-Some-first_key_value : goal.returns-in-Some-first_key_value
returns-in-Some-first_key_value g c =
    let none : c.args.previous ≡ None = search rules in
    head-first c.args.places.now.entries (c.in-Some-first_key_value.field-0-0.now, c.in-Some-first_key_value.slot.now) c.in-Some-first_key_value.ensures.first ∙ ap (slot_after c.args.nodes.now c.args.places.now.entries) (sym none)
