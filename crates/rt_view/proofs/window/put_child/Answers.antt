use Rattle.std.proofs.Common.{ℕ, ◌∙◌}
use Rattle.rt_view.specs.declared.window.Child.{Child}
use Rattle.rt_view.proofs.KnownLaws.{all-put, children-half_at, children-puts, children-there, marks-put}
use Rattle.rt_view.proofs.window.put_child.Goals as goal

pub returns-clause-puts : goal.returns-clause-puts
returns-clause-puts c =
    let p : ℕ × Child = (c.in_ok-placed.placed.slot, record { key = c.in_ok-key.key; value = c.args.tree; above = c.args.above }) in
    children-puts c.in_ok-placed.placed.half c.args.position p c.args.chain.now c.put.new.self c.in_ok-placed.ensures.puts

pub returns-clause-whole : goal.returns-clause-whole
returns-clause-whole c =
    let p : ℕ × Child = (c.in_ok-placed.placed.slot, record { key = c.in_ok-key.key; value = c.args.tree; above = c.args.above }) in
    all-put c.args.position p c.args.chain.now c.put.new.self c.in_ok-placed.ensures.whole

pub returns-clause-half : goal.returns-clause-half
returns-clause-half c = c.in_ok-placed.ensures.half ∙ children-half_at c.args.position c.args.at_cut c.args.chain.now

pub returns-clause-was : goal.returns-clause-was
returns-clause-was c = c.is_some.ensures ∙ children-there c.in_ok-placed.placed.half c.args.chain.now c.args.position c.in_ok-placed.placed.old c.in_ok-placed.ensures.stood

pub returns-clause-marks : goal.returns-clause-marks
returns-clause-marks c from above h =
    let p : ℕ × Child = (c.in_ok-placed.placed.slot, record { key = c.in_ok-key.key; value = c.args.tree; above = c.args.above }) in
    marks-put from c.args.position p c.args.chain.now c.put.new.self c.in_ok-placed.ensures.whole (c.in_ok-key.ensures ∙ c.key.ensures, above) h
