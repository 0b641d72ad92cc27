use Rattle.std.proofs.Common.{◌≡◌, Some, None, ap, sym, ◌∙◌, rules}
use Rattle.std.specs.Option.{option_copied}
use Rattle.rt_view.proofs.KnownLaws.{half-before, key_marked}
use Rattle.rt_view.proofs.window.key_before.Goals as goal

pub returns-then-child : goal.returns-then-child
returns-then-child c from marks =
    let here : option_copied c.before-2.result ≡ Some c.in-Some.child.now = search rules in
    let is : Some c.in-Some.child.now.key ≡ key_marked (Some c.in-Some.child.now) = search rules in
    is ∙ ap key_marked (sym here ∙ c.before-2.ensures) ∙ half-before from c.args.half c.args.chain.now c.args.position.now marks

pub returns-else-child : goal.returns-else-child
returns-else-child c from marks =
    let here : option_copied c.before-2.result ≡ Some c.in-Some.child.now = search rules in
    let is : None ≡ key_marked (Some c.in-Some.child.now) = search rules in
    is ∙ ap key_marked (sym here ∙ c.before-2.ensures) ∙ half-before from c.args.half c.args.chain.now c.args.position.now marks

pub returns-in-None : goal.returns-in-None
returns-in-None c from marks =
    let here : option_copied c.before-2.result ≡ None = search rules in
    ap key_marked (sym here ∙ c.before-2.ensures) ∙ half-before from c.args.half c.args.chain.now c.args.position.now marks
