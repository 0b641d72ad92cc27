use Rattle.std.proofs.Common.{◌≡◌, ◌==◌, true, length, arith, ap, ◌∙◌}
use Rattle.std.specs.List.{list_any}
use Rattle.rt_forms.specs.Numbers.{without_number}
use Rattle.rt_forms.proofs.NumberLaws.{length_without}
use Rattle.rt_forms.proofs.numbers.Numbers.remove.Goals as goal

pub returns-clause-numbers : goal.returns-clause-numbers
returns-clause-numbers c = c.take_number.ensures.left ∙ ap (without_number c.args.number) c.self.view_is

pub returns-clause-less : goal.returns-clause-less
returns-clause-less c there =
    let ns = c.self.inside.items.items in
    let at : list_any (λ m. m == c.args.number) ns ≡ true = ap (list_any (λ m. m == c.args.number)) c.self.view_is ∙ there in
    let less = length_without c.args.number ns c.self.invariant at in
    let a = ap length c.take_number.ensures.left in
    let b = ap length c.self.view_is in
    omega (arith, less, a, b)
