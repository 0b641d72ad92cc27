use Rattle.std.proofs.Common.{sym, ap, ◌∙◌, arith}
use Rattle.rt_order.specs.KeyOrder.{integer_of}
use Rattle.rt_order.proofs.Numerals.{parsed_is_integer}
use Rattle.rt_order.proofs.key.integer_of.Goals as goal

pub returns : goal.returns
returns c =
    let first = c.starts_with.ensures.byte (omega arith) (omega arith) (λ w o h. h) in
    c.ok.ensures.value ∙ parsed_is_integer c.text-text.result.now c.parse.result c.parse.ensures.value.0 (sym first ∙ c.if-starts_with.false) ∙ ap integer_of c.text-text.ensures.text
