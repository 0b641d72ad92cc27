use Rattle.std.proofs.Common.{◌∙◌, ap, refl}
use Rattle.std.specs.Prelude.{codes, decimal, string_bytes}
use Rattle.rt_lines.specs.Printing.{json_text}
use Rattle.rt_foreign.proofs.Written.{around_two, written}
use Rattle.rt_foreign.proofs.item.write_cancelled.Goals as goal

pub returns : goal.returns
returns c =
    let head = codes "{\"k\":\"cancelled\",\"listener\":" in
    written c.write.result (string_bytes c.write.new.self) (string_bytes c.args.out.now) _ _
    (around_two head (decimal c.args.listener) (decimal c.args.listener) (codes ",\"why\":")
    (string_bytes c.in_ok-why.why) (json_text c.args.why.now) (codes "}") refl
    (c.in_ok-why.ensures ∙ ap json_text c.text.ensures))
    c.write.ensures.bytes
