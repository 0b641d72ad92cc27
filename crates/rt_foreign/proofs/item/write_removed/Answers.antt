use Rattle.std.proofs.Common.{◌∙◌, ap}
use Rattle.std.specs.Prelude.{codes, string_bytes}
use Rattle.rt_lines.specs.Printing.{json_text, tree_text}
use Rattle.rt_foreign.proofs.Written.{around_two, written}
use Rattle.rt_foreign.proofs.item.write_removed.Goals as goal

pub returns : goal.returns
returns c =
    let head = codes "{\"k\":\"removed\",\"key\":" in
    written c.write.result (string_bytes c.write.new.self) (string_bytes c.args.out.now) _ _
    (around_two head (string_bytes c.in_ok-key.key) (json_text c.args.key.now) (codes ",\"old\":")
    (string_bytes c.in_ok-old.old) (tree_text c.args.old.now) (codes "}")
    (c.in_ok-key.ensures ∙ ap json_text c.text.ensures.text)
    c.in_ok-old.ensures.text) c.write.ensures.bytes
