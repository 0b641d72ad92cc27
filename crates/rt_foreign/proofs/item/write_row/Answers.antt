use Rattle.std.proofs.Common.{◌∙◌, ap}
use Rattle.std.specs.Prelude.{codes, string_bytes}
use Rattle.std.specs.Option.{option_copied}
use Rattle.rt_lines.specs.Printing.{json_text, tree_text}
use Rattle.rt_foreign.specs.Items.{after_text}
use Rattle.rt_foreign.proofs.Written.{behind_row}
use Rattle.rt_foreign.proofs.item.write_row.Goals as goal

pub returns : goal.returns
returns c =
    behind_row c.write.result (string_bytes c.args.out.now) (string_bytes c.push_str.new.self)
    (string_bytes c.write_after.new.out) (string_bytes c.write.new.self) (codes "{\"after\":")
    (after_text (option_copied c.args.after)) (codes ",\"k\":\"") c.args.kind.now (codes "\",\"key\":")
    (string_bytes c.in_ok-key.key) (json_text c.args.key.now) (codes ",\"value\":") (string_bytes c.in_ok-tree.tree)
    (tree_text c.args.tree.now) (codes "}") c.in_ok-push_str.ensures.bytes c.in_ok-write_after.ensures
    (c.in_ok-key.ensures ∙ ap json_text c.text.ensures.text) c.in_ok-tree.ensures.text c.write.ensures.bytes
