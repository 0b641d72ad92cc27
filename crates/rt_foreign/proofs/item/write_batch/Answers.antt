use Rattle.std.proofs.Common.{ap}
use Rattle.std.specs.Prelude.{codes, decimal, string_bytes}
use Rattle.rt_foreign.specs.Items.{changes_text}
use Rattle.rt_foreign.proofs.Written.{behind_two}
use Rattle.rt_foreign.proofs.item.write_batch.Goals as goal

pub returns : goal.returns
returns c =
    behind_two c.write.result (string_bytes c.args.out.now) (string_bytes c.push_str.new.self)
    (string_bytes c.write_changes.new.out) (string_bytes c.write.new.self) (codes "{\"changes\":[")
    (changes_text c.as_slice.result.now) (changes_text c.args.batch.now.changes)
    (codes "],\"k\":\"batch\",\"listener\":") (decimal c.args.batch.now.listener) (codes "}")
    c.in_ok-push_str.ensures.bytes c.in_ok-write_changes.ensures (ap changes_text c.as_slice.ensures)
    c.write.ensures.bytes
