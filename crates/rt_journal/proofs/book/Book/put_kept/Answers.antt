use Rattle.std.proofs.Common.{rules, ◌≡◌, ap, ◌∙◌}
use Rattle.std.specs.BTreeMap.{insert_entry}
use Rattle.std.specs.Ordering.{nat_cmp}
use Rattle.rt_journal.proofs.Kept.{kept_inserted, of_lines}
use Rattle.rt_journal.proofs.book.Book.put_kept.Goals as goal

pub returns-clause-kept : goal.returns-clause-kept
returns-clause-kept c =
    let entries = c.self.inside.kept.entries in
    let same : of_lines entries ≡ c.args.self.now.kept = search rules in
    ap of_lines c.in_ok-insert.ensures.entries ∙ kept_inserted nat_cmp entries c.args.connection c.args.lines
    ∙ ap (λ es. insert_entry nat_cmp es c.args.connection c.args.lines.items) same
