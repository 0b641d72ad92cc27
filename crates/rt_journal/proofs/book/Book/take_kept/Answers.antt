use Rattle.std.proofs.Common.{rules, ◌≡◌, option_map, ap, sym, ◌∙◌}
use Rattle.std.specs.BTreeMap.{is_at}
use Rattle.std.specs.Map.{lookup, remove_entry}
use Rattle.std.specs.Ordering.{nat_cmp}
use Rattle.rt_journal.proofs.Kept.{kept_found, kept_removed, of_lines}
use Rattle.rt_journal.proofs.book.Book.take_kept.Goals as goal

pub returns-clause-value : goal.returns-clause-value
returns-clause-value c =
    let entries = c.self.inside.kept.entries in
    let test = is_at (nat_cmp c.args.connection) in
    let same : of_lines entries ≡ c.args.self.now.kept = search rules in
    ap (option_map (λ v. v.items)) c.remove.ensures.value ∙ sym (kept_found test entries) ∙ ap (lookup test) same

pub returns-clause-rest : goal.returns-clause-rest
returns-clause-rest c =
    let entries = c.self.inside.kept.entries in
    let test = is_at (nat_cmp c.args.connection) in
    let same : of_lines entries ≡ c.args.self.now.kept = search rules in
    ap of_lines c.remove.ensures.entries ∙ kept_removed test entries ∙ ap (remove_entry test) same
