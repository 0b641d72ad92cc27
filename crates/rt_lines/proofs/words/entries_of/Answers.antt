use Rattle.std.proofs.Common.{Ok, ◌++◌, ◌∙◌, ap, sym, string_bytes}
use Rattle.serde_json.specs.View.{view as data_of, members_view}
use Rattle.rt_lines.specs.Reading.{and_then, entries_in, path_in}
use Rattle.rt_lines.proofs.Lists.{entries-more}
use Rattle.rt_lines.proofs.words.entries_of.Goals as goal

pub loop-name-preserved : goal.loop-name-preserved
loop-name-preserved c =
    entries-more (entries_in (members_view c.args.members.now.entries)) c.loop-name.items.items (string_bytes c.in-Some.name.now) (data_of c.in-Some.value.now) (members_view c.next.new.self) c.in_ok-path.path c.in_ok-tree.tree
    (c.loop-name.invariant ∙ ap (λ es. and_then (entries_in (members_view es)) (λ rest. Ok (c.loop-name.items.items ++ rest))) c.in-Some.ensures.steps)
    (ap path_in (sym c.as_str.ensures.value) ∙ c.in_ok-path.ensures.ok) c.in_ok-tree.ensures.ok
    ∙ ap (λ items. and_then (entries_in (members_view c.next.new.self)) (λ rest. Ok (items ++ rest))) (sym c.in_ok-push.ensures.items)
