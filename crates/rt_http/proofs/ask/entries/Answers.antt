use Rattle.std.proofs.Common.{Ok, ◌++◌, ◌∙◌, ap, sym, string_bytes}
use Rattle.serde_json.specs.View.{members_view, view}
use Rattle.rt_http.specs.Asks.{entries_in, entry_of}
use Rattle.rt_http.specs.Steps.{and_then}
use Rattle.rt_http.proofs.Entries.{entries_more}
use Rattle.rt_http.proofs.ask.entries.Goals as goal

pub loop-name-preserved : goal.loop-name-preserved
loop-name-preserved c =
    let base = c.args.base.now in
    let left = members_view c.next.new.self in
    entries_more base (entries_in base (members_view c.args.members.entries)) (string_bytes c.in-Some.name)
    (view c.in-Some.value) left c.loop-name.items.items c.in_ok-entry.entry
    (c.loop-name.invariant
    ∙ ap (λ es. and_then (entries_in base (members_view es)) (λ xs. Ok (c.loop-name.items.items ++ xs)))
    c.in-Some.ensures.steps)
    (ap (λ n. entry_of base n (view c.in-Some.value)) (sym c.as_str.ensures.value) ∙ c.in_ok-entry.ensures.ok)
    ∙ ap (λ done. and_then (entries_in base left) (λ xs. Ok (done ++ xs))) (sym c.in_ok-push.ensures.items)
