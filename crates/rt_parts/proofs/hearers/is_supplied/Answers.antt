use Rattle.std.proofs.Common.{◌≡◌, ◌==◌, get_or, Some, None, ap, sym, rules, ◌∙◌}
use Rattle.std.specs.List.{position}
use Rattle.rt_query.specs.Queries.{Query}
use Rattle.rt_parts.specs.declared.listeners.HeldListener.{HeldListener}
use Rattle.rt_parts.specs.Refreshed.{is_supplied_at}
use Rattle.rt_writes.specs.laws.Places.{found_at, any_found, any_none}
use Rattle.rt_parts.proofs.hearers.is_supplied.Goals as goal

pub returns-in-None : goal.returns-in-None
returns-in-None c =
    let none : position (λ (l : HeldListener). l.number == c.args.number) c.args.listeners.now ≡ None = search rules in
    sym (any_none (λ (l : HeldListener). l.number) (λ l. is_supplied_at c.args.range.now l.query) c.args.listeners.now c.args.number none)

pub returns-in-Some : goal.returns-in-Some
returns-in-Some c =
    let at : position (λ (l : HeldListener). l.number == c.args.number) c.args.listeners.now ≡ Some c.in-Some.at = search rules in
    let d : HeldListener = c.index-listeners-at.result in
    let own : c.query.result.now ≡ (get_or c.args.listeners.now c.in-Some.at d).query = search rules in
    c.supplies_at.ensures ∙ ap (λ (q : Query). is_supplied_at c.args.range.now q) own
    ∙ sym (any_found (λ (l : HeldListener). l.number) (λ l. is_supplied_at c.args.range.now l.query) c.args.listeners.now c.args.number (get_or c.args.listeners.now c.in-Some.at d) c.requires
    (found_at (λ (l : HeldListener). l.number == c.args.number) c.args.listeners.now c.in-Some.at d at))
