use Rattle.std.proofs.Common.{rules, ◌≡◌, ◌||◌, ℕ, Bool, List, false, get_or, sym, ap, ◌∙◌}
use Rattle.std.specs.Option.{option_copied}
use Rattle.std.specs.List.{list_any}
use Rattle.rt_cover.specs.inside.Endings.{by_number, begins_at}
use Rattle.rt_cover.proofs.AnyLaws.{any_first, or_no}
use Rattle.rt_cover.proofs.HeldLaws.{none_at}
use Rattle.rt_cover.proofs.successors.add_next.Goals as goal

pub begun-requires-clause-there : goal.begun-requires-clause-there
begun-requires-clause-there g c = sym (ap option_copied (sym c.in-Some.is) ∙ c.at.ensures)

pub returns-in_default-clause-numbers : goal.returns-in_default-clause-numbers
returns-in_default-clause-numbers g c = λ p.
    let ended : ℕ → Bool = g.E.EndedListeners.ended c.args.ending.now in
    let begins : ℕ → Bool = begins_at (by_number ended) c.args.listeners.now p in
    or_no (list_any p c.args.numbers.now.items)
    ∙ ap (λ b. list_any p c.args.numbers.now.items || b)
    (sym (none_at ended c.args.listeners.now p (get_or c.args.supplied.now 0 0) (search rules)) ∙ any_first begins c.args.supplied.now 0 c.requires.some)

pub returns-then-others-eq0-clause-numbers : goal.returns-then-others-eq0-clause-numbers
returns-then-others-eq0-clause-numbers g c = λ p.
    let begins : ℕ → Bool = begins_at (by_number (g.E.EndedListeners.ended c.args.ending.now)) c.args.listeners.now p in
    c.in_ok-add_some.ensures p
    ∙ ap (λ b. list_any p c.args.numbers.now.items || b) (c.begun.ensures p ∙ any_first begins c.args.supplied.now 0 c.requires.some)
