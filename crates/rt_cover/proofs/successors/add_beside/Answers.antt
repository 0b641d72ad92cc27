use Rattle.std.proofs.Common.{rules, ◌≡◌, ◌||◌, Bool, true, false, not, refl, sym, ap, ◌∙◌}
use Rattle.std.specs.List.{list_any}
use Rattle.rt_cover.proofs.HeldLaws.{none_begin}
use Rattle.rt_cover.proofs.successors.add_beside.Goals as goal

or_no : (b : Bool) → b ≡ (b || false)
or_no true = refl
or_no false = refl

pub returns-then-not-has_left : goal.returns-then-not-has_left
returns-then-not-has_left g c = λ p.
    let ended = g.E.EndedListeners.ended c.args.ending.now in
    let old : Bool = list_any p c.args.numbers.now.items in
    let gone : list_any (λ m. not (ended m)) c.args.beside.now ≡ false = search rules in
    or_no old ∙ ap (λ b. old || b) (sym (none_begin ended c.args.listeners.now p c.args.beside.now gone))
