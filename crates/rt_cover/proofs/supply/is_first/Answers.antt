use Rattle.std.proofs.Common.{◌≡◌, ◌<◌, nat_lt, not, sym, ap, subst, ◌∙◌, ℕ}
use Rattle.std.specs.List.{list_any, AllPairs}
use Rattle.rt_query.specs.Supply.{form}
use Rattle.rt_cover.specs.Cover.{Registered}
use Rattle.rt_cover.specs.State.{numbers_of}
use Rattle.rt_cover.proofs.HeldLaws.{numbers_rise, of_numbers}
use Rattle.rt_cover.proofs.supply.is_first.Goals as goal

pub has_lesser-requires : goal.has_lesser-requires
has_lesser-requires c = subst (AllPairs (λ (a b : ℕ). a < b)) (sym (c.numbers.ensures ∙ ap (numbers_of c.args.listeners.now) c.form.ensures))
    (numbers_rise (c.args.listener.now).1 c.args.listeners.now c.requires.rise)

pub returns : goal.returns
returns c =
    let l : Registered = c.args.listener.now in
    ap not (c.has_lesser.ensures ∙ (λ i. list_any (λ m. nat_lt m (c.number.ensures i)) ((c.numbers.ensures ∙ ap (numbers_of c.args.listeners.now) c.form.ensures) i))
    ∙ of_numbers l.1 (λ m. nat_lt m l.0) c.args.listeners.now)
