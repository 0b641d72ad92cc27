use Rattle.std.proofs.Common.{◌≡◌, ◌&&◌, sym, subst, ◌∙◌}
use Rattle.std.specs.List.{list_any, All}
use Rattle.rt_tree.specs.Assignments.{is_at_or_above}
use Rattle.rt_query.specs.Supply.{form}
use Rattle.rt_cover.specs.Cover.{Registered}
use Rattle.rt_cover.proofs.HeldLaws.{under_tells}
use Rattle.rt_cover.proofs.listeners.Listeners.numbers_under.Goals as goal

pub returns : goal.returns
returns c = λ t.
    under_tells c.self.inside.by_number.items c.self.inside.forms c.self.invariant
    (subst (All (λ (l : Registered). form l.1 ≡ l.1)) (sym c.self.view_is) c.requires) c.args.path.now c.in_ok-numbers.numbers.items
    c.in_ok-numbers.ensures.each c.in_ok-numbers.ensures.only t
    ∙ (λ i. list_any (λ (l : Registered). is_at_or_above c.args.path.now (l.1).path && t l.0) (c.self.view_is i))
