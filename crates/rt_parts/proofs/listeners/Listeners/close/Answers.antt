use Rattle.std.proofs.Common.{◌==◌, not, Bool, ap, ◌∙◌}
use Rattle.std.specs.List.{filter}
use Rattle.rt_world.specs.World.{Listener}
use Rattle.rt_parts.specs.Listeners.{counts_left, views_left}
use Rattle.rt_parts.specs.inside.HeldView.{counts_of, views_of, listeners_of}
use Rattle.rt_parts.proofs.Counts.{counts_filter}
use Rattle.rt_parts.proofs.HeldLaws.{views_filter, listeners_filter}
use Rattle.rt_parts.proofs.listeners.Listeners.close.Goals as goal

pub returns-clause-listeners : goal.returns-clause-listeners
returns-clause-listeners c =
    let test : Listener → Bool = λ l. not (l.seat == c.args.seat) in
    ap listeners_of c.end_seat.ensures.left ∙ listeners_filter test c.self.inside.held.items ∙ ap (λ all. filter test all.listeners) c.self.view_is

pub returns-clause-views : goal.returns-clause-views
returns-clause-views c =
    let test : Listener → Bool = λ l. not (l.seat == c.args.seat) in
    ap views_of c.end_seat.ensures.left ∙ views_filter test c.self.inside.held.items ∙ ap (views_left test) c.self.view_is

pub returns-clause-counts : goal.returns-clause-counts
returns-clause-counts c =
    let test : Listener → Bool = λ l. not (l.seat == c.args.seat) in
    ap counts_of c.end_seat.ensures.left ∙ counts_filter test c.self.inside.held.items ∙ ap (counts_left test) c.self.view_is
