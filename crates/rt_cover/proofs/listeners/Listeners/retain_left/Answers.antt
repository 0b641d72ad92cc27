use Rattle.std.proofs.Common.{◌≡◌, ◌==◌, not, sym, ap, ◌∙◌}
use Rattle.std.specs.List.{list_any}
use Rattle.rt_cover.specs.Cover.{Registered}
use Rattle.rt_cover.specs.laws.Pairs.{All-from_contained, filter_agreeing}
use Rattle.rt_cover.proofs.listeners.Listeners.retain_left.Goals as goal

pub returns-in-Some : goal.returns-in-Some
returns-in-Some g c =
    let ls = c.args.self.now in
    let ns = c.in-Some.numbers.now in
    c.end_each.ensures
    ∙ filter_agreeing (λ (l : Registered). not (list_any (λ n. n == l.0) ns)) (λ (l : Registered). not (g.E.EndedListeners.ended c.args.ending.now l.0)) ls
    (All-from_contained (λ (l : Registered). not (list_any (λ n. n == l.0) ns) ≡ not (g.E.EndedListeners.ended c.args.ending.now l.0)) ls (λ l m. ap not (sym (c.in-Some.ensures l.0))))
