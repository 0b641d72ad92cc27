use Rattle.std.proofs.Common.{rules, ◌≡◌, ◌∙◌, ◌&&◌, ap, sym, not, true, false}
use Rattle.std.specs.List.{list_any}
use Rattle.rt_query.specs.Supply.{does_supply}
use Rattle.rt_cache.specs.declared.windows.Window.{Window}
use Rattle.rt_cache.specs.inside.Handing.{window_queries, staying_of}
use Rattle.rt_cache.proofs.ByPaths.{any_map}
use Rattle.rt_cache.proofs.handover.loses_window.Goals as goal

pub returns-then-not-has_supplier : goal.returns-then-not-has_supplier
returns-then-not-has_supplier c = λ those among h.
    let none : list_any (λ (w : Window). does_supply w.query c.args.query.now) c.args.windows.now ≡ false = search rules in
    sym (ap (λ b. b && not (list_any (λ f. does_supply f c.args.query.now) (staying_of those among (window_queries c.args.windows.now))))
    (sym (any_map (λ (w : Window). w.query) (λ f. does_supply f c.args.query.now) c.args.windows.now) ∙ none))

pub returns : goal.returns
returns c = λ those among h.
    let some : list_any (λ (w : Window). does_supply w.query c.args.query.now) c.args.windows.now ≡ true = search rules in
    ap not (c.has_staying_supplier.ensures those among h)
    ∙ ap (λ b. b && not (list_any (λ f. does_supply f c.args.query.now) (staying_of those among (window_queries c.args.windows.now))))
    (sym (sym (any_map (λ (w : Window). w.query) (λ f. does_supply f c.args.query.now) c.args.windows.now) ∙ some))
