use Rattle.std.proofs.Common.{rules, ◌≡◌, ◌∙◌, ap, sym, subst, is_some, true, false, Some, None, List, get_or}
use Rattle.rt_cache.specs.Brought.{region_part, source}
use Rattle.rt_cache.specs.Recover.{in_query_order}
use Rattle.rt_cache.specs.declared.windows.Window.{Window}
use Rattle.rt_cache.specs.inside.Held.{pairs_of, entries_of, held}
use Rattle.rt_cache.specs.inside.Sources.{source_among, HaveForms}
use Rattle.rt_cache.proofs.Bases.{source_none, source_found}
use Rattle.rt_cache.proofs.Belonging.{have_forms}
use Rattle.rt_cache.proofs.brought.Brought.source.Goals as goal

pub returns-then-is_some : goal.returns-then-is_some
returns-then-is_some c =
    let region : is_some (region_part (pairs_of c.self.inside.regions.items) (c.args.query.now).path) ≡ true = search rules in
    source_none c.self.inside.registered c.self.inside.regions.items c.self.inside.windows.items c.args.query.now region
    ∙ ap (λ b. source b c.args.query.now) c.self.view_is

pub place_of_source-requires-clause-belongs : goal.place_of_source-requires-clause-belongs
place_of_source-requires-clause-belongs c =
    subst (λ (ws : List Window). HaveForms c.self.inside.registered (in_query_order (entries_of ws))) (sym c.deref-2.ensures.value)
    (have_forms (held c.self.inside.registered c.self.inside.regions.items c.self.inside.windows.items) c.self.invariant.0 c.self.invariant.3)

pub returns-in_default : goal.returns-in_default
returns-in_default c =
    let none : is_some (region_part (pairs_of c.self.inside.regions.items) (c.args.query.now).path) ≡ false = search rules in
    let from : source_among (entries_of c.self.inside.windows.items) c.self.inside.registered c.args.query.now ≡ None = search rules in
    source_found c.self.inside.registered c.self.inside.regions.items c.self.inside.windows.items c.args.query.now None none from
    ∙ ap (λ b. source b c.args.query.now) c.self.view_is

pub returns : goal.returns
returns c =
    let none : is_some (region_part (pairs_of c.self.inside.regions.items) (c.args.query.now).path) ≡ false = search rules in
    let window : Window = c.window-window.result.now in
    let at : window ≡ get_or c.self.inside.windows.items c.in-Some.place window = search rules in
    let from : source_among (entries_of c.self.inside.windows.items) c.self.inside.registered c.args.query.now ≡ Some (get_or c.self.inside.windows.items c.in-Some.place window).query = search rules in
    ap (λ (w : Window). Some w.query) at
    ∙ source_found c.self.inside.registered c.self.inside.regions.items c.self.inside.windows.items c.args.query.now _ none from
    ∙ ap (λ b. source b c.args.query.now) c.self.view_is
