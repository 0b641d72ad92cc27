use Rattle.std.proofs.Common.{rules, ◌≡◌, ◌∙◌, ◌||◌, ap, sym, subst, is_some, true, false}
use Rattle.std.specs.List.{list_any, All}
use Rattle.rt_query.specs.Queries.{is_filtered}
use Rattle.rt_query.specs.Supply.{does_supply}
use Rattle.rt_cache.specs.Brought.{region_part, knows}
use Rattle.rt_cache.specs.declared.windows.Window.{Window}
use Rattle.rt_cache.specs.inside.ByPath.{AreApart, query_of}
use Rattle.rt_cache.specs.inside.Held.{pairs_of, held}
use Rattle.rt_cache.proofs.Apart.{windows_apart}
use Rattle.rt_cache.proofs.Belonging.{have_forms}
use Rattle.rt_cache.proofs.Bases.{knows_found}
use Rattle.rt_cache.proofs.Sources.{all_kept}
use Rattle.rt_cache.proofs.brought.Brought.knows.Goals as goal

pub has_supplier-requires-clause-filtered : goal.has_supplier-requires-clause-filtered
has_supplier-requires-clause-filtered c =
    subst (All (λ (w : Window). is_filtered w.query ≡ true)) (sym c.deref-else-is_some.ensures.value) (all_kept (λ q. is_filtered q ≡ true) c.self.inside.windows.items c.self.invariant.0.filtered)

pub has_supplier-requires-clause-apart : goal.has_supplier-requires-clause-apart
has_supplier-requires-clause-apart c =
    subst (AreApart query_of) (sym c.deref-else-is_some.ensures.value)
    (windows_apart c.self.inside.registered c.self.inside.windows.items (have_forms (held c.self.inside.registered c.self.inside.regions.items c.self.inside.windows.items) c.self.invariant.0 c.self.invariant.3))

pub returns-then-is_some-clause-known : goal.returns-then-is_some-clause-known
returns-then-is_some-clause-known c =
    let region : is_some (region_part (pairs_of c.self.inside.regions.items) (c.args.query.now).path) ≡ true = search rules in
    c.if-is_some.true
    ∙ ap (λ b. b || list_any (λ (w : Window). does_supply w.query c.args.query.now) c.self.inside.windows.items) (sym region)
    ∙ sym (knows_found c.self.inside.registered c.self.inside.regions.items c.self.inside.windows.items c.args.query.now c.self.invariant.3.windows)
    ∙ ap (λ b. knows b c.args.query.now) c.self.view_is

pub returns-else-is_some-clause-known : goal.returns-else-is_some-clause-known
returns-else-is_some-clause-known c =
    let region : is_some (region_part (pairs_of c.self.inside.regions.items) (c.args.query.now).path) ≡ false = search rules in
    let window : c.has_supplier.result ≡ list_any (λ (w : Window). does_supply w.query c.args.query.now) c.self.inside.windows.items = search rules in
    window
    ∙ ap (λ b. b || list_any (λ (w : Window). does_supply w.query c.args.query.now) c.self.inside.windows.items) (sym region)
    ∙ sym (knows_found c.self.inside.registered c.self.inside.regions.items c.self.inside.windows.items c.args.query.now c.self.invariant.3.windows)
    ∙ ap (λ b. knows b c.args.query.now) c.self.view_is
