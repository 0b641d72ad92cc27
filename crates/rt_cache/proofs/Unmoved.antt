-- Whose window a form with a window has, and where a query has a source.
use Rattle.std.proofs.Common.{◌≡◌, true, cond, refl, sym, ap, ◌∙◌, Option, Some, None, is_some}
use mathlib.Core.Bool.{true≢false}
use Rattle.std.specs.List.{find}
use Rattle.rt_tree.specs.PathTree.{PathTree}
use Rattle.rt_query.specs.Queries.{Query}
use Rattle.rt_query.specs.laws.NeededLaws.{supplies_itself}
use Rattle.rt_query.specs.laws.SupplyLaws.{form_filtered}
use Rattle.rt_cache.specs.Brought.{Brought, region_part, window_of, source}
use Rattle.rt_cache.proofs.Moves.{IsBrought, serves, source_is, source_there}

-- a form that has a window is its own source
pub own_source : (b : Brought) → IsBrought b → (f : Query) → is_some (window_of b.windows f) ≡ true → source b f ≡ Some f
own_source b brought f has =
    let outside : region_part b.regions f.path ≡ None = brought.outside f has in
    let there = brought.forms f has in
    let s = some_value (source b f) (source_there b f f outside (record { registered = there.0; supplies = supplies_itself f (form_filtered f there.1); window = has })) in
    let y = source_is b f s.0 outside s.1 in
    s.1 ∙ ap (λ z. Some z) (brought.apart s.0 f y.window has y.supplies)
  where
    some_value : (o : Option Query) → is_some o ≡ true → (x : Query) × (o ≡ Some x)
    some_value None e = absurd (true≢false (sym e))
    some_value (Some x) e = (x, refl)

-- where a query has a source no region is
pub no_region : (b : Brought) (q f : Query) → source b q ≡ Some f → region_part b.regions q.path ≡ None
no_region b q f e = at (region_part b.regions q.path) refl
  where
    at : (o : Option PathTree) → region_part b.regions q.path ≡ o → o ≡ None
    at None r = refl
    at (Some t) r = let clash : None ≡ Some f = sym (ap (λ o. cond (is_some o) None (find (serves b q) b.registered)) r) ∙ e in cc
