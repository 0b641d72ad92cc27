use Rattle.std.proofs.Common.{◌≡◌, ◌&&◌, ◌||◌, Bool, ap, sym, subst, ◌∙◌}
use Rattle.std.specs.List.{list_any}
use Rattle.rt_tree.specs.PathTree.{path_eq}
use Rattle.rt_query.specs.Queries.{Query, is_filtered}
use Rattle.rt_query.specs.QueryEq.{query_eq}
use Rattle.rt_query.specs.Supply.{does_supply}
use Rattle.rt_cache.specs.Recover.{is_among}
use Rattle.rt_world.specs.World.{Listener}
use Rattle.rt_sync.specs.inside.Moving.{HaveSources, has_others, is_had}
use Rattle.rt_sync.proofs.MovingLaws.{no_sources, supplied_lent}
use Rattle.rt_sync.proofs.steps.losses.had_supplied.Goals as goal

pub returns-clause-those : goal.returns-clause-those
returns-clause-those c = λ q.
    let f : Query = c.args.form.now in
    let o : Bool = has_others c.args.brought.now q in
    let lent : c.deref.result.now ≡ c.in_ok-queries.queries.items = c.deref.ensures.value in
    c.in_ok-push_all.ensures.those q
    ∙ (λ i. is_had (c.new-had.ensures.items i) q || (is_among (lent i) q && o))
    ∙ ap (λ b. b && o) (c.in_ok-queries.ensures q)
    ∙ supplied_lent (is_filtered q) (path_eq q.path f.path) (list_any (λ (l : Listener). query_eq l.query q) (c.args.listeners.now).listeners) (does_supply f q) o

pub returns-clause-sources : goal.returns-clause-sources
returns-clause-sources c = c.in_ok-push_all.ensures.sources (subst (HaveSources c.args.brought.now) (sym c.new-had.ensures.items) (no_sources c.args.brought.now))
