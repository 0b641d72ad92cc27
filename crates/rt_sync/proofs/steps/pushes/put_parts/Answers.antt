use Rattle.std.proofs.Common.{◌≡◌, ◌&&◌, not, true, ◌∙◌, sym, ap, subst, List, Some}
use Rattle.std.specs.List.{All, list_any}
use Rattle.std.specs.Option.{option_map}
use Rattle.rt_query.specs.Queries.{Query}
use Rattle.rt_query.specs.QueryEq.{query_eq}
use Rattle.rt_query.specs.Supply.{does_supply}
use Rattle.rt_cache.specs.Brought.{may_put}
use Rattle.rt_cover.specs.Cover.{Tagged}
use Rattle.rt_cover.specs.State.{listen_at}
use Rattle.rt_world.specs.steps.Kind.{Part}
use Rattle.rt_world.specs.laws.Made.{IsPushOn}
use Rattle.rt_sync.proofs.steps.pushes.put_parts.Goals as goal

pub put_on-requires : goal.put_on-requires
put_on-requires c =
    let part : Part = c.part-item.result in
    record {
      on = λ q there.
          let each = subst (λ (p : Part). (r : Query) → option_map (λ (k : Tagged). k.form) (listen_at c.args.cover.now p.0) ≡ Some r → All (IsPushOn r) p.1)
          (sym c.part-item.is) (c.requires.on c.loop-part.part-index part c.loop-part-test.true) in
          subst (All (IsPushOn q)) (sym (c.as_slice.ensures ∙ c.entries.ensures))
          (each q (ap (λ n. option_map (λ (k : Tagged). k.form) (listen_at c.args.cover.now n)) (sym c.tag.ensures) ∙ there));
      kept = λ q there.
          let each = subst (λ (p : Part). (r : Query) → option_map (λ (k : Tagged). k.form) (listen_at c.args.cover.now p.0) ≡ Some r → may_put c.args.brought.now r ≡ true)
          (sym c.part-item.is) (c.requires.kept c.loop-part.part-index part c.loop-part-test.true) in
          subst (λ (fs : List Query). (list_any (λ f. query_eq f q) fs && not (list_any (λ f. not (query_eq f q) && does_supply f q) fs)) ≡ true) (sym c.loop-part.invariant.1)
          (each q (ap (λ n. option_map (λ (k : Tagged). k.form) (listen_at c.args.cover.now n)) (sym c.tag.ensures) ∙ there));
    }
