use Rattle.std.proofs.Common.{◌≡◌, ◌&&◌, ◌||◌, List, ap, rules, ◌∙◌, OnOk, Result, Ok, Err}
use Rattle.rt_query.specs.Queries.{Query}
use Rattle.rt_cache.specs.Recover.{is_among}
use Rattle.rt_sync.specs.inside.Moving.{has_others, is_had}
use Rattle.rt_sync.proofs.steps.losses.push_path.Goals as goal

pub returns-clause-those : goal.returns-clause-those
returns-clause-those c =
    let same : c.deref.result.now ≡ c.in_ok-queries.queries.items = search rules in
    on_ok c.push_all.result c.push_all.ensures.those (λ h q.
    h q
    ∙ ap (λ (qs : List Query). is_had c.args.had.now.items q || (is_among qs q && has_others c.args.brought.now q)) same
    ∙ ap (λ b. is_had c.args.had.now.items q || (b && has_others c.args.brought.now q)) (c.in_ok-queries.ensures q))
  where
    on_ok : {A E P Q : Type 0} (r : Result A E) → OnOk r P → (P → Q) → OnOk r Q
    on_ok (Ok x) p f = f p
    on_ok (Err e) p f = tt
