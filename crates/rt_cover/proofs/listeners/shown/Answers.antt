use Rattle.std.proofs.Common.{◌++◌, ◌∷◌, [], ◌∙◌}
use Rattle.rt_cover.specs.Cover.{first_listener}
use Rattle.rt_cover.proofs.ByPathLaws.{shown_more}
use Rattle.rt_cover.proofs.listeners.shown.Goals as goal

pub loop-listen-preserved : goal.loop-listen-preserved
loop-listen-preserved c =
    shown_more c.args.listeners.now c.loop-listen.items.items _ _ c.args.kept.now c.loop-listen.listen-index c.listen-item.result
    c.loop-listen-test.true c.listen-item.is
    (c.in_ok-push.ensures.items ∙ (λ j. c.loop-listen.items.items ++ record {
      tag = c.tag.ensures j;
      query = (c.in_ok-query.ensures ∙ c.form-form.ensures) j;
      listener = (c.first_listener-listener.ensures ∙ (λ t. first_listener c.args.listeners.now (c.form-form.ensures t))) j;
    } ∷ []))
    c.loop-listen.invariant
