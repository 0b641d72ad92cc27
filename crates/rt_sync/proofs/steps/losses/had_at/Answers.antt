use Rattle.std.proofs.Common.{◌≡◌, ◌<◌, ◌≤◌, ◌&&◌, ℕ, List, length, get_or, rules, ap, sym, subst, ◌∙◌}
use Rattle.rt_query.specs.Queries.{Query}
use Rattle.rt_sync.specs.inside.Moving.{HaveSources, is_had, is_lent, is_of_path}
use Rattle.rt_sync.proofs.Lists.{taken_all}
use Rattle.rt_sync.proofs.MovingLaws.{no_sources, paths_more, paths_none}
use Rattle.rt_sync.proofs.steps.losses.had_at.Goals as goal

pub loop-form-init : goal.loop-form-init
loop-form-init c = record {
  those = λ q. ap (λ hs. is_had hs q) c.new-had.ensures.items ∙ paths_none c.args.brought.now c.args.listeners.now.listeners q c.args.forms.now;
  sources = subst (HaveSources c.args.brought.now) (sym c.new-had.ensures.items) (no_sources c.args.brought.now);
}

pub loop-form-preserved : goal.loop-form-preserved
loop-form-preserved c =
    let i : ℕ = c.loop-form.form-index in
    let f : Query = c.form-item.result in
    let within : i < length c.args.forms.now = search rules in
    let at : f ≡ get_or c.args.forms.now i f = search rules in
    let path : c.path.result.now ≡ f.path = search rules in
    record {
      those = λ q. paths_more c.args.brought.now c.args.listeners.now.listeners q c.args.forms.now i f c.path.result.now
          (is_had c.loop-form.had.items q) (is_had c.push_path.new.had.items q) within at path (c.loop-form.invariant.those q) (c.in_ok-push_path.ensures.those q);
      sources = c.in_ok-push_path.ensures.sources c.loop-form.invariant.sources;
    }

pub returns-clause-those : goal.returns-clause-those
returns-clause-those c = λ q.
    let done : length c.args.forms.now ≤ c.loop-form.form-index = search rules in
    c.loop-form.invariant.those q
    ∙ ap (λ (fs : List Query). is_of_path fs q.path && is_lent c.args.brought.now c.args.listeners.now.listeners q) (taken_all c.loop-form.form-index c.args.forms.now done)

pub returns-clause-sources : goal.returns-clause-sources
returns-clause-sources c = c.loop-form.invariant.sources
