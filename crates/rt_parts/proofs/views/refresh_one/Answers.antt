use Rattle.std.proofs.Common.{rules, ◌≡◌, ap, sym, subst, ◌∙◌}
use Rattle.rt_query.specs.Queries.{Query}
use Rattle.rt_parts.specs.declared.listeners.HeldListener.{HeldListener}
use Rattle.rt_parts.specs.Refreshed.{FollowsNamed}
use Rattle.rt_parts.specs.inside.HeldView.{pair_of}
use Rattle.rt_parts.specs.inside.Pairs.{HasOwn}
use Rattle.rt_parts.proofs.views.refresh_one.Goals as goal

pub do_meet-requires : goal.do_meet-requires
do_meet-requires c = subst (HasOwn c.args.entries.now c.args.own.now) (sym (c.path.ensures ∙ ap (λ (q : Query). q.path) c.query.ensures)) c.requires.own

pub is_covered-requires : goal.is_covered-requires
is_covered-requires c = subst (HasOwn c.args.entries.now c.args.own.now) (sym (c.path-2.ensures ∙ ap (λ (q : Query). q.path) c.query-2.ensures)) c.requires.own

pub touch_or_renew-requires-clause-follow : goal.touch_or_renew-requires-clause-follow
touch_or_renew-requires-clause-follow c =
    let own : c.args.listener.now ≡ c.deref_mut-2.result.now = search rules in
    subst (λ (l : HeldListener). FollowsNamed c.args.entries.now c.args.brought.now c.args.pending.now (pair_of l)) own c.requires.follow
