use Rattle.std.proofs.Common.{rules, ◌≡◌, ◌++◌, Bool, [], ◌∷◌, map, None, ◌∙◌, sym, subst, refl, not, ap}
use Rattle.std.specs.Prelude.{◌==◌}
use Rattle.std.specs.List.{filter}
use Rattle.rt_cover.specs.State.{Cover, remove_fault}
use Rattle.rt_world.specs.declared.step.Step.{Step}
use Rattle.rt_world.specs.World.{Listener}
use Rattle.rt_parts.specs.Renewed.{all_told_of, renewed_of}
use Rattle.rt_sync.specs.declared.state.State.{State}
use Rattle.rt_sync.specs.declared.state.StepNews.{StepNews}
use Rattle.rt_sync.specs.inside.Losing.{AreMoved}
use Rattle.rt_sync.specs.inside.StateView.{held_of, world_of}
use Rattle.rt_sync.proofs.Listened.{IsJust, left_views, removed_is, unlisten_just, unlisten_made, tied_next}
use Rattle.rt_sync.proofs.LostForms.{lost_numbers, one_rises}
use Rattle.rt_sync.proofs.TagLaws.{cover_tied}
use Rattle.rt_sync.proofs.state.State.unlisten.Goals as goal

pub uncover-requires : goal.uncover-requires
uncover-requires c =
    let state : State = c.args.self.now in
    ap (λ (v : Cover). remove_fault v (c.args.listener ∷ [])) (cover_tied state.cover (world_of state) c.requires.tied refl refl)
    ∙ c.covered_law.ensures.unlisten (world_of state) c.args.seat c.args.listener c.requires.due.not_refused

-- what is brought belongs to the cover that the listener is taken out of
pub lose_ended-requires : goal.lose_ended-requires
lose_ended-requires c =
    let state : State = c.args.self.now in (
      state.cover,
      lost_numbers state c.sound_law.ensures.next c.following_law.ensures.cover c.requires.tied (Step.Unlisten c.args.seat c.args.listener) c.requires.due c.uncover.new.cover
          (c.in_ok-delta.ensures.cover ∙ removed_is state c.requires.tied c.args.seat c.args.listener)
          (c.args.listener ∷ []) (one_rises c.args.listener) c.in_ok-delta.ensures.cover c.in_ok-ended.ended.items c.in_ok-ended.ensures c.in_ok-delta.delta c.in_ok-delta.ensures.delta,
    )

pub returns : goal.returns
returns c =
    let state : State = c.args.self.now in
    let s : Step = Step.Unlisten c.args.seat c.args.listener in
    let test : Listener → Bool = λ l. not (l.number == c.args.listener) in
    let moved = c.deref.result.now in
    let brought = c.lose_ended.new.brought in
    let lent : c.deref.result.now ≡ c.in_ok-moved.moved.items = search rules in
    let are : AreMoved c.uncover.new.cover state.brought brought moved = subst (AreMoved c.uncover.new.cover state.brought brought) (sym lent) c.in_ok-moved.ensures.moved in
    let just : IsJust moved state.brought brought (filter test state.listeners.listeners) =
    unlisten_just state c.following_law.ensures.cover c.requires.due.good.sound c.requires.tied c.args.seat c.args.listener c.uncover.new.cover c.in_ok-delta.ensures.cover brought moved are in
    let said : StepNews = record { given = None; notes = c.renew.new.notes } in
    let made =
    unlisten_made state c.listened_law.ensures.unlisten c.requires.tied c.args.seat c.args.listener c.requires.due c.uncover.new.cover c.in_ok-delta.ensures.cover brought c.in_ok-moved.ensures.brought
    moved just c.pending-pending.result.now c.pending-pending.ensures
    c.renew.new.self.listeners (c.in_ok-renew.ensures.listeners ∙ ap (map (renewed_of moved brought c.pending-pending.result.now)) c.remove.ensures.listeners)
    c.in_ok-delta.delta c.in_ok-delta.ensures.delta c.send_change.new.outgoing.items c.in_ok-send_change.ensures said refl
    (c.in_ok-renew.ensures.notes ∙ (λ i. c.new-notes.ensures.items i ++ all_told_of moved brought c.pending-pending.result.now (c.remove.ensures.listeners i))) in
    record {
      tied = tied_next c.following_law.ensures.cover (world_of state) s c.requires.due.good.sound c.uncover.new.cover _ (c.in_ok-delta.ensures.cover ∙ removed_is state c.requires.tied c.args.seat c.args.listener) made.world;
      next = made;
      views = left_views (held_of state) s _ test refl moved just c.remove.new.self c.remove.ensures.listeners c.remove.ensures.views c.remove.ensures.counts
          c.pending-pending.result.now c.pending-pending.ensures c.in_ok-renew.ensures.listeners c.in_ok-renew.ensures.views c.in_ok-renew.ensures.counts;
    }
