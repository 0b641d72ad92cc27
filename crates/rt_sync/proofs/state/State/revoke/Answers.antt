use Rattle.std.proofs.Common.{rules, Bool, [], ◌∷◌, ◌≡◌, ◌++◌, None, ◌∙◌, ap, map, sym, subst, refl, not, false, Some}
use Rattle.std.specs.List.{filter}
use Rattle.std.specs.Option.{option_map, option_map_or}
use Rattle.rt_query.specs.QueryEq.{query_eq}
use Rattle.rt_query.specs.Supply.{form}
use Rattle.rt_cover.specs.Cover.{Tagged}
use Rattle.rt_cover.specs.State.{Cover, revoke_fault, listen_at}
use Rattle.rt_parts.specs.Listeners.{cancelled_note, counts_left, views_left}
use Rattle.rt_parts.specs.Renewed.{all_told_of, renewed_of}
use Rattle.rt_world.specs.declared.step.Step.{Step}
use Rattle.rt_world.specs.World.{Listener}
use Rattle.rt_world.specs.steps.Revoking.{is_cancelled}
use Rattle.rt_sync.specs.declared.state.State.{State}
use Rattle.rt_sync.specs.declared.state.StepNews.{StepNews}
use Rattle.rt_sync.specs.inside.Losing.{AreMoved}
use Rattle.rt_sync.specs.inside.StateView.{held_of, world_of}
use Rattle.rt_sync.specs.inside.Viewed.{all_in}
use Rattle.rt_sync.proofs.Listened.{IsJust, left_views, revoke_just, revoke_made, revoked_is, tied_next}
use Rattle.rt_sync.proofs.LostForms.{lost_listen}
use Rattle.rt_sync.proofs.TagLaws.{cover_tied}
use Rattle.rt_sync.proofs.state.State.revoke.Goals as goal

pub uncover_revoked-requires : goal.uncover_revoked-requires
uncover_revoked-requires c =
    let state : State = c.args.self.now in
    ap (λ (v : Cover). revoke_fault v c.args.tag) (cover_tied state.cover (world_of state) c.requires.tied refl refl)
    ∙ c.covered_law.ensures.revoked (world_of state) c.args.tag c.args.why c.requires.due.not_refused c.requires.due.not_stale

-- what is brought belongs to the cover that the listen is taken out of
pub lose_ended-requires : goal.lose_ended-requires
lose_ended-requires c =
    let state : State = c.args.self.now in (
      state.cover,
      lost_listen state c.sound_law.ensures.next c.following_law.ensures.cover c.requires.tied (Step.Revoked c.args.tag c.args.why) c.requires.due c.uncover_revoked.new.cover
          (c.in_ok-done.ensures.cover ∙ revoked_is state c.requires.tied c.args.tag c.args.why)
          c.args.tag c.in_ok-done.ensures.cover c.in_ok-form.form c.in_ok-form.ensures c.as_slice.result.now (c.as_slice.ensures ∙ c.in_ok-done.ensures.ended)
          c.push.new.self.items (c.in_ok-push.ensures.items ∙ (λ i. c.new-ended.ensures.items i ++ c.in_ok-copy.ensures i ∷ [])) c.in_ok-done.done.delta c.in_ok-done.ensures.delta,
    )

pub returns : goal.returns
returns c =
    let state : State = c.args.self.now in
    let s : Step = Step.Revoked c.args.tag c.args.why in
    let form_is : option_map (λ (k : Tagged). k.form) (listen_at state.cover c.args.tag) ≡ Some c.in_ok-form.form = c.in_ok-form.ensures in
    let test : Listener → Bool = λ l. not (is_cancelled (world_of state) c.args.tag l) in
    let of_form : Listener → Bool = λ l. not (query_eq (form l.query) c.in_ok-form.form) in
    let cover = c.uncover_revoked.new.cover in
    let covers = c.in_ok-done.ensures.cover in
    let moved = c.deref.result.now in
    let brought = c.lose_ended.new.brought in
    let ended = map (cancelled_note c.args.why) (filter (λ (l : Listener). query_eq (form l.query) c.in_ok-form.form) state.listeners.listeners) in
    let lent : c.deref.result.now ≡ c.in_ok-moved.moved.items = search rules in
    let are : AreMoved c.uncover_revoked.new.cover state.brought brought moved = subst (AreMoved c.uncover_revoked.new.cover state.brought brought) (sym lent) c.in_ok-moved.ensures.moved in
    let just : IsJust moved state.brought brought (filter of_form state.listeners.listeners) =
    revoke_just state c.following_law.ensures.cover c.requires.due.good.sound c.requires.tied c.args.tag c.args.why c.in_ok-form.form c.in_ok-form.ensures cover covers brought moved are in
    let said : StepNews = record { given = None; notes = c.renew.new.notes } in
    let made =
    revoke_made state c.listened_law.ensures.revoked c.requires.tied c.args.tag c.args.why c.requires.due c.in_ok-form.form c.in_ok-form.ensures
    cover covers brought c.in_ok-moved.ensures.brought moved just c.pending-pending.result.now c.pending-pending.ensures
    c.renew.new.self.listeners (c.in_ok-renew.ensures.listeners ∙ ap (map (renewed_of moved brought c.pending-pending.result.now)) c.in_ok-cancel.ensures.listeners)
    c.in_ok-done.done.delta c.in_ok-done.ensures.delta c.send_change.new.outgoing.items c.in_ok-send_change.ensures said refl
    (c.in_ok-renew.ensures.notes ∙ (λ i. (c.in_ok-cancel.ensures.notes ∙ ap (λ ns. ns ++ ended) c.new-notes.ensures.items) i ++ all_told_of moved brought c.pending-pending.result.now (c.in_ok-cancel.ensures.listeners i))) in
    let same : filter of_form state.listeners.listeners ≡ filter test state.listeners.listeners =
    (λ i. filter (λ (l : Listener). not (option_map_or (query_eq (form l.query)) (sym form_is i) false)) state.listeners.listeners) in
    record {
      tied = tied_next c.following_law.ensures.cover (world_of state) s c.requires.due.good.sound cover _ (covers ∙ revoked_is state c.requires.tied c.args.tag c.args.why) made.world;
      next = made;
      views = left_views (held_of state) s _ test refl moved (subst (IsJust moved state.brought brought) same just) c.cancel.new.self (c.in_ok-cancel.ensures.listeners ∙ same)
          (c.in_ok-cancel.ensures.views ∙ (λ i. views_left (λ (l : Listener). not (option_map_or (query_eq (form l.query)) (sym form_is i) false)) (all_in (held_of state))))
          (c.in_ok-cancel.ensures.counts ∙ (λ i. counts_left (λ (l : Listener). not (option_map_or (query_eq (form l.query)) (sym form_is i) false)) (all_in (held_of state))))
          c.pending-pending.result.now c.pending-pending.ensures c.in_ok-renew.ensures.listeners c.in_ok-renew.ensures.views c.in_ok-renew.ensures.counts;
    }
