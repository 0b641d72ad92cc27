use Rattle.std.proofs.Common.{ℕ, ◌<◌, ◌++◌, List, Bool, ◌≡◌, None, ◌∙◌, ap, map, sym, subst, refl, rules, not}
use Rattle.std.specs.Prelude.{◌==◌}
use Rattle.std.specs.List.{filter, AllPairs}
use Rattle.rt_cover.specs.Cover.{Registered}
use Rattle.rt_cover.specs.State.{difference, remove_fault, removed}
use Rattle.rt_world.specs.declared.step.Step.{Step}
use Rattle.rt_world.specs.World.{Listener, pending}
use Rattle.rt_world.specs.Covering.{cover_in}
use Rattle.rt_world.specs.steps.Closing.{numbers_of}
use Rattle.rt_parts.specs.Renewed.{all_told_of, renewed_of}
use Rattle.rt_sync.specs.declared.state.State.{State}
use Rattle.rt_sync.specs.declared.state.StepNews.{StepNews}
use Rattle.rt_sync.specs.inside.Losing.{AreMoved, forms_at, HasLost}
use Rattle.rt_sync.specs.inside.StateView.{held_of, world_of}
use Rattle.rt_sync.proofs.Listened.{close_just, close_made, closed_is, IsJust, left_views, tied_next}
use Rattle.rt_sync.proofs.LostForms.{lost_numbers, seat_rises, covered_rise}
use Rattle.rt_sync.proofs.TagLaws.{cover_tied}
use Rattle.rt_sync.proofs.state.State.close_seat.Goals as goal

pub uncover-requires : goal.uncover-requires
uncover-requires c =
    let state : State = c.args.self.now in
    let cover : state.cover ≡ cover_in (world_of state) = cover_tied state.cover (world_of state) c.requires.tied refl refl in
    let same : c.deref-2.result.now ≡ c.in_ok-numbers.numbers.items = search rules in
    let numbers : c.deref-2.result.now ≡ numbers_of (world_of state) c.args.seat = same ∙ c.in_ok-numbers.ensures in
    (λ i. remove_fault (cover i) (numbers i)) ∙ c.covered_law.ensures.close (world_of state) c.args.seat c.requires.due.good.sound c.requires.due.not_refused

-- what is brought belongs to the cover that the listeners are taken out of
pub lose_ended-requires : goal.lose_ended-requires
lose_ended-requires c =
    let state : State = c.args.self.now in
    let ns = c.in_ok-numbers.numbers.items in
    let first : c.deref.result.now ≡ c.in_ok-numbers.numbers.items = search rules in
    let second : c.deref-2.result.now ≡ c.in_ok-numbers.numbers.items = search rules in
    let third : c.deref-3.result.now ≡ c.in_ok-numbers.numbers.items = search rules in
    let left : c.uncover.new.cover ≡ removed state.cover ns = c.in_ok-delta.ensures.cover ∙ ap (removed state.cover) second in
    let rising : AllPairs (λ (m n : ℕ). m < n) ns =
    subst (AllPairs (λ (m n : ℕ). m < n)) (sym c.in_ok-numbers.ensures)
    (seat_rises state.listeners.listeners (subst (AllPairs (λ (x y : Registered). x.0 < y.0)) c.requires.tied.listened (covered_rise state c.requires.tied c.requires.due.good.sound)) c.args.seat) in
    let lost : HasLost state.cover c.uncover.new.cover ns state.listeners.listeners c.in_ok-ended.ended.items c.in_ok-delta.delta state.brought =
    lost_numbers state c.sound_law.ensures.next c.following_law.ensures.cover c.requires.tied (Step.CloseSeat c.args.seat) c.requires.due c.uncover.new.cover
    (left ∙ closed_is state c.requires.tied c.args.seat ns c.in_ok-numbers.ensures)
    ns rising left c.in_ok-ended.ended.items (c.in_ok-ended.ensures ∙ ap (forms_at state.cover.listeners) first)
    c.in_ok-delta.delta (c.in_ok-delta.ensures.delta ∙ ap (λ ms. difference state.cover (removed state.cover ms)) second) in (
      state.cover,
      subst (λ (ms : List ℕ). HasLost state.cover c.uncover.new.cover ms state.listeners.listeners c.in_ok-ended.ended.items c.in_ok-delta.delta state.brought) (sym third) lost,
    )

pub returns : goal.returns
returns c =
    let state : State = c.args.self.now in
    let s : Step = Step.CloseSeat c.args.seat in
    let test : Listener → Bool = λ l. not (l.seat == c.args.seat) in
    let moved = c.deref-4.result.now in
    let brought = c.lose_ended.new.brought in
    let same : c.deref-2.result.now ≡ c.in_ok-numbers.numbers.items = search rules in
    let numbers : c.deref-2.result.now ≡ numbers_of (world_of state) c.args.seat = same ∙ c.in_ok-numbers.ensures in
    let lent : c.deref-4.result.now ≡ c.in_ok-moved.moved.items = search rules in
    let are : AreMoved c.uncover.new.cover state.brought brought moved = subst (AreMoved c.uncover.new.cover state.brought brought) (sym lent) c.in_ok-moved.ensures.moved in
    let just : IsJust moved state.brought brought (filter test state.listeners.listeners) =
    close_just state c.following_law.ensures.cover c.requires.due.good.sound c.requires.tied c.args.seat c.deref-2.result.now numbers c.uncover.new.cover c.in_ok-delta.ensures.cover brought moved are in
    let writes : c.pending-pending.result.now ≡ pending state.requests = c.pending-pending.ensures ∙ ap pending c.close-2.ensures ∙ c.pending_law.ensures.unseated state.requests c.args.seat in
    let said : StepNews = record { given = None; notes = c.renew.new.notes } in
    let made =
    close_made state c.listened_law.ensures.close c.requires.tied c.args.seat c.requires.due c.deref-2.result.now numbers
    c.uncover.new.cover c.in_ok-delta.ensures.cover c.close-2.new.self c.close-2.ensures brought c.in_ok-moved.ensures.brought moved just c.pending-pending.result.now writes
    c.renew.new.self.listeners (c.in_ok-renew.ensures.listeners ∙ ap (map (renewed_of moved brought c.pending-pending.result.now)) c.close.ensures.listeners)
    c.in_ok-delta.delta c.in_ok-delta.ensures.delta c.send_change.new.outgoing.items c.in_ok-send_change.ensures said refl
    (c.in_ok-renew.ensures.notes ∙ (λ i. c.new-notes.ensures.items i ++ all_told_of moved brought c.pending-pending.result.now (c.close.ensures.listeners i))) in
    record {
      tied = tied_next c.following_law.ensures.cover (world_of state) s c.requires.due.good.sound c.uncover.new.cover _ (c.in_ok-delta.ensures.cover ∙ closed_is state c.requires.tied c.args.seat c.deref-2.result.now numbers) made.world;
      next = made;
      views = left_views (held_of state) s _ test refl moved just c.close.new.self c.close.ensures.listeners c.close.ensures.views c.close.ensures.counts
          c.pending-pending.result.now c.pending-pending.ensures c.in_ok-renew.ensures.listeners c.in_ok-renew.ensures.views c.in_ok-renew.ensures.counts;
    }
