use Rattle.std.proofs.Common.{List, ◌≡◌, ◌+◌, ◌++◌, ◌∷◌, [], ap, ◌∙◌, refl, Some, rules}
use Rattle.std.specs.Option.{option_to_list}
use Rattle.rt_query.specs.Supply.{form}
use Rattle.rt_cover.specs.Cover.{Registered}
use Rattle.rt_cover.specs.State.{added, add_fault, difference, is_registered}
use Rattle.rt_parts.specs.Listeners.{new_listener, first_view_of}
use Rattle.rt_world.specs.declared.step.Step.{Step}
use Rattle.rt_world.specs.Covering.{cover_in}
use Rattle.rt_world.specs.After.{renewed}
use Rattle.rt_world.specs.Met.{told}
use Rattle.rt_sync.specs.declared.state.State.{State}
use Rattle.rt_sync.specs.declared.state.StepNews.{StepNews}
use Rattle.rt_sync.specs.inside.StateView.{world_of}
use Rattle.rt_sync.proofs.Listened.{added_is, listen_made, tied_next}
use Rattle.rt_sync.proofs.TagLaws.{cover_tied}
use Rattle.rt_sync.proofs.Uncovered.{registered_unmoved}
use Rattle.rt_sync.proofs.state.State.listen.Goals as goal

pub cover_new-requires-clause-new : goal.cover_new-requires-clause-new
cover_new-requires-clause-new c =
    let state : State = c.args.self.now in
    ap (λ (ls : List Registered). is_registered ls (state.given_listeners + 1)) c.requires.tied.listened
    ∙ (c.covered_law.ensures.listen (world_of state) c.args.seat c.args.query c.requires.due.good.sound c.requires.due.not_refused).new

pub cover_new-requires-clause-fault : goal.cover_new-requires-clause-fault
cover_new-requires-clause-fault c =
    let state : State = c.args.self.now in
    let cover : state.cover ≡ cover_in (world_of state) = cover_tied state.cover (world_of state) c.requires.tied refl refl in
    let same : c.in_ok-covered.covered ≡ c.args.query = search rules in
    (λ i. add_fault (cover i) (state.given_listeners + 1) (same i))
    ∙ (c.covered_law.ensures.listen (world_of state) c.args.seat c.args.query c.requires.due.good.sound c.requires.due.not_refused).fault

pub returns : goal.returns
returns c =
    let state : State = c.args.self.now in
    let pend = c.pending-pending.ensures in
    let brought = c.register.new.self in
    let same : c.in_ok-covered.covered ≡ c.args.query = search rules in
    let covers : c.cover_new.new.cover ≡ added state.cover (state.given_listeners + 1) c.args.query = c.in_ok-delta.ensures.cover ∙ ap (added state.cover (state.given_listeners + 1)) same in
    let delta : c.in_ok-delta.delta ≡ difference state.cover (added state.cover (state.given_listeners + 1) c.args.query) = c.in_ok-delta.ensures.delta ∙ ap (λ q. difference state.cover (added state.cover (state.given_listeners + 1) q)) same in
    let listed = c.in_ok-add.ensures.listeners ∙ ap (λ ws. state.listeners.listeners ++ renewed brought ws (new_listener (state.given_listeners + 1) c.args.seat c.args.query) ∷ []) pend in
    let said : StepNews = record { given = Some (state.given_listeners + 1); notes = c.add.new.notes } in
    let made =
    listen_made state c.listened_law.ensures.listen c.requires.tied c.args.seat c.args.query c.requires.due c.cover_new.new.cover covers brought c.in_ok-register.ensures.ok
    c.add.new.self.listeners listed c.in_ok-delta.delta delta c.send_change.new.outgoing.items c.in_ok-send_change.ensures said refl
    (c.in_ok-add.ensures.notes ∙ (λ i. c.new-notes.ensures.items i ++ option_to_list (told brought (pend i) (new_listener (state.given_listeners + 1) c.args.seat c.args.query)))) in
    record {
      tied = tied_next c.following_law.ensures.cover (world_of state) (Step.Listen c.args.seat c.args.query) c.requires.due.good.sound c.cover_new.new.cover _ (covers ∙ added_is state c.requires.tied c.args.seat c.args.query) made.world;
      next = made;
      views = record {
        seat = c.args.seat;
        more = refl;
        still = λ q. registered_unmoved state.brought (form c.args.query) q c.requires.due.good.called brought c.in_ok-register.ensures.ok;
        adds = record {
          listeners = listed;
          views = c.in_ok-add.ensures.views ∙ ap (λ ws. state.listeners.views ++ first_view_of brought ws c.args.query ∷ []) pend;
          counts = c.in_ok-add.ensures.counts;
        };
      };
    }
