use Rattle.std.proofs.Common.{◌++◌, ◌∷◌, [], Option, refl, sym, ap, ◌∙◌, arith}
use Rattle.std.specs.Option.{option_copied}
use Rattle.rt_query.specs.Queries.{Query}
use Rattle.rt_world.specs.declared.step.Step.{Step}
use Rattle.rt_world.specs.steps.Kind.{Part}
use Rattle.rt_cache.specs.Brought.{base}
use Rattle.rt_parts.specs.Refreshed.{all_told_heard, hears}
use Rattle.rt_sync.specs.declared.state.State.{State}
use Rattle.rt_sync.specs.inside.StateView.{held_of, world_of}
use Rattle.rt_sync.proofs.PushesMade.{push_makes}
use Rattle.rt_sync.proofs.Unheard.{unheard_base}
use Rattle.rt_sync.proofs.Viewed.{TouchLaws, follows_at}
use Rattle.rt_sync.proofs.state.State.take_on.Goals as goal

pub put_on-requires : goal.put_on-requires
put_on-requires c =
    let old = world_of c.args.self.now in
    let part : Part = (c.args.tag, c.args.entries.now) in
    record {
      on = c.pushed_law.ensures old (Step.Push (part ∷ [])) (part ∷ []) refl c.requires.due.not_refused 0 part (omega arith);
      kept = λ q e. c.brought_law.ensures.kept old c.args.tag q c.requires.due.good.sound c.requires.due.good.reached e;
    }

pub refresh-requires : goal.refresh-requires
refresh-requires c =
    let state : State = c.args.self.now in
    let laws : TouchLaws = record { children = c.touch_law.ensures.children; unmet = c.touch_law.ensures.unmet; touched = c.touch_law.ensures.touched; few = c.touch_law.ensures.few } in
    record {
      follow = follows_at laws c.brought_law.ensures.pushed (held_of state) c.requires.viewed.pairs (Step.Push ((c.args.tag, c.args.entries.now) ∷ [])) c.requires.due refl refl c.args.entries.now refl c.put_on.new.brought c.in_ok-put_on.ensures.pushed
          c.pending-pending.result.now c.pending-pending.ensures;
    }

pub returns : goal.returns
returns c =
    let state : State = c.args.self.now in
    let part : Part = (c.args.tag, c.args.entries.now) in
    let range : Option Query = option_copied c.range_at-range.result in
    push_makes c.push_law.ensures c.stay_law.ensures.renewed c.note_law.ensures.still state (part ∷ []) c.requires c.put_on.new.brought c.in_ok-put_on.ensures.pushed
    range (λ q e. ap (λ x. base x q) c.in_ok-put_on.ensures.pushed ∙ unheard_base state.cover state.brought part q (ap (λ r. hears r q) (sym c.range_at-range.ensures) ∙ e))
    c.args.entries.now refl c.pending-pending.result.now c.pending-pending.ensures
    c.refresh.new.self c.in_ok-refresh.ensures.listeners c.in_ok-refresh.ensures.views c.in_ok-refresh.ensures.counts _ refl
    (c.in_ok-refresh.ensures.notes ∙ (λ i. c.new-notes.ensures.items i ++ all_told_heard range c.args.entries.now c.put_on.new.brought c.pending-pending.result.now state.listeners.listeners))
