use Rattle.std.proofs.Common.{◌∙◌, Ok, sym}
use Rattle.rt_world.specs.declared.report.Outcome.TheVariants.{Done}
use Rattle.rt_sync.specs.declared.state.State.{State}
use Rattle.rt_sync.specs.inside.Due.{IsDue}
use Rattle.rt_sync.specs.inside.StateView.{held_of, world_of}
use Rattle.rt_sync.proofs.Counted.{next_follows, same_follows}
use Rattle.rt_sync.proofs.Viewed.{TouchLaws, follow_step, unchanged}
use Rattle.rt_sync.proofs.state.State.make.Goals as goal

pub next-requires : goal.next-requires
next-requires c = record {
  tied = c.requires.well.tied;
  viewed = c.requires.well.viewed;
  due = record { good = c.requires.well.good; not_refused = c.requires.not_refused; not_stale = sym c.is_stale.ensures ∙ c.if-is_stale.false };
}

pub returns-then-is_stale-clause-made : goal.returns-then-is_stale-clause-made
returns-then-is_stale-clause-made c =
    let state : State = c.args.self.now in
    record {
      tied = c.requires.well.tied;
      answered = c.answer_law.ensures.stale (world_of state) c.args.step c.requires.not_refused (sym c.is_stale.ensures ∙ c.if-is_stale.true)
          ∙ (λ i. (world_of state, Ok (sym c.stale_report.ensures i)));
      follows = same_follows (held_of state) c.args.step c.requires.well.viewed (unchanged (held_of state) c.args.step c.requires.well.good.sound c.requires.well.viewed.pairs);
    }

pub returns-clause-made : goal.returns-clause-made
returns-clause-made c =
    let old : State = c.args.self.now in
    let new : State = c.next.new.self in
    let m = c.in_ok-told.ensures.made in
    let laws : TouchLaws = record { children = c.touch_law.ensures.children; unmet = c.touch_law.ensures.unmet; touched = c.touch_law.ensures.touched; few = c.touch_law.ensures.few } in
    let due : IsDue (world_of old) c.args.step = record { good = c.requires.well.good; not_refused = c.requires.not_refused; not_stale = sym c.is_stale.ensures ∙ c.if-is_stale.false } in
    record {
      tied = m.tied;
      answered = c.answer_law.ensures.made (world_of old) c.args.step c.requires.not_refused (sym c.is_stale.ensures ∙ c.if-is_stale.false)
          ∙ (λ i. (sym m.next.world i, Ok (record { outcome = Done; given = sym m.next.given i; notes = sym m.next.notes i })))
          ∙ (λ i. (world_of new, Ok (sym c.done_report.ensures i)));
      follows = next_follows (held_of old) c.args.step (held_of new) c.requires.well.good.sound.rises c.requires.well.viewed m.views
          (follow_step laws c.touch_law.ensures.unnamed c.brought_law.ensures.pushed c.sound_law.ensures.next c.stay_law.ensures.listeners c.stay_law.ensures.entries
          (held_of old) c.args.step (held_of new) due c.requires.well.viewed.pairs m.next.world m.views);
    }
