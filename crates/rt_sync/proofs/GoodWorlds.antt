-- What holds of a core's world, before any step and after each.
use Rattle.std.proofs.Common.{◌≡◌, ◌∙◌, inl, ap, Bool, true, false, drop, sym, subst, refl, Option, Some, None}
use Rattle.std.specs.List.{All}
use Rattle.std.specs.Option.{IfSome, option_map}
use Rattle.rt_world.specs.declared.error.CoreError.{CoreError}
use Rattle.rt_world.specs.declared.step.Step.{Step}
use Rattle.rt_world.specs.World.{World}
use Rattle.rt_world.specs.Refusals.{refusal, is_stale}
use Rattle.rt_world.specs.Answers.{Answer, step}
use Rattle.rt_world.specs.Limited.{IsWithin}
use Rattle.rt_world.specs.laws.Holds.{IsSteady, StaysSteady, StaysWithin, TakenIsSteady}
use Rattle.rt_world.specs.laws.Refused.{RefusedIsNothing, StaleIsNothing, OtherIsMade}
use Rattle.rt_sync.specs.Core.{Applies, Held, without_first, world_in}
use Rattle.rt_sync.specs.Reads.{Counts, IsCounted, Reads, ReadsNamed}
use Rattle.rt_sync.specs.inside.Due.{IsGood}
use Rattle.rt_sync.specs.declared.state.State.{State}
use Rattle.rt_sync.specs.inside.StateView.{held_of, world_of}
use Rattle.rt_sync.specs.inside.States.{HoldsWell, Takes}

-- what a step answers, and what stays so
pub record Laws : Type 0 where
  pub refused : RefusedIsNothing
  pub stale : StaleIsNothing
  pub made : OtherIsMade
  pub steady : StaysSteady
  pub within : StaysWithin

pub good_step : Laws → (w : World) (s : Step) → IsGood w → IsGood (step w s).0
good_step laws w s g = at (refusal w s) (is_stale w s) refl refl
  where
    at : (o : Option CoreError) (b : Bool) → refusal w s ≡ o → is_stale w s ≡ b → IsGood (step w s).0
    at (Some e) b r f = subst (λ (x : World × Answer). IsGood x.0) (sym (laws.refused w s e r)) g
    at None true r f = subst (λ (x : World × Answer). IsGood x.0) (sym (laws.stale w s r f)) g
    at None false r f =
        let steady = laws.steady w s (record { sound = g.sound; called = g.called; reached = g.reached }) r in
        subst (λ (x : World × Answer). IsGood x.0) (sym (laws.made w s r f)) (record {
          sound = steady.sound;
          called = steady.called;
          reached = steady.reached;
          within = laws.within w s g.sound g.within r;
        })

-- without the first message it is as good
pub good_sent : TakenIsSteady → (w : World) → IsGood w → IsGood (without_first w)
good_sent law w g =
    let steady = law w (drop 1 w.outgoing) (record { sound = g.sound; called = g.called; reached = g.reached }) in
    let within = g.within in
    record {
      sound = steady.sound;
      called = steady.called;
      reached = steady.reached;
      within = record {
        listeners = within.listeners;
        requests = within.requests;
        next_listener = within.next_listener;
        next_request = within.next_request;
        next_tag = within.next_tag;
      };
    }

-- of a core that holds well the world is steady, and within its limits
pub steady_in : (core : Option State) → IfSome core HoldsWell → IfSome (world_in (option_map held_of core)) IsSteady
steady_in None h = tt
steady_in (Some k) h = record { sound = h.good.sound; called = h.good.called; reached = h.good.reached }

pub within_in : (core : Option State) → IfSome core HoldsWell → IfSome (world_in (option_map held_of core)) IsWithin
within_in None h = tt
within_in (Some k) h = h.good.within

-- ---- a step that is answered

some_is : (x y : Held) → ◌≡◌ {A = Option Held} (Some x) (Some y) → x ≡ y
some_is x y e = cc

module _ (old : State) (s : Step) (new : State) (answer : Answer) (takes : Takes old s new answer) where
  -- the state holds well after it
  pub well_after : Laws → HoldsWell old → HoldsWell new
  well_after laws well = record {
    tied = takes.tied;
    good = subst IsGood (ap (λ (p : World × Answer). p.0) takes.answered) (good_step laws (world_of old) s well.good);
    viewed = takes.follows.viewed;
  }

  module _ (core : Option Held) (is : ◌≡◌ {A = Option Held} (Some (held_of old)) core) where
    pub applied : Applies (world_in core) s answer (Some (world_of new))
    applied = subst (λ o. Applies (world_in o) s answer (Some (world_of new))) is (inl (record {
      told = ap (λ (p : World × Answer). p.1) (sym takes.answered);
      world = ap (λ (p : World × Answer). Some p.0) (sym takes.answered);
    }))

    pub applied_reads : Reads core s (Some (held_of new))
    applied_reads h k e f =
        subst (λ (p : Held × Held). ReadsNamed p.0 s p.1) (λ i. (some_is (held_of old) h (is ∙ e) i, some_is (held_of new) k f i)) takes.follows.reads

    pub applied_counts : Counts core (Some (held_of new))
    applied_counts h k e f =
        subst (λ (p : Held × Held). All (IsCounted p.0 p.1) (p.1.world).listeners) (λ i. (some_is (held_of old) h (is ∙ e) i, some_is (held_of new) k f i)) takes.follows.counts
