-- What a push makes, once its entries are brought and the listeners that hear of them are refreshed.
use Rattle.std.proofs.Common.{◌≡◌, false, List, map, refl, ◌∙◌, Option, None}
use Rattle.std.specs.List.{Contains, zip}
use Rattle.rt_query.specs.Queries.{Query}
use Rattle.rt_tree.specs.Assignments.{Assignment}
use Rattle.rt_writes.specs.Writes.{Write}
use Rattle.rt_cache.specs.Brought.{Brought, base}
use Rattle.rt_world.specs.declared.step.Step.{Step}
use Rattle.rt_world.specs.steps.Kind.{Part}
use Rattle.rt_world.specs.World.{Listener, World, pending}
use Rattle.rt_world.specs.After.{renewed}
use Rattle.rt_world.specs.Views.{seen_over}
use Rattle.rt_world.specs.Touched.{entries_pushed}
use Rattle.rt_world.specs.Met.{all_told, renewed_met}
use Rattle.rt_world.specs.laws.Made.{PushIsMade}
use Rattle.rt_world.specs.laws.Steps.{RenewedIsOne, StillIsQuiet}
use Rattle.rt_parts.specs.Listeners.{Listeners}
use Rattle.rt_parts.specs.Refreshed.{all_told_heard, count_heard, hears, renewed_heard, view_heard}
use Rattle.rt_sync.specs.declared.state.State.{State}
use Rattle.rt_sync.specs.declared.state.StepNews.{StepNews}
use Rattle.rt_sync.specs.inside.StateView.{held_of, world_of}
use Rattle.rt_sync.specs.inside.States.{IsReady, Makes}
use Rattle.rt_sync.proofs.NextWorlds.{push_made, refreshes_heard, tied_after}
use Rattle.rt_sync.proofs.Unheard.{heard_all, pushed_by, still_renewed, told_heard_all}

-- where those that don't hear of the entries have what they had
pub push_makes : PushIsMade → RenewedIsOne → StillIsQuiet → (state : State) (parts : List Part) → IsReady state (Step.Push parts)
    → (brought : Brought) → brought ≡ pushed_by state.cover state.brought parts
    → (range : Option Query) → ((q : Query) → hears range q ≡ false → base brought q ≡ base state.brought q)
    → (es : List Assignment) → es ≡ entries_pushed parts → (ws : List Write) → ws ≡ pending state.requests
    → (listeners : Listeners) → listeners.listeners ≡ map (renewed_heard range es brought ws) state.listeners.listeners
    → listeners.views ≡ map (view_heard range es brought ws) (zip state.listeners.listeners state.listeners.views)
    → listeners.counts ≡ map (count_heard range es brought ws) (zip (zip state.listeners.listeners state.listeners.views) state.listeners.counts)
    → (told : StepNews) → told.given ≡ None → told.notes.items ≡ all_told_heard range es brought ws state.listeners.listeners
    → Makes state (Step.Push parts) (record state { brought = brought; listeners = listeners }) told
push_makes made one quiet state parts ready brought is range unheard es entries ws pend listeners ls vs cs told given notes =
    let w : World = world_of state in
    let still : (l : Listener) → Contains w.listeners l → hears range l.query ≡ false → renewed brought ws l ≡ l =
    λ l there e. still_renewed w ready.due.good.sound quiet brought ws pend l there (unheard l.query e) in
    let all = ls ∙ heard_all w ready.due.good.sound quiet brought ws pend es range still in
    record {
      tied = tied_after state one ready.tied es brought ws _ refl all;
      next = push_made state made parts ready.due brought is es entries listeners.listeners
          (all ∙ (λ i. map (renewed_met es brought (pend i)) state.listeners.listeners)) told given
          (notes ∙ told_heard_all w ready.due.good.sound quiet brought ws pend es range still ∙ (λ i. all_told es brought (pend i) state.listeners.listeners));
      views = refreshes_heard (held_of state) _ range
          (λ l there e. (
            still_renewed w ready.due.good.sound quiet brought (pending state.requests) refl l there (unheard l.query e),
            λ i. seen_over (unheard l.query e i) (pending state.requests) l.query,
          ))
          es (entries_pushed parts) entries ws pend all vs cs;
    }
