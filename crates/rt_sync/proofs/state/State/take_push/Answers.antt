use Rattle.std.proofs.Common.{◌≡◌, ◌<◌, ◌++◌, ◌∷◌, [], true, List, None, length, arith, refl, sym, ap, subst, ◌∙◌, slice_index_or, Some}
use mathlib.Core.Bool.{true≢false}
use Rattle.std.specs.List.{All}
use Rattle.rt_query.specs.Queries.{Query}
use Rattle.rt_cache.specs.Brought.{may_put}
use Rattle.rt_world.specs.declared.step.Step.{Step}
use Rattle.rt_world.specs.steps.Kind.{Part}
use Rattle.rt_world.specs.World.{World, listen_of}
use Rattle.rt_world.specs.Touched.{entries_pushed}
use Rattle.rt_world.specs.laws.Made.{IsPartOn}
use Rattle.rt_parts.specs.Refreshed.{all_told_heard}
use Rattle.rt_sync.specs.declared.state.State.{State}
use Rattle.rt_sync.specs.inside.StateView.{held_of, world_of}
use Rattle.rt_sync.specs.inside.States.{IsReady}
use Rattle.rt_sync.proofs.PushesMade.{push_makes}
use Rattle.rt_sync.proofs.Unheard.{pushed_by}
use Rattle.rt_sync.proofs.Viewed.{TouchLaws, follows_at}
use Rattle.rt_sync.proofs.state.State.take_push.Goals as goal

-- a push may be put on the listen of the part's tag
abbrev MayPutOn : World → Part → Type 0
MayPutOn w p = (q : Query) → listen_of w p.0 ≡ Some q → may_put w.brought q ≡ true

pub put_parts-requires : goal.put_parts-requires
put_parts-requires c =
    let old : World = world_of c.args.self.now in
    let all : All (IsPartOn old) c.args.parts = c.pushed_law.ensures old (Step.Push c.args.parts) c.args.parts refl c.requires.due.not_refused in
    let kept : All (MayPutOn old) c.args.parts = λ k d lt q e. c.brought_law.ensures.kept old (slice_index_or c.args.parts k d).0 q c.requires.due.good.sound c.requires.due.good.reached e in
    record {
      on = subst (λ (parts : List Part). All (IsPartOn old) parts) (sym c.as_slice-2.ensures) all;
      kept = subst (λ (parts : List Part). All (MayPutOn old) parts) (sym c.as_slice-2.ensures) kept;
    }

pub refresh-requires : goal.refresh-requires
refresh-requires c =
    let state : State = c.args.self.now in
    let laws : TouchLaws = record { children = c.touch_law.ensures.children; unmet = c.touch_law.ensures.unmet; touched = c.touch_law.ensures.touched; few = c.touch_law.ensures.few } in
    let entries : c.deref.result.now ≡ entries_pushed c.args.parts = c.deref.ensures.value ∙ c.in_ok-entries.ensures in
    let is = c.in_ok-put_parts.ensures ∙ ap (pushed_by state.cover state.brought) c.as_slice-2.ensures in
    record {
      follow = follows_at laws c.brought_law.ensures.pushed (held_of state) c.requires.viewed.pairs (Step.Push c.args.parts) c.requires.due refl refl c.deref.result.now entries c.put_parts.new.brought is
          c.pending-pending.result.now c.pending-pending.ensures;
    }

-- a list of one
only_one : {X : Type 0} (xs : List X) (x : X) → 0 < length xs → length xs < 2 → x ≡ slice_index_or xs 0 x → xs ≡ x ∷ []
only_one [] x some few is = absurd (omega (arith, some))
only_one (y ∷ []) x some few is = ap (λ z. z ∷ []) (sym is)
only_one (y ∷ z ∷ xs) x some few is = absurd (omega (arith, few))

pub take_on-requires : goal.take_on-requires
take_on-requires c =
    let item : Part = c.part-item.result in
    let some : 0 < length c.as_slice.result.now = (let h = c.in-len1.len_at_least in omega (arith, h)) in
    let few : length c.as_slice.result.now < 2 = (let h = c.in-len1.len_below in omega (arith, h)) in
    let one : c.as_slice.result.now ≡ item ∷ [] = only_one c.as_slice.result.now item some few c.part-item.is in
    subst (λ (parts : List Part). IsReady c.args.self.now (Step.Push parts))
    (sym c.as_slice.ensures ∙ one ∙ (λ i. (sym c.tag.ensures i, sym (c.as_slice-in-len1.ensures ∙ c.entries.ensures) i) ∷ [])) c.requires

pub returns : goal.returns
returns c =
    let state : State = c.args.self.now in
    push_makes c.push_law.ensures c.stay_law.ensures.renewed c.note_law.ensures.still state c.args.parts c.requires c.put_parts.new.brought
    (c.in_ok-put_parts.ensures ∙ ap (pushed_by state.cover state.brought) c.as_slice-2.ensures)
    None (λ q e. absurd (true≢false e))
    c.deref.result.now (c.deref.ensures.value ∙ c.in_ok-entries.ensures) c.pending-pending.result.now c.pending-pending.ensures
    c.refresh.new.self c.in_ok-refresh.ensures.listeners c.in_ok-refresh.ensures.views c.in_ok-refresh.ensures.counts _ refl
    (c.in_ok-refresh.ensures.notes ∙ (λ i. c.new-notes.ensures.items i ++ all_told_heard None c.deref.result.now c.put_parts.new.brought c.pending-pending.result.now state.listeners.listeners))
