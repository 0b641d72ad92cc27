-- A change of cover changes no view of a listener that stays.
use Rattle.std.proofs.Common.{◌≡◌, ℕ, zero, suc, ◌<◌, Bool, true, false, cond, not, ◌&&◌, ◌||◌, inl, inr, List, [], ◌∷◌, ◌++◌, refl, sym, ap, subst, ◌∙◌, arith, slice_index_or, Option, Some, None, is_some}
use mathlib.Core.Bool.{true≢false}
use Rattle.std.specs.List.{fold, Contains}
use Rattle.std.specs.Option.{option_map, option_map_or, option_eq}
use Rattle.std.proofs.lemmas.List.Elements.{All-contains, Contains-append_cases}
use Rattle.rt_tree.specs.PathTree.{Key, Path, PathTree, null, is_null, leaf_of, non_null, child, with_children}
use Rattle.rt_tree.specs.Parts.{child-with_children}
use Rattle.rt_tree.specs.Children.{children_of, children_sorted, child_of-children_of, children_of-unique}
use Rattle.rt_tree.specs.Assignments.{is_at_or_above}
use Rattle.rt_query.specs.Queries.{Query, plain, is_filtered}
use Rattle.rt_query.specs.Select.{Shown, rows_of, select}
use Rattle.rt_query.specs.Supply.{form}
use Rattle.rt_writes.specs.Writes.{Write, assignments, overlay, sets_whole}
use Rattle.rt_writes.specs.laws.OverlayLaws.{fold-overlaid_part}
use Rattle.rt_query.specs.QueryEq.{query_eq}
use Rattle.rt_cache.specs.Brought.{Brought, source, base, knows, region_part}
use Rattle.rt_cache.specs.Canonical.{IsCanonical, Belongs}
use Rattle.rt_cache.specs.declared.brought.Base.{Base}
use Rattle.rt_cache.specs.Recover.{reaches, regions_kept, cut, heirs, recover, is_moved}
use Rattle.rt_cache.proofs.Bases.{plain_found}
use Rattle.rt_cache.proofs.Changes.{recover_stays}
use Rattle.rt_cache.proofs.Changing.{is_brought, is_change}
use Rattle.rt_cache.proofs.FilteredRuns.{calls_hold}
use Rattle.rt_cache.proofs.Moves.{Alike, unmoved_alike, unmoved_same, source_knows}
use Rattle.rt_cache.proofs.Sources.{of_part}
use Rattle.rt_cover.specs.laws.CoverLaws.{Contains-from_filter}
use Rattle.rt_cover.specs.laws.FormLaws.{form_filtered, form_unfiltered}
use Rattle.rt_cover.specs.laws.KeepLaws.{Contains-from_map, length_of_map, form_is_form}
use Rattle.rt_cover.specs.laws.Paths.{is_at_or_above-same}
use Rattle.rt_wire.specs.declared.request.Asked.{Asked}
use Rattle.rt_world.specs.declared.error.CoreError.{CoreError}
use Rattle.rt_world.specs.declared.step.Step.{Step}
use Rattle.rt_world.specs.Views.{is_known, base_tree, is_base_whole, is_child_known, seen_over, view_of}
use Rattle.rt_world.specs.World.{Reason, World, Listener, registered, pending}
use Rattle.rt_world.specs.After.{listeners_after, requests_after, forms_after, listening_after, kept_after, part_pushed, pushed, brought_after, renewed, renewed_after}
use Rattle.rt_world.specs.Messages.{next}
use Rattle.rt_world.specs.Refusals.{refusal, is_stale}
use Rattle.rt_world.specs.Answers.{step_by}
use Rattle.rt_world.specs.Headline.{view_by}
use Rattle.rt_world.specs.Touched.{entries_settled, entries_asked, entries_pushed, IsInBoth}
use Rattle.rt_world.specs.Called.{IsCalled}
use Rattle.rt_world.specs.Sound.{IsSound}
use Rattle.rt_world.specs.laws.Steps.{ChangesHaveNoEntries}
use Rattle.rt_world.specs.laws.Holds.{IsSteady}
use Rattle.rt_world.specs.laws.World.{changes_listeners, StayUnlessMoved, MovedStayPrimed, CoverChangesFewViews}
use Rattle.rt_world.proofs.CalledLaws.{kept_apart}
use Rattle.rt_world.proofs.KindLaws.{first_seen, orderly}
use Rattle.rt_world.proofs.Listeners.{number-renewed, primed_view}
use Rattle.rt_world.proofs.Numbers.{one_number}
use Rattle.rt_world.proofs.Reaching.{forms_kept, form_stays, listening_of, reached_form}
use Rattle.rt_world.proofs.RecoverLaws.{region_after}
use Rattle.rt_world.proofs.ShowLaws.{left_or_more}
use Rattle.rt_world.proofs.WrittenLaws.{writes_stay}

-- ---- views of trees with the same children

pub same_children : (t u : PathTree) → ((k : Key) → child t k ≡ child u k) → children_of t ≡ children_of u
same_children t u h = children_of-unique u (children_of t) (children_sorted t) (λ k. child_of-children_of t k ∙ ap non_null (h k))

-- a filtered query sees children alone
pub same_select : (q : Query) (t u : PathTree) → is_filtered q ≡ true → ((k : Key) → child t k ≡ child u k) → select q t ≡ select q u
same_select q t u e h =
    let leaves = ap (λ b. cond b None (leaf_of t)) e ∙ sym (ap (λ b. cond b None (leaf_of u)) e) in
    λ i. record { leaf = leaves i; rows = rows_of q (same_children t u h i) }

-- the view over a base
abbrev view_over : Option Base → List Write → Query → Shown
view_over o writes q = select q (seen_over o writes q)

-- ---- the base after a change of cover

pub path_of_form : (q : Query) → (form q).path ≡ q.path
path_of_form q = elim (is_filtered q) as (λ b. (cond b q (plain q.path)).path ≡ q.path) [ true ↦ refl | false ↦ refl ]

-- a child at c with t brought: where not all is brought, it counts only if there is something or a pending entry sets it
abbrev pub child_by : Bool → PathTree → Path → List Write → PathTree
child_by partial t c ws = cond partial (cond (not (is_null t) || sets_whole ws c) (overlay c t ws) null) (overlay c t ws)

pub child_seen : (q : Query) (o : Option Base) (ws : List Write) (k : Key) → child (seen_over o ws q) k ≡ child_by (is_filtered q && not (is_base_whole o)) (child (base_tree o) k) (q.path ++ k ∷ []) ws
child_seen q o ws k =
    elim (is_filtered q && not (is_base_whole o)) as (λ b. child (cond b (with_children (is_child_known (base_tree o) ws q.path) (overlay q.path (base_tree o) ws)) (overlay q.path (base_tree o) ws)) k
    ≡ child_by b (child (base_tree o) k) (q.path ++ k ∷ []) ws) [
      | true ↦ child-with_children (is_child_known (base_tree o) ws q.path) (overlay q.path (base_tree o) ws) k
          ∙ ap (λ u. cond (is_child_known (base_tree o) ws q.path k) u null) (fold-overlaid_part q.path (k ∷ []) (assignments ws) (base_tree o))
      | false ↦ fold-overlaid_part q.path (k ∷ []) (assignments ws) (base_tree o)
    ]

-- two bases that look the same: a filtered query sees the same children, and another has the same base
pub record LooksSame (writes : List Write) (q : Query) (new old : Option Base) : Type 0 where
  pub children : (k : Key) → child (seen_over new writes q) k ≡ child (seen_over old writes q) k
  pub known : is_some new ≡ is_some old
  pub unfiltered : is_filtered q ≡ false → new ≡ old

pub alike : (writes : List Write) (q : Query) (new old : Option Base) → new ≡ old → LooksSame writes q new old
alike writes q new old e = record { children = λ k. ap (λ o. child (seen_over o writes q) k) e; known = ap is_some e; unfiltered = λ _. e }

-- so they have the same view
same_view : (writes : List Write) (q : Query) (new old : Option Base) → LooksSame writes q new old → view_over new writes q ≡ view_over old writes q
same_view writes q new old l = at (is_filtered q) refl
  where
    at : (b : Bool) → is_filtered q ≡ b → view_over new writes q ≡ view_over old writes q
    at true e = same_select q (seen_over new writes q) (seen_over old writes q) e l.children
    at false e = ap (λ o. view_over o writes q) (l.unfiltered e)

-- bases with the same children and mark look the same to a filtered query
alike_looks : (writes : List Write) (q : Query) (new old : Option Base) → is_filtered q ≡ true → Alike new old → LooksSame writes q new old
alike_looks writes q None None f h = alike writes q None None refl
alike_looks writes q None (Some y) f h = absurd h
alike_looks writes q (Some x) None f h = absurd h
alike_looks writes q (Some x) (Some y) f h = record {
  children = λ k. child_seen q (Some x) writes k ∙ (λ i. child_by (is_filtered q && not (h.1 i)) (h.0 k i) (q.path ++ k ∷ []) writes) ∙ sym (child_seen q (Some y) writes k);
  known = refl;
  unfiltered = λ e. absurd (true≢false (sym f ∙ e));
}

-- what a change of cover leaves looks as before, to a query whose form is registered and that is not moved
module _ (w : World) (s : Step) (q : Query) (sound : IsSound w) (m : Contains (forms_after w s) (form q)) where
  abbrev fs : List Query
  fs = listening_after w s

  abbrev ks : List Query
  ks = forms_kept (kept_after w s)

  -- a plain listen that is kept reaches an unfiltered one
  reached : is_filtered q ≡ false → reaches ks q.path ≡ true
  reached e =
      let low : is_filtered (form q) ≡ false = ap is_filtered (form_unfiltered q e) in
      reached_form w s (form q) m (form_is_form q) low q.path (subst (λ p. is_at_or_above p q.path ≡ true) (sym (path_of_form q)) (is_at_or_above-same q.path))

  pub recover_same : (writes : List Write) (b : Brought) → IsCalled b → is_moved b (recover fs ks b) q ≡ false → LooksSame writes q (base (recover fs ks b) q) (base b q)
  recover_same writes b h unmoved = at (is_filtered q) refl
    where
      new : Brought
      new = recover fs ks b

      holds : IsCanonical b × Belongs b
      holds = let x = calls_hold h.calls h.allowed in (subst IsCanonical h.left x.0, subst Belongs h.left x.1)

      regions : (p : Path) → region_part (regions_kept ks b.regions) p ≡ cond (reaches ks p) (region_part b.regions p) None
      regions p = region_after fs ks b p h (kept_apart w s sound)

      at : (f : Bool) → is_filtered q ≡ f → LooksSame writes q (base new q) (base b q)
      at true e =
          let there : Contains fs q = subst (Contains fs) (form_filtered q e) (listening_of (registered (listeners_after w s)) (form q) m) in
          alike_looks writes q (base new q) (base b q) e
          (unmoved_alike b (cut fs ks b) new (reaches ks) (heirs fs b (cut fs ks b)) (is_brought b holds.0 holds.1) (is_change fs ks b regions) q e there unmoved)
      at false e =
          let stays = recover_stays fs ks b (kept_apart w s sound) holds.0 in
          let same : region_part (regions_kept ks b.regions) q.path ≡ region_part b.regions q.path = regions q.path ∙ ap (λ t. cond t (region_part b.regions q.path) None) (reached e) in
          alike writes q (base new q) (base b q) (plain_found new q stays.filtered e ∙ ap (option_map of_part) same ∙ sym (plain_found b q (holds.0).filtered e))

-- ---- a listener that stays

-- a listener whose view and knowledge stay is renewed to itself
pub renewed_same : (w : World) (b : Brought) (ws : List Write) (l : Listener) → IsSound w → Contains w.listeners l
    → view_of b ws l.query ≡ view_of w.brought (pending w.requests) l.query → is_known b ws l.query ≡ is_known w.brought (pending w.requests) l.query
    → renewed b ws l ≡ l
renewed_same w b ws l h m same known = at l.is_primed refl
  where
    view : l.view ≡ view_by l.is_primed w l.query
    view = All-contains (λ (l : Listener). l.view ≡ view_by l.is_primed w l.query) w.listeners l h.views m

    primed : is_known w.brought (pending w.requests) l.query ≡ true → l.is_primed ≡ true
    primed = All-contains (λ (l : Listener). is_known w.brought (pending w.requests) l.query ≡ true → l.is_primed ≡ true) w.listeners l h.primed m

    at : (p : Bool) → l.is_primed ≡ p → renewed b ws l ≡ l
    at true e =
        let shown : Some (view_of b ws l.query) ≡ l.view = ap Some same ∙ sym (view ∙ ap (λ p. view_by p w l.query) e) in
        ap (λ p. cond (p || is_known b ws l.query) (primed_view b ws l) l) e ∙ (λ i. record l { is_primed = sym e i; view = shown i })
    at false e =
        ap (λ p. cond (p || is_known b ws l.query) (primed_view b ws l) l) e
        ∙ ap (λ k. cond k (primed_view b ws l) l) (known ∙ unknown (is_known w.brought (pending w.requests) l.query) refl)
      where
        unknown : (k : Bool) → is_known w.brought (pending w.requests) l.query ≡ k → is_known w.brought (pending w.requests) l.query ≡ false
        unknown false f = f
        unknown true f = absurd (true≢false (sym (primed f) ∙ e))

-- such a step pushes nothing and settles nothing
pub record ChangesCoverAlone (w : World) (s : Step) : Type 0 where
  pub taken : pushed w s ≡ w.brought
  pub writes : pending (requests_after w s) ≡ pending w.requests

pub cover_alone : (w : World) (s : Step) → changes_listeners s ≡ true → ChangesCoverAlone w s
cover_alone w s e =
    let a = (orderly s).alone e in
    record { taken = ap (fold (part_pushed w) w.brought) a.parts; writes = writes_stay w s a.settled a.asked }

-- and it has no entries
pub changes_have_no_entries : ChangesHaveNoEntries
changes_have_no_entries w s e =
    let a = (orderly s).alone e in
    λ i. option_map_or (λ (d : ℕ × Option Reason). entries_settled w d.0) (a.settled i) (option_map_or (λ (x : ℕ × Asked). entries_asked x.1) (a.asked i) (entries_pushed (a.parts i)))

pub stays_same : (w : World) (s : Step) → IsSound w → IsCalled w.brought → changes_listeners s ≡ true → (l : Listener) → Contains w.listeners l → Contains (listeners_after w s) l
    → is_moved w.brought (brought_after w s) l.query ≡ false → renewed (brought_after w s) (pending (requests_after w s)) l ≡ l
stays_same w s h called c l old new unmoved =
    let a = cover_alone w s c in
    let b = recover (listening_after w s) (forms_kept (kept_after w s)) w.brought in
    let ws = pending w.requests in
    let still : is_moved w.brought b l.query ≡ false = sym (ap (λ x. is_moved w.brought (recover (listening_after w s) (forms_kept (kept_after w s)) x) l.query) a.taken) ∙ unmoved in
    let looks = recover_same w s l.query h (form_stays (listeners_after w s) l new) ws w.brought called still in
    (λ i. renewed (recover (listening_after w s) (forms_kept (kept_after w s)) (a.taken i)) (a.writes i) l)
    ∙ renewed_same w b ws l h old (same_view ws l.query (base b l.query) (base w.brought l.query) looks) (ap (λ k. k || sets_whole ws l.query.path) looks.known)

-- one that is moved was primed, and stays so
moved_primed : (w : World) (b : Brought) (ws : List Write) (l : Listener) → IsSound w → IsCalled w.brought → Contains w.listeners l → is_moved w.brought b l.query ≡ true
    → (l.is_primed ≡ true) × ((renewed b ws l).is_primed ≡ true)
moved_primed w b ws l h called m moved = (primed, ap (λ p. (cond (p || is_known b ws l.query) (primed_view b ws l) l).is_primed) primed)
  where
    had : (o : Option Query) → source w.brought l.query ≡ o → is_some (source w.brought l.query) ≡ true
    had (Some f) e = ap is_some e
    had None e = absurd (true≢false (sym moved ∙ ap (λ o. option_map_or (λ f. not (query_eq f l.query)
        && option_map_or (λ g. not (option_eq query_eq (source w.brought g) (Some f))) (source b l.query) false) o false) e))

    knew : knows w.brought l.query ≡ true
    knew = source_knows w.brought l.query (had (source w.brought l.query) refl)

    primed : l.is_primed ≡ true
    primed = All-contains (λ (x : Listener). is_known w.brought (pending w.requests) x.query ≡ true → x.is_primed ≡ true) w.listeners l h.primed m
        (ap (λ k. k || sets_whole (pending w.requests) l.query.path) knew)

-- ---- after a step

-- a listener after the step that has an old number is an old one
old_one : (w : World) (s : Step) → IsSound w → (l m : Listener) → Contains w.listeners l → Contains (listeners_after w s) m → m.number ≡ l.number → m ≡ l
old_one w s h l m ml mm e = elim (left_or_more w s) [
  | inl x ↦ one_number w.listeners l m h.rises ml (Contains-from_filter x.test w.listeners m (subst (λ ls. Contains ls m) x.left mm)) e
  | inr x ↦ elim (Contains-append_cases w.listeners (first_seen w x.seat x.query ∷ []) m (subst (λ ls. Contains ls m) x.more mm)) [
    | inl old ↦ one_number w.listeners l m h.rises ml old e
    | inr new ↦ absurd (fresh x.seat x.query new.0 new.1 new.2)
  ]
]
  where
    fresh : (seat : ℕ) (query : Query) (k : ℕ) → k < 1 → slice_index_or (first_seen w seat query ∷ []) k m ≡ m → ⊥
    fresh seat query zero lt f = let low = All-contains (λ (x : Listener). x.number < w.next_listener) w.listeners l h.below ml in omega (arith, low, e, ap (λ (x : Listener). x.number) f)
    fresh seat query (suc k) lt f = omega arith

-- a listener with an old number is the old one, renewed
pub record HasStayed (w : World) (s : Step) (l m : Listener) : Type 0 where
  pub stayed : Contains (listeners_after w s) l
  pub renewed : m ≡ renewed (brought_after w s) (pending (requests_after w s)) l

pub has_stayed : (w : World) (s : Step) → IsSound w → (l m : Listener) → IsInBoth w (next w s) l m → HasStayed w s l m
has_stayed w s h l m both =
    let mm : Contains (renewed_after w s) m = both.after in
    let f = renewed (brought_after w s) (pending (requests_after w s)) in
    let x = Contains-from_map f (listeners_after w s) mm.0 m (subst (λ n. mm.0 < n) (length_of_map f (listeners_after w s)) mm.1) mm.2 in
    let number : (x.0).number ≡ l.number = sym (number-renewed (brought_after w s) (pending (requests_after w s)) x.0) ∙ ap (λ (y : Listener). y.number) x.2 ∙ both.number in
    let same : x.0 ≡ l = old_one w s h l x.0 both.before x.1 number in
    record { stayed = subst (Contains (listeners_after w s)) same x.1; renewed = sym x.2 ∙ ap f same }

-- in one world it is itself
pub same_world : (w : World) → IsSound w → (l m : Listener) → IsInBoth w w l m → m ≡ l
same_world w h l m both = one_number w.listeners l m h.rises both.before both.after both.number

-- what is as it was is not moved
same_unmoved : (b : Brought) (q : Query) → IsCanonical b → Belongs b → is_moved b b q ≡ false
same_unmoved b q c h = unmoved_same b b q (is_brought b c h) refl

few_in_same : (w : World) → IsSteady w → StayUnlessMoved w w × MovedStayPrimed w w
few_in_same w h = (
  λ l m both unmoved. same_world w h.sound l m both,
  λ l m both moved.
      let x = calls_hold (h.called).calls (h.called).allowed in
      absurd (true≢false (sym moved ∙ same_unmoved w.brought l.query (subst IsCanonical (h.called).left x.0) (subst Belongs (h.called).left x.1))),
)

few_after : (w : World) (s : Step) (o : Option CoreError) (b : Bool) → IsSteady w → changes_listeners s ≡ true → StayUnlessMoved w (step_by o b w s).0 × MovedStayPrimed w (step_by o b w s).0
few_after w s (Some e) b h c = few_in_same w h
few_after w s None true h c = few_in_same w h
few_after w s None false h c = (
  λ l m both unmoved.
      let x = has_stayed w s h.sound l m both in
      x.renewed ∙ stays_same w s h.sound h.called c l both.before x.stayed unmoved,
  λ l m both moved.
      let x = has_stayed w s h.sound l m both in
      let y = moved_primed w (brought_after w s) (pending (requests_after w s)) l h.sound h.called both.before moved in
      (y.0, ap (λ (z : Listener). z.is_primed) x.renewed ∙ y.1),
)

pub cover_changes_few_views : CoverChangesFewViews
cover_changes_few_views w s h c = few_after w s (refusal w s) (is_stale w s) h c
