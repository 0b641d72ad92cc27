-- Where all is pushed on the listen of a range alone, those that it doesn't supply stay as they are.
use Rattle.std.proofs.Common.{◌≡◌, Bool, true, false, cond, not, ◌&&◌, ◌||◌, List, [], ◌∷◌, map, refl, sym, ap, ◌∙◌, Option, Some, None, is_some}
use mathlib.Core.Bool.{true≢false}
use Rattle.std.specs.Prelude.{IfSome}
use Rattle.std.specs.List.{All, Contains, cons_option, find, fold}
use Rattle.std.specs.Option.{option_and_then, option_map, option_map_or, option_or}
use Rattle.std.specs.FinMap as map_of
use Rattle.std.specs.FinMap.Entries.{find-put}
use Rattle.std.proofs.lemmas.List.Elements.{All-contains, All-contains_itself, All-head, All-tail}
use Rattle.rt_tree.specs.PathTree.{Path, path_eq, path_eq-same, strip}
use Rattle.rt_tree.specs.TreeEq.{both, both_first}
use Rattle.rt_tree.specs.Assignments.{Assignment}
use Rattle.rt_query.specs.Queries.{Query, is_filtered}
use Rattle.rt_query.specs.QueryEq.{query_eq}
use Rattle.rt_query.specs.QueryOrder.{query_cmp}
use Rattle.rt_query.specs.Supply.{does_supply}
use Rattle.rt_query.specs.Select.{select}
use Rattle.rt_query.specs.laws.NeededLaws.{supplies_trans}
use Rattle.rt_query.specs.laws.QueryEq.{query_eq_tells}
use Rattle.rt_query.specs.laws.QueryOrder.{queries_total, tie_is_eq}
use Rattle.rt_query.specs.laws.SupplyLaws.{form_filtered, supplied_has_path, supplied_is_filtered}
use Rattle.rt_writes.specs.Writes.{Write, sets_whole}
use Rattle.rt_cache.specs.Brought.{Brought, Window, base, push, region_part, source, window_of, window_pushed, windows_beside, windows_pushed}
use Rattle.rt_cache.specs.inside.Held.{pushed_windows}
use Rattle.rt_cache.proofs.FilteredRuns.{beside_found}
use Rattle.rt_cache.proofs.Places.{or_true}
use Rattle.rt_cache.proofs.Pushes.{push_of_filtered}
use Rattle.rt_cache.proofs.Sources.{find_passes}
use Rattle.rt_cover.specs.Cover.{Tagged}
use Rattle.rt_cover.specs.State.{Cover, listen_at}
use Rattle.rt_world.specs.World.{Listener, World, pending}
use Rattle.rt_world.specs.After.{renewed}
use Rattle.rt_world.specs.Answers.{batch_from, batch_note}
use Rattle.rt_world.specs.Headline.{view_by}
use Rattle.rt_world.specs.Met.{all_told, do_meet, renewed_met, told, told_met}
use Rattle.rt_world.specs.Sound.{IsSound}
use Rattle.rt_world.specs.Views.{is_known, seen_over, view_of}
use Rattle.rt_world.specs.steps.Kind.{Part}
use Rattle.rt_world.specs.laws.Steps.{StillIsQuiet}
use Rattle.rt_parts.specs.Refreshed.{all_told_heard, hears, is_supplied_at, renewed_heard, told_heard}
use Rattle.rt_sync.specs.inside.Pushed.{range_of}

-- ---- a push on a range

-- the window of another form that the range doesn't supply is found as before
module _ (f g : Query) (other : query_eq f g ≡ false) (apart : does_supply f g ≡ false) where
  clear : (query_eq g f || not (does_supply f g)) ≡ true
  clear = or_true (query_eq g f) (not (does_supply f g)) (ap not apart)

  turned : (c : Bool) → query_eq g f ≡ c → query_eq g f ≡ false
  turned false e = e
  turned true e = absurd (true≢false (sym ((query_eq_tells f g).1 (sym ((query_eq_tells g f).0 e))) ∙ other))

  put_beside : (w : Window) (ws : List (Query × Window)) → window_of (map_of.put query_cmp f w ws) g ≡ window_of ws g
  put_beside w ws = find-put query_cmp queries_total g f w ws ∙ ap (λ b. cond b (Some w) (window_of ws g)) (tie_is_eq g f ∙ turned (query_eq g f) refl)

  pushed_beside : (a : Assignment) (ws : List (Query × Window)) → window_of (pushed_windows f a ws) g ≡ window_of ws g
  pushed_beside a ws = at (strip f.path a.0)
    where
      one : (rest : Path) (o : Option Window) → window_of (windows_beside f rest (option_map_or (λ w. map_of.put query_cmp f w ws) o ws)) g ≡ window_of ws g
      one rest None = beside_found g f rest ws clear
      one rest (Some w) = beside_found g f rest (map_of.put query_cmp f w ws) clear ∙ put_beside w ws

      at : (o : Option Path) → window_of (option_map_or (λ rest. windows_pushed f rest a.1 ws) o ws) g ≡ window_of ws g
      at None = refl
      at (Some rest) = one rest (window_pushed rest a.1 (window_of ws f))

-- what is brought for a query is by the windows of the forms that supply it
module _ (b : Brought) (new : List (Query × Window)) (q : Query) (same : (g : Query) → does_supply g q ≡ true → window_of new g ≡ window_of b.windows g) where
  abbrev serves : List (Query × Window) → Query → Bool
  serves ws g = does_supply g q && is_some (window_of ws g)

  serve_alike : (g : Query) → serves new g ≡ serves b.windows g
  serve_alike g = at (does_supply g q) refl
    where
      at : (t : Bool) → does_supply g q ≡ t → serves new g ≡ serves b.windows g
      at true e = ap (λ o. does_supply g q && is_some o) (same g e)
      at false e = ap (λ t. t && is_some (window_of new g)) e ∙ sym (ap (λ t. t && is_some (window_of b.windows g)) e)

  same_source : source (record b { windows = new }) q ≡ source b q
  same_source = λ i. cond (is_some (region_part b.regions q.path)) None (find (λ g. serve_alike g i) b.registered)

  passes : IfSome (source b q) (λ g. serves b.windows g ≡ true)
  passes = elim (is_some (region_part b.regions q.path)) as (λ t. IfSome (cond t None (find (serves b.windows) b.registered)) (λ g. serves b.windows g ≡ true)) [
    | true ↦ tt
    | false ↦ find_passes (serves b.windows) b.registered
  ]

  same_window : (o : Option Query) → IfSome o (λ g. serves b.windows g ≡ true) → option_and_then (window_of new) o ≡ option_and_then (window_of b.windows) o
  same_window None p = refl
  same_window (Some g) p = same g (both_first (does_supply g q) (is_some (window_of b.windows g)) p)

  base_beside : base (record b { windows = new }) q ≡ base b q
  base_beside =
      ap (λ (o : Option Window). option_or (option_map (λ t. record { tree = t; whole = true }) (region_part b.regions q.path)) (option_map (λ w. record { tree = w.children; whole = w.is_whole }) o))
      (ap (option_and_then (window_of new)) same_source ∙ same_window (source b q) passes)

-- a push on a range leaves what is brought for a query that it doesn't supply
module _ (f q : Query) (range : is_filtered f ≡ true) (apart : does_supply f q ≡ false) where
  push_beside : (b : Brought) (a : Assignment) → base (push f b a) q ≡ base b q
  push_beside b a = ap (λ c. base c q) (sym (push_of_filtered f b a range)) ∙ base_beside b (pushed_windows f a b.windows) q beside
    where
      beside : (g : Query) → does_supply g q ≡ true → window_of (pushed_windows f a b.windows) g ≡ window_of b.windows g
      beside g e = pushed_beside f g (other (query_eq f g) refl) (outside (does_supply f g) refl) a b.windows
        where
          other : (c : Bool) → query_eq f g ≡ c → query_eq f g ≡ false
          other false t = t
          other true t = absurd (true≢false (sym e ∙ ap (λ x. does_supply x q) (sym ((query_eq_tells f g).0 t)) ∙ apart))

          outside : (c : Bool) → does_supply f g ≡ c → does_supply f g ≡ false
          outside false t = t
          outside true t = absurd (true≢false (sym (supplies_trans f g q (form_filtered g (supplied_is_filtered f g range t)) t e) ∙ apart))

  pushes_beside : (es : List Assignment) (b : Brought) → base (fold (push f) b es) q ≡ base b q
  pushes_beside [] b = refl
  pushes_beside (a ∷ es) b = pushes_beside es (push f b a) ∙ push_beside b a

-- a range supplies what is of its path alone
unsupplied : (f q : Query) → is_filtered f ≡ true → is_supplied_at f q ≡ false → does_supply f q ≡ false
unsupplied f q range none = at (does_supply f q) refl
  where
    at : (c : Bool) → does_supply f q ≡ c → does_supply f q ≡ false
    at false e = e
    at true e = absurd (true≢false (sym (both (path_eq q.path f.path) (does_supply f q) (ap (path_eq q.path) (supplied_has_path f q range e) ∙ path_eq-same q.path) e) ∙ none))

-- ---- the parts of a push

abbrev pub pushed_by : Cover → Brought → List Part → Brought
pushed_by c b parts = fold (λ (x : Brought) (p : Part). option_map_or (λ q. fold (push q) x p.1) (option_map (λ (k : Tagged). k.form) (listen_at c p.0)) x) b parts

-- a query that doesn't hear of a part, which is pushed alone, has what it had
pub unheard_base : (c : Cover) (b : Brought) (p : Part) (q : Query) → hears (option_and_then range_of (option_map (λ (k : Tagged). k.form) (listen_at c p.0))) q ≡ false → base (pushed_by c b (p ∷ [])) q ≡ base b q
unheard_base c b p q none = at (option_map (λ (k : Tagged). k.form) (listen_at c p.0)) none
  where
    on : (f : Query) (t : Bool) → is_filtered f ≡ t → hears (cond t (Some f) None) q ≡ false → base (fold (push f) b p.1) q ≡ base b q
    on f true e none = pushes_beside f q e (unsupplied f q e none) p.1 b
    on f false e none = absurd (true≢false none)

    at : (o : Option Query) → hears (option_and_then range_of o) q ≡ false → base (option_map_or (λ f. fold (push f) b p.1) o b) q ≡ base b q
    at None none = absurd (true≢false none)
    at (Some f) none = on f (is_filtered f) refl none

-- ---- listeners for whom the same is brought

module _ (w : World) (sound : IsSound w) (quiet : StillIsQuiet) (b : Brought) (ws : List Write) (pend : ws ≡ pending w.requests) where
  abbrev shows : Listener → Listener
  shows l = record l { is_primed = true; view = Some (view_of b ws l.query) }

  -- such a listener is as it was
  pub still_renewed : (l : Listener) → Contains w.listeners l → base b l.query ≡ base w.brought l.query → renewed b ws l ≡ l
  still_renewed l there same = at l.is_primed refl (is_known b ws l.query) refl
    where
      shown : view_of b ws l.query ≡ view_of w.brought (pending w.requests) l.query
      shown = λ i. select l.query (seen_over (same i) (pend i) l.query)

      known : is_known b ws l.query ≡ is_known w.brought (pending w.requests) l.query
      known = λ i. is_some (same i) || sets_whole (pend i) l.query.path

      viewed : l.view ≡ view_by l.is_primed w l.query
      viewed = All-contains (λ (x : Listener). x.view ≡ view_by x.is_primed w x.query) w.listeners l sound.views there

      primed : is_known w.brought (pending w.requests) l.query ≡ true → l.is_primed ≡ true
      primed = All-contains (λ (x : Listener). is_known w.brought (pending w.requests) x.query ≡ true → x.is_primed ≡ true) w.listeners l sound.primed there

      at : (p : Bool) → l.is_primed ≡ p → (k : Bool) → is_known b ws l.query ≡ k → renewed b ws l ≡ l
      at true p k e =
          let view : Some (view_of b ws l.query) ≡ l.view = ap (λ x. Some x) shown ∙ sym (viewed ∙ ap (λ c. view_by c w l.query) p) in
          ap (λ c. cond (c || is_known b ws l.query) (shows l) l) p ∙ (λ i. record l { is_primed = sym p i; view = view i })
      at false p true e = absurd (true≢false (sym (primed (sym known ∙ e)) ∙ p))
      at false p false e = λ i. cond (p i || e i) (shows l) l

  module _ (es : List Assignment) where
    still_met : (l : Listener) → renewed b ws l ≡ l → renewed_met es b ws l ≡ l
    still_met l same = elim (do_meet es l.query.path) as (λ c. cond c (renewed b ws l) l ≡ l) [ true ↦ same | false ↦ refl ]

    still_told : (l : Listener) → Contains w.listeners l → renewed b ws l ≡ l → told_met es b ws l ≡ None
    still_told l there same = elim (do_meet es l.query.path) as (λ c. cond c (told b ws l) None ≡ None) [
      | true ↦ ap (λ (m : Listener). batch_note m (batch_from l.view m)) same ∙ quiet w l sound there
      | false ↦ refl
    ]

    -- where those that don't hear of the entries are such, it is the same whether they are renewed or not
    module _ (range : Option Query) (still : (l : Listener) → Contains w.listeners l → hears range l.query ≡ false → renewed b ws l ≡ l) where
      heard_each : (ls : List Listener) → All (Contains w.listeners) ls → map (renewed_heard range es b ws) ls ≡ map (renewed_met es b ws) ls
      heard_each [] there = refl
      heard_each (l ∷ ls) there = λ i. one i ∷ heard_each ls (All-tail (Contains w.listeners) l ls there) i
        where
          one : renewed_heard range es b ws l ≡ renewed_met es b ws l
          one = elim (hears range l.query) as (λ c. hears range l.query ≡ c → cond c (renewed_met es b ws l) l ≡ renewed_met es b ws l) [
            | true ↦ λ e. refl
            | false ↦ λ e. sym (still_met l (still l (All-head (Contains w.listeners) l ls there) e))
          ] refl

      told_each : (ls : List Listener) → All (Contains w.listeners) ls → all_told_heard range es b ws ls ≡ all_told es b ws ls
      told_each [] there = refl
      told_each (l ∷ ls) there = λ i. cons_option (one i) (told_each ls (All-tail (Contains w.listeners) l ls there) i)
        where
          one : told_heard range es b ws l ≡ told_met es b ws l
          one = elim (hears range l.query) as (λ c. hears range l.query ≡ c → cond c (told_met es b ws l) None ≡ told_met es b ws l) [
            | true ↦ λ e. refl
            | false ↦ λ e. let at = All-head (Contains w.listeners) l ls there in sym (still_told l at (still l at e))
          ] refl

      pub heard_all : map (renewed_heard range es b ws) w.listeners ≡ map (renewed_met es b ws) w.listeners
      heard_all = heard_each w.listeners (All-contains_itself w.listeners)

      pub told_heard_all : all_told_heard range es b ws w.listeners ≡ all_told es b ws w.listeners
      told_heard_all = told_each w.listeners (All-contains_itself w.listeners)
