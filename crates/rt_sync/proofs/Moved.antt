-- The queries that are told to be moved are just those that a change of the cover moves.
use Rattle.std.proofs.Common.{◌≡◌, ℕ, ◌<◌, Bool, true, false, cond, not, ◌&&◌, ◌==◌, List, map, refl, sym, ap, subst, ◌∙◌, Option, Some, None, is_some, inl, inr}
use mathlib.Core.Bool.{true≢false}
use Rattle.std.specs.List.{list_any, Any, Contains}
use Rattle.std.specs.Option.{option_map_or, option_eq}
use Rattle.std.proofs.lemmas.List.Elements.{All-contains}
use Rattle.std.proofs.lemmas.List.Folds.{Any-from_list_any, list_any_at}
use Rattle.rt_tree.specs.PathTree.{Path, path_eq, path_eq-is, path_eq-same}
use Rattle.rt_tree.specs.TreeEq.{both, both_first, both_second}
use Rattle.rt_query.specs.Queries.{Query, plain, is_filtered}
use Rattle.rt_query.specs.QueryEq.{query_eq}
use Rattle.rt_query.specs.Supply.{does_supply, form}
use Rattle.rt_query.specs.laws.NeededLaws.{Contains-filter}
use Rattle.rt_query.specs.laws.QueryEq.{query_eq_tells}
use Rattle.rt_query.specs.laws.SupplyLaws.{form_filtered, supplied_is_filtered, supplied_has_path}
use Rattle.rt_cache.specs.Brought.{Brought, region_part, source, is_another_at, may_move, window_of}
use Rattle.rt_cache.specs.Canonical.{IsCanonical, Belongs}
use Rattle.rt_cache.specs.Recover.{reaches, regions_kept, cut, heirs, recover, is_moved}
use Rattle.rt_cache.proofs.Changing.{is_brought, is_change}
use Rattle.rt_cache.proofs.FilteredRuns.{calls_hold}
use Rattle.rt_cache.proofs.Moves.{IsBrought, IsChange, IsSource, source_is, brought_still, kind_of, old_heir}
use Rattle.rt_cache.proofs.Unmoved.{no_region, own_source}
use Rattle.rt_cover.specs.declared.change.Delta.{Delta}
use Rattle.rt_cover.specs.Cover.{Registered, Tagged}
use Rattle.rt_cover.specs.State.{Cover}
use Rattle.rt_cover.specs.laws.Apart.{PlainsStandApart}
use Rattle.rt_cover.specs.laws.CoverLaws.{Contains-from_filter}
use Rattle.rt_cover.specs.laws.FormLaws.{same_tests}
use Rattle.rt_cover.specs.laws.KeepLaws.{Contains-from_map, Contains-map, length_of_map}
use Rattle.rt_world.specs.World.{Listener, registered, listening}
use Rattle.rt_world.proofs.RecoverLaws.{region_after}
use Rattle.rt_sync.specs.declared.steps.losses.Had.{Had}
use Rattle.rt_sync.specs.inside.Losing.{HasLost}
use Rattle.rt_parts.specs.Refreshed.{is_supplied_at}
use Rattle.rt_sync.specs.inside.Moving.{may_move_at, may_move_it, has_others, is_lent, is_had, AreHad, has_come, is_moved_now, is_moved_among}
use Rattle.rt_sync.proofs.Losing.{ends_forms}
use Rattle.rt_sync.proofs.Unmoved.{Contains-of_map, ends_move_none, may_by, unlimited}

-- ---- tests

-- a query with a filter that is a form is that of the query alone
form_is : (q g : Query) → is_filtered g ≡ true → form q ≡ g → q ≡ g
form_is q g e f = at (is_filtered q) refl f
  where
    at : (c : Bool) → is_filtered q ≡ c → cond (is_filtered q) q (plain q.path) ≡ g → q ≡ g
    at true t h = sym (ap (λ b. cond b q (plain q.path)) t) ∙ h
    at false t h = absurd (true≢false (sym e ∙ ap is_filtered (sym (sym (ap (λ b. cond b q (plain q.path)) t) ∙ h))))

some_is : (f g : Query) → ◌≡◌ {A = Option Query} (Some f) (Some g) → f ≡ g
some_is f g e = cc

fails : (b : Bool) → not b ≡ true → b ≡ false
fails true e = absurd (true≢false (sym e))
fails false e = refl

turned : (f g : Query) → query_eq f g ≡ query_eq g f
turned f g = same_tests (query_eq f g) (query_eq g f) (λ e. (query_eq_tells g f).1 (sym ((query_eq_tells f g).0 e))) (λ e. (query_eq_tells f g).1 (sym ((query_eq_tells g f).0 e)))

-- what a test of an option that holds says
some_passes : (p : Query → Bool) (o : Option Query) → option_map_or p o false ≡ true → (f : Query) × (o ≡ Some f) × (p f ≡ true)
some_passes p None e = absurd (true≢false (sym e))
some_passes p (Some f) e = (f, refl, e)

same_source : (o : Option Query) (f : Query) → option_eq query_eq o (Some f) ≡ true → o ≡ Some f
same_source None f e = absurd (true≢false (sym e))
same_source (Some g) f e = ap (λ x. Some x) ((query_eq_tells g f).0 e)

any_with : {X : Type 0} (p : X → Bool) (xs : List X) (x : X) → Contains xs x → p x ≡ true → list_any p xs ≡ true
any_with p xs x m e = list_any_at p xs m.0 x m.1 (ap p m.2 ∙ e)

-- ---- a change

module _ (was is : Cover) (numbers : List ℕ) (ls : List Listener) (ended : List Query) (delta : Delta) (b : Brought) (h : HasLost was is numbers ls ended delta b) (law : PlainsStandApart) where
  abbrev kept : List Query
  kept = map (λ (k : Tagged). k.form) is.kept

  abbrev fs : List Query
  fs = listening is.listeners

  abbrev new : Brought
  new = recover fs kept b

  abbrev left : Brought
  left = cut fs kept b

  abbrev handed : List Query
  handed = heirs fs b left

  brought : IsBrought b
  brought = let x = calls_hold h.called.calls h.called.allowed in is_brought b (subst IsCanonical h.called.left x.0) (subst Belongs h.called.left x.1)

  regions : (p : Path) → region_part (regions_kept kept b.regions) p ≡ cond (reaches kept p) (region_part b.regions p) None
  regions p = region_after fs kept b p h.called (ends_forms was is numbers ls ended delta b h law).apart

  change : IsChange b left new (reaches kept) handed
  change = is_change fs kept b regions

  abbrev stays : Registered → Bool
  stays r = not (list_any (λ n. n == r.0) numbers)

  -- a listener that doesn't stay has its form among the ended ones
  ends : (c : Bool) → not c ≡ false → c ≡ true
  ends true e = refl
  ends false e = absurd (true≢false e)

  ended_form : (r : Registered) → Contains was.listeners r → stays r ≡ false → Any (λ g. query_eq g r.1 ≡ true) ended
  ended_form r m s = Any-from_list_any (λ g. query_eq g r.1) ended (h.given r m (ends (list_any (λ n. n == r.0) numbers) s))

  -- where none of the forms whose listeners end may move it, a query isn't moved
  unmoved : (q : Query) → may_move_it b ended q ≡ false → is_moved b new q ≡ false
  unmoved q none =
      ends_move_none (λ (r : Registered). r.1) stays was.listeners b left new (reaches kept) handed brought change
      h.registered (ap listening h.left) q quiet
    where
      quiet : (r : Registered) → Contains was.listeners r → stays r ≡ false → (may_move b r.1 && is_supplied_at r.1 q) ≡ false
      quiet r m s = at (may_move b r.1 && is_supplied_at r.1 q) refl
        where
          at : (c : Bool) → (may_move b r.1 && is_supplied_at r.1 q) ≡ c → c ≡ false
          at false e = refl
          at true e =
              let a = ended_form r m s in
              absurd (true≢false (sym (any_with (λ f. may_move b f && is_supplied_at f q) ended a.1 (a.0, a.2, a.3) (ap (λ f. may_move b f && is_supplied_at f q) ((query_eq_tells a.1 r.1).0 a.4) ∙ e)) ∙ none))

  -- a filtered form that is listened to is a listener's query
  listened : (g : Query) → is_filtered g ≡ true → Contains fs g → list_any (λ (l : Listener). query_eq l.query g) ls ≡ true
  listened g e m =
      let r = Contains-from_map (λ (x : Registered). x.1) is.listeners m.0 g (subst (λ n. m.0 < n) (length_of_map (λ (x : Registered). x.1) is.listeners) m.1) m.2 in
      let there : Contains was.listeners r.0 = Contains-from_filter stays was.listeners r.0 (subst (λ rs. Contains rs r.0) h.left r.1) in
      let k : Contains (registered ls) r.0 = subst (λ rs. Contains rs r.0) h.listened there in
      let l = Contains-from_map (λ (x : Listener). (x.number, form x.query)) ls k.0 r.0 (subst (λ n. k.0 < n) (length_of_map {Y = Registered} (λ (x : Listener). (x.number, form x.query)) ls) k.1) k.2 in
      let is_form : form (l.0).query ≡ g = ap (λ (x : Registered). x.1) l.2 ∙ r.2 in
      any_with (λ (x : Listener). query_eq x.query g) ls l.0 l.1 ((query_eq_tells (l.0).query g).1 (form_is (l.0).query g e is_form))

  -- what a query has now, if a form's window
  module _ (q f g : Query) (from : source b q ≡ Some f) (now : source new q ≡ Some g) where
    x : IsSource b q f
    x = source_is b q f (no_region b q f from) from

    y : IsSource new q g
    y = source_is new q g (no_region new q g now) now

    filtered_f : is_filtered f ≡ true
    filtered_f = (brought.forms f x.window).1

    filtered_q : is_filtered q ≡ true
    filtered_q = supplied_is_filtered f q filtered_f x.supplies

    there_g : Contains fs g × (is_filtered g ≡ true)
    there_g = (brought_still b left new (reaches kept) handed brought change).forms g y.window

    path_g : g.path ≡ q.path
    path_g = supplied_has_path g q there_g.1 y.supplies

  -- where a form has another one's window, and gets one of its own, the other one's listeners have ended: it may
  -- move the form, if one may that ends at its path
  module _ (f g : Query) (had : source b g ≡ Some f) (other : query_eq f g ≡ false) (now : is_some (window_of new.windows g) ≡ true) where
    given_by : IsSource b g f
    given_by = source_is b g f (no_region b g f had) had

    filtered_x : is_filtered f ≡ true
    filtered_x = (brought.forms f given_by.window).1

    path_x : f.path ≡ g.path
    path_x = supplied_has_path f g filtered_x given_by.supplies

    gone : Contains fs f → ⊥
    gone m = elim (kind_of b left new (reaches kept) handed brought change g now) [
      | inl n ↦ old_heir b left new (reaches kept) handed brought change f g (ap is_some (change.stay f m) ∙ given_by.window) m n given_by.supplies
      | inr has ↦ true≢false (sym ((query_eq_tells f g).1 (some_is f g (sym had ∙ own_source b brought g has.0))) ∙ other)
    ]

    lost : Any (λ e. query_eq e f ≡ true) ended
    lost =
        let r = Contains-of_map (λ (r : Registered). r.1) was.listeners f (subst (λ rs. Contains rs f) h.registered given_by.registered) in
        let a = ended_form r.0 r.1 (leaves r.0 r.1 r.2 (stays r.0) refl) in
        (a.0, a.1, a.2, a.3, ap (query_eq a.1) (sym r.2) ∙ a.4)
      where
        leaves : (r : Registered) → Contains was.listeners r → r.1 ≡ f → (c : Bool) → stays r ≡ c → stays r ≡ false
        leaves r m same false e = e
        leaves r m same true e =
            let left_is : Contains is.listeners r = subst (λ rs. Contains rs r) (sym h.left) (Contains-filter stays was.listeners r m e) in
            absurd (gone (subst (Contains fs) same (Contains-map (λ (y : Registered). y.1) is.listeners left_is.0 r left_is.1 left_is.2)))

    pub source_may_move : may_move_at b ended g.path ≡ true → may_move_it b ended g ≡ true
    source_may_move place =
        let m = Any-from_list_any (λ e. may_move b e && path_eq e.path g.path) ended place in
        let may : may_move b m.1 ≡ true = both_first (may_move b m.1) (path_eq (m.1).path g.path) m.4 in
        let path : (m.1).path ≡ g.path = path_eq-is (m.1).path g.path (both_second (may_move b m.1) (path_eq (m.1).path g.path) m.4) in
        let window : is_some (window_of b.windows m.1) ≡ true = has_window m.1 may in
        any_with (λ e. may_move b e && is_supplied_at e g) ended lost.1 (lost.0, lost.2, lost.3)
        (both (may_move b lost.1) (is_supplied_at lost.1 g) (ap (may_move b) ((query_eq_tells lost.1 f).0 lost.4) ∙ by m.1 may path window (query_eq m.1 f) refl)
        (ap (λ (e : Query). is_supplied_at e g) ((query_eq_tells lost.1 f).0 lost.4) ∙ both (path_eq g.path f.path) (does_supply f g) (ap (path_eq g.path) path_x ∙ path_eq-same g.path) given_by.supplies))
      where
        has_window : (e : Query) → may_move b e ≡ true → is_some (window_of b.windows e) ≡ true
        has_window e may = both_second (not (is_some e.limit)) (is_some (window_of b.windows e)) (both_first (not (is_some e.limit) && is_some (window_of b.windows e)) (list_any (λ w. is_another_at e w.0) b.windows) may)

        by : (e : Query) → may_move b e ≡ true → e.path ≡ g.path → is_some (window_of b.windows e) ≡ true → (c : Bool) → query_eq e f ≡ c → may_move b f ≡ true
        by e may path window true t = ap (may_move b) (sym ((query_eq_tells e f).0 t)) ∙ may
        by e may path window false t = may_by b f e (unlimited f g filtered_x other given_by.supplies) given_by.window window t (path ∙ sym path_x)

  abbrev moved_to : Query → Query → Option Query → Bool
  moved_to q f now = not (query_eq f q) && option_map_or (λ g. not (option_eq query_eq (source b g) (Some f))) now false

  moved_is : (q f : Query) → source b q ≡ Some f → is_moved b new q ≡ moved_to q f (source new q)
  moved_is q f e = ap (λ o. option_map_or (λ y. moved_to q y (source new q)) o false) e

  module _ (had : List Had) (a : AreHad b ls ended had) where
    -- what is told of a query is so
    told : (z : Had) → Contains had z → source b z.query ≡ Some z.source
    told z m = All-contains (λ (z : Had). source b z.query ≡ Some z.source) had z a.sources m

    -- the window of a query that is there is the one that is told
    told_of : (q f : Query) → is_had had q ≡ true → source b q ≡ Some f → has_come had q f ≡ true
    told_of q f e from =
        let z = Any-from_list_any (λ (z : Had). query_eq z.query q) had e in
        let m : Contains had z.1 = (z.0, z.2, z.3) in
        let same : (z.1).query ≡ q = (query_eq_tells (z.1).query q).0 z.4 in
        let source_is : (z.1).source ≡ f = some_is (z.1).source f (sym (told z.1 m) ∙ ap (source b) same ∙ from) in
        any_with (λ (z : Had). query_eq z.query q && query_eq z.source f) had z.1 m (both (query_eq (z.1).query q) (query_eq (z.1).source f) z.4 ((query_eq_tells (z.1).source f).1 source_is))

    come_from : (q f : Query) → has_come had q f ≡ true → source b q ≡ Some f
    come_from q f e =
        let z = Any-from_list_any (λ (z : Had). query_eq z.query q && query_eq z.source f) had e in
        let same : (z.1).query ≡ q = (query_eq_tells (z.1).query q).0 (both_first (query_eq (z.1).query q) (query_eq (z.1).source f) z.4) in
        let source_is : (z.1).source ≡ f = (query_eq_tells (z.1).source f).0 (both_second (query_eq (z.1).query q) (query_eq (z.1).source f) z.4) in
        ap (source b) (sym same) ∙ told z.1 (z.0, z.2, z.3) ∙ ap (λ w. Some w) source_is

    others : (q f : Query) → source b q ≡ Some f → query_eq f q ≡ false → has_others b q ≡ true
    others q f e d = ap (λ o. option_map_or (λ w. not (query_eq w q)) o false) e ∙ ap not d

    -- what is there is moved where it is told so
    there : (q : Query) → is_moved_among new had q ≡ true → is_moved b new q ≡ true
    there q e = moved_is q z.source from ∙ both (not (query_eq z.source q)) _ (ap not differs) (ap (λ o. option_map_or (λ w. not (option_eq query_eq (source b w) (Some z.source))) o false) g.1 ∙ ap not (elsewhere (option_eq query_eq (source b g.0) (Some z.source)) refl))
      where
        any : Any (λ (z : Had). (query_eq z.query q && is_moved_now new had z) ≡ true) had
        any = Any-from_list_any (λ (z : Had). query_eq z.query q && is_moved_now new had z) had e

        z : Had
        z = any.1

        same : z.query ≡ q
        same = (query_eq_tells z.query q).0 (both_first (query_eq z.query q) (is_moved_now new had z) any.4)

        from : source b q ≡ Some z.source
        from = ap (source b) (sym same) ∙ told z (any.0, any.2, any.3)

        -- the query is one of those that are lent a window
        lent : (may_move_at b ended q.path && is_lent b ls q) ≡ true
        lent = a.only q (any_with (λ (z : Had). query_eq z.query q) had z (any.0, any.2, any.3) (both_first (query_eq z.query q) (is_moved_now new had z) any.4))

        place : may_move_at b ended q.path ≡ true
        place = both_first (may_move_at b ended q.path) (is_lent b ls q) lent

        differs : query_eq z.source q ≡ false
        differs = fails (query_eq z.source q) (sym (ap (λ o. option_map_or (λ w. not (query_eq w q)) o false) from)
            ∙ both_second (is_filtered q && list_any (λ (l : Listener). query_eq l.query q) ls) (has_others b q) (both_second (may_move_at b ended q.path) (is_lent b ls q) lent))

        g : (w : Query) × (source new q ≡ Some w) × ((not (query_eq w z.source) && not (has_come had w z.source)) ≡ true)
        g =
            let s = some_passes (λ w. not (query_eq w z.source) && not (has_come had w z.source)) (source new z.query) (both_second (query_eq z.query q) (is_moved_now new had z) any.4) in
            (s.0, ap (source new) (sym same) ∙ s.1, s.2)

        apart : query_eq g.0 z.source ≡ false
        apart = fails (query_eq g.0 z.source) (both_first (not (query_eq g.0 z.source)) (not (has_come had g.0 z.source)) g.2)

        new_to : has_come had g.0 z.source ≡ false
        new_to = fails (has_come had g.0 z.source) (both_second (not (query_eq g.0 z.source)) (not (has_come had g.0 z.source)) g.2)

        -- the form whose window it has now had another one
        elsewhere : (c : Bool) → option_eq query_eq (source b g.0) (Some z.source) ≡ c → option_eq query_eq (source b g.0) (Some z.source) ≡ false
        elsewhere false t = t
        elsewhere true t = absurd (true≢false (sym (told_of g.0 z.source is_there had_by) ∙ new_to))
          where
            had_by : source b g.0 ≡ Some z.source
            had_by = same_source (source b g.0) z.source t

            at : Contains fs g.0 × (is_filtered g.0 ≡ true)
            at = there_g q z.source g.0 from g.1

            unlike : query_eq z.source g.0 ≡ false
            unlike = turned z.source g.0 ∙ apart

            now : is_some (window_of new.windows g.0) ≡ true
            now = (source_is new q g.0 (no_region new q g.0 g.1) g.1).window

            is_there : is_had had g.0 ≡ true
            is_there = a.all g.0 (both (may_move_it b ended g.0) (is_lent b ls g.0)
                (source_may_move z.source g.0 had_by unlike now (ap (may_move_at b ended) (path_g q z.source g.0 from g.1) ∙ place))
                (both (is_filtered g.0 && list_any (λ (l : Listener). query_eq l.query g.0) ls) (has_others b g.0) (both (is_filtered g.0) (list_any (λ (l : Listener). query_eq l.query g.0) ls) at.1 (listened g.0 at.1 at.0)) (others g.0 z.source had_by unlike)))

    -- and what is moved is there
    back : (q : Query) → list_any (λ (r : Registered). query_eq r.1 (form q)) is.listeners ≡ true → is_moved b new q ≡ true → is_moved_among new had q ≡ true
    back q here e = at (some_passes (λ f. moved_to q f (source new q)) (source b q) e)
      where
        at : ((f : Query) × (source b q ≡ Some f) × (moved_to q f (source new q) ≡ true)) → is_moved_among new had q ≡ true
        at m = with_now m.0 m.1 (fails (query_eq m.0 q) (both_first (not (query_eq m.0 q)) _ m.2)) (some_passes (λ g. not (option_eq query_eq (source b g) (Some m.0))) (source new q) (both_second (not (query_eq m.0 q)) _ m.2))
          where
            with_now : (f : Query) → source b q ≡ Some f → query_eq f q ≡ false → ((g : Query) × (source new q ≡ Some g) × (not (option_eq query_eq (source b g) (Some f)) ≡ true)) → is_moved_among new had q ≡ true
            with_now f from differs g =
                any_with (λ (w : Had). query_eq w.query q && is_moved_now new had w) had z held (both (query_eq z.query q) (is_moved_now new had z) own.4
                (ap (λ o. option_map_or (λ w. not (query_eq w z.source) && not (has_come had w z.source)) o false) (ap (source new) same ∙ g.1)
                ∙ both (not (query_eq g.0 z.source)) (not (has_come had g.0 z.source)) (ap not (apart (query_eq g.0 z.source) refl)) (ap not (new_to (has_come had g.0 z.source) refl))))
              where
                x : IsSource b q f
                x = source_is b q f (no_region b q f from) from

                filtered : is_filtered q ≡ true
                filtered = filtered_q q f g.0 from g.1

                -- some listener is of the query
                registered_q : Contains fs q
                registered_q =
                    let r = Any-from_list_any (λ (r : Registered). query_eq r.1 (form q)) is.listeners here in
                    let is_q : (r.1).1 ≡ q = (query_eq_tells (r.1).1 (form q)).0 r.4 ∙ form_filtered q filtered in
                    subst (Contains fs) is_q (mapped is.listeners r.1 (r.0, r.2, r.3))
                  where
                    mapped : (rs : List Registered) (r : Registered) → Contains rs r → Contains (listening rs) r.1
                    mapped rs r n = Contains-map (λ (x : Registered). x.1) rs n.0 r n.1 n.2

                -- a form that may move it ended
                place : may_move_it b ended q ≡ true
                place = by (may_move_it b ended q) refl
                  where
                    by : (c : Bool) → may_move_it b ended q ≡ c → may_move_it b ended q ≡ true
                    by true t = t
                    by false t = absurd (true≢false (sym e ∙ unmoved q t))

                is_there : is_had had q ≡ true
                is_there = a.all q (both (may_move_it b ended q) (is_lent b ls q) place
                    (both (is_filtered q && list_any (λ (l : Listener). query_eq l.query q) ls) (has_others b q) (both (is_filtered q) (list_any (λ (l : Listener). query_eq l.query q) ls) filtered (listened q filtered registered_q)) (others q f from differs)))

                own : Any (λ (w : Had). query_eq w.query q ≡ true) had
                own = Any-from_list_any (λ (w : Had). query_eq w.query q) had is_there

                z : Had
                z = own.1

                held : Contains had z
                held = (own.0, own.2, own.3)

                same : z.query ≡ q
                same = (query_eq_tells z.query q).0 own.4

                is_f : z.source ≡ f
                is_f = some_is z.source f (sym (told z held) ∙ ap (source b) same ∙ from)

                elsewhere : option_eq query_eq (source b g.0) (Some f) ≡ false
                elsewhere = fails (option_eq query_eq (source b g.0) (Some f)) g.2

                yes : (w : Query) → source b w ≡ Some f → option_eq query_eq (source b w) (Some f) ≡ true
                yes w t = ap (λ o. option_eq query_eq o (Some f)) t ∙ (query_eq_tells f f).1 refl

                apart : (c : Bool) → query_eq g.0 z.source ≡ c → query_eq g.0 z.source ≡ false
                apart false t = t
                apart true t =
                    let is_g : g.0 ≡ f = (query_eq_tells g.0 z.source).0 t ∙ is_f in
                    absurd (true≢false (sym (yes g.0 (ap (source b) is_g ∙ own_source b brought f x.window)) ∙ elsewhere))

                new_to : (c : Bool) → has_come had g.0 z.source ≡ c → has_come had g.0 z.source ≡ false
                new_to false t = t
                new_to true t = absurd (true≢false (sym (yes g.0 (come_from g.0 z.source t ∙ ap (λ w. Some w) is_f)) ∙ elsewhere))

    -- just those
    pub just_moved : (q : Query) → list_any (λ (r : Registered). query_eq r.1 (form q)) is.listeners ≡ true → is_moved_among new had q ≡ is_moved b new q
    just_moved q here = same_tests (is_moved_among new had q) (is_moved b new q) (there q) (back q here)
