-- Where none that ends may move a query, a change of cover doesn't.
use Rattle.std.proofs.Common.{◌≡◌, ℕ, zero, suc, ◌<◌, length, slice_index_or, Bool, true, false, cond, not, ◌&&◌, inl, inr, List, [], ◌∷◌, map, refl, sym, ap, subst, ◌∙◌, Option, Some, None, is_some, arith}
use mathlib.Core.Bool.{true≢false}
use Rattle.std.specs.List.{filter, find, list_any, Contains}
use Rattle.std.specs.Option.{option_map_or, option_eq}
use Rattle.rt_tree.specs.PathTree.{Path, PathTree, path_eq, path_eq-same}
use Rattle.rt_tree.specs.TreeEq.{both, both_first, both_second}
use Rattle.rt_query.specs.Queries.{Query, is_filtered}
use Rattle.rt_query.specs.QueryEq.{query_eq}
use Rattle.rt_query.specs.Supply.{does_supply}
use Rattle.rt_query.specs.Needed.{Supplies}
use Rattle.rt_query.specs.laws.NeededLaws.{supplies_itself, supplies_trans, Contains-filter}
use Rattle.rt_query.specs.laws.QueryEq.{query_eq_tells}
use Rattle.rt_query.specs.laws.RangeLaws.{taken_in}
use Rattle.rt_query.specs.laws.SupplyLaws.{form_filtered, supplied_is_filtered, supplies_cases}
use Rattle.rt_cache.specs.Brought.{Window, Brought, region_part, window_of, source, knows, is_another_at, may_move}
use Rattle.rt_cache.specs.Recover.{is_moved}
use Rattle.rt_cache.proofs.Among.{any_with}
use Rattle.rt_cache.proofs.Moves.{IsBrought, IsChange, IsSource, Contains-head, Contains-later, same_some, from_any, same_path, serves, source_free, source_is, known_source, kind_of, old_heir}
use Rattle.rt_cache.proofs.Sources.{found_there}
use Rattle.rt_cache.proofs.Unmoved.{no_region, own_source}
use Rattle.rt_parts.specs.Refreshed.{is_supplied_at}

-- ---- lists

Contains-mapped : {X : Type 0} (f : X → Query) (xs : List X) (x : X) → Contains xs x → Contains (map f xs) (f x)
Contains-mapped f [] x m = absurd (omega (arith, m.1))
Contains-mapped f (y ∷ ys) x m = at m.0 m.1 m.2 (λ k lt e. Contains-mapped f ys x (k, lt, e))
  where
    at : (k : ℕ) → k < suc (length ys) → slice_index_or (y ∷ ys) k x ≡ x → ((j : ℕ) → j < length ys → slice_index_or ys j x ≡ x → Contains (map f ys) (f x)) → Contains (map f (y ∷ ys)) (f x)
    at zero lt e more = subst (λ z. Contains (map f (y ∷ ys)) (f z)) e (Contains-head (f y) (map f ys))
    at (suc k) lt e more = Contains-later (f y) (map f ys) (f x) (more k (omega (arith, lt)) e)

pub Contains-of_map : {X : Type 0} (f : X → Query) (xs : List X) (q : Query) → Contains (map f xs) q → (x : X) × Contains xs x × (f x ≡ q)
Contains-of_map f [] q m = absurd (omega (arith, m.1))
Contains-of_map {X = X} f (y ∷ ys) q m = at m.0 m.1 m.2 (λ k lt e. Contains-of_map f ys q (k, lt, e))
  where
    at : (k : ℕ) → k < suc (length (map f ys)) → slice_index_or (f y ∷ map f ys) k q ≡ q → ((j : ℕ) → j < length (map f ys) → slice_index_or (map f ys) j q ≡ q → (x : X) × Contains ys x × (f x ≡ q)) → (x : X) × Contains (y ∷ ys) x × (f x ≡ q)
    at zero lt e more = (y, (0, omega arith, refl), e)
    at (suc k) lt e more = let m = more k (omega (arith, lt)) e in (m.0, (suc (m.1).0, omega (arith, (m.1).1), (m.1).2), m.2)

-- what is found first of some forms is found first of those that stay, where it stays, and where no more pass
found_left : {X : Type 0} (form_of : X → Query) (stays : X → Bool) (p r : Query → Bool) (f : Query) (xs : List X)
    → ((y : Query) → r y ≡ true → p y ≡ true) → r f ≡ true
    → ((x : X) → Contains xs x → form_of x ≡ f → stays x ≡ true)
    → find p (map form_of xs) ≡ Some f → find r (map form_of (filter stays xs)) ≡ Some f
found_left form_of stays p r f [] less own all e = cc
found_left {X = X} form_of stays p r f (x ∷ xs) less own all e =
    at (p (form_of x)) refl (found_left form_of stays p r f xs less own (λ y m. all y (suc m.0, omega (arith, m.1), m.2)))
  where
    none : (c : Bool) → r (form_of x) ≡ c → p (form_of x) ≡ false → r (form_of x) ≡ false
    none false h t = h
    none true h t = absurd (true≢false (sym (less (form_of x) h) ∙ t))

    at : (b : Bool) → p (form_of x) ≡ b → (find p (map form_of xs) ≡ Some f → find r (map form_of (filter stays xs)) ≡ Some f)
        → find r (map form_of (filter stays (x ∷ xs))) ≡ Some f
    at true t more =
        let is : form_of x ≡ f = same_some (form_of x) f (sym (ap (λ c. cond c (Some (form_of x)) (find p (map form_of xs))) t) ∙ e) in
        ap (λ c. find r (map form_of (cond c (x ∷ filter stays xs) (filter stays xs)))) (all x (0, omega arith, refl) is)
        ∙ ap (λ c. cond c (Some (form_of x)) (find r (map form_of (filter stays xs)))) (ap r is ∙ own) ∙ ap (λ y. Some y) is
    at false t more =
        let rest : find r (map form_of (filter stays xs)) ≡ Some f = more (sym (ap (λ c. cond c (Some (form_of x)) (find p (map form_of xs))) t) ∙ e) in
        elim (stays x) as (λ c. find r (map form_of (cond c (x ∷ filter stays xs) (filter stays xs))) ≡ Some f) [
          | true ↦ ap (λ c. cond c (Some (form_of x)) (find r (map form_of (filter stays xs)))) (none (r (form_of x)) refl t) ∙ rest
          | false ↦ rest
        ]

-- ---- what may move others

-- a range of another query has no limit
pub unlimited : (f q : Query) → is_filtered f ≡ true → query_eq f q ≡ false → Supplies f q → is_some f.limit ≡ false
unlimited f q filtered other s =
    let inner : is_filtered q ≡ true = supplied_is_filtered f q filtered s in
    elim (supplies_cases f q s) [
      | inl is ↦ absurd (true≢false (sym ((query_eq_tells f q).1 (is ∙ form_filtered q inner)) ∙ other))
      | inr more ↦ elim more [
        | inl flat ↦ absurd (true≢false (sym filtered ∙ flat.0))
        | inr taken ↦ (taken_in f q taken).unlimited
      ]
    ]

-- a form that has a window and no limit may, where another window stands at its path
pub may_by : (b : Brought) (f g : Query) → is_some f.limit ≡ false → is_some (window_of b.windows f) ≡ true → is_some (window_of b.windows g) ≡ true
    → query_eq g f ≡ false → g.path ≡ f.path → may_move b f ≡ true
may_by b f g free has beside other path =
    let w = found_there g b.windows beside in
    let another : list_any (λ (x : Query × Window). is_another_at f x.0) b.windows ≡ true =
    any_with (λ (x : Query × Window). is_another_at f x.0) b.windows w.0 w.1
    (ap (is_another_at f) w.2 ∙ both (not (query_eq g f)) (path_eq g.path f.path) (ap not other) (ap (path_eq g.path) (sym path) ∙ path_eq-same g.path)) in
    both (not (is_some f.limit) && is_some (window_of b.windows f)) _ (both (not (is_some f.limit)) _ (ap not free) has) another

-- ---- a change that leaves the query be

module _ {X : Type 0} (form_of : X → Query) (stays : X → Bool) (xs : List X) (b left new : Brought) (reached : Path → Bool) (heirs : List Query)
    (brought : IsBrought b) (change : IsChange b left new reached heirs)
    (were : b.registered ≡ map form_of xs) (are : left.registered ≡ map form_of (filter stays xs)) (q : Query)
    (quiet : (x : X) → Contains xs x → stays x ≡ false → (may_move b (form_of x) && is_supplied_at (form_of x) q) ≡ false) where
  -- the listeners of a form that may move the query all stay
  stay_all : (e : Query) → may_move b e ≡ true → is_supplied_at e q ≡ true → (x : X) → Contains xs x → form_of x ≡ e → stays x ≡ true
  stay_all e may supplied x m is = at (stays x) refl
    where
      at : (c : Bool) → stays x ≡ c → stays x ≡ true
      at true s = s
      at false s =
          absurd (true≢false (sym (both (may_move b (form_of x)) (is_supplied_at (form_of x) q) (ap (may_move b) is ∙ may) (ap (λ (y : Query). is_supplied_at y q) is ∙ supplied)) ∙ quiet x m s))

  -- so it is still registered, and has its window
  still : (e : Query) → Contains b.registered e → may_move b e ≡ true → is_supplied_at e q ≡ true → Contains left.registered e
  still e m may supplied =
      let x = Contains-of_map form_of xs e (subst (λ fs. Contains fs e) were m) in
      subst (λ fs. Contains fs e) (sym are)
      (subst (Contains (map form_of (filter stays xs))) x.2 (Contains-mapped form_of (filter stays xs) x.0 (Contains-filter stays xs x.0 x.1 (stay_all e may supplied x.0 x.1 x.2))))

  left_has : (e : Query) → Contains left.registered e → is_some (window_of b.windows e) ≡ true → is_some (window_of left.windows e) ≡ true
  left_has e m h = ap is_some (change.stay e m) ∙ h

  -- the query has another form's window
  module _ (f : Query) (free : region_part b.regions q.path ≡ None) (from : source b q ≡ Some f) (other : query_eq f q ≡ false) where
    x : IsSource b q f
    x = source_is b q f free from

    filtered_f : is_filtered f ≡ true
    filtered_f = (brought.forms f x.window).1

    filtered_q : is_filtered q ≡ true
    filtered_q = supplied_is_filtered f q filtered_f x.supplies

    path_f : f.path ≡ q.path
    path_f = same_path f q filtered_f filtered_q x.supplies

    supplied_f : is_supplied_at f q ≡ true
    supplied_f = both (path_eq q.path f.path) (does_supply f q) (ap (path_eq q.path) path_f ∙ path_eq-same q.path) x.supplies

    -- an heir that supplies it has the same window
    heir_from : (y : Query) → Contains heirs y → is_some (window_of new.windows y) ≡ true → Supplies y q → source b y ≡ Some f
    heir_from y n here s = by (query_eq h.0 f) refl
      where
        l : (is_filtered y ≡ true) × (knows b y ≡ true) × (knows left y ≡ false)
        l = change.lost y n

        path_y : y.path ≡ q.path
        path_y = same_path y q l.0 filtered_q s

        free_y : region_part b.regions y.path ≡ None
        free_y = ap (region_part b.regions) path_y ∙ free

        h : (g : Query) × (source b y ≡ Some g)
        h = known_source b y free_y l.1

        z : IsSource b y h.0
        z = source_is b y h.0 free_y h.1

        filtered_h : is_filtered h.0 ≡ true
        filtered_h = (brought.forms h.0 z.window).1

        path_h : (h.0).path ≡ q.path
        path_h = same_path h.0 y filtered_h l.0 z.supplies ∙ path_y

        supplied_h : is_supplied_at h.0 q ≡ true
        supplied_h = both (path_eq q.path (h.0).path) (does_supply h.0 q) (ap (path_eq q.path) path_h ∙ path_eq-same q.path) (supplies_trans h.0 y q (form_filtered y l.0) z.supplies s)

        -- what it had a window of is gone
        gone : Contains left.registered h.0 → ⊥
        gone m = old_heir b left new reached heirs brought change h.0 y (left_has h.0 m z.window) m n z.supplies

        differs : (c : Bool) → query_eq h.0 y ≡ c → query_eq h.0 y ≡ false
        differs false e = e
        differs true e = absurd (gone (subst (Contains left.registered) (sym ((query_eq_tells h.0 y).0 e)) (change.only y here)))

        unlike : (c : Bool) → query_eq f h.0 ≡ c → query_eq h.0 f ≡ false → query_eq f h.0 ≡ false
        unlike false e d = e
        unlike true e d = absurd (true≢false (sym ((query_eq_tells h.0 f).1 (sym ((query_eq_tells f h.0).0 e))) ∙ d))

        by : (c : Bool) → query_eq h.0 f ≡ c → source b y ≡ Some f
        by true e = h.1 ∙ ap (λ g. Some g) ((query_eq_tells h.0 f).0 e)
        by false e =
            let may : may_move b h.0 ≡ true = may_by b h.0 f (unlimited h.0 y filtered_h (differs (query_eq h.0 y) refl) z.supplies) z.window x.window (unlike (query_eq f h.0) refl e) (path_f ∙ sym path_h) in
            absurd (gone (still h.0 z.registered may supplied_h))

    -- so has any other form with a window that it now has
    comes : (g : Query) → region_part new.regions q.path ≡ None → source new q ≡ Some g → source b g ≡ Some f
    comes g free_now now = elim (kind_of b left new reached heirs brought change g y.window) [
      | inl n ↦ heir_from g n y.window y.supplies
      | inr has ↦ by has.0 (query_eq g f) refl
    ]
      where
        y : IsSource new q g
        y = source_is new q g free_now now

        by : is_some (window_of b.windows g) ≡ true → (c : Bool) → query_eq g f ≡ c → source b g ≡ Some f
        by has true e = ap (source b) ((query_eq_tells g f).0 e) ∙ own_source b brought f x.window
        by has false e = absurd (true≢false (sym ((query_eq_tells g f).1 (same_some g f (sym now ∙ first))) ∙ e))
          where
            filtered_g : is_filtered g ≡ true
            filtered_g = (brought.forms g has).1

            path_g : g.path ≡ q.path
            path_g = same_path g q filtered_g filtered_q y.supplies

            may : may_move b f ≡ true
            may = may_by b f g (unlimited f q filtered_f other x.supplies) x.window has e (path_g ∙ sym path_f)

            there : Contains left.registered f
            there = still f x.registered may supplied_f

            kept : is_some (window_of left.windows f) ≡ true
            kept = left_has f there x.window

            no_heir : (c : Bool) → list_any (query_eq f) heirs ≡ c → list_any (query_eq f) heirs ≡ false
            no_heir false t = t
            no_heir true t = absurd (old_heir b left new reached heirs brought change f f kept there (from_any f heirs t) (supplies_itself f (form_filtered f filtered_f)))

            serves_f : serves new q f ≡ true
            serves_f = both (does_supply f q) (is_some (window_of new.windows f)) x.supplies (ap is_some (change.other f there (no_heir (list_any (query_eq f) heirs) refl)) ∙ kept)

            served : (z : Query) → serves new q z ≡ true → serves b q z ≡ true
            served z t =
                let supplies : does_supply z q ≡ true = both_first (does_supply z q) (is_some (window_of new.windows z)) t in
                let has_z : is_some (window_of new.windows z) ≡ true = both_second (does_supply z q) (is_some (window_of new.windows z)) t in
                both (does_supply z q) (is_some (window_of b.windows z)) supplies (elim (kind_of b left new reached heirs brought change z has_z) [
                  | inl n ↦
                      let free_z : region_part b.regions z.path ≡ None = ap (region_part b.regions) (same_path z q (change.lost z n).0 filtered_q supplies) ∙ free in
                      absurd (old_heir b left new reached heirs brought change f z kept there n (source_is b z f free_z (heir_from z n has_z supplies)).supplies)
                  | inr u ↦ u.0
                ])

            first : source new q ≡ Some f
            first =
                source_free new q free_now ∙ ap (find (serves new q)) (change.same_forms ∙ are)
                ∙ found_left form_of stays (serves b q) (serves new q) f xs served serves_f (stay_all f may supplied_f)
                (ap (find (serves b q)) (sym were) ∙ sym (source_free b q free) ∙ from)

  abbrev moved_by : Option Query → Option Query → Bool
  moved_by old now = option_map_or (λ f. not (query_eq f q) && option_map_or (λ g. not (option_eq query_eq (source b g) (Some f))) now false) old false

  -- the query is not moved
  pub ends_move_none : is_moved b new q ≡ false
  ends_move_none = at (source b q) refl
    where
      none_now : region_part b.regions q.path ≡ None → region_part new.regions q.path ≡ None
      none_now e = change.same_regions q.path ∙ change.regions q.path ∙ ap (λ o. cond (reached q.path) o None) e ∙ nothing (reached q.path)
        where
          none : Option PathTree
          none = None

          nothing : (c : Bool) → cond c none None ≡ None
          nothing true = refl
          nothing false = refl

      at : (o : Option Query) → source b q ≡ o → is_moved b new q ≡ false
      at None e = ap (λ o. moved_by o (source new q)) e
      at (Some f) e = ap (λ o. moved_by o (source new q)) e ∙ by (query_eq f q) refl (source new q) refl
        where
          free : region_part b.regions q.path ≡ None
          free = no_region b q f e

          by : (c : Bool) → query_eq f q ≡ c → (o : Option Query) → source new q ≡ o → moved_by (Some f) (source new q) ≡ false
          by true c o n = ap (λ d. not d && option_map_or (λ g. not (option_eq query_eq (source b g) (Some f))) (source new q) false) c
          by false c None n =
              ap (λ d. not d && option_map_or (λ g. not (option_eq query_eq (source b g) (Some f))) (source new q) false) c
              ∙ ap (λ p. option_map_or (λ g. not (option_eq query_eq (source b g) (Some f))) p false) n
          by false c (Some g) n =
              ap (λ d. not d && option_map_or (λ g. not (option_eq query_eq (source b g) (Some f))) (source new q) false) c
              ∙ ap (λ p. option_map_or (λ g. not (option_eq query_eq (source b g) (Some f))) p false) n
              ∙ ap (λ p. not (option_eq query_eq p (Some f))) (comes f free e c g (none_now free) n)
              ∙ ap not ((query_eq_tells f f).1 refl)
