-- What a change of cover leaves to a filtered query whose form stays: it looks as before, unless it is moved.
use Rattle.std.proofs.Common.{◌≡◌, suc, Bool, true, false, cond, not, ◌&&◌, ◌||◌, ◌⊎◌, inl, inr, List, [], ◌∷◌, refl, sym, ap, subst, ◌∙◌, Option, Some, None, is_some, arith}
use mathlib.Core.Bool.{true≢false}
use Rattle.std.specs.List.{find, list_any, Contains}
use Rattle.std.specs.Option.{option_map, option_map_or, option_or, option_and_then, option_eq}
use Rattle.std.proofs.lemmas.List.Folds.{list_any_at}
use Rattle.rt_tree.specs.PathTree.{Key, Path, PathTree, child, children_alone}
use Rattle.rt_tree.specs.Parts.{child-children_alone}
use Rattle.rt_tree.specs.TreeEq.{both, both_first, both_second}
use Rattle.rt_query.specs.Queries.{Query, is_filtered}
use Rattle.rt_query.specs.QueryEq.{query_eq}
use Rattle.rt_query.specs.laws.QueryEq.{query_eq_tells}
use Rattle.rt_query.specs.Supply.{does_supply}
use Rattle.rt_query.specs.Needed.{Supplies}
use Rattle.rt_query.specs.laws.NeededLaws.{supplies_itself, supplies_trans, supplies_antisymm}
use Rattle.rt_query.specs.laws.SupplyLaws.{form_filtered, supplied_has_path}
use Rattle.rt_cache.specs.Brought.{Window, Base, Brought, region_part, window_of, source, base, knows}
use Rattle.rt_cache.specs.Recover.{window_left, is_moved}

-- ---- what is brought, and a change of it, by their parts

pub HasWindow : Brought → Query → Type 0
HasWindow b f = is_some (window_of b.windows f) ≡ true

-- what holds of what is brought
pub record IsBrought (b : Brought) : Type 0 where
  pub forms : (f : Query) → is_some (window_of b.windows f) ≡ true → Contains b.registered f × (is_filtered f ≡ true)
  pub apart : (f g : Query) → is_some (window_of b.windows f) ≡ true → is_some (window_of b.windows g) ≡ true → Supplies f g → f ≡ g
  pub outside : (f : Query) → is_some (window_of b.windows f) ≡ true → region_part b.regions f.path ≡ None

-- what a change leaves (left), and what it makes of that (new), by the regions that are reached and the heirs
pub record IsChange (b left new : Brought) (reached : Path → Bool) (heirs : List Query) : Type 0 where
  pub same_forms : new.registered ≡ left.registered
  pub regions : (p : Path) → region_part left.regions p ≡ cond (reached p) (region_part b.regions p) None
  pub same_regions : (p : Path) → region_part new.regions p ≡ region_part left.regions p
  pub stay : (f : Query) → Contains left.registered f → window_of left.windows f ≡ window_of b.windows f
  pub heir : (f : Query) → Contains heirs f → window_of new.windows f ≡ window_left (base b f)
  pub other : (f : Query) → Contains left.registered f → list_any (query_eq f) heirs ≡ false → window_of new.windows f ≡ window_of left.windows f
  pub lost : (h : Query) → Contains heirs h → (is_filtered h ≡ true) × (knows b h ≡ true) × (knows left h ≡ false)
  pub alone : (g h : Query) → Contains heirs g → Contains heirs h → Supplies g h → g ≡ h
  pub only : (f : Query) → is_some (window_of new.windows f) ≡ true → Contains left.registered f
  pub over : (q : Query) → Contains left.registered q → is_filtered q ≡ true → knows b q ≡ true → knows left q ≡ false
      → (h : Query) × Contains heirs h × Contains left.registered h × Supplies h q

-- ---- lists

pub Contains-head : {X : Type 0} (x : X) (xs : List X) → Contains (x ∷ xs) x
Contains-head x xs = (0, omega arith, refl)

pub Contains-later : {X : Type 0} (x : X) (xs : List X) (y : X) → Contains xs y → Contains (x ∷ xs) y
Contains-later x xs y m = (suc m.0, omega (arith, m.1), m.2)

pub same_some : (a b : Query) → Some a ≡ Some b → a ≡ b
same_some a b h = cc

find_step : (p : Query → Bool) (y : Query) (ys : List Query) (x : Query) (c : Bool) → p y ≡ c → (find p ys ≡ Some x → Contains ys x × (p x ≡ true))
    → find p (y ∷ ys) ≡ Some x → Contains (y ∷ ys) x × (p x ≡ true)
find_step p y ys x true h more e =
    let is : y ≡ x = same_some y x (sym (ap (λ c. cond c (Some y) (find p ys)) h) ∙ e) in
    (subst (Contains (y ∷ ys)) is (Contains-head y ys), ap p (sym is) ∙ h)
find_step p y ys x false h more e =
    let m = more (sym (ap (λ c. cond c (Some y) (find p ys)) h) ∙ e) in
    (Contains-later y ys x m.0, m.1)

find_some : (p : Query → Bool) (xs : List Query) (x : Query) → find p xs ≡ Some x → Contains xs x × (p x ≡ true)
find_some p [] x e = cc
find_some p (y ∷ ys) x e = find_step p y ys x (p y) refl (find_some p ys x) e

found_step : (p : Query → Bool) (y : Query) (ys : List Query) (c : Bool) → p y ≡ c → is_some (find p ys) ≡ list_any p ys
    → is_some (find p (y ∷ ys)) ≡ list_any p (y ∷ ys)
found_step p y ys true h e = ap (λ c. is_some (cond c (Some y) (find p ys))) h ∙ ap (λ c. c || list_any p ys) (sym h)
found_step p y ys false h e = ap (λ c. is_some (cond c (Some y) (find p ys))) h ∙ e ∙ ap (λ c. c || list_any p ys) (sym h)

found_any : (p : Query → Bool) (xs : List Query) → is_some (find p xs) ≡ list_any p xs
found_any p [] = refl
found_any p (y ∷ ys) = found_step p y ys (p y) refl (found_any p ys)

any_step : (f x : Query) (xs : List Query) (c : Bool) → query_eq f x ≡ c → (list_any (query_eq f) xs ≡ true → Contains xs f)
    → list_any (query_eq f) (x ∷ xs) ≡ true → Contains (x ∷ xs) f
any_step f x xs true h more e = subst (Contains (x ∷ xs)) (sym ((query_eq_tells f x).0 h)) (Contains-head x xs)
any_step f x xs false h more e = Contains-later x xs f (more (sym (ap (λ c. c || list_any (query_eq f) xs) h) ∙ e))

pub from_any : (f : Query) (xs : List Query) → list_any (query_eq f) xs ≡ true → Contains xs f
from_any f [] e = absurd (true≢false (sym e))
from_any f (x ∷ xs) e = any_step f x xs (query_eq f x) refl (from_any f xs) e

find_there : (p : Query → Bool) (xs : List Query) (x : Query) → Contains xs x → p x ≡ true → is_some (find p xs) ≡ true
find_there p xs x m h = found_any p xs ∙ list_any_at p xs m.0 x m.1 (ap p m.2 ∙ h)

some_value : {X : Type 0} (o : Option X) → is_some o ≡ true → (x : X) × (o ≡ Some x)
some_value None e = absurd (true≢false (sym e))
some_value (Some x) e = (x, refl)

none_value : {X : Type 0} (o : Option X) → is_some o ≡ false → o ≡ None
none_value None e = refl
none_value (Some x) e = absurd (true≢false e)

-- ---- supply of filtered queries

pub same_path : (f q : Query) → is_filtered f ≡ true → is_filtered q ≡ true → Supplies f q → f.path ≡ q.path
same_path f q ff fq s = supplied_has_path f q ff s

-- ---- the base, by its parts

abbrev pub serves : Brought → Query → Query → Bool
serves b q f = does_supply f q && is_some (window_of b.windows f)

abbrev whole_base : PathTree → Base
whole_base t = record { tree = t; whole = true }

abbrev window_base : Window → Base
window_base w = record { tree = w.children; whole = w.is_whole }

base_region : (b : Brought) (q : Query) (t : PathTree) → region_part b.regions q.path ≡ Some t → base b q ≡ Some (whole_base t)
base_region b q t e = ap (λ o. option_or (option_map (λ x. record { tree = x; whole = true }) o)
    (option_map (λ w. record { tree = w.children; whole = w.is_whole }) (option_and_then (window_of b.windows) (source b q)))) e

pub source_free : (b : Brought) (q : Query) → region_part b.regions q.path ≡ None → source b q ≡ find (serves b q) b.registered
source_free b q e = ap (λ o. cond (is_some o) None (find (λ f. does_supply f q && is_some (window_of b.windows f)) b.registered)) e

base_free : (b : Brought) (q : Query) → region_part b.regions q.path ≡ None → base b q ≡ option_map window_base (option_and_then (window_of b.windows) (source b q))
base_free b q e = ap (λ o. option_or (option_map (λ x. record { tree = x; whole = true }) o)
    (option_map (λ w. record { tree = w.children; whole = w.is_whole }) (option_and_then (window_of b.windows) (source b q)))) e

-- what a source is
pub record IsSource (b : Brought) (q f : Query) : Type 0 where
  pub registered : Contains b.registered f
  pub supplies : Supplies f q
  pub window : is_some (window_of b.windows f) ≡ true

pub source_is : (b : Brought) (q f : Query) → region_part b.regions q.path ≡ None → source b q ≡ Some f → IsSource b q f
source_is b q f free e =
    let x = find_some (serves b q) b.registered f (sym (source_free b q free) ∙ e) in
    record { registered = x.0; supplies = both_first (does_supply f q) (is_some (window_of b.windows f)) x.1; window = both_second (does_supply f q) (is_some (window_of b.windows f)) x.1 }

pub source_there : (b : Brought) (q f : Query) → region_part b.regions q.path ≡ None → IsSource b q f → is_some (source b q) ≡ true
source_there b q f free h = ap is_some (source_free b q free) ∙ find_there (serves b q) b.registered f h.registered (both (does_supply f q) (is_some (window_of b.windows f)) h.supplies h.window)

-- what is known without a region has a source, and what has a source is known
pub known_source : (b : Brought) (q : Query) → region_part b.regions q.path ≡ None → knows b q ≡ true → (f : Query) × (source b q ≡ Some f)
known_source b q free e = some_value (source b q) (at (source b q) refl)
  where
    at : (o : Option Query) → source b q ≡ o → is_some o ≡ true
    at None h = absurd (true≢false (sym e ∙ ap is_some (base_free b q free ∙ ap (λ o. option_map window_base (option_and_then (window_of b.windows) o)) h)))
    at (Some f) h = refl

source_known : (b : Brought) (q f : Query) → region_part b.regions q.path ≡ None → IsSource b q f → knows b q ≡ true
source_known b q f free h =
    let g = some_value (source b q) (source_there b q f free h) in
    let w = some_value (window_of b.windows g.0) ((source_is b q g.0 free g.1).window) in
    ap is_some (base_free b q free ∙ ap (λ o. option_map window_base (option_and_then (window_of b.windows) o)) g.1 ∙ ap (option_map window_base) w.1)

-- what has a source is known
pub source_knows : (b : Brought) (q : Query) → is_some (source b q) ≡ true → knows b q ≡ true
source_knows b q e = at (region_part b.regions q.path) refl
  where
    at : (o : Option PathTree) → region_part b.regions q.path ≡ o → knows b q ≡ true
    at (Some t) r = ap is_some (base_region b q t r)
    at None r = let f = some_value (source b q) e in source_known b q f.0 r (source_is b q f.0 r f.1)

-- ---- looks

-- nothing both, or the same children and the same mark
abbrev pub Alike : Option Base → Option Base → Type 0
Alike None None = Unit {0}
Alike None (Some y) = ⊥
Alike (Some x) None = ⊥
Alike (Some x) (Some y) = ((k : Key) → child x.tree k ≡ child y.tree k) × (x.whole ≡ y.whole)

alike_by : (o p : Option Base) → o ≡ p → Alike o p
alike_by o p e = subst (Alike o) e (own o)
  where
    own : (o : Option Base) → Alike o o
    own None = record {}
    own (Some x) = (λ k. refl, refl)

alike_left : (t : PathTree) (b : Bool) → Alike (Some (record { tree = children_alone t; whole = b })) (Some (record { tree = t; whole = b }))
alike_left t b = (λ k. child-children_alone t k, refl)

abbrev none_part : Option PathTree
none_part = None

none_both : (c : Bool) → cond c none_part None ≡ None
none_both true = refl
none_both false = refl

-- ---- the law

module _ (b left new : Brought) (reached : Path → Bool) (heirs : List Query) (brought : IsBrought b) (change : IsChange b left new reached heirs)
    (q : Query) (filtered : is_filtered q ≡ true) (stays : Contains left.registered q) where
  now : region_part new.regions q.path ≡ cond (reached q.path) (region_part b.regions q.path) None
  now = change.same_regions q.path ∙ change.regions q.path

  -- a window that is left was there, for a filtered form that was registered
  left_was : (f : Query) → Contains left.registered f → is_some (window_of left.windows f) ≡ true → is_some (window_of b.windows f) ≡ true
  left_was f m h = ap is_some (sym (change.stay f m)) ∙ h

  -- a new source is an heir, or had its window before
  by_heir : (f : Query) → IsSource new q f → Contains heirs f ⊎ ((is_some (window_of b.windows f) ≡ true) × (window_of new.windows f ≡ window_of b.windows f))
  by_heir f h = at (list_any (query_eq f) heirs) refl
    where
      m : Contains left.registered f
      m = subst (λ r. Contains r f) change.same_forms h.registered

      at : (c : Bool) → list_any (query_eq f) heirs ≡ c → Contains heirs f ⊎ ((is_some (window_of b.windows f) ≡ true) × (window_of new.windows f ≡ window_of b.windows f))
      at true e = inl (from_any f heirs e)
      at false e =
          let same : window_of new.windows f ≡ window_of b.windows f = change.other f m e ∙ change.stay f m in
          inr (ap is_some (sym same) ∙ h.window, same)

  -- no region was there: nothing was known, so nothing is
  nothing_known : region_part b.regions q.path ≡ None → region_part new.regions q.path ≡ None → source b q ≡ None → source new q ≡ None
  nothing_known free free_now none = at (source new q) refl
    where
      clash : (f : Query) → IsSource b q f → ⊥
      clash f h = true≢false (sym (source_there b q f free h) ∙ ap is_some none)

      from : (f : Query) → IsSource new q f → ⊥
      from f h = elim (by_heir f h) [
        | inl m ↦
            let l = change.lost f m in
            let path : f.path ≡ q.path = same_path f q l.0 filtered h.supplies in
            let free_f : region_part b.regions f.path ≡ None = ap (region_part b.regions) path ∙ free in
            let g = known_source b f free_f l.1 in
            let s = source_is b f g.0 free_f g.1 in
            clash g.0 (record { registered = s.registered; supplies = supplies_trans g.0 f q (form_filtered f l.0) s.supplies h.supplies; window = s.window })
        | inr x ↦ clash f (record { registered = (brought.forms f x.0).0; supplies = h.supplies; window = x.0 })
      ]

      at : (o : Option Query) → source new q ≡ o → o ≡ None
      at None e = refl
      at (Some f) e = absurd (from f (source_is new q f free_now e))

  -- a form that supplies it by a window of before, or as an heir, lies at its path
  free_at : (f : Query) → is_filtered f ≡ true → Supplies f q → region_part b.regions q.path ≡ None → region_part b.regions f.path ≡ None
  free_at f ff s free = ap (region_part b.regions) (same_path f q ff filtered s) ∙ free

  -- not moved: the window that it had
  not_moved : (F : Query) → region_part b.regions q.path ≡ None → region_part new.regions q.path ≡ None
      → source b q ≡ Some F → option_and_then (source b) (source new q) ≡ Some F → Alike (base new q) (base b q)
  not_moved F free free_now e moved = at (source new q) refl
    where
      s : IsSource b q F
      s = source_is b q F free e

      w : (w : Window) × (window_of b.windows F ≡ Some w)
      w = some_value (window_of b.windows F) s.window

      before : base b q ≡ Some (window_base w.0)
      before = base_free b q free ∙ ap (λ o. option_map window_base (option_and_then (window_of b.windows) o)) e ∙ ap (option_map window_base) w.1

      after : (G : Query) → source new q ≡ Some G → base new q ≡ option_map window_base (window_of new.windows G)
      after G g = base_free new q free_now ∙ ap (λ o. option_map window_base (option_and_then (window_of new.windows) o)) g

      from : (G : Query) → source new q ≡ Some G → source b G ≡ Some F → Alike (base new q) (base b q)
      from G g sG =
          let h = source_is new q G free_now g in
          elim (by_heir G h) [
            | inl m ↦
                let l = change.lost G m in
                let free_G = free_at G l.0 h.supplies free in
                let old : base b G ≡ Some (window_base w.0) = base_free b G free_G ∙ ap (λ o. option_map window_base (option_and_then (window_of b.windows) o)) sG ∙ ap (option_map window_base) w.1 in
                inherits (base new q) (base b q) w.0 (after G g ∙ ap (option_map window_base) (change.heir G m ∙ ap window_left old)) before
            | inr x ↦
                let filtered_G = (brought.forms G x.0).1 in
                let free_G = free_at G filtered_G h.supplies free in
                let t = source_is b G F free_G sG in
                let same : F ≡ G = brought.apart F G t.window x.0 t.supplies in
                alike_by (base new q) (base b q) (after G g ∙ ap (option_map window_base) (x.1 ∙ ap (window_of b.windows) (sym same) ∙ w.1) ∙ sym before)
          ]
        where
          inherits : (o p : Option Base) (w : Window) → o ≡ option_map window_base (window_left (Some (window_base w))) → p ≡ Some (window_base w) → Alike o p
          inherits o p w eo ep = subst (λ x. Alike x p) (sym eo) (subst (Alike (Some (record { tree = children_alone w.children; whole = w.is_whole }))) (sym ep) (alike_left w.children w.is_whole))

      at : (o : Option Query) → source new q ≡ o → Alike (base new q) (base b q)
      at None g = absurd (true≢false (ap is_some (sym moved ∙ ap (option_and_then (source b)) g)))
      at (Some G) g = from G g (ap (option_and_then (source b)) (sym g) ∙ moved)

  -- a region was there and is lost: an heir of the path has its children, whole
  region_lost : (t : PathTree) → region_part b.regions q.path ≡ Some t → region_part new.regions q.path ≡ None → Alike (base new q) (base b q)
  region_lost t e free_now =
      subst (Alike (base new q)) (sym (base_region b q t e)) (at (source new q) refl)
    where
      -- no window of before supplies it
      no_window : (f : Query) → is_some (window_of b.windows f) ≡ true → Supplies f q → ⊥
      no_window f h s =
          let path : f.path ≡ q.path = same_path f q (brought.forms f h).1 filtered s in
          true≢false (ap is_some (sym e ∙ ap (region_part b.regions) (sym path) ∙ brought.outside f h))

      free_left : region_part left.regions q.path ≡ None
      free_left = sym (change.same_regions q.path) ∙ free_now

      unknown : knows left q ≡ false
      unknown = by (knows left q) refl
        where
          by : (c : Bool) → knows left q ≡ c → knows left q ≡ false
          by false h = h
          by true h =
              let f = known_source left q free_left h in
              let s = source_is left q f.0 free_left f.1 in
              absurd (no_window f.0 (left_was f.0 s.registered s.window) s.supplies)

      known : knows b q ≡ true
      known = ap is_some (base_region b q t e)

      some_heir : (h : Query) × Contains heirs h × Contains left.registered h × Supplies h q
      some_heir = change.over q stays filtered known unknown

      part_of : (h : Query) → Contains heirs h → Supplies h q → window_of new.windows h ≡ Some (record { children = children_alone t; is_whole = true })
      part_of h m s =
          let path : h.path ≡ q.path = same_path h q (change.lost h m).0 filtered s in
          change.heir h m ∙ ap window_left (base_region b h t (ap (region_part b.regions) path ∙ e))

      at : (o : Option Query) → source new q ≡ o → Alike (base new q) (Some (whole_base t))
      at None g =
          let h = some_heir in
          absurd (true≢false (sym (source_there new q h.0 free_now (record {
            registered = subst (λ r. Contains r h.0) (sym change.same_forms) h.2;
            supplies = h.3;
            window = ap is_some (part_of h.0 h.1 h.3);
          })) ∙ ap is_some g))
      at (Some G) g =
          let h = source_is new q G free_now g in
          elim (by_heir G h) [
            | inl m ↦
                let after : base new q ≡ Some (record { tree = children_alone t; whole = true }) =
                base_free new q free_now ∙ ap (λ o. option_map window_base (option_and_then (window_of new.windows) o)) g ∙ ap (option_map window_base) (part_of G m h.supplies) in
                subst (λ x. Alike x (Some (record { tree = t; whole = true }))) (sym after) (alike_left t true)
            | inr x ↦ absurd (no_window G x.0 h.supplies)
          ]

  -- a window that is left is not an heir's, so it stays
  left_stays : (f : Query) → Contains left.registered f → is_some (window_of left.windows f) ≡ true → is_some (window_of new.windows f) ≡ true
  left_stays f m h = at (list_any (query_eq f) heirs) refl
    where
      at : (c : Bool) → list_any (query_eq f) heirs ≡ c → is_some (window_of new.windows f) ≡ true
      at false e = ap is_some (change.other f m e) ∙ h
      at true e =
          let l = change.lost f (from_any f heirs e) in
          let outside : region_part left.regions f.path ≡ None = change.regions f.path ∙ ap (λ o. cond (reached f.path) o None) (brought.outside f (left_was f m h)) ∙ none_both (reached f.path) in
          absurd (true≢false (sym (source_known left f f outside (record { registered = m; supplies = supplies_itself f (form_filtered f l.0); window = h })) ∙ l.2))

  -- what was known by a window still is
  still_source : region_part new.regions q.path ≡ None → knows b q ≡ true → is_some (source new q) ≡ true
  still_source free_now known = at (knows left q) refl
    where
      free_left : region_part left.regions q.path ≡ None
      free_left = sym (change.same_regions q.path) ∙ free_now

      at : (c : Bool) → knows left q ≡ c → is_some (source new q) ≡ true
      at true h =
          let f = known_source left q free_left h in
          let s = source_is left q f.0 free_left f.1 in
          source_there new q f.0 free_now (record { registered = subst (λ r. Contains r f.0) (sym change.same_forms) s.registered; supplies = s.supplies; window = left_stays f.0 s.registered s.window })
      at false h =
          let x = change.over q stays filtered known h in
          let l = change.lost x.0 x.1 in
          source_there new q x.0 free_now (record { registered = subst (λ r. Contains r x.0) (sym change.same_forms) x.2; supplies = x.3; window = ap is_some (change.heir x.0 x.1) ∙ left_of (base b x.0) l.1 })
        where
          left_of : (o : Option Base) → is_some o ≡ true → is_some (window_left o) ≡ true
          left_of None e = e
          left_of (Some x) e = refl

  -- a filtered query that is not moved sees what it saw
  pub unmoved_alike : is_moved b new q ≡ false → Alike (base new q) (base b q)
  unmoved_alike unmoved = by_now (region_part new.regions q.path) refl
    where
      old_part : (t : PathTree) → region_part new.regions q.path ≡ Some t → region_part b.regions q.path ≡ Some t
      old_part t e = at (reached q.path) refl
        where
          at : (c : Bool) → reached q.path ≡ c → region_part b.regions q.path ≡ Some t
          at true h = ap (λ c. cond c (region_part b.regions q.path) None) (sym h) ∙ sym now ∙ e
          at false h = absurd (true≢false (ap is_some (sym e ∙ now ∙ ap (λ c. cond c (region_part b.regions q.path) None) h)))

      same : (o p : Option Query) → option_eq query_eq o p ≡ true → o ≡ p
      same None None e = refl
      same None (Some g) e = absurd (true≢false (sym e))
      same (Some f) None e = absurd (true≢false (sym e))
      same (Some f) (Some g) e = ap (λ x. Some x) ((query_eq_tells f g).0 e)

      no_not : (c : Bool) → not c ≡ false → c ≡ true
      no_not true e = refl
      no_not false e = absurd (true≢false e)

      -- the window that it has now comes from the one that it had
      came : (F : Query) → region_part b.regions q.path ≡ None → region_part new.regions q.path ≡ None → source b q ≡ Some F → option_and_then (source b) (source new q) ≡ Some F
      came F free free_now s = by (query_eq F q) refl (source new q) refl
        where
          x : IsSource b q F
          x = source_is b q F free s

          there : is_some (source new q) ≡ true
          there = still_source free_now (source_known b q F free x)

          told : (o : Option Query) → source new q ≡ o → (not (query_eq F q) && option_map_or (λ g. not (option_eq query_eq (source b g) (Some F))) o false) ≡ false
          told o n = sym (ap (λ y. option_map_or (λ f. not (query_eq f q) && option_map_or (λ g. not (option_eq query_eq (source b g) (Some f))) (source new q) false) y false) s
              ∙ ap (λ y. not (query_eq F q) && option_map_or (λ g. not (option_eq query_eq (source b g) (Some F))) y false) n) ∙ unmoved

          -- what supplies a query that had a window of its own is that
          only : (G : Query) → IsSource new q G → is_some (window_of b.windows q) ≡ true → G ≡ q
          only G h has = elim (by_heir G h) [
            | inr y ↦ brought.apart G q y.0 has h.supplies
            | inl m ↦
                let l = change.lost G m in
                let free_G : region_part b.regions G.path ≡ None = free_at G l.0 h.supplies free in
                let z = known_source b G free_G l.1 in
                let y = source_is b G z.0 free_G z.1 in
                let is : z.0 ≡ q = brought.apart z.0 q y.window has (supplies_trans z.0 G q (form_filtered G l.0) y.supplies h.supplies) in
                supplies_antisymm G q (form_filtered G l.0) (form_filtered q filtered) h.supplies (subst (λ k. Supplies k G) is y.supplies)
          ]

          by : (c : Bool) → query_eq F q ≡ c → (o : Option Query) → source new q ≡ o → option_and_then (source b) (source new q) ≡ Some F
          by c e None n = absurd (true≢false (sym there ∙ ap is_some n))
          by false e (Some G) n =
              let is : not (option_eq query_eq (source b G) (Some F)) ≡ false = sym (ap (λ y. not y && not (option_eq query_eq (source b G) (Some F))) e) ∙ told (Some G) n in
              ap (option_and_then (source b)) n ∙ same (source b G) (Some F) (no_not (option_eq query_eq (source b G) (Some F)) is)
          by true e (Some G) n =
              let own : F ≡ q = (query_eq_tells F q).0 e in
              let has : is_some (window_of b.windows q) ≡ true = subst (λ y. is_some (window_of b.windows y) ≡ true) own x.window in
              let h = source_is new q G free_now n in
              let is : G ≡ q = only G h has in
              ap (option_and_then (source b)) n ∙ ap (source b) is ∙ s

      by_source : (o : Option Query) → source b q ≡ o → region_part b.regions q.path ≡ None → region_part new.regions q.path ≡ None → Alike (base new q) (base b q)
      by_source None s free free_now =
          alike_by (base new q) (base b q) (base_free new q free_now ∙ ap (λ o. option_map window_base (option_and_then (window_of new.windows) o)) (nothing_known free free_now s)
          ∙ sym (base_free b q free ∙ ap (λ o. option_map window_base (option_and_then (window_of b.windows) o)) s))
      by_source (Some F) s free free_now =
          not_moved F free free_now s (came F free free_now s)

      by_old : (o : Option PathTree) → region_part b.regions q.path ≡ o → region_part new.regions q.path ≡ None → Alike (base new q) (base b q)
      by_old None e free_now = by_source (source b q) refl e free_now
      by_old (Some t) e free_now = region_lost t e free_now

      by_now : (o : Option PathTree) → region_part new.regions q.path ≡ o → Alike (base new q) (base b q)
      by_now (Some t) e = alike_by (base new q) (base b q) (base_region new q t e ∙ sym (base_region b q t (old_part t e)))
      by_now None e = by_old (region_part b.regions q.path) refl e

-- ---- what holds of what is brought holds after a change

module _ (b left new : Brought) (reached : Path → Bool) (heirs : List Query) (brought : IsBrought b) (change : IsChange b left new reached heirs) where
  -- an heir, or a window of before
  pub kind_of : (f : Query) → is_some (window_of new.windows f) ≡ true → Contains heirs f ⊎ ((is_some (window_of b.windows f) ≡ true) × (is_some (window_of left.windows f) ≡ true))
  kind_of f h = at (list_any (query_eq f) heirs) refl
    where
      m : Contains left.registered f
      m = change.only f h

      at : (c : Bool) → list_any (query_eq f) heirs ≡ c → Contains heirs f ⊎ ((is_some (window_of b.windows f) ≡ true) × (is_some (window_of left.windows f) ≡ true))
      at true e = inl (from_any f heirs e)
      at false e =
          let there : is_some (window_of left.windows f) ≡ true = ap is_some (sym (change.other f m e)) ∙ h in
          inr (ap is_some (sym (change.stay f m)) ∙ there, there)

  -- where something is lost no region is left
  lost_free : (h : Query) → knows left h ≡ false → region_part left.regions h.path ≡ None
  lost_free h e = at (region_part left.regions h.path) refl
    where
      at : (o : Option PathTree) → region_part left.regions h.path ≡ o → o ≡ None
      at None r = refl
      at (Some t) r = absurd (true≢false (sym (ap is_some (base_region left h t r)) ∙ e))

  -- a window that stays supplies no heir, and an heir supplies none
  pub old_heir : (f g : Query) → is_some (window_of left.windows f) ≡ true → Contains left.registered f → Contains heirs g → Supplies f g → ⊥
  old_heir f g h m n s =
      let l = change.lost g n in
      true≢false (sym (source_known left g f (lost_free g l.2) (record { registered = m; supplies = s; window = h })) ∙ l.2)

  heir_old : (f g : Query) → Contains heirs f → is_some (window_of b.windows g) ≡ true → Supplies f g → f ≡ g
  heir_old f g m h s =
      let l = change.lost f m in
      let fg = (brought.forms g h).1 in
      let path : f.path ≡ g.path = same_path f g l.0 fg s in
      let free : region_part b.regions f.path ≡ None = ap (region_part b.regions) path ∙ brought.outside g h in
      let x = known_source b f free l.1 in
      let y = source_is b f x.0 free x.1 in
      let same : x.0 ≡ g = brought.apart x.0 g y.window h (supplies_trans x.0 f g (form_filtered f l.0) y.supplies s) in
      supplies_antisymm f g (form_filtered f l.0) (form_filtered g fg) s (subst (λ z. Supplies z f) same y.supplies)

  pub brought_still : IsBrought new
  brought_still = record {
    forms = λ f h. (
      subst (λ r. Contains r f) (sym change.same_forms) (change.only f h),
      elim (kind_of f h) [
        | inl m ↦ (change.lost f m).0
        | inr x ↦ (brought.forms f x.0).1
      ],
    );
    apart = λ f g hf hg s. elim (kind_of f hf) [
      | inl m ↦ elim (kind_of g hg) [
        | inl n ↦ change.alone f g m n s
        | inr y ↦ heir_old f g m y.0 s
      ]
      | inr x ↦ elim (kind_of g hg) [
        | inl n ↦ absurd (old_heir f g x.1 (change.only f hf) n s)
        | inr y ↦ brought.apart f g x.0 y.0 s
      ]
    ];
    outside = λ f h. change.same_regions f.path ∙ elim (kind_of f h) [
      | inl m ↦ lost_free f (change.lost f m).2
      | inr x ↦ change.regions f.path ∙ ap (λ o. cond (reached f.path) o None) (brought.outside f x.0) ∙ none_both (reached f.path)
    ];
  }

-- ---- a source that is as it was

-- a query whose source is as it was is not moved
pub unmoved_same : (b new : Brought) (q : Query) → IsBrought b → source new q ≡ source b q → is_moved b new q ≡ false
unmoved_same b new q brought same = at (source b q) refl
  where
    at : (o : Option Query) → source b q ≡ o → is_moved b new q ≡ false
    at None e = ap (λ o. option_map_or (λ f. not (query_eq f q) && option_map_or (λ g. not (option_eq query_eq (source b g) (Some f))) (source new q) false) o false) e
    at (Some f) e =
        ap (λ o. option_map_or (λ y. not (query_eq y q) && option_map_or (λ g. not (option_eq query_eq (source b g) (Some y))) (source new q) false) o false) e
        ∙ ap (λ o. not (query_eq f q) && option_map_or (λ g. not (option_eq query_eq (source b g) (Some f))) o false) (same ∙ e)
        ∙ ap (λ o. not (query_eq f q) && not (option_eq query_eq o (Some f))) own
        ∙ ap (λ c. not (query_eq f q) && not c) ((query_eq_tells f f).1 refl)
        ∙ no (not (query_eq f q))
      where
        no : (c : Bool) → (c && false) ≡ false
        no true = refl
        no false = refl

        free : region_part b.regions q.path ≡ None
        free = none_of (region_part b.regions q.path) refl
          where
            none_of : (o : Option PathTree) → region_part b.regions q.path ≡ o → region_part b.regions q.path ≡ None
            none_of None r = r
            none_of (Some t) r = let clash : None ≡ Some f = sym (ap (λ o. cond (is_some o) None (find (serves b q) b.registered)) r) ∙ e in cc

        x : IsSource b q f
        x = source_is b q f free e

        -- a form that has a window is its own source
        own : source b f ≡ Some f
        own =
            let outside : region_part b.regions f.path ≡ None = brought.outside f x.window in
            let filtered : is_filtered f ≡ true = (brought.forms f x.window).1 in
            let s = some_value (source b f) (source_there b f f outside (record { registered = x.registered; supplies = supplies_itself f (form_filtered f filtered); window = x.window })) in
            let y = source_is b f s.0 outside s.1 in
            s.1 ∙ ap (λ z. Some z) (brought.apart s.0 f y.window x.window y.supplies)
