-- The listens that are kept, what they reach, and the entries that may be pushed on them.
use Rattle.std.proofs.Common.{◌≡◌, ℕ, ◌<◌, ◌+◌, Bool, true, false, cond, not, ◌&&◌, ◌||◌, ◌==◌, List, [], ◌∷◌, ◌++◌, map, length, sym, ap, subst, ◌∙◌, arith, slice_index_or, zero, suc, refl, ltb-false, Some}
use mathlib.Core.Bool.{true≢false}
use Rattle.std.specs.List.{find, list_any, list_all, All, Any, Contains}
use Rattle.std.specs.Option.{option_map, option_map_or}
use Rattle.std.proofs.lemmas.List.Elements.{All-cons, All-contains}
use Rattle.std.proofs.lemmas.List.Folds.{Any-from_list_any, list_any_at}
use Rattle.rt_tree.specs.PathTree.{Path, levels}
use Rattle.rt_tree.specs.Assignments.{is_at_or_above, Assignment}
use Rattle.rt_query.specs.Queries.{Query, is_filtered}
use Rattle.rt_query.specs.Supply.{form, does_supply}
use Rattle.rt_writes.specs.Writes.{IsShallow}
use Rattle.rt_cache.specs.Recover.{reaches}
use Rattle.rt_cover.specs.Cover.{Tagged, Registered, Supplies, forms, needed}
use Rattle.rt_cover.specs.laws.CoverLaws.{Contains-from_filter, needed_fewest}
use Rattle.rt_query.specs.laws.SupplyLaws.{supplied_is_filtered, supply_unfiltered}
use Rattle.rt_cover.specs.laws.KeepLaws.{Contains-map, Contains-from_map, length_of_map, forms_are, form_is_form, needed_kept_for}
use Rattle.rt_cover.specs.laws.Paths.{is_at_or_above-trans}
use Rattle.rt_cover.specs.laws.ShownLaws.{found, form_in}
use Rattle.rt_world.specs.declared.step.Step.{Step}
use Rattle.rt_world.specs.World.{World, Listener, registered, listening, listen_of}
use Rattle.rt_world.specs.After.{listeners_after, forms_after, listening_after, kept_after}
use Rattle.rt_world.specs.steps.Kind.{stands_too_deep}
use Rattle.rt_world.specs.steps.Pushing.{is_no_merge, is_within_listen}
use Rattle.rt_world.specs.Sound.{IsSound}
use Rattle.rt_world.specs.laws.Made.{IsPushOn}
use Rattle.rt_world.proofs.Listeners.{or_false_left, or_false_right}
use Rattle.rt_world.proofs.SoundLaws.{have_forms}

-- ---- listens that are kept

-- the forms of some listens
abbrev pub forms_kept : List Tagged → List Query
forms_kept kept = map (λ (k : Tagged). k.form) kept

-- a registered form is a listener's
pub form_of : (ls : List Listener) (f : Query) → Contains (forms (registered ls)) f → (l : Listener) × Contains ls l × (form l.query ≡ f)
form_of ls f m =
    let x = found (registered ls) f m in
    let y = Contains-from_map (λ (l : Listener). (l.number, form l.query)) ls (x.1).0 x.0 (subst (λ n. (x.1).0 < n) (length_of_map (λ (l : Listener). (l.number, form l.query)) ls) (x.1).1) (x.1).2 in
    (y.0, y.1, ap (λ (r : Registered). r.1) y.2 ∙ x.2)

-- a listener's form is registered
pub form_stays : (ls : List Listener) (l : Listener) → Contains ls l → Contains (forms (registered ls)) (form l.query)
form_stays ls l m = form_in (registered ls) (l.number, form l.query) (Contains-map (λ (x : Listener). (x.number, form x.query)) ls m.0 l m.1 m.2)

-- the registered forms are those of the listeners, one for each
pub listening_of : (rs : List Registered) (f : Query) → Contains (forms rs) f → Contains (listening rs) f
listening_of rs f m = let x = found rs f m in subst (Contains (listening rs)) x.2 (Contains-map (λ (r : Registered). r.1) rs (x.1).0 x.0 (x.1).1 (x.1).2)

pub form_listened : (rs : List Registered) (f : Query) → Contains (listening rs) f → Contains (forms rs) f
form_listened rs f m =
    let x = Contains-from_map (λ (r : Registered). r.1) rs m.0 f (subst (λ n. m.0 < n) (length_of_map (λ (r : Registered). r.1) rs) m.1) m.2 in
    subst (Contains (forms rs)) x.2 (form_in rs x.0 x.1)

-- a kept listen's form is registered
pub kept_registered : (w : World) → IsSound w → (f : Query) → Contains (forms_kept w.kept) f → Contains (forms (registered w.listeners)) f
kept_registered w h f m = Contains-from_filter _ (forms (registered w.listeners)) f (All-contains (Contains (needed (forms (registered w.listeners)))) (forms_kept w.kept) f (h.listens).only m)

-- the listen of a tag is a kept one
pub kept_of : (kept : List Tagged) (tag : ℕ) (q : Query) → option_map (λ (k : Tagged). k.form) (find (λ (k : Tagged). k.tag == tag) kept) ≡ Some q → Contains (forms_kept kept) q
kept_of [] tag q e = cc
kept_of (k ∷ kept) tag q e =
    elim (k.tag == tag) as (λ b. option_map (λ (x : Tagged). x.form) (cond b (Some k) (find (λ (x : Tagged). x.tag == tag) kept)) ≡ Some q → Contains (forms_kept (k ∷ kept)) q) [
      | true ↦ λ f. let same : k.form ≡ q = cc in (0, omega arith, same)
      | false ↦ λ f. let m = kept_of kept tag q f in (suc m.0, omega (arith, m.1), m.2)
    ] e

-- ---- what they reach

pub reached_by : (kept : List Query) (q : Query) (p : Path) → Contains kept q → is_filtered q ≡ false → is_at_or_above q.path p ≡ true → reaches kept p ≡ true
reached_by kept q p m e under =
    list_any_at (λ k. not (is_filtered k) && is_at_or_above k.path p) kept m.0 q m.1
    (ap (λ (k : Query). not (is_filtered k) && is_at_or_above k.path p) m.2 ∙ (λ i. not (e i) && under i))

module _ (w : World) (s : Step) where
  -- a plain form that is registered is reached
  pub reached_form : (f : Query) → Contains (forms_after w s) f → form f ≡ f → is_filtered f ≡ false → (p : Path) → is_at_or_above f.path p ≡ true → reaches (forms_kept (kept_after w s)) p ≡ true
  reached_form f m own e p under =
      let by : Any (λ g. Supplies g f) (needed (forms_after w s)) = All-contains (λ r. Any (λ g. Supplies g r) (needed (forms_after w s))) (forms_after w s) f ((needed_fewest (forms_after w s) (forms_are (registered (listeners_after w s)) (have_forms (listeners_after w s)))).supplying.each) m in
      at by.1 (by.0, by.2, by.3) by.4
    where
      at : (g : Query) → Contains (needed (forms_after w s)) g → does_supply g f ≡ true → reaches (forms_kept (kept_after w s)) p ≡ true
      at g mg supplies =
          elim (is_filtered g) as (λ b. is_filtered g ≡ b → reaches (forms_kept (kept_after w s)) p ≡ true) [
            | true ↦ λ t. absurd (true≢false (sym (supplied_is_filtered g f t supplies) ∙ e))
            | false ↦ λ t.
                let there = All-contains (Contains (forms_kept (kept_after w s))) (needed (forms_after w s)) g (needed_kept_for w.next_tag w.kept (needed (forms_after w s))) mg in
                reached_by (forms_kept (kept_after w s)) g p there t (is_at_or_above-trans g.path f.path p (sym (supply_unfiltered g f t) ∙ supplies) under)
          ] refl

-- where each listener stays, each form stays registered
pub registered_still : (w : World) (s : Step) → ((l : Listener) → Contains w.listeners l → Contains (listeners_after w s) l)
    → (f : Query) → Contains (forms (registered w.listeners)) f → Contains (forms_after w s) f
registered_still w s stay f m =
    let l = form_of w.listeners f m in
    subst (Contains (forms_after w s)) l.2 (form_stays (listeners_after w s) l.0 (stay l.0 l.1))

pub listening_still : (w : World) (s : Step) → ((l : Listener) → Contains w.listeners l → Contains (listeners_after w s) l)
    → (f : Query) → Contains (listening (registered w.listeners)) f → Contains (listening_after w s) f
listening_still w s stay f m = listening_of (registered (listeners_after w s)) f (registered_still w s stay f (form_listened (registered w.listeners) f m))

-- and what was reached is reached still
pub reached_still : (w : World) (s : Step) → IsSound w → ((l : Listener) → Contains w.listeners l → Contains (listeners_after w s) l)
    → (p : Path) → reaches (forms_kept w.kept) p ≡ true → reaches (forms_kept (kept_after w s)) p ≡ true
reached_still w s h stay p r =
    let x = Any-from_list_any (λ k. not (is_filtered k) && is_at_or_above k.path p) (forms_kept w.kept) r in
    let there = kept_registered w h x.1 (x.0, x.2, x.3) in
    let l = form_of w.listeners x.1 there in
    let own : form x.1 ≡ x.1 = ap form (sym l.2) ∙ form_is_form (l.0).query ∙ l.2 in
    let plain : is_filtered x.1 ≡ false = no (is_filtered x.1) (is_at_or_above (x.1).path p) x.4 in
    reached_form w s x.1 (registered_still w s stay x.1 there) own plain p (both (not (is_filtered x.1)) (is_at_or_above (x.1).path p) x.4)
  where
    both : (a b : Bool) → (a && b) ≡ true → b ≡ true
    both true b e = e
    both false b e = absurd (true≢false (sym e))

    no : (a b : Bool) → (not a && b) ≡ true → a ≡ false
    no true b e = absurd (true≢false (sym e))
    no false b e = refl

-- a listener more
pub Contains-more : {X : Type 0} (xs ys : List X) (x : X) → Contains xs x → Contains (xs ++ ys) x
Contains-more {X = X} xs ys x m = at xs m.0 m.1 m.2
  where
    at : (zs : List X) (k : ℕ) → k < length zs → slice_index_or zs k x ≡ x → Contains (zs ++ ys) x
    at [] k lt e = absurd (omega arith)
    at (z ∷ zs) zero lt e = (0, omega arith, e)
    at (z ∷ zs) (suc k) lt e = let n = at zs k (omega arith) e in (suc n.0, omega (arith, n.1), n.2)

-- ---- the entries of a push that is not refused

not_deep : (a : Assignment) → stands_too_deep a ≡ false → IsShallow a
not_deep a e = ltb-false 33 (length a.0 + levels a.1) e

pub none_deep : (entries : List Assignment) → list_any stands_too_deep entries ≡ false → All IsShallow entries
none_deep [] e = λ k d lt. absurd (omega arith)
none_deep (a ∷ entries) e =
    All-cons IsShallow a entries (not_deep a (or_false_left (stands_too_deep a) (list_any stands_too_deep entries) e))
    (none_deep entries (or_false_right (stands_too_deep a) (list_any stands_too_deep entries) e))

all_under : (q : Query) (entries : List Assignment) → list_all (λ (a : Assignment). is_at_or_above q.path a.0) entries ≡ true → All (λ (a : Assignment). is_at_or_above q.path a.0 ≡ true) entries
all_under q [] e = λ k d lt. absurd (omega arith)
all_under q (a ∷ entries) e =
    elim (is_at_or_above q.path a.0) as (λ b. is_at_or_above q.path a.0 ≡ b → (b && list_all (λ (x : Assignment). is_at_or_above q.path x.0) entries) ≡ true → All (λ (x : Assignment). is_at_or_above q.path x.0 ≡ true) (a ∷ entries)) [
      | true ↦ λ f g. All-cons (λ (x : Assignment). is_at_or_above q.path x.0 ≡ true) a entries f (all_under q entries g)
      | false ↦ λ f g. absurd (true≢false (sym g))
    ] refl e

-- a part whose paths are at or under its listen, and whose entries are shallow
pub pushes_on : (w : World) (tag : ℕ) (entries : List Assignment) (q : Query) → listen_of w tag ≡ Some q
    → (not (is_within_listen w (tag, entries)) || is_no_merge entries) ≡ false → list_any stands_too_deep entries ≡ false → All (IsPushOn q) entries
pushes_on w tag entries q e good deep k d lt =
    let within : list_all (λ (a : Assignment). is_at_or_above q.path a.0) entries ≡ true =
    yes (list_all (λ (a : Assignment). is_at_or_above q.path a.0) entries) (ap not (ap (λ o. option_map_or (λ (x : Query). list_all (λ (a : Assignment). is_at_or_above x.path a.0) entries) o true) (sym e)) ∙ or_false_left (not (is_within_listen w (tag, entries))) (is_no_merge entries) good) in
    record { under = all_under q entries within k d lt; shallow = none_deep entries deep k d lt }
  where
    yes : (b : Bool) → not b ≡ false → b ≡ true
    yes true e = refl
    yes false e = absurd (true≢false e)
