-- What listeners that end leave: the forms that end and the listens that begin tell it.
use Rattle.std.proofs.Common.{◌≡◌, ◌≢◌, Bool, true, false, cond, not, ◌&&◌, ◌||◌, List, [], ◌∷◌, map, refl, sym, ap, subst, ◌∙◌, slice_index_or, ℕ, ◌<◌, Some, is_some}
use mathlib.Core.Bool.{true≢false}
use Rattle.std.specs.List.{filter, find, list_any, All, AllPairs, Any, Contains}
use Rattle.std.specs.Option.{option_map}
use Rattle.std.proofs.lemmas.List.Elements.{All-contains, All-map, Contains-get_or}
use Rattle.std.proofs.lemmas.List.Folds.{Any-from_list_any, list_any-from_Any, list_any_at}
use Rattle.std.proofs.lemmas.List.Kept.{AllPairs-filter}
use Rattle.rt_tree.specs.PathTree.{Path, PathTree}
use Rattle.rt_tree.specs.Assignments.{is_at_or_above}
use Rattle.rt_tree.specs.TreeEq.{both_first, both_second}
use Rattle.rt_query.specs.Queries.{Query, is_filtered}
use Rattle.rt_query.specs.QueryEq.{query_eq}
use Rattle.rt_query.specs.Supply.{form, does_supply}
use Rattle.rt_query.specs.laws.QueryEq.{query_eq_tells}
use Rattle.rt_query.specs.laws.SupplyLaws.{supplied_is_filtered}
use Rattle.rt_cache.specs.Brought.{Brought}
use Rattle.rt_cache.specs.Recover.{reaches, is_among, is_under_lost, EndsForms}
use Rattle.rt_cache.proofs.Places.{comparable}
use Rattle.rt_cover.specs.declared.change.Delta.{Delta}
use Rattle.rt_cover.specs.Cover.{Registered, Tagged, Supplies, forms, is_kept, needed}
use Rattle.rt_cover.specs.State.{Cover, needed_forms, supplier}
use Rattle.rt_cover.specs.laws.Apart.{PlainsStandApart}
use Rattle.rt_cover.specs.laws.CoverLaws.{Contains-filter, Contains-from_filter, is_covered, IsForm}
use Rattle.rt_cover.specs.laws.FormLaws.{same_tests, supply_unfiltered}
use Rattle.rt_cover.specs.laws.KeepLaws.{Contains-from_map, Contains-map, length_of_map, forms_are, fewest_kept}
use Rattle.rt_cover.specs.laws.Pairs.{AllPairs-map}
use Rattle.rt_cover.specs.laws.Paths.{is_at_or_above-trans}
use Rattle.rt_cover.specs.laws.Registered.{any_form}
use Rattle.rt_cover.specs.laws.ShownLaws.{found, form_in, needed_alone}
use Rattle.rt_cover.specs.laws.SoundLaws.{distinct_apart}
use Rattle.rt_world.specs.World.{Listener, listening}
use Rattle.rt_sync.specs.inside.Losing.{is_ended, HasLost}

-- ---- tests of a list

-- those of a list that pass a test, and are a query
any_passing : (r : Query → Bool) (x : Query) (xs : List Query) → is_among (filter r xs) x ≡ (r x && is_among xs x)
any_passing r x [] = elim (r x) as (λ b. false ≡ (b && false)) [ true ↦ refl | false ↦ refl ]
any_passing r x (y ∷ ys) =
    let rest : is_among (filter r ys) x ≡ (r x && is_among ys x) = any_passing r x ys in
    elim (query_eq y x) as (λ b. query_eq y x ≡ b → is_among (filter r (y ∷ ys)) x ≡ (r x && (b || is_among ys x))) [
      | true ↦ λ e. at e rest (r y) refl
      | false ↦ λ e. elim (r y) as (λ c. is_among (cond c (y ∷ filter r ys) (filter r ys)) x ≡ (r x && is_among ys x)) [
        | true ↦ ap (λ b. b || is_among (filter r ys) x) e ∙ rest
        | false ↦ rest
      ]
    ] refl
  where
    at : query_eq y x ≡ true → is_among (filter r ys) x ≡ (r x && is_among ys x) → (c : Bool) → r y ≡ c → is_among (cond (r y) (y ∷ filter r ys) (filter r ys)) x ≡ (r x && true)
    at e rest true h =
        ap (λ c. is_among (cond c (y ∷ filter r ys) (filter r ys)) x) h
        ∙ ap (λ b. b || is_among (filter r ys) x) e
        ∙ sym (ap (λ b. b && true) (sym (ap r ((query_eq_tells y x).0 e)) ∙ h))
    at e rest false h =
        let none : r x ≡ false = sym (ap r ((query_eq_tells y x).0 e)) ∙ h in
        ap (λ c. is_among (cond c (y ∷ filter r ys) (filter r ys)) x) h
        ∙ rest ∙ ap (λ b. b && is_among ys x) none ∙ sym (ap (λ b. b && true) none)

any_implied : {X : Type 0} (p q : X → Bool) (xs : List X) → ((x : X) → p x ≡ true → q x ≡ true) → list_any p xs ≡ true → list_any q xs ≡ true
any_implied p q xs h e = let a = Any-from_list_any p xs e in list_any-from_Any q xs (a.0, a.1, a.2, a.3, h a.1 a.4)

any_mapped : {X Y : Type 0} (h : X → Y) (p : Y → Bool) (xs : List X) → list_any p (map h xs) ≡ list_any (λ x. p (h x)) xs
any_mapped h p [] = refl
any_mapped h p (x ∷ xs) = ap (λ b. p (h x) || b) (any_mapped h p xs)

-- a form is listened to where a listener has it
any_listener : (f : Query) (rs : List Registered) → list_any (λ x. query_eq x f) (listening rs) ≡ list_any (λ (l : Registered). query_eq l.1 f) rs
any_listener f rs = any_mapped (λ (l : Registered). l.1) (λ x. query_eq x f) rs

-- what is found passes, and what passes is found
found_any : {X Y : Type 0} (h : X → Y) (p : X → Bool) (xs : List X) → is_some (option_map h (find p xs)) ≡ list_any p xs
found_any h p [] = refl
found_any h p (x ∷ xs) =
    elim (p x) as (λ b. is_some (option_map h (cond b (Some x) (find p xs))) ≡ (b || list_any p xs)) [
      | true ↦ refl
      | false ↦ found_any h p xs
    ]

fails : (b : Bool) → not b ≡ true → b ≡ false
fails true e = absurd (true≢false (sym e))
fails false e = refl

no : (b : Bool) → (b ≡ true → false ≡ true) → b ≡ false
no true f = sym (f refl)
no false f = refl

unlike : {A : Type 0} (b : Bool) → b ≡ true → b ≡ false → A
unlike b t f = absurd (true≢false (sym t ∙ f))

-- a query among them is one of them, and the other way round
of_among : (xs : List Query) (q : Query) → is_among xs q ≡ true → Contains xs q
of_among xs q e =
    let a = Any-from_list_any (λ x. query_eq x q) xs e in
    subst (Contains xs) ((query_eq_tells a.1 q).0 a.4) (a.0, a.2, a.3)

to_among : (xs : List Query) (q : Query) → Contains xs q → is_among xs q ≡ true
to_among xs q m = list_any_at (λ x. query_eq x q) xs m.0 q m.1 (ap (λ x. query_eq x q) m.2 ∙ (query_eq_tells q q).1 refl)

-- ---- forms of listeners

pub listening_of : (rs : List Registered) (f : Query) → Contains (forms rs) f → Contains (listening rs) f
listening_of rs f m = let x = found rs f m in subst (Contains (listening rs)) x.2 (Contains-map (λ (r : Registered). r.1) rs (x.1).0 x.0 (x.1).1 (x.1).2)

form_listened : (rs : List Registered) (f : Query) → Contains (listening rs) f → Contains (forms rs) f
form_listened rs f m =
    let x = Contains-from_map (λ (r : Registered). r.1) rs m.0 f (subst (λ n. m.0 < n) (length_of_map (λ (r : Registered). r.1) rs) m.1) m.2 in
    subst (Contains (forms rs)) x.2 (form_in rs x.0 x.1)

kept_form : (kept : List Tagged) (f : Query) → is_kept kept f ≡ true → Contains (map (λ (k : Tagged). k.form) kept) f
kept_form kept f e =
    let a = Any-from_list_any (λ (k : Tagged). query_eq k.form f) kept e in
    subst (Contains (map (λ (k : Tagged). k.form) kept)) ((query_eq_tells (a.1).form f).0 a.4) (Contains-map (λ (k : Tagged). k.form) kept a.0 a.1 a.2 a.3)

-- ---- what reaches a path

-- a plain one at or above it
abbrev Reacher : List Query → Path → Type 0
Reacher fs p = (g : Query) × Contains fs g × (is_filtered g ≡ false) × (is_at_or_above g.path p ≡ true)

reacher : (fs : List Query) (p : Path) → reaches fs p ≡ true → Reacher fs p
reacher fs p e =
    let a = Any-from_list_any (λ (k : Query). not (is_filtered k) && is_at_or_above k.path p) fs e in (
      a.1,
      (a.0, a.2, a.3),
      fails (is_filtered a.1) (both_first (not (is_filtered a.1)) (is_at_or_above (a.1).path p) a.4),
      both_second (not (is_filtered a.1)) (is_at_or_above (a.1).path p) a.4,
    )

reached_of : (fs : List Query) (g : Query) (p : Path) → Contains fs g → is_filtered g ≡ false → is_at_or_above g.path p ≡ true → reaches fs p ≡ true
reached_of fs g p m plain above =
    list_any_at (λ (k : Query). not (is_filtered k) && is_at_or_above k.path p) fs m.0 g m.1
    (ap (λ (k : Query). not (is_filtered k) && is_at_or_above k.path p) m.2 ∙ (λ i. not (plain i) && above i))

-- what supplies a plain form is plain, and is at or above all that is under it
still_reaches : (q s : Query) (p : Path) → is_filtered q ≡ false → is_at_or_above q.path p ≡ true → does_supply s q ≡ true
    → (not (is_filtered s) && is_at_or_above s.path p) ≡ true
still_reaches q s p flat above e =
    elim (is_filtered s) as (λ b. is_filtered s ≡ b → (not b && is_at_or_above s.path p) ≡ true) [
      | true ↦ λ f. absurd (true≢false (sym (supplied_is_filtered s q f e) ∙ flat))
      | false ↦ λ f. is_at_or_above-trans s.path q.path p (sym (supply_unfiltered s q f) ∙ e) above
    ] refl

module _ (was is : Cover) (numbers : List ℕ) (ls : List Listener) (ended : List Query) (delta : Delta) (b : Brought) (h : HasLost was is numbers ls ended delta b) where
  abbrev pub gone : List Query
  gone = filter (is_ended is) ended

  abbrev pub begun : List Query
  begun = map (λ k. k.query) delta.started

  abbrev kept_was : List Query
  kept_was = map (λ (k : Tagged). k.form) was.kept

  abbrev kept_is : List Query
  kept_is = map (λ (k : Tagged). k.form) is.kept

  -- whether a listener has the form
  abbrev has : Query → Bool
  has x = list_any (λ (l : Registered). query_eq l.1 x) is.listeners

  own : (x : Query) → Contains (listening was.listeners) x → form x ≡ x
  own x m = All-contains IsForm (listening was.listeners) x (All-map IsForm (λ (l : Registered). l.1) was.listeners (h.was_sound).forms) m

  -- a form ended, or is registered
  either : (x : Query) → Contains (listening was.listeners) x → (is_among ended x || has x) ≡ true
  either x m = h.ending x (sym (any_listener x was.listeners) ∙ to_among (listening was.listeners) x m)

  -- where no listener has it, and it is filtered or no listen supplies it, it ends
  ends : (x : Query) → Contains (listening was.listeners) x → (is_filtered x || not (is_some (supplier is x))) ≡ true → is_ended is x ≡ not (has x)
  ends x m e = (λ i. not (list_any (λ g. query_eq g (own x m i)) (forms is.listeners)) && e i) ∙ whole (not (list_any (λ g. query_eq g x) (forms is.listeners))) ∙ ap not (any_form x is.listeners)
    where
      whole : (c : Bool) → (c && true) ≡ c
      whole true = refl
      whole false = refl

  kept_needed : (k : Query) → Contains kept_is k → Contains (needed (forms is.listeners)) k
  kept_needed k m = All-contains (Contains (needed (forms is.listeners))) kept_is k (h.is_sound).only m

  kept_registered : (k : Query) → Contains kept_is k → Contains (forms is.listeners) k
  kept_registered k m = Contains-from_filter (λ f. not (is_covered (forms is.listeners) f)) (forms is.listeners) k (kept_needed k m)

  was_needed : (k : Query) → Contains kept_was k → Contains (needed (forms was.listeners)) k
  was_needed k m = All-contains (Contains (needed (forms was.listeners))) kept_was k (h.was_sound).only m

  was_registered : (k : Query) → Contains kept_was k → Contains (forms was.listeners) k
  was_registered k m = Contains-from_filter (λ f. not (is_covered (forms was.listeners) f)) (forms was.listeners) k (was_needed k m)

  -- ---- listens that begin

  begun_kept : (f : Query) → Contains begun f → Contains kept_is f
  begun_kept f m =
      All-contains (Contains kept_is) (needed (forms is.listeners)) f (h.is_sound).all
      (Contains-from_filter (λ g. not (is_kept was.kept g)) (needed_forms is.listeners) f (subst (λ xs. Contains xs f) h.begun m))

  -- a needed form begins that wasn't kept
  begins : (k : Query) → Contains (needed (forms is.listeners)) k → is_kept was.kept k ≡ false → Contains begun k
  begins k m unkept = subst (λ xs. Contains xs k) (sym h.begun) (Contains-filter (λ g. not (is_kept was.kept g)) (needed_forms is.listeners) k m (ap not unkept))

  -- ---- what supplies

  -- a kept listen supplies each registered form
  supplied : (q : Query) → Contains (forms is.listeners) q → list_any (λ (k : Tagged). does_supply k.form q) is.kept ≡ true
  supplied q m =
      let few = fewest_kept (forms is.listeners) kept_is (forms_are is.listeners (h.is_sound).forms) (h.is_sound).only (h.is_sound).all in
      let s = All-contains (λ r. Any (λ s. Supplies s r) kept_is) (forms is.listeners) q (few.supplying).each m in
      sym (any_mapped (λ (k : Tagged). k.form) (λ s. does_supply s q) is.kept) ∙ list_any-from_Any (λ s. does_supply s q) kept_is s

  reached_supplied : (q : Query) (p : Path) → list_any (λ (k : Tagged). does_supply k.form q) is.kept ≡ true → is_filtered q ≡ false → is_at_or_above q.path p ≡ true → reaches kept_is p ≡ true
  reached_supplied q p e plain above =
      any_mapped (λ (k : Tagged). k.form) (λ (s : Query). not (is_filtered s) && is_at_or_above s.path p) is.kept
      ∙ any_implied (λ (k : Tagged). does_supply k.form q) (λ (k : Tagged). not (is_filtered k.form) && is_at_or_above (k.form).path p) is.kept (λ k. still_reaches q k.form p plain above) e

  supplier_is : (q : Query) → is_some (supplier is q) ≡ list_any (λ (k : Tagged). does_supply k.form q) is.kept
  supplier_is q = found_any (λ (k : Tagged). k.tag) (λ (k : Tagged). does_supply k.form q) is.kept

  -- a kept plain listen supplies what is under it
  supplier_of : (k x : Query) → Contains kept_is k → is_filtered k ≡ false → is_at_or_above k.path x.path ≡ true → is_some (supplier is x) ≡ true
  supplier_of k x m plain above =
      supplier_is x ∙ sym (any_mapped (λ (j : Tagged). j.form) (λ s. does_supply s x) is.kept)
      ∙ list_any_at (λ s. does_supply s x) kept_is m.0 k m.1 (ap (λ s. does_supply s x) m.2 ∙ supply_unfiltered k x plain ∙ above)

  -- ---- regions

  -- an ended plain form has no listener and no supplier
  ended_unsupplied : (x : Query) → Contains gone x → is_filtered x ≡ false → Contains (listening was.listeners) x × (has x ≡ false) × (is_some (supplier is x) ≡ false)
  ended_unsupplied x m plain =
      let there : Contains ended x = Contains-from_filter (is_ended is) ended x m in
      let was_there : Contains (listening was.listeners) x = All-contains (Contains (listening was.listeners)) ended x h.were there in
      let unlistened : list_any (λ g. query_eq g (form x)) (forms is.listeners) ≡ false = fails _ (both_first (not (list_any (λ g. query_eq g (form x)) (forms is.listeners))) (is_filtered x || not (is_some (supplier is x))) passes) in (
        was_there,
        sym (any_form x is.listeners) ∙ ap (λ y. list_any (λ g. query_eq g y) (forms is.listeners)) (sym (own x was_there)) ∙ unlistened,
        fails _ (sym (ap (λ c. c || not (is_some (supplier is x))) plain) ∙ both_second (not (list_any (λ g. query_eq g (form x)) (forms is.listeners))) (is_filtered x || not (is_some (supplier is x))) passes),
      )
    where
      passes : is_ended is x ≡ true
      passes = both_first (is_ended is x) (is_among ended x) (sym (any_passing (is_ended is) x ended) ∙ to_among gone x m)

  region : (p : Path) → reaches kept_was p ≡ true → reaches kept_is p ≡ (not (reaches gone p) || reaches begun p)
  region p e = at (reaches gone p) refl
    where
      -- no ended form reaches it: the form that did is registered, or supplied
      still : reaches gone p ≡ false → reaches kept_is p ≡ true
      still f = listened (has (g.0)) refl
        where
          g : Reacher kept_was p
          g = reacher kept_was p e

          m : Contains (forms was.listeners) (g.0)
          m = was_registered g.0 g.1

          there : Contains (listening was.listeners) (g.0)
          there = listening_of was.listeners g.0 m

          unsupplied : has (g.0) ≡ false → (c : Bool) → is_some (supplier is g.0) ≡ c → reaches kept_is p ≡ true
          unsupplied u true s = reached_supplied g.0 p (sym (supplier_is g.0) ∙ s) g.2 g.3
          unsupplied u false s =
              let tests : (is_filtered (g.0) || not (is_some (supplier is (g.0)))) ≡ true = λ i. g.2 i || not (s i) in
              let ending : is_ended is g.0 ≡ true = ends g.0 there tests ∙ ap not u in
              let lost : Contains ended g.0 = of_among ended g.0 (sym (or_no (is_among ended g.0)) ∙ ap (λ c. is_among ended g.0 || c) (sym u) ∙ either g.0 there) in
              unlike (reaches gone p) (reached_of gone g.0 p (Contains-filter (is_ended is) ended g.0 lost ending) g.2 g.3) f
            where
              or_no : (c : Bool) → (c || false) ≡ c
              or_no true = refl
              or_no false = refl

          listened : (c : Bool) → has (g.0) ≡ c → reaches kept_is p ≡ true
          listened true t = reached_supplied g.0 p (supplied g.0 (of_among (forms is.listeners) g.0 (any_form g.0 is.listeners ∙ t))) g.2 g.3
          listened false t = unsupplied t (is_some (supplier is g.0)) refl

      -- an ended form reaches it: what does now begins
      anew : reaches gone p ≡ true → reaches kept_is p ≡ true → reaches begun p ≡ true
      anew t r =
          let k = reacher kept_is p r in
          reached_of begun k.0 p (begins k.0 (kept_needed k.0 k.1) (no (is_kept was.kept k.0) (λ s. sym (old k.0 k.1 k.2 k.3 s)))) k.2 k.3
        where
          x : Reacher gone p
          x = reacher gone p t

          over : Contains (listening was.listeners) (x.0) × (has (x.0) ≡ false) × (is_some (supplier is (x.0)) ≡ false)
          over = ended_unsupplied x.0 x.1 x.2

          old : (k : Query) → Contains kept_is k → is_filtered k ≡ false → is_at_or_above k.path p ≡ true → is_kept was.kept k ≡ true → true ≡ false
          old k m plain above s =
              elim (is_at_or_above k.path (x.0).path) as (λ c. is_at_or_above k.path (x.0).path ≡ c → true ≡ false) [
                | true ↦ λ a. sym (supplier_of k x.0 m plain a) ∙ over.2
                | false ↦ λ a.
                    let up : is_at_or_above (x.0).path k.path ≡ true = sym (ap (λ c. c || is_at_or_above (x.0).path k.path) a) ∙ comparable k.path (x.0).path p above x.3 in
                    let same : x.0 ≡ k = needed_alone (forms was.listeners) k x.0 (was_needed k (kept_form was.kept k s)) (form_listened was.listeners x.0 over.0) (supply_unfiltered x.0 k x.2 ∙ up) in
                    let registered : has k ≡ true = sym (any_form k is.listeners) ∙ to_among (forms is.listeners) k (kept_registered k m) in
                    sym registered ∙ ap has (sym same) ∙ over.1
              ] refl

      more : reaches begun p ≡ true → reaches kept_is p ≡ true
      more r = let g = reacher begun p r in reached_of kept_is g.0 p (begun_kept g.0 g.1) g.2 g.3

      at : (c : Bool) → reaches gone p ≡ c → reaches kept_is p ≡ (not (reaches gone p) || reaches begun p)
      at false f = still f ∙ sym (ap (λ c. not c || reaches begun p) f)
      at true t = same_tests (reaches kept_is p) (reaches begun p) (anew t) more ∙ sym (ap (λ c. not c || reaches begun p) t)

  regions : All (λ (r : Path × PathTree). reaches kept_is r.0 ≡ (not (reaches gone r.0) || reaches begun r.0)) b.regions
  regions k d lt = region (slice_index_or b.regions k d).0 (h.regions k d lt)

  -- what reached a region before is a kept plain listen
  reached_before : (r : Path × PathTree) → Contains b.regions r → reaches kept_was r.0 ≡ true
  reached_before r m = All-contains (λ (x : Path × PathTree). reaches kept_was x.0 ≡ true) b.regions r h.regions m

  -- ---- listens that lost regions leave something

  part : (k : Query) → Contains kept_is k → is_under_lost kept_is b.regions k ≡ true → Contains begun k
  part k m e = begins k (kept_needed k m) (no (is_kept was.kept k) (λ s. absurd (true≢false (old s))))
    where
      plain : is_filtered k ≡ false
      plain = fails (is_filtered k) (both_first (not (is_filtered k)) (list_any (λ (r : Path × PathTree). is_at_or_above r.0 k.path && not (reaches kept_is r.0)) b.regions) e)

      a : Any (λ (r : Path × PathTree). (is_at_or_above r.0 k.path && not (reaches kept_is r.0)) ≡ true) b.regions
      a = Any-from_list_any (λ (r : Path × PathTree). is_at_or_above r.0 k.path && not (reaches kept_is r.0)) b.regions (both_second (not (is_filtered k)) _ e)

      lost : reaches kept_is (a.1).0 ≡ false
      lost = fails (reaches kept_is (a.1).0) (both_second (is_at_or_above (a.1).0 k.path) (not (reaches kept_is (a.1).0)) a.4)

      old : is_kept was.kept k ≡ true → true ≡ false
      old s =
          let g = reacher kept_was (a.1).0 (reached_before a.1 (a.0, a.2, a.3)) in
          let above : is_at_or_above (g.0).path k.path ≡ true = is_at_or_above-trans (g.0).path (a.1).0 k.path g.3 (both_first (is_at_or_above (a.1).0 k.path) (not (reaches kept_is (a.1).0)) a.4) in
          let same : g.0 ≡ k = needed_alone (forms was.listeners) k g.0 (was_needed k (kept_form was.kept k s)) (was_registered g.0 g.1) (supply_unfiltered g.0 k g.2 ∙ above) in
          sym (reached_of kept_is k (a.1).0 m plain (subst (λ (q : Query). is_at_or_above q.path (a.1).0 ≡ true) same g.3)) ∙ lost

  -- ---- filtered forms

  form_ends : (x : Query) → Contains (listening was.listeners) x → is_filtered x ≡ true → is_among (listening is.listeners) x ≡ not (is_among gone x)
  form_ends x m filtered =
      any_listener x is.listeners
      ∙ told (is_among ended x) (has x) (either x m)
      ∙ ap not (sym (any_passing (is_ended is) x ended ∙ ap (λ c. c && is_among ended x) (ends x m (λ i. filtered i || not (is_some (supplier is x))))))
    where
      told : (e r : Bool) → (e || r) ≡ true → r ≡ not (not r && e)
      told true true k = refl
      told true false k = refl
      told false true k = refl
      told false false k = absurd (true≢false (sym k))

  pub ends_forms : PlainsStandApart → EndsForms gone begun (listening was.listeners) (listening is.listeners) kept_is b.regions
  ends_forms law = record {
    registered = λ k d lt. listening_of is.listeners (slice_index_or kept_is k d) (kept_registered (slice_index_or kept_is k d) (Contains-get_or kept_is k d lt));
    apart = law (forms is.listeners) kept_is (h.is_sound).only (AllPairs-map (λ (k : Tagged). k.form) (λ f g. f ≢ g) is.kept (h.is_sound).once);
    begun_kept = λ k d lt. begun_kept (slice_index_or begun k d) (Contains-get_or begun k d lt);
    begun_apart = law (forms is.listeners) begun
        (λ k d lt. kept_needed (slice_index_or begun k d) (begun_kept (slice_index_or begun k d) (Contains-get_or begun k d lt)))
        (subst (AllPairs (λ f g. f ≢ g)) (sym h.begun)
        (AllPairs-filter (λ f g. f ≢ g) (λ f. not (is_kept was.kept f)) (needed_forms is.listeners)
        (AllPairs-filter (λ f g. f ≢ g) (λ f. not (is_covered (forms is.listeners) f)) (forms is.listeners)
        (distinct_apart (map (λ (l : Registered). l.1) is.listeners)))));
    regions = regions;
    parts = λ k d lt. part (slice_index_or kept_is k d) (Contains-get_or kept_is k d lt);
    filtered = λ k d lt. form_ends (slice_index_or (listening was.listeners) k d) (Contains-get_or (listening was.listeners) k d lt);
  }

-- told of what is as these are
pub told_by : (gone begun were forms xs ys vs zs kept : List Query) (rs : List (Path × PathTree)) → xs ≡ gone → ys ≡ begun → vs ≡ were → zs ≡ forms
    → EndsForms gone begun were forms kept rs → EndsForms xs ys vs zs kept rs
told_by gone begun were forms xs ys vs zs kept rs e f v g h =
    subst (λ fs. EndsForms fs ys vs zs kept rs) (sym e) (subst (λ fs. EndsForms gone fs vs zs kept rs) (sym f)
    (subst (λ fs. EndsForms gone begun fs zs kept rs) (sym v) (subst (λ fs. EndsForms gone begun were fs kept rs) (sym g) h)))
