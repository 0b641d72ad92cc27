-- A form that is registered, as a change of cover.
use Rattle.std.proofs.Common.{◌≡◌, Bool, true, false, cond, not, ◌&&◌, List, [], ◌∷◌, ◌++◌, refl, sym, ap, ◌∙◌}
use Rattle.std.specs.List.{All, filter, flat_map}
use Rattle.std.proofs.lemmas.List.Elements.{All-head, All-tail}
use Rattle.rt_tree.specs.PathTree.{Path, PathTree}
use Rattle.rt_query.specs.Queries.{Query, is_filtered}
use Rattle.rt_query.specs.Needed.{needed}
use Rattle.rt_cache.specs.Brought.{Window, with_form, knows}
use Rattle.rt_cache.specs.Canonical.{Belongs}
use Rattle.rt_cache.specs.Recover.{reaches, parts_of, with_regions, is_among, is_lost, heirs, cut, handed_on, in_query_order}
use Rattle.rt_cache.specs.laws.Windows.{RegisteringIsAChange}
use Rattle.rt_cache.proofs.Among.{among}
use Rattle.rt_cache.proofs.Belonging.{with_form_belongs}
use Rattle.rt_cache.proofs.Listing.{listed_is}
use Rattle.rt_cache.proofs.Sources.{knows_by}

-- where all pass a test, all stay, and none fails it
all_stay : {X : Type 0} (p : X → Bool) (xs : List X) → All (λ x. p x ≡ true) xs → filter p xs ≡ xs
all_stay p [] h = refl
all_stay p (x ∷ xs) h = λ i.
    cond (All-head (λ y. p y ≡ true) x xs h i) (x ∷ all_stay p xs (All-tail (λ y. p y ≡ true) x xs h) i) (all_stay p xs (All-tail (λ y. p y ≡ true) x xs h) i)

none_fails : {X : Type 0} (p : X → Bool) (xs : List X) → All (λ x. p x ≡ true) xs → filter (λ x. not (p x)) xs ≡ []
none_fails p [] h = refl
none_fails p (x ∷ xs) h =
    (λ i. cond (not (All-head (λ y. p y ≡ true) x xs h i)) (x ∷ filter (λ y. not (p y)) xs) (filter (λ y. not (p y)) xs))
    ∙ none_fails p xs (All-tail (λ y. p y ≡ true) x xs h)

none_passes : {X : Type 0} (p : X → Bool) (xs : List X) → ((x : X) → p x ≡ false) → filter p xs ≡ []
none_passes p [] h = refl
none_passes p (x ∷ xs) h = ap (λ b. cond b (x ∷ filter p xs) (filter p xs)) (h x) ∙ none_passes p xs h

pub registering : RegisteringIsAChange
registering b f kept c h reached =
    (λ i. record (cut_is i) { windows = in_query_order (handed_on b (none_inherits i) ++ (cut_is i).windows) })
    ∙ ap (λ ws. record (with_form f b) { windows = ws }) (listed_is b.windows b.windows c.windows (λ x. refl))
  where
    forms : List Query
    forms = b.registered ++ f ∷ []

    more : Belongs (with_form f b)
    more = with_form_belongs f b h

    regions_stay : with_regions (filter (λ (r : Path × PathTree). reaches kept r.0) b.regions)
        (flat_map (parts_of kept) (filter (λ (r : Path × PathTree). not (reaches kept r.0)) b.regions)) ≡ b.regions
    regions_stay = λ i.
        with_regions (all_stay (λ (r : Path × PathTree). reaches kept r.0) b.regions reached i)
        (flat_map (parts_of kept) (none_fails (λ (r : Path × PathTree). reaches kept r.0) b.regions reached i))

    windows_stay : filter (λ (w : Query × Window). is_among (b.registered ++ f ∷ []) w.0) b.windows ≡ b.windows
    windows_stay = all_stay (λ (w : Query × Window). is_among (b.registered ++ f ∷ []) w.0) b.windows
        (λ k d lt. among (b.registered ++ f ∷ []) _ (more.windows k d lt))

    cut_is : cut (b.registered ++ f ∷ []) kept b ≡ with_form f b
    cut_is = λ i. record { registered = b.registered ++ f ∷ []; regions = regions_stay i; windows = windows_stay i }

    known_still : (q : Query) → knows (with_form f b) q ≡ knows b q
    known_still q = knows_by (with_form f b) q more.windows ∙ sym (knows_by b q h.windows)

    not_lost : (x k : Bool) → (x && k && not k) ≡ false
    not_lost true true = refl
    not_lost true false = refl
    not_lost false k = refl

    loses_nothing : (q : Query) → is_lost b (with_form f b) q ≡ false
    loses_nothing q = (λ i. is_filtered q && knows b q && not (known_still q i)) ∙ not_lost (is_filtered q) (knows b q)

    none_inherits : heirs (b.registered ++ f ∷ []) b (cut (b.registered ++ f ∷ []) kept b) ≡ []
    none_inherits =
        ap (heirs (b.registered ++ f ∷ []) b) cut_is
        ∙ ap needed (none_passes (is_lost b (with_form f b)) (b.registered ++ f ∷ []) loses_nothing)
