-- Loops that change each element of a list in its place.
use Rattle.std.proofs.Common.{◌≡◌, ℕ, zero, suc, ◌<◌, arith, length, take, drop, set, get_or, List, [], ◌∷◌, ◌++◌, map, refl, sym, ap, subst, ◌∙◌, Option, Some, None}
use Rattle.std.specs.List.{All, AllPairs, filter_map, cons_option, zip}
use Rattle.std.proofs.lemmas.List.Elements.{All-head, All-tail}
use Rattle.std.proofs.Math.ListN.{get_or-map}
use Rattle.std.proofs.lemmas.List.{length-map}
use Rattle.std.specs.Option.{option_to_list}
use Rattle.rt_tree.specs.Assignments.{Assignment}
use Rattle.rt_query.specs.Queries.{Query}
use Rattle.rt_writes.specs.Writes.{Write}
use Rattle.rt_cache.specs.Brought.{Brought}
use Rattle.rt_view.specs.Views.{View}
use Rattle.rt_world.specs.World.{Listener}
use Rattle.rt_parts.specs.declared.listeners.HeldListener.{HeldListener}
use Rattle.rt_parts.specs.inside.HeldView.{listener_of, listeners_of, pair_of, refreshed_heard, views_of}
use Rattle.rt_parts.specs.Refreshed.{renewed_heard, view_heard}

-- the element at i is changed
pub step_set : {X Y : Type 0} (g : X → Y) (f : Y → Y) (ys : List Y) (xs : List X) (i : ℕ) (d new : X)
    → map g xs ≡ map f (take i ys) ++ drop i ys → i < length xs → g new ≡ f (g (get_or xs i d))
    → map g (set xs i new) ≡ map f (take (suc i) ys) ++ drop (suc i) ys
step_set g f ys [] i d new e lt put = absurd (omega arith)
step_set g f [] (x ∷ xs) zero d new e lt put = cc
step_set g f (y ∷ ys) (x ∷ xs) zero d new e lt put =
    let head : g x ≡ y = cc in
    let tail : map g xs ≡ ys = cc in
    λ i. (put ∙ ap f head) i ∷ tail i
step_set g f [] (x ∷ xs) (suc i) d new e lt put = cc
step_set g f (y ∷ ys) (x ∷ xs) (suc i) d new e lt put =
    let head : g x ≡ f y = cc in
    let tail : map g xs ≡ map f (take i ys) ++ drop i ys = cc in
    λ j. head j ∷ step_set g f ys xs i d new tail (omega arith) put j

-- so it is where elements are compared as they are
pub step_set_own : {X : Type 0} (f : X → X) (ys xs : List X) (i : ℕ) (d new : X)
    → xs ≡ map f (take i ys) ++ drop i ys → i < length xs → new ≡ f (get_or xs i d)
    → set xs i new ≡ map f (take (suc i) ys) ++ drop (suc i) ys
step_set_own f ys [] i d new e lt put = absurd (omega arith)
step_set_own f [] (x ∷ xs) zero d new e lt put = cc
step_set_own f (y ∷ ys) (x ∷ xs) zero d new e lt put =
    let head : f x ≡ f y = cc in
    let tail : xs ≡ ys = cc in
    λ i. (put ∙ head) i ∷ tail i
step_set_own f [] (x ∷ xs) (suc i) d new e lt put = cc
step_set_own f (y ∷ ys) (x ∷ xs) (suc i) d new e lt put =
    let head : x ≡ f y = cc in
    let tail : xs ≡ map f (take i ys) ++ drop i ys = cc in
    λ j. head j ∷ step_set_own f ys xs i d new tail (omega arith) put j

-- what holds of each of the old holds of one that is left
pub step_left : {X Y : Type 0} (g : X → Y) (f : Y → Y) (P : Y → Type 0) (ys : List Y) (xs : List X) (i : ℕ) (d : X)
    → map g xs ≡ map f (take i ys) ++ drop i ys → i < length xs → All P ys → P (g (get_or xs i d))
step_left g f P ys [] i d e lt h = absurd (omega arith)
step_left g f P [] (x ∷ xs) zero d e lt h = cc
step_left g f P (y ∷ ys) (x ∷ xs) zero d e lt h =
    let head : y ≡ g x = cc in
    subst P head (All-head P y ys h)
step_left g f P [] (x ∷ xs) (suc i) d e lt h = cc
step_left g f P (y ∷ ys) (x ∷ xs) (suc i) d e lt h =
    let tail : map g xs ≡ map f (take i ys) ++ drop i ys = cc in
    step_left g f P ys xs i d tail (omega arith) (All-tail P y ys h)

one_more : {Z : Type 0} (o : Option Z) → cons_option o [] ≡ option_to_list o
one_more (Some z) = refl
one_more None = refl

cons_append : {Z : Type 0} (o : Option Z) (xs ys : List Z) → cons_option o (xs ++ ys) ≡ cons_option o xs ++ ys
cons_append (Some z) xs ys = refl
cons_append None xs ys = refl

-- what holds of each element holds of them all after a change
pub all_set : {X : Type 0} (P : X → Type 0) (xs : List X) (i : ℕ) (v : X) → ((k : ℕ) (d : X) → k < length xs → P (get_or xs k d)) → P v
    → (k : ℕ) (d : X) → k < length (set xs i v) → P (get_or (set xs i v) k d)
all_set P [] i v h p k d lt = absurd (omega arith)
all_set P (x ∷ xs) zero v h p zero d lt = p
all_set P (x ∷ xs) zero v h p (suc k) d lt = h (suc k) d (omega arith)
all_set P (x ∷ xs) (suc i) v h p zero d lt = h 0 d (omega arith)
all_set P (x ∷ xs) (suc i) v h p (suc k) d lt = all_set P xs i v (λ j e l. h (suc j) e (omega arith)) p k d (omega arith)

-- numbers that are as they were rise as they did
pub rising_same : {X : Type 0} (number : X → ℕ) (xs ys : List X) → map number ys ≡ map number xs → AllPairs (λ a b. number a < number b) xs → AllPairs (λ a b. number a < number b) ys
rising_same number xs ys e h = λ i j d below within.
    let same : (k : ℕ) → number (get_or ys k d) ≡ number (get_or xs k d) = λ k. sym (get_or-map number ys k d) ∙ ap (λ ns. get_or ns k (number d)) e ∙ get_or-map number xs k d in
    let long : length ys ≡ length xs = sym (length-map ys number) ∙ ap length e ∙ length-map xs number in
    let rise : number (get_or xs i d) < number (get_or xs j d) = h i j d below (omega (arith, long, within)) in
    omega (arith, same i, same j, rise)

-- what is gathered of one more element
pub gather_more : {X Z : Type 0} (t : X → Option Z) (xs : List X) (i : ℕ) (d : X) → i < length xs
    → filter_map t (take (suc i) xs) ≡ filter_map t (take i xs) ++ option_to_list (t (get_or xs i d))
gather_more t [] i d lt = absurd (omega arith)
gather_more t (x ∷ xs) zero d lt = one_more (t x)
gather_more t (x ∷ xs) (suc i) d lt =
    ap (cons_option (t x)) (gather_more t xs i d (omega arith)) ∙ cons_append (t x) (filter_map t (take i xs)) (option_to_list (t (get_or xs i d)))

-- ---- refreshed pairs

-- the listeners among them
pub firsts : (ls : List HeldListener) → listeners_of ls ≡ map (λ (p : Listener × Option View). p.0) (map pair_of ls)
firsts [] = refl
firsts (l ∷ ls) = ap (λ z. listener_of l ∷ z) (firsts ls)

module _ (range : Option Query) (entries : List Assignment) (b : Brought) (writes : List Write) where
  -- all listeners, and all views
  pub all_listeners : (old ls : List HeldListener) → map pair_of ls ≡ map (refreshed_heard range entries b writes) (map pair_of old) → listeners_of ls ≡ map (renewed_heard range entries b writes) (listeners_of old)
  all_listeners old ls e = firsts ls ∙ ap (map (λ (p : Listener × Option View). p.0)) e ∙ at old
    where
      at : (old : List HeldListener) → map (λ (p : Listener × Option View). p.0) (map (refreshed_heard range entries b writes) (map pair_of old)) ≡ map (renewed_heard range entries b writes) (listeners_of old)
      at [] = refl
      at (l ∷ old) = ap (λ z. renewed_heard range entries b writes (listener_of l) ∷ z) (at old)

  pub all_views : (old ls : List HeldListener) → map pair_of ls ≡ map (refreshed_heard range entries b writes) (map pair_of old) → views_of ls ≡ map (view_heard range entries b writes) (zip (listeners_of old) (views_of old))
  all_views old ls e = seconds ls ∙ ap (map (λ (p : Listener × Option View). p.1)) e ∙ at old
    where
      seconds : (ls : List HeldListener) → views_of ls ≡ map (λ (p : Listener × Option View). p.1) (map pair_of ls)
      seconds [] = refl
      seconds (l ∷ ls) = ap (λ z. l.view ∷ z) (seconds ls)

      at : (old : List HeldListener) → map (λ (p : Listener × Option View). p.1) (map (refreshed_heard range entries b writes) (map pair_of old)) ≡ map (view_heard range entries b writes) (zip (listeners_of old) (views_of old))
      at [] = refl
      at (l ∷ old) = ap (λ z. view_heard range entries b writes (pair_of l) ∷ z) (at old)

-- listeners with their views
pub zip_pairs : (ls : List HeldListener) → zip (listeners_of ls) (views_of ls) ≡ map pair_of ls
zip_pairs [] = refl
zip_pairs (l ∷ ls) = ap (λ z. pair_of l ∷ z) (zip_pairs ls)
