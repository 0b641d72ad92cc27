-- The views that are held, after each kind of step.
use Rattle.std.proofs.Common.{◌≡◌, ℕ, ◌+◌, ◌<◌, ◌≤◌, suc, Bool, true, false, cond, not, ◌&&◌, ◌||◌, inl, inr, ◌⊎◌, List, [], ◌∷◌, ◌++◌, length, map, refl, sym, ap, subst, ◌∙◌, arith, Option, Some, None}
use mathlib.Core.Bool.{true≢false}
use lib.Dec.{T, eqb_refl}
use Rattle.std.specs.Prelude.{◌==◌, is_some}
use Rattle.std.specs.List.{All, Contains, cons_option, filter, find, zip}
use Rattle.std.specs.Option.{option_and_then, option_map}
use Rattle.std.proofs.lemmas.List.Elements.{All-nil, All-cons, All-head, All-tail, All-contains_itself, Contains-append_left}
use Rattle.rt_tree.specs.PathTree.{Key, PathTree, child}
use Rattle.rt_tree.specs.Children.{children_of}
use Rattle.rt_tree.specs.Assignments.{Assignment}
use Rattle.rt_query.specs.Queries.{Query}
use Rattle.rt_query.specs.Select.{Shown, select}
use Rattle.rt_writes.specs.Writes.{Write}
use Rattle.rt_cache.specs.Brought.{Brought}
use Rattle.rt_cache.specs.Recover.{is_among, is_moved}
use Rattle.rt_cover.specs.Runs.{Change, Add, Remove, Revoke}
use Rattle.rt_view.specs.Views.{View, shown_of, first_view, stays_object, touched, with_named}
use Rattle.rt_view.specs.Views.{renewed as taken}
use Rattle.rt_parts.specs.Listeners.{first_view_of, new_listener, views_left, views_where}
use Rattle.rt_parts.specs.Refreshed.{FollowNamed, hears, is_touched, named_children, view_after, view_heard, view_met}
use Rattle.rt_parts.specs.Renewed.{renewed_of, view_anew, view_of}
use Rattle.rt_world.specs.declared.step.Step.{Step}
use Rattle.rt_world.specs.declared.step.Request.{Request}
use Rattle.rt_world.specs.World.{World, Listener, pending, Reason}
use Rattle.rt_world.specs.Views.{is_known, view_of as shown_over}
use Rattle.rt_world.specs.After.{kind, listeners_after, pushed, renewed, requests_after}
use Rattle.rt_world.specs.Covering.{change_by}
use Rattle.rt_world.specs.Messages.{next}
use Rattle.rt_world.specs.Met.{do_meet, renewed_met}
use Rattle.rt_world.specs.Refusals.{refusal}
use Rattle.rt_world.specs.Headline.{view_by}
use Rattle.rt_world.specs.Touched.{entries_by, entries_settled, is_covered, is_named, children_named, children_at, seen}
use Rattle.rt_world.specs.Called.{IsCalled}
use Rattle.rt_world.specs.Reached.{IsReached}
use Rattle.rt_world.specs.Sound.{IsSound, Rises}
use Rattle.rt_world.specs.laws.Steps.{ChangesHaveNoEntries, ListenersStay, PushIsBrought, StaysSound}
use Rattle.rt_world.specs.laws.World.{changes_listeners}
use Rattle.rt_world.specs.laws.Touch.{ElseFewAreSeen, SeenAreChildren, Stays, TouchIsEnough, UnmetAreSeen, UnnamedAreSeen}
use Rattle.rt_sync.specs.Core.{Held, without_first}
use Rattle.rt_sync.specs.Reads.{IsTurn, ReadsNamed, TurnsOnce, most_read, view_held}
use Rattle.rt_sync.specs.inside.Due.{IsDue, settling}
use Rattle.rt_sync.specs.inside.Viewed.{ArePaired, HasViews, HasViewsBy, IsStill, IsViewed, LeavesViews, Pairs, ShowsSeen, all_in}
use Rattle.rt_sync.proofs.TagLaws.{other_number}
use Rattle.rt_sync.proofs.Uncovered.{uncovered_unmoved, unmet_uncovered}

-- ---- listeners and views at one place

abbrev pub In : Listener → Option View → List Listener → List (Option View) → Type 0
In m n [] vs = ⊥
In m n (l ∷ ls) [] = ⊥
In m n (l ∷ ls) (v ∷ vs) = ((l ≡ m) × (v ≡ n)) ⊎ In m n ls vs

-- each place has both
abbrev pub AreAligned : List Listener → List (Option View) → Type 0
AreAligned ls vs = Pairs (λ l v. Unit {0}) ls vs

pairs_at : (P : Listener → Option View → Type 0) (ls : List Listener) (vs : List (Option View)) → Pairs P ls vs → (m : Listener) (n : Option View) → In m n ls vs → P m n
pairs_at P [] [] h m n i = absurd i
pairs_at P [] (v ∷ vs) h m n i = absurd h
pairs_at P (l ∷ ls) [] h m n i = absurd h
pairs_at P (l ∷ ls) (v ∷ vs) h m n (inl e) = subst (λ (p : Listener × Option View). P p.0 p.1) (λ i. (e.0 i, e.1 i)) h.0
pairs_at P (l ∷ ls) (v ∷ vs) h m n (inr i) = pairs_at P ls vs h.1 m n i

pairs_from : (P Q : Listener → Option View → Type 0) (ls : List Listener) (vs : List (Option View)) → Pairs P ls vs → ((m : Listener) (n : Option View) → In m n ls vs → Q m n) → Pairs Q ls vs
pairs_from P Q [] [] h f = tt
pairs_from P Q [] (v ∷ vs) h f = absurd h
pairs_from P Q (l ∷ ls) [] h f = absurd h
pairs_from P Q (l ∷ ls) (v ∷ vs) h f = (f l v (inl (refl, refl)), pairs_from P Q ls vs h.1 (λ m n i. f m n (inr i)))

all_from : (P : Listener → Option View → Type 0) (Q : Listener → Type 0) (ls : List Listener) (vs : List (Option View)) → Pairs P ls vs → ((m : Listener) (n : Option View) → In m n ls vs → Q m) → All Q ls
all_from P Q [] vs h f = All-nil Q
all_from P Q (l ∷ ls) [] h f = absurd h
all_from P Q (l ∷ ls) (v ∷ vs) h f = All-cons Q l ls (f l v (inl (refl, refl))) (all_from P Q ls vs h.1 (λ m n i. f m n (inr i)))

all_zip_from : (P : Listener → Option View → Type 0) (R : Listener × Option View → Type 0) (ls : List Listener) (vs : List (Option View)) → Pairs P ls vs → ((m : Listener) (n : Option View) → In m n ls vs → R (m, n)) → All R (zip ls vs)
all_zip_from P R [] vs h f = All-nil R
all_zip_from P R (l ∷ ls) [] h f = All-nil R
all_zip_from P R (l ∷ ls) (v ∷ vs) h f = All-cons R (l, v) (zip ls vs) (f l v (inl (refl, refl))) (all_zip_from P R ls vs h.1 (λ m n i. f m n (inr i)))

at_listener : (Q : Listener → Type 0) (ls : List Listener) (vs : List (Option View)) (m : Listener) (n : Option View) → In m n ls vs → All Q ls → Q m
at_listener Q [] vs m n i h = absurd i
at_listener Q (l ∷ ls) [] m n i h = absurd i
at_listener Q (l ∷ ls) (v ∷ vs) m n (inl e) h = subst Q e.0 (All-head Q l ls h)
at_listener Q (l ∷ ls) (v ∷ vs) m n (inr i) h = at_listener Q ls vs m n i (All-tail Q l ls h)

in_contains : (ls : List Listener) (vs : List (Option View)) (m : Listener) (n : Option View) → In m n ls vs → Contains ls m
in_contains ls vs m n i = at_listener (Contains ls) ls vs m n i (All-contains_itself ls)

-- ---- found by number

abbrev found : ℕ → List Listener → List (Option View) → Option View
found number ls vs = option_and_then (λ (p : Listener × Option View). p.1) (find (λ (p : Listener × Option View). p.0.number == number) (zip ls vs))

pub same_number : (n : ℕ) → (n == n) ≡ true
same_number n = is_true (n == n) (eqb_refl n)
  where
    is_true : (b : Bool) → T b → b ≡ true
    is_true true t = refl
    is_true false t = absurd t

-- the first, or else that of the rest
abbrev found_if : Bool → ℕ → Listener → Option View → List Listener → List (Option View) → Option View
found_if b number l v ls vs = option_and_then (λ (p : Listener × Option View). p.1) (cond b (Some (l, v)) (find (λ (p : Listener × Option View). p.0.number == number) (zip ls vs)))

pub found_own : (ls : List Listener) (vs : List (Option View)) (m : Listener) (n : Option View) → Rises ls → In m n ls vs → found m.number ls vs ≡ n
found_own [] vs m n r i = absurd i
found_own (l ∷ ls) [] m n r i = absurd i
found_own (l ∷ ls) (v ∷ vs) m n r (inl e) = ap (λ b. found_if b m.number l v ls vs) (ap (λ (x : Listener). x.number == m.number) e.0 ∙ same_number m.number) ∙ e.1
found_own (l ∷ ls) (v ∷ vs) m n r (inr i) =
    ap (λ b. found_if b m.number l v ls vs) (other_number l.number m.number (at_listener (λ (x : Listener). l.number < x.number) ls vs m n i r.0))
    ∙ found_own ls vs m n r.1 i

found_none : (ls : List Listener) (vs : List (Option View)) (number : ℕ) → All (λ (l : Listener). l.number < number) ls → found number ls vs ≡ None
found_none [] vs number h = refl
found_none (l ∷ ls) [] number h = refl
found_none (l ∷ ls) (v ∷ vs) number h =
    ap (λ b. found_if b number l v ls vs) (other_number l.number number (All-head (λ (x : Listener). x.number < number) l ls h))
    ∙ found_none ls vs number (All-tail (λ (x : Listener). x.number < number) l ls h)

-- ---- what follows a step

-- each listener has its view, and no more children were taken anew than are allowed
pub record ShowsStep (h : Held) (s : Step) (k : Held) : Type 0 where
  pub viewed : ArePaired k
  pub reads : ReadsNamed h s k

-- what is held of the listener comes from what was held of it
abbrev Comes : Held → Step → World → Listener → Option View → Type 0
Comes h s w m n = (v : Option View) × (view_held h m.number ≡ v) × IsTurn (length (children_of (seen w m.query))) (most_read h.world s w m.query) v n

shows : (w : World) (m : Listener) (n : Option View) → IsViewed w m n → option_map shown_of n ≡ m.view
shows w m None h = sym h
shows w m (Some v) h = sym h.shown

same_turn : (first most : ℕ) (n : Option View) → IsTurn first most n n
same_turn first most None = tt
same_turn first most (Some v) = inl refl

follows : (h : Held) (s : Step) (k : Held) → Rises (k.world).listeners → ArePaired k → ((m : Listener) (n : Option View) → In m n (k.world).listeners k.views → Comes h s k.world m n) → ShowsStep h s k
follows h s k rises viewed comes = record {
  viewed = viewed;
  reads = all_from (IsViewed k.world) (TurnsOnce h s k) (k.world).listeners k.views viewed (λ m n i.
      let own = found_own (k.world).listeners k.views m n rises i in
      let from = comes m n i in
      record {
        shown = ap (option_map shown_of) own ∙ shows k.world m n (pairs_at (IsViewed k.world) (k.world).listeners k.views viewed m n i);
        turn = subst (λ (p : Option View × Option View). IsTurn (length (children_of (seen k.world m.query))) (most_read h.world s k.world m.query) p.0 p.1) (λ j. (sym from.1 j, sym own j)) from.2;
      });
}

-- where nothing changes
pub unchanged : (h : Held) (s : Step) → IsSound h.world → ArePaired h → ShowsStep h s h
unchanged h s sound viewed =
    follows h s h sound.rises viewed (λ m n i.
    (n, found_own (h.world).listeners h.views m n sound.rises i, same_turn (length (children_of (seen h.world m.query))) (most_read h.world s h.world m.query) n))

-- the messages to be sent are in no view
pub sent_viewed : (h : Held) → ArePaired h → ArePaired (record { world = without_first h.world; views = h.views; counts = h.counts })
sent_viewed h viewed = pairs_from (IsViewed h.world) (IsViewed (without_first h.world)) (h.world).listeners h.views viewed (λ m n i. sent m n (pairs_at (IsViewed h.world) (h.world).listeners h.views viewed m n i))
  where
    sent : (m : Listener) (n : Option View) → IsViewed h.world m n → IsViewed (without_first h.world) m n
    sent m None v = v
    sent m (Some u) v = record { query = v.query; children = v.children; shown = v.shown }

-- ---- listeners that stay, where the step has no entries

module _ (law : UnnamedAreSeen) (h : Held) (s : Step) (k : Held) (sound : IsSound h.world) (called : IsCalled (h.world).brought) (reached : IsReached h.world) (free : refusal h.world s ≡ None) (is : k.world ≡ next h.world s) (rises : Rises (k.world).listeners) (viewed : ArePaired h) (none : entries_by h.world s ≡ []) where
  stays_viewed : (m : Listener) (n : Option View) → Contains (listeners_after h.world s) m → is_moved (h.world).brought (next h.world s).brought m.query ≡ false → IsViewed h.world m n → IsViewed (next h.world s) m n
  stays_viewed m None there unmoved v = v
  stays_viewed m (Some u) there unmoved v =
      let low : is_covered m.query.path (entries_by h.world s) ≡ false = ap (is_covered m.query.path) none in
      record {
        query = v.query;
        children = λ j. v.children j ∙ sym (law h.world s m (record { sound = sound; called = called; reached = reached; not_refused = free; there = there; unmoved = unmoved }) low j (ap (λ es. is_named m.query.path es j) none));
        shown = v.shown;
      }

  stays_so : (m : Listener) (n : Option View) → Contains (listeners_after h.world s) m → is_moved (h.world).brought (k.world).brought m.query ≡ false → In m n (h.world).listeners h.views → IsViewed k.world m n × Comes h s k.world m n
  stays_so m n there unmoved i = (
    subst (λ x. IsViewed x m n) (sym is) (stays_viewed m n there (ap (λ (x : World). is_moved (h.world).brought x.brought m.query) (sym is) ∙ unmoved) (pairs_at (IsViewed h.world) (h.world).listeners h.views viewed m n i)),
    (n, found_own (h.world).listeners h.views m n sound.rises i, same_turn (length (children_of (seen k.world m.query))) (most_read h.world s k.world m.query) n),
  )

-- of those that pass
left_aligned : (test : Listener → Bool) (P : Listener → Option View → Type 0) (ls : List Listener) (vs : List (Option View)) → Pairs P ls vs → AreAligned (filter test ls) (views_left test (record { listeners = ls; views = vs; counts = [] }))
left_aligned test P [] [] h = tt
left_aligned test P [] (v ∷ vs) h = absurd h
left_aligned test P (l ∷ ls) [] h = absurd h
left_aligned test P (l ∷ ls) (v ∷ vs) h =
    elim (test l) as (λ b. AreAligned (cond b (l ∷ filter test ls) (filter test ls)) (map (λ (c : ℕ × Option View). c.1) (cons_option (cond b (Some (l.number, v)) None) (views_where test (record { listeners = ls; views = vs; counts = [] }))))) [
      | true ↦ (tt, left_aligned test P ls vs h.1)
      | false ↦ left_aligned test P ls vs h.1
    ]

left_in : (test : Listener → Bool) (P : Listener → Option View → Type 0) (ls : List Listener) (vs : List (Option View)) → Pairs P ls vs → (m : Listener) (n : Option View)
    → In m n (filter test ls) (views_left test (record { listeners = ls; views = vs; counts = [] })) → In m n ls vs
left_in test P [] [] h m n = λ i. absurd i
left_in test P [] (v ∷ vs) h m n = λ i. absurd h
left_in test P (l ∷ ls) [] h m n = λ i. absurd h
left_in test P (l ∷ ls) (v ∷ vs) h m n =
    elim (test l) as (λ b. In m n (cond b (l ∷ filter test ls) (filter test ls)) (map (λ (c : ℕ × Option View). c.1) (cons_option (cond b (Some (l.number, v)) None) (views_where test (record { listeners = ls; views = vs; counts = [] })))) → In m n (l ∷ ls) (v ∷ vs)) [
      | true ↦ λ i. either i (λ j. left_in test P ls vs h.1 m n j)
      | false ↦ λ i. inr (left_in test P ls vs h.1 m n i)
    ]
  where
    either : {X Y Z : Type 0} → X ⊎ Y → (Y → Z) → X ⊎ Z
    either (inl x) f = inl x
    either (inr y) f = inr (f y)

-- of those that are mapped
mapped_aligned : (f : Listener → Listener) (g : Listener × Option View → Option View) (ls : List Listener) (vs : List (Option View)) → AreAligned ls vs → AreAligned (map f ls) (map g (zip ls vs))
mapped_aligned f g [] [] p = tt
mapped_aligned f g [] (n ∷ vs) p = absurd p
mapped_aligned f g (l ∷ ls) [] p = absurd p
mapped_aligned f g (l ∷ ls) (n ∷ vs) p = (tt, mapped_aligned f g ls vs p.1)

mapped_in : (f : Listener → Listener) (g : Listener × Option View → Option View) (ls : List Listener) (vs : List (Option View)) (m : Listener) (o : Option View) → In m o (map f ls) (map g (zip ls vs))
    → (l : Listener) × (n : Option View) × In l n ls vs × (f l ≡ m) × (g (l, n) ≡ o)
mapped_in f g [] vs m o i = absurd i
mapped_in f g (l ∷ ls) [] m o i = absurd i
mapped_in f g (l ∷ ls) (n ∷ vs) m o (inl e) = (l, n, inl (refl, refl), e.0, e.1)
mapped_in f g (l ∷ ls) (n ∷ vs) m o (inr i) = let r = mapped_in f g ls vs m o i in (r.0, r.1, inr r.2, r.3, r.4)

-- ---- primed listeners

-- a view is there of those that are primed
primed_by : (w : World) (p : Bool) (l : Listener) → l.view ≡ view_by p w l.query → l.view ≡ None → p ≡ false
primed_by w true l is e = cc
primed_by w false l is e = refl

primed_of : (w : World) (p : Bool) (l : Listener) (shown : Shown) → l.view ≡ view_by p w l.query → l.view ≡ Some shown → p ≡ true
primed_of w true l shown is e = refl
primed_of w false l shown is e = cc

-- what a listener without a view gets
module _ (w : World) (l : Listener) where
  abbrev with_view : Listener
  with_view = record l { is_primed = true; view = Some (shown_over w.brought (pending w.requests) l.query) }

  abbrev IsFirst : Listener → Option View → Type 0
  IsFirst m n = IsViewed w m n × IsTurn (length (children_of (seen w l.query))) 0 None n

  first_viewed : l.is_primed ≡ false → l.view ≡ None → IsFirst (renewed w.brought (pending w.requests) l) (first_view_of w.brought (pending w.requests) l.query)
  first_viewed fresh none = at (is_known w.brought (pending w.requests) l.query)
    where
      at : (b : Bool) → IsFirst (cond (l.is_primed || b) with_view l) (cond b (Some (first_view l.query (seen w l.query))) None)
      at true = subst (λ p. IsFirst (cond (p || true) with_view l) (Some (first_view l.query (seen w l.query)))) (sym fresh) (record { query = refl; children = λ k. refl; shown = refl }, (refl, refl))
      at false = subst (λ p. IsFirst (cond (p || false) with_view l) None) (sym fresh) (none, tt)

-- a first turn is one whatever may be read elsewhere
first_turn : (first a b : ℕ) (n : Option View) → IsTurn first a None n → IsTurn first b None n
first_turn first a b None t = tt
first_turn first a b (Some v) t = t

-- ---- listeners that are moved

-- what a step that begins and ends no listener needs of the laws
pub record TouchLaws : Type 0 where
  pub children : SeenAreChildren
  pub unmet : UnmetAreSeen
  pub touched : TouchIsEnough
  pub few : ElseFewAreSeen

module _ (laws : TouchLaws) (law : UnnamedAreSeen) (h : Held) (s : Step) (k : Held) (sound : IsSound h.world) (called : IsCalled (h.world).brought) (reached : IsReached h.world) (free : refusal h.world s ≡ None) (is : k.world ≡ next h.world s) (rises : Rises (k.world).listeners) (viewed : ArePaired h) (none : entries_by h.world s ≡ []) where
  abbrev at_new : Brought
  at_new = (k.world).brought

  abbrev writes_new : List Write
  writes_new = pending (k.world).requests

  abbrev Both : Listener → Option View → Type 0
  Both m n = IsViewed k.world m n × Comes h s k.world m n

  -- how many may be read of one that is moved
  all_read : (q : Query) → is_moved (h.world).brought (k.world).brought q ≡ true → most_read h.world s k.world q ≡ length (children_of (seen h.world q)) + length (children_of (seen k.world q))
  all_read q e = ap (λ c. cond c (length (children_of (seen h.world q)) + length (children_of (seen k.world q))) (length (children_named q.path (entries_by h.world s)))) (ap (λ c. is_covered q.path (entries_by h.world s) || c) e ∙ or_true (is_covered q.path (entries_by h.world s)))
    where
      or_true : (c : Bool) → (c || true) ≡ true
      or_true true = refl
      or_true false = refl

  -- one that is renewed keeps number and query
  number_kept : (l : Listener) → (renewed at_new writes_new l).number ≡ l.number
  number_kept l = elim (l.is_primed || is_known at_new writes_new l.query) as (λ c. (cond c (with_view k.world l) l).number ≡ l.number) [ true ↦ refl | false ↦ refl ]

  query_kept : (l : Listener) → (renewed at_new writes_new l).query ≡ l.query
  query_kept l = elim (l.is_primed || is_known at_new writes_new l.query) as (λ c. (cond c (with_view k.world l) l).query ≡ l.query) [ true ↦ refl | false ↦ refl ]

  abbrev Turned : Listener → Option View → Listener → Option View → Type 0
  Turned l n m o = IsViewed k.world m o × IsTurn (length (children_of (seen k.world l.query))) (most_read h.world s k.world l.query) n o

  anew : (l : Listener) (n : Option View) → is_moved (h.world).brought (k.world).brought l.query ≡ true → IsViewed h.world l n → l.view ≡ view_by l.is_primed h.world l.query
      → Turned l n (renewed at_new writes_new l) (view_anew at_new writes_new l.query n)
  anew l None moved has shown =
      let one = first_viewed k.world l (primed_by h.world l.is_primed l shown has) has in
      (one.0, first_turn (length (children_of (seen k.world l.query))) 0 (most_read h.world s k.world l.query) (first_view_of at_new writes_new l.query) one.1)
  anew l (Some u) moved has shown =
      subst (λ p. Turned l (Some u) (cond (p || is_known at_new writes_new l.query) (with_view k.world l) l) (view_anew at_new writes_new l.query (Some u))) (sym (primed_of h.world l.is_primed l (shown_of u) shown has.shown)) (
        record { query = has.query; children = λ j. refl; shown = λ i. Some (select (sym has.query i) (seen k.world l.query)) },
        inr (
          refl,
          subst (λ c. length (children_of u.tree) + length (children_of (seen k.world l.query)) ≤ c) (sym (all_read l.query moved))
              (let same = ap length (laws.children h.world l.query u.tree has.children) in omega (arith, same)),
        ),
      )

  -- what became of a listener that stays
  module _ (moved : List Query) (l : Listener) (n : Option View) (there : Contains (listeners_after h.world s) l) (i : In l n (h.world).listeners h.views)
      (just : is_among moved l.query ≡ is_moved (h.world).brought (k.world).brought l.query) where
    has : IsViewed h.world l n
    has = pairs_at (IsViewed h.world) (h.world).listeners h.views viewed l n i

    shown : l.view ≡ view_by l.is_primed h.world l.query
    shown = at_listener (λ (x : Listener). x.view ≡ view_by x.is_primed h.world x.query) (h.world).listeners h.views l n i sound.views

    renewed_so : is_moved (h.world).brought (k.world).brought l.query ≡ true → Both (renewed at_new writes_new l) (view_anew at_new writes_new l.query n)
    renewed_so e =
        let so = anew l n e has shown in (
          so.0,
          (
            n,
            ap (λ j. found j (h.world).listeners h.views) (number_kept l) ∙ found_own (h.world).listeners h.views l n sound.rises i,
            subst (λ q. IsTurn (length (children_of (seen k.world q))) (most_read h.world s k.world q) n (view_anew at_new writes_new l.query n)) (sym (query_kept l)) so.1,
          ),
        )

    became : Both (renewed_of moved at_new writes_new l) (view_of moved at_new writes_new (l, n))
    became = elim (is_among moved l.query) as (λ c. is_among moved l.query ≡ c → Both (cond c (renewed at_new writes_new l) l) (cond c (view_anew at_new writes_new l.query n) n)) [
      | true ↦ λ e. renewed_so (sym just ∙ e)
      | false ↦ λ e. stays_so law h s k sound called reached free is rises viewed none l n there (sym just ∙ e) i
    ] refl

  -- after a step that ends those that do not pass
  pub passed_viewed : (test : Listener → Bool) → listeners_after h.world s ≡ filter test (h.world).listeners
      → (moved : List Query) → ((l : Listener) → Contains (filter test (h.world).listeners) l → is_among moved l.query ≡ is_moved (h.world).brought (k.world).brought l.query)
      → (k.world).listeners ≡ map (renewed_of moved at_new writes_new) (filter test (h.world).listeners)
      → k.views ≡ map (view_of moved at_new writes_new) (zip (filter test (h.world).listeners) (views_left test (all_in h)))
      → ShowsStep h s k
  passed_viewed test after moved just ls vs =
      follows h s k rises (pairs_from (λ l v. Unit {0}) (IsViewed k.world) (k.world).listeners k.views aligned (λ m o i. (so m o i).0)) (λ m o i. (so m o i).1)
    where
      left_ls : List Listener
      left_ls = filter test (h.world).listeners

      left_vs : List (Option View)
      left_vs = views_left test (all_in h)

      aligned : AreAligned (k.world).listeners k.views
      aligned =
          subst (λ (p : List Listener × List (Option View)). AreAligned p.0 p.1) (λ i. (sym ls i, sym vs i))
          (mapped_aligned (renewed_of moved at_new writes_new) (view_of moved at_new writes_new) left_ls left_vs (left_aligned test (IsViewed h.world) (h.world).listeners h.views viewed))

      so : (m : Listener) (o : Option View) → In m o (k.world).listeners k.views → Both m o
      so m o i =
          let r = mapped_in (renewed_of moved at_new writes_new) (view_of moved at_new writes_new) left_ls left_vs m o (subst (λ (p : List Listener × List (Option View)). In m o p.0 p.1) (λ j. (ls j, vs j)) i) in
          let there : Contains left_ls r.0 = in_contains left_ls left_vs r.0 r.1 r.2 in
          subst (λ (p : Listener × Option View). Both p.0 p.1) (λ j. (r.3 j, r.4 j))
          (became moved r.0 r.1 (subst (λ xs. Contains xs r.0) (sym after) there)
          (left_in test (IsViewed h.world) (h.world).listeners h.views viewed r.0 r.1 r.2) (just r.0 there))

-- ---- a new listener

more_aligned : (P : Listener → Option View → Type 0) (ls : List Listener) (vs : List (Option View)) (x : Listener) (y : Option View) → Pairs P ls vs → AreAligned (ls ++ x ∷ []) (vs ++ y ∷ [])
more_aligned P [] [] x y h = (tt, tt)
more_aligned P [] (v ∷ vs) x y h = absurd h
more_aligned P (l ∷ ls) [] x y h = absurd h
more_aligned P (l ∷ ls) (v ∷ vs) x y h = (tt, more_aligned P ls vs x y h.1)

more_in : (P : Listener → Option View → Type 0) (ls : List Listener) (vs : List (Option View)) (x : Listener) (y : Option View) → Pairs P ls vs → (m : Listener) (n : Option View)
    → In m n (ls ++ x ∷ []) (vs ++ y ∷ []) → In m n ls vs ⊎ ((x ≡ m) × (y ≡ n))
more_in P [] [] x y h m n (inl e) = inr e
more_in P [] [] x y h m n (inr i) = absurd i
more_in P [] (v ∷ vs) x y h m n i = absurd h
more_in P (l ∷ ls) [] x y h m n i = absurd h
more_in P (l ∷ ls) (v ∷ vs) x y h m n (inl e) = inl (inl e)
more_in P (l ∷ ls) (v ∷ vs) x y h m n (inr i) = deeper (more_in P ls vs x y h.1 m n i)
  where
    deeper : In m n ls vs ⊎ ((x ≡ m) × (y ≡ n)) → In m n (l ∷ ls) (v ∷ vs) ⊎ ((x ≡ m) × (y ≡ n))
    deeper (inl j) = inl (inr j)
    deeper (inr e) = inr e

module _ (law : UnnamedAreSeen) (h : Held) (s : Step) (seat : ℕ) (query : Query) (k : Held) (sound : IsSound h.world) (called : IsCalled (h.world).brought) (reached : IsReached h.world) (free : refusal h.world s ≡ None) (is : k.world ≡ next h.world s) (rises : Rises (k.world).listeners) (viewed : ArePaired h) (none : entries_by h.world s ≡ [])
    (more : listeners_after h.world s ≡ (h.world).listeners ++ new_listener (h.world).next_listener seat query ∷ []) (still : (q : Query) → is_moved (h.world).brought (k.world).brought q ≡ false) where
  abbrev new : Listener
  new = new_listener (h.world).next_listener seat query

  abbrev x : Listener
  x = renewed (k.world).brought (pending (k.world).requests) new

  abbrev y : Option View
  y = first_view_of (k.world).brought (pending (k.world).requests) query

  abbrev BothNew : Listener → Option View → Type 0
  BothNew m n = IsViewed k.world m n × Comes h s k.world m n

  -- the new one has the new number and the query
  numbered : (b : Bool) → (cond b (with_view k.world new) new).number ≡ (h.world).next_listener
  numbered true = refl
  numbered false = refl

  asks : (b : Bool) → query ≡ (cond b (with_view k.world new) new).query
  asks true = refl
  asks false = refl

  fresh : BothNew x y
  fresh =
      let one = first_viewed k.world new refl refl in
      let known : Bool = is_known (k.world).brought (pending (k.world).requests) query in (
        one.0,
        (
          None,
          ap (λ j. found j (h.world).listeners h.views) (numbered known) ∙ found_none (h.world).listeners h.views (h.world).next_listener sound.below,
          subst (λ q. IsTurn (length (children_of (seen k.world q))) (most_read h.world s k.world q) None y) (asks known)
              (first_turn (length (children_of (seen k.world query))) 0 (most_read h.world s k.world query) y one.1),
        ),
      )

  either : (m : Listener) (n : Option View) → In m n (h.world).listeners h.views ⊎ ((x ≡ m) × (y ≡ n)) → BothNew m n
  either m n (inl j) =
      stays_so law h s k sound called reached free is rises viewed none m n
      (subst (λ xs. Contains xs m) (sym more) (Contains-append_left (h.world).listeners (new ∷ []) m (in_contains (h.world).listeners h.views m n j))) (still m.query) j
  either m n (inr e) = subst (λ (p : Listener × Option View). BothNew p.0 p.1) (λ j. (e.0 j, e.1 j)) fresh

  pub listened_viewed : (k.world).listeners ≡ (h.world).listeners ++ x ∷ [] → k.views ≡ h.views ++ y ∷ [] → ShowsStep h s k
  listened_viewed ls vs =
      let there : (m : Listener) (n : Option View) → In m n (k.world).listeners k.views → BothNew m n = λ m n i.
      either m n (more_in (IsViewed h.world) (h.world).listeners h.views x y viewed m n (subst (λ (p : List Listener × List (Option View)). In m n p.0 p.1) (λ j. (ls j, vs j)) i)) in
      follows h s k rises
      (pairs_from (λ l v. Unit {0}) (IsViewed k.world) (k.world).listeners k.views
      (subst (λ (p : List Listener × List (Option View)). AreAligned p.0 p.1) (λ i. (sym ls i, sym vs i)) (more_aligned (IsViewed h.world) (h.world).listeners h.views x y viewed))
      (λ m n i. (there m n i).0))
      (λ m n i. (there m n i).1)

-- ---- listeners whose paths entries meet

and_true : (a b : Bool) → (not a && b) ≡ true → (a ≡ false) × (b ≡ true)
and_true true b e = absurd (true≢false (sym e))
and_true false b e = (refl, e)

length_at : (t : PathTree) (names : List Key) → length (children_at t names) ≡ length names
length_at t [] = refl
length_at t (k ∷ names) = ap suc (length_at t names)

module _ (laws : TouchLaws) (law : PushIsBrought) (h : Held) (s : Step) (sound : IsSound h.world) (called : IsCalled (h.world).brought) (reached : IsReached h.world) (free : refusal h.world s ≡ None) (quiet : changes_listeners s ≡ false) (after : listeners_after h.world s ≡ (h.world).listeners) (viewed : ArePaired h) where
  abbrev v : World
  v = next h.world s

  abbrev es : List Assignment
  es = entries_by h.world s

  abbrev b : Brought
  b = v.brought

  abbrev ws : List Write
  ws = pending v.requests

  stays : (l : Listener) → Contains (h.world).listeners l → is_covered l.query.path es ≡ false → Stays h.world s l
  stays l there low = record {
    sound = sound;
    called = called;
    reached = reached;
    not_refused = free;
    there = subst (λ xs. Contains xs l) (sym after) there;
    unmoved = uncovered_unmoved law h.world s l.query sound called reached free quiet low;
  }

  -- a view that is touched shows what is seen
  touched_seen : (l : Listener) (u : View) → Contains (h.world).listeners l → ShowsSeen h.world l u → is_touched es b ws l.query u ≡ true → with_named u.tree (named_children es b ws l.query) ≡ seen v l.query
  touched_seen l u there has t =
      let both = and_true (is_covered l.query.path es) (stays_object u.tree (named_children es b ws l.query)) t in
      laws.touched h.world s l (stays l there both.0) both.0 u.tree has.children both.1

  abbrev Follows : Listener × Option View → Type 0
  Follows p = (u : View) → p.1 ≡ Some u → is_touched es b ws p.0.query u ≡ true → with_named u.tree (named_children es b ws p.0.query) ≡ seen v p.0.query

  pub follow_named : FollowNamed es b ws (all_in h)
  follow_named =
      all_zip_from (IsViewed h.world) Follows (h.world).listeners h.views viewed (λ m n i. λ u e t.
      touched_seen m u (in_contains (h.world).listeners h.views m n i) (subst (IsViewed h.world m) e (pairs_at (IsViewed h.world) (h.world).listeners h.views viewed m n i)) t)

  abbrev So : Listener → Option View → Listener → Option View → Type 0
  So l n m o = IsViewed v m o × IsTurn (length (children_of (seen v l.query))) (most_read h.world s v l.query) n o

  -- one that no entry meets stays
  unmet_one : (l : Listener) (n : Option View) → Contains (h.world).listeners l → IsViewed h.world l n → do_meet es l.query.path ≡ false → So l n l n
  unmet_one l None there has apart = (has, tt)
  unmet_one l (Some u) there has apart = (record { query = has.query; children = laws.unmet h.world s l (stays l there (unmet_uncovered l.query.path es apart)) apart u.tree has.children; shown = has.shown }, inl refl)

  -- one with a view, touched or taken from scratch
  pub met_view : (l : Listener) (u : View) → Contains (h.world).listeners l → ShowsSeen h.world l u → So l (Some u) (with_view v l) (view_after es b ws l.query (Some u))
  met_view l u there has = at (is_touched es b ws l.query u) refl
    where
      -- how many are taken from scratch
      scratch : (c : Bool) → is_covered l.query.path es ≡ c → (not c && stays_object u.tree (named_children es b ws l.query)) ≡ false
          → length (children_of u.tree) + length (children_of (seen v l.query)) ≤ cond (c || is_moved (h.world).brought v.brought l.query) (length (children_of (seen h.world l.query)) + length (children_of (seen v l.query))) (length (children_named l.query.path es))
      scratch true e t = let same = ap length (laws.children h.world l.query u.tree has.children) in omega (arith, same)
      scratch false e t =
          subst (λ c. length (children_of u.tree) + length (children_of (seen v l.query)) ≤ cond c (length (children_of (seen h.world l.query)) + length (children_of (seen v l.query))) (length (children_named l.query.path es)))
          (sym (stays l there e).unmoved) (laws.few h.world s l (stays l there e) e u.tree has.children t)

      at : (t : Bool) → is_touched es b ws l.query u ≡ t → So l (Some u) (with_view v l) (Some (cond t (touched u (named_children es b ws l.query)) (taken u (seen v l.query))))
      at true e =
          let both = and_true (is_covered l.query.path es) (stays_object u.tree (named_children es b ws l.query)) e in
          let same = touched_seen l u there has e in
          let fits : length (named_children es b ws l.query) ≤ length (children_named l.query.path es) = omega (arith, length_at (seen v l.query) (children_named l.query.path es)) in (
            record {
              query = has.query;
              children = λ k. ap (λ t. child t k) same;
              shown = λ i. Some (select (sym has.query i) (sym same i));
            },
            inr (refl, subst (λ c. length (named_children es b ws l.query) ≤ cond c (length (children_of (seen h.world l.query)) + length (children_of (seen v l.query))) (length (children_named l.query.path es))) (sym (λ i. both.0 i || (stays l there both.0).unmoved i)) fits),
          )
      at false e = (
        record { query = has.query; children = λ k. refl; shown = λ i. Some (select (sym has.query i) (seen v l.query)) },
        inr (refl, scratch (is_covered l.query.path es) refl e),
      )

  -- one whose path an entry meets
  met_one : (l : Listener) (n : Option View) → Contains (h.world).listeners l → IsViewed h.world l n → l.view ≡ view_by l.is_primed h.world l.query → So l n (renewed b ws l) (view_after es b ws l.query n)
  met_one l None there has is =
      let one = first_viewed v l (primed_by h.world l.is_primed l is has) has in
      (one.0, first_turn (length (children_of (seen v l.query))) 0 (most_read h.world s v l.query) (first_view_of b ws l.query) one.1)
  met_one l (Some u) there has is =
      subst (λ p. So l (Some u) (cond (p || is_known b ws l.query) (with_view v l) l) (view_after es b ws l.query (Some u))) (sym (primed_of h.world l.is_primed l (shown_of u) is has.shown))
      (met_view l u there has)

  one : (l : Listener) (n : Option View) → Contains (h.world).listeners l → IsViewed h.world l n → l.view ≡ view_by l.is_primed h.world l.query → So l n (renewed_met es b ws l) (view_met es b ws (l, n))
  one l n there has is = elim (do_meet es l.query.path) as (λ c. do_meet es l.query.path ≡ c → So l n (cond c (renewed b ws l) l) (cond c (view_after es b ws l.query n) n)) [
    | true ↦ λ e. met_one l n there has is
    | false ↦ λ e. unmet_one l n there has e
  ] refl

  -- number and query stay
  number_met : (l : Listener) → (renewed_met es b ws l).number ≡ l.number
  number_met l = elim (do_meet es l.query.path) as (λ c. (cond c (renewed b ws l) l).number ≡ l.number) [
    | true ↦ elim (l.is_primed || is_known b ws l.query) as (λ c. (cond c (with_view v l) l).number ≡ l.number) [
      | true ↦ refl
      | false ↦ refl
    ]
    | false ↦ refl
  ]

  query_met : (l : Listener) → (renewed_met es b ws l).query ≡ l.query
  query_met l = elim (do_meet es l.query.path) as (λ c. (cond c (renewed b ws l) l).query ≡ l.query) [
    | true ↦ elim (l.is_primed || is_known b ws l.query) as (λ c. (cond c (with_view v l) l).query ≡ l.query) [
      | true ↦ refl
      | false ↦ refl
    ]
    | false ↦ refl
  ]

  -- one that hears of no entry, and sees what it saw
  still_one : (l : Listener) (n : Option View) → IsViewed h.world l n → IsStill h.world v l → So l n (renewed_met es b ws l) n
  still_one l n has still = (
    subst (λ (m : Listener). IsViewed v m n) (sym stays_met) (viewed_still n has),
    same_turn (length (children_of (seen v l.query))) (most_read h.world s v l.query) n,
  )
    where
      stays_met : renewed_met es b ws l ≡ l
      stays_met = elim (do_meet es l.query.path) as (λ c. cond c (renewed b ws l) l ≡ l) [ true ↦ still.0 | false ↦ refl ]

      viewed_still : (o : Option View) → IsViewed h.world l o → IsViewed v l o
      viewed_still None is = is
      viewed_still (Some u) is = record { query = is.query; children = λ k. is.children k ∙ ap (λ t. child t k) (sym still.1); shown = is.shown }

  -- all of them
  module _ (range : Option Query) (still : (l : Listener) → Contains (h.world).listeners l → hears range l.query ≡ false → IsStill h.world v l) where
    heard_one : (l : Listener) (n : Option View) → Contains (h.world).listeners l → IsViewed h.world l n → l.view ≡ view_by l.is_primed h.world l.query → So l n (renewed_met es b ws l) (view_heard range es b ws (l, n))
    heard_one l n there has is = elim (hears range l.query) as (λ c. hears range l.query ≡ c → So l n (renewed_met es b ws l) (cond c (view_met es b ws (l, n)) n)) [
      | true ↦ λ e. one l n there has is
      | false ↦ λ e. still_one l n has (still l there e)
    ] refl

    map_aligned : (ls : List Listener) (vs : List (Option View)) → Pairs (IsViewed h.world) ls vs → AreAligned (map (renewed_met es b ws) ls) (map (view_heard range es b ws) (zip ls vs))
    map_aligned [] [] p = tt
    map_aligned [] (n ∷ vs) p = absurd p
    map_aligned (l ∷ ls) [] p = absurd p
    map_aligned (l ∷ ls) (n ∷ vs) p = (tt, map_aligned ls vs p.1)

    map_in : (ls : List Listener) (vs : List (Option View)) (m : Listener) (o : Option View) → In m o (map (renewed_met es b ws) ls) (map (view_heard range es b ws) (zip ls vs))
        → (l : Listener) × (n : Option View) × In l n ls vs × (renewed_met es b ws l ≡ m) × (view_heard range es b ws (l, n) ≡ o)
    map_in [] vs m o i = absurd i
    map_in (l ∷ ls) [] m o i = absurd i
    map_in (l ∷ ls) (n ∷ vs) m o (inl e) = (l, n, inl (refl, refl), e.0, e.1)
    map_in (l ∷ ls) (n ∷ vs) m o (inr i) = let r = map_in ls vs m o i in (r.0, r.1, inr r.2, r.3, r.4)

    came : (ls : List Listener) (vs : List (Option View)) → ls ≡ map (renewed_met es b ws) (h.world).listeners → vs ≡ map (view_heard range es b ws) (zip (h.world).listeners h.views)
        → (m : Listener) (o : Option View) → In m o ls vs → IsViewed v m o × Comes h s v m o
    came ls vs le ve m o i =
        let r = map_in (h.world).listeners h.views m o (subst (λ (p : List Listener × List (Option View)). In m o p.0 p.1) (λ j. (le j, ve j)) i) in
        let there = in_contains (h.world).listeners h.views r.0 r.1 r.2 in
        let has = pairs_at (IsViewed h.world) (h.world).listeners h.views viewed r.0 r.1 r.2 in
        let is = at_listener (λ (x : Listener). x.view ≡ view_by x.is_primed h.world x.query) (h.world).listeners h.views r.0 r.1 r.2 sound.views in
        let so = heard_one r.0 r.1 there has is in
        let number : m.number ≡ r.0.number = ap (λ (x : Listener). x.number) (sym r.3) ∙ number_met r.0 in
        let query : m.query ≡ r.0.query = ap (λ (x : Listener). x.query) (sym r.3) ∙ query_met r.0 in (
          subst (λ (p : Listener × Option View). IsViewed v p.0 p.1) (λ j. (r.3 j, r.4 j)) so.0,
          (
            r.1,
            ap (λ j. found j (h.world).listeners h.views) number ∙ found_own (h.world).listeners h.views r.0 r.1 sound.rises r.2,
            subst (λ (p : Query × Option View). IsTurn (length (children_of (seen v p.0))) (most_read h.world s v p.0) r.1 p.1) (λ j. (sym query j, r.4 j)) so.1,
          ),
        )

    pub met_viewed : (k : Held) → k.world ≡ v → Rises (k.world).listeners → (k.world).listeners ≡ map (renewed_met es b ws) (h.world).listeners → k.views ≡ map (view_heard range es b ws) (zip (h.world).listeners h.views) → ShowsStep h s k
    met_viewed k is rises ls vs =
        let from = came (k.world).listeners k.views ls vs in
        follows h s k rises
        (pairs_from (λ l n. Unit {0}) (IsViewed k.world) (k.world).listeners k.views
        (subst (λ (p : List Listener × List (Option View)). AreAligned p.0 p.1) (λ i. (sym ls i, sym vs i)) (map_aligned (h.world).listeners h.views viewed))
        (λ m o i. subst (λ x. IsViewed x m o) (sym is) (from m o i).0))
        (λ m o i. subst (λ x. Comes h s x m o) (sym is) (from m o i).1)

-- ---- no entry meets any

pub none_renewed : (b : Brought) (ws : List Write) (ls : List Listener) → ls ≡ map (renewed_met [] b ws) ls
none_renewed b ws [] = refl
none_renewed b ws (l ∷ ls) = ap (λ xs. l ∷ xs) (none_renewed b ws ls)

pub none_met : (b : Brought) (ws : List Write) (P : Listener → Option View → Type 0) (ls : List Listener) (vs : List (Option View)) → Pairs P ls vs → vs ≡ map (view_met [] b ws) (zip ls vs)
none_met b ws P [] [] h = refl
none_met b ws P [] (v ∷ vs) h = absurd h
none_met b ws P (l ∷ ls) [] h = absurd h
none_met b ws P (l ∷ ls) (v ∷ vs) h = ap (λ us. v ∷ us) (none_met b ws P ls vs h.1)

-- ---- each step, by its change of listeners

changes_so : (w : World) (o : Option (World → Change)) → is_some o ≡ is_some (option_map (λ (c : World → Change). c w) o)
changes_so w None = refl
changes_so w (Some c) = refl

pub follow_step : TouchLaws → UnnamedAreSeen → PushIsBrought → StaysSound → ListenersStay → ChangesHaveNoEntries → (h : Held) (s : Step) (k : Held) → IsDue h.world s → ArePaired h → k.world ≡ next h.world s → HasViews h s k → ShowsStep h s k
follow_step laws law push sounds stay bare h s k d viewed is has = at (change_by h.world s) refl has
  where
    rises : Rises (k.world).listeners
    rises = subst (λ (x : World). Rises x.listeners) (sym is) (sounds h.world s d.good.sound).rises

    changes : (o : Option Change) → change_by h.world s ≡ o → changes_listeners s ≡ is_some o
    changes o e = changes_so h.world (kind s).change ∙ ap is_some e

    left : (c : Change) → change_by h.world s ≡ Some c → LeavesViews h s k → ShowsStep h s k
    left c e has = passed_viewed laws law h s k d.good.sound d.good.called d.good.reached d.not_refused is rises viewed (bare h.world s (changes (Some c) e)) has.test has.left has.moved has.just has.listeners has.views

    at : (o : Option Change) → change_by h.world s ≡ o → HasViewsBy o h s k → ShowsStep h s k
    at None e has =
        let entries : List Assignment = entries_by h.world s in
        let range : Option Query = has.range in
        let still = subst (λ (x : World). (l : Listener) → Contains (h.world).listeners l → hears range l.query ≡ false → IsStill h.world x l) is has.still in
        met_viewed laws push h s d.good.sound d.good.called d.good.reached d.not_refused (changes None e) (stay h.world s (changes None e)) viewed range still k is rises
        (has.listeners ∙ (λ i. map (renewed_met entries (is i).brought (pending (is i).requests)) (h.world).listeners))
        (has.views ∙ (λ i. map (view_heard range entries (is i).brought (pending (is i).requests)) (zip (h.world).listeners h.views)))
    at (Some (Add number query)) e has = listened_viewed law h s has.seat query k d.good.sound d.good.called d.good.reached d.not_refused is rises viewed (bare h.world s (changes (Some (Add number query)) e)) has.more has.still has.adds.listeners has.adds.views
    at (Some (Remove numbers)) e has = left (Remove numbers) e has
    at (Some (Revoke tag)) e has = left (Revoke tag) e has

-- ---- before listeners are refreshed

module _ (laws : TouchLaws) (law : PushIsBrought) (h : Held) (viewed : ArePaired h) where
  -- where views are touched over what is pushed and pending then, they show what is seen
  pub follows_at : (s : Step) → IsDue h.world s → changes_listeners s ≡ false → listeners_after h.world s ≡ (h.world).listeners
      → (entries : List Assignment) → entries ≡ entries_by h.world s → (b : Brought) → b ≡ pushed h.world s → (writes : List Write) → writes ≡ pending (requests_after h.world s)
      → FollowNamed entries b writes (all_in h)
  follows_at s d quiet after entries ee b be writes we =
      let brought : b ≡ (next h.world s).brought = be ∙ sym (law h.world s d.good.sound d.good.called d.good.reached d.not_refused quiet) in
      subst (λ (p : List Assignment × Brought × List Write). FollowNamed p.0 p.1 p.2 (all_in h)) (λ i. (sym ee i, sym brought i, sym we i))
      (follow_named laws law h s d.good.sound d.good.called d.good.reached d.not_refused quiet after viewed)

  pub follows_settled : (id : ℕ) (why : Option Reason) → IsDue h.world (settling id why)
      → (entries : List Assignment) → entries ≡ entries_settled h.world id → (rs : List Request) → rs ≡ filter (λ (r : Request). not (r.id == id)) (h.world).requests → (writes : List Write) → writes ≡ pending rs
      → FollowNamed entries (h.world).brought writes (all_in h)
  follows_settled id None d entries ee rs re writes we = follows_at (Step.Accepted id) d refl refl entries ee (h.world).brought refl writes (we ∙ ap pending re)
  follows_settled id (Some why) d entries ee rs re writes we = follows_at (Step.Refused id why) d refl refl entries ee (h.world).brought refl writes (we ∙ ap pending re)
