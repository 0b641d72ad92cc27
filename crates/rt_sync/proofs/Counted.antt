-- How what is taken anew of listeners is counted, over each kind of step.
use Rattle.std.proofs.Common.{◌≡◌, ℕ, ◌+◌, ◌<◌, ◌%◌, ◌^◌, Bool, true, false, cond, ◌&&◌, ◌||◌, inl, inr, List, [], ◌∷◌, ◌++◌, get_or, map, refl, sym, ap, subst, ◌∙◌, arith, eqb-true, Option, Some, None}
use mathlib.Core.Bool.{true≢false}
use Rattle.std.specs.Prelude.{◌==◌, is_some}
use Rattle.std.specs.List.{All, cons_option, filter, filter_map, find, zip}
use Rattle.std.specs.Option.{option_and_then, option_map}
use Rattle.std.proofs.lemmas.List.Elements.{All-nil, All-cons, All-head, All-tail}
use Rattle.rt_tree.specs.Assignments.{Assignment}
use Rattle.rt_query.specs.Queries.{Query}
use Rattle.rt_writes.specs.Writes.{Write}
use Rattle.rt_cache.specs.Brought.{Brought, base}
use Rattle.rt_cache.specs.Recover.{is_among}
use Rattle.rt_cover.specs.Runs.{Change, Add, Remove, Revoke}
use Rattle.rt_view.specs.Views.{View, first_view, touched}
use Rattle.rt_view.specs.Views.{renewed as taken}
use Rattle.rt_world.specs.declared.step.Step.{Step}
use Rattle.rt_world.specs.World.{Listener, pending}
use Rattle.rt_world.specs.Views.{is_known, seen_over, view_of as shown_over}
use Rattle.rt_world.specs.After.{renewed}
use Rattle.rt_world.specs.Covering.{change_by}
use Rattle.rt_world.specs.Met.{do_meet, renewed_met}
use Rattle.rt_world.specs.Sound.{Rises}
use Rattle.rt_world.specs.Touched.{entries_by}
use Rattle.rt_parts.specs.Listeners.{count_if, count_with, counts_left, first_view_of, own_count, views_left, views_where}
use Rattle.rt_parts.specs.Refreshed.{count_heard, count_met, hears, is_touched, named_children, view_after, view_heard, view_met}
use Rattle.rt_parts.specs.Renewed.{count_of, renewed_of, view_anew, view_of}
use Rattle.rt_sync.specs.Core.{Held}
use Rattle.rt_sync.specs.Reads.{GoesOn, IsCounted, count_held, view_held}
use Rattle.rt_sync.specs.inside.Viewed.{AddsView, AreViewed, FollowsStep, HasViews, HasViewsBy, HaveCounts, IsViewed, LeavesViews, Pairs, RefreshesViews, SameViews, all_in}
use Rattle.rt_sync.proofs.TagLaws.{other_number}
use Rattle.rt_sync.proofs.Viewed.{ShowsStep, none_met, none_renewed, same_number}

-- ---- rows: a listener with its view and its count

abbrev Row : Type 0
Row = (Listener × Option View) × ℕ

abbrev listeners_in : List Row → List Listener
listeners_in rows = map (λ (t : Row). t.0.0) rows

abbrev views_of : List Row → List (Option View)
views_of rows = map (λ (t : Row). t.0.1) rows

abbrev counts_of : List Row → List ℕ
counts_of rows = map (λ (t : Row). t.1) rows

record AreRows (ls : List Listener) (vs : List (Option View)) (cs : List ℕ) (rows : List Row) : Type 0 where
  pub listeners : ls ≡ listeners_in rows
  pub views : vs ≡ views_of rows
  pub counts : cs ≡ counts_of rows

abbrev IsOf : Held → List Row → Type 0
IsOf h rows = AreRows (h.world).listeners h.views h.counts rows

-- three lists that go together are rows
aligned : (P : Listener → Option View → Type 0) (ls : List Listener) (vs : List (Option View)) (cs : List ℕ) → Pairs P ls vs → HaveCounts ls cs → AreRows ls vs cs (zip (zip ls vs) cs)
aligned P [] [] [] h g = record { listeners = refl; views = refl; counts = refl }
aligned P [] [] (c ∷ cs) h g = absurd g
aligned P [] (v ∷ vs) cs h g = absurd h
aligned P (l ∷ ls) [] cs h g = absurd h
aligned P (l ∷ ls) (v ∷ vs) [] h g = absurd g
aligned P (l ∷ ls) (v ∷ vs) (c ∷ cs) h g =
    let r = aligned P ls vs cs h.1 g in
    record { listeners = ap (λ xs. l ∷ xs) r.listeners; views = ap (λ xs. v ∷ xs) r.views; counts = ap (λ xs. c ∷ xs) r.counts }

own_counts : (rows : List Row) → HaveCounts (listeners_in rows) (counts_of rows)
own_counts [] = tt
own_counts (t ∷ rows) = own_counts rows

have_counts : (k : Held) (rows : List Row) → IsOf k rows → HaveCounts (k.world).listeners k.counts
have_counts k rows r = subst (λ (p : List Listener × List ℕ). HaveCounts p.0 p.1) (λ i. (sym r.listeners i, sym r.counts i)) (own_counts rows)

-- ---- the row of a number

abbrev row_of : ℕ → List Row → Option Row
row_of n rows = find (λ (t : Row). t.0.0.number == n) rows

abbrev view_in : Option Row → Option View
view_in o = option_and_then (λ (t : Row). t.0.1) o

abbrev count_in : Option Row → Option ℕ
count_in o = option_map (λ (t : Row). t.1) o

view_found : (rows : List Row) (n : ℕ) → option_and_then (λ (p : Listener × Option View). p.1) (find (λ (p : Listener × Option View). p.0.number == n) (zip (listeners_in rows) (views_of rows))) ≡ view_in (row_of n rows)
view_found [] n = refl
view_found (t ∷ rows) n =
    elim (t.0.0.number == n) as (λ b. option_and_then (λ (p : Listener × Option View). p.1) (cond b (Some (t.0.0, t.0.1)) (find (λ (p : Listener × Option View). p.0.number == n) (zip (listeners_in rows) (views_of rows)))) ≡ view_in (cond b (Some t) (row_of n rows))) [
      | true ↦ refl
      | false ↦ view_found rows n
    ]

count_found : (rows : List Row) (n : ℕ) → option_map (λ (p : Listener × ℕ). p.1) (find (λ (p : Listener × ℕ). p.0.number == n) (zip (listeners_in rows) (counts_of rows))) ≡ count_in (row_of n rows)
count_found [] n = refl
count_found (t ∷ rows) n =
    elim (t.0.0.number == n) as (λ b. option_map (λ (p : Listener × ℕ). p.1) (cond b (Some (t.0.0, t.1)) (find (λ (p : Listener × ℕ). p.0.number == n) (zip (listeners_in rows) (counts_of rows)))) ≡ count_in (cond b (Some t) (row_of n rows))) [
      | true ↦ refl
      | false ↦ count_found rows n
    ]

view_is : (h : Held) (rows : List Row) → IsOf h rows → (n : ℕ) → view_held h n ≡ view_in (row_of n rows)
view_is h rows r n = (λ i. option_and_then (λ (p : Listener × Option View). p.1) (find (λ (p : Listener × Option View). p.0.number == n) (zip (r.listeners i) (r.views i)))) ∙ view_found rows n

count_is : (h : Held) (rows : List Row) → IsOf h rows → (n : ℕ) → count_held h n ≡ count_in (row_of n rows)
count_is h rows r n = (λ i. option_map (λ (p : Listener × ℕ). p.1) (find (λ (p : Listener × ℕ). p.0.number == n) (zip (r.listeners i) (r.counts i)))) ∙ count_found rows n

-- ---- the count goes on from one row to another

abbrev Goes : Option Row → Option Row → Type 0
Goes o p = GoesOn (view_in o) (view_in p) (count_in o) (count_in p)

-- of those that are there then
abbrev AllGo : List Row → List Row → Type 0
AllGo old new = (n : ℕ) → is_some (row_of n new) ≡ true → Goes (row_of n old) (row_of n new)

there : (rows : List Row) → All (λ (l : Listener). is_some (row_of l.number rows) ≡ true) (listeners_in rows)
there [] = All-nil (λ (l : Listener). is_some (row_of l.number []) ≡ true)
there (t ∷ rows) =
    All-cons (λ (l : Listener). is_some (row_of l.number (t ∷ rows)) ≡ true) t.0.0 (listeners_in rows)
    (ap (λ b. is_some (cond b (Some t) (row_of t.0.0.number rows))) (same_number t.0.0.number))
    (λ i d lt. more (get_or (listeners_in rows) i d).number (there rows i d lt))
  where
    more : (n : ℕ) → is_some (row_of n rows) ≡ true → is_some (row_of n (t ∷ rows)) ≡ true
    more n e = elim (t.0.0.number == n) as (λ b. is_some (cond b (Some t) (row_of n rows)) ≡ true) [
      | true ↦ refl
      | false ↦ e
    ]

all_counted : (h k : Held) (old new : List Row) → IsOf h old → IsOf k new → AllGo old new → All (IsCounted h k) (k.world).listeners
all_counted h k old new r q go =
    subst (All (IsCounted h k)) (sym q.listeners) (λ i d lt.
    let n : ℕ = (get_or (listeners_in new) i d).number in
    subst (λ (x : Option View × Option View × Option ℕ × Option ℕ). GoesOn x.0 x.1 x.2 x.3)
    (λ j. (sym (view_is h old r n) j, sym (view_is k new q n) j, sym (count_is h old r n) j, sym (count_is k new q n) j))
    (go n (there new i d lt)))

-- a row that stays
same_goes : (v : Option View) (c : ℕ) → GoesOn v v (Some c) (Some c)
same_goes None c = refl
same_goes (Some v) c = inl (refl, refl)

same_all : (rows : List Row) → AllGo rows rows
same_all rows n = at (row_of n rows)
  where
    at : (o : Option Row) → is_some o ≡ true → Goes o o
    at None e = absurd (true≢false (sym e))
    at (Some t) e = same_goes t.0.1 t.1

-- ---- rows that are changed each

module _ (g : Listener → Listener) (w : Listener × Option View → Option View) (d : Row → ℕ) where
  abbrev changed : Row → Row
  changed t = ((g t.0.0, w t.0), d t)

  changed_rows : (ls : List Listener) (vs : List (Option View)) (cs : List ℕ) (rows : List Row) → AreRows ls vs cs rows → AreRows (map g ls) (map w (zip ls vs)) (map d (zip (zip ls vs) cs)) (map changed rows)
  changed_rows ls vs cs rows r = record {
    listeners = (λ i. map g (r.listeners i)) ∙ first rows;
    views = (λ i. map w (zip (r.listeners i) (r.views i))) ∙ second rows;
    counts = (λ i. map d (zip (zip (r.listeners i) (r.views i)) (r.counts i))) ∙ third rows;
  }
    where
      first : (xs : List Row) → map g (listeners_in xs) ≡ listeners_in (map changed xs)
      first [] = refl
      first (x ∷ xs) = ap (λ z. g x.0.0 ∷ z) (first xs)

      second : (xs : List Row) → map w (zip (listeners_in xs) (views_of xs)) ≡ views_of (map changed xs)
      second [] = refl
      second (x ∷ xs) = ap (λ z. w x.0 ∷ z) (second xs)

      third : (xs : List Row) → map d (zip (zip (listeners_in xs) (views_of xs)) (counts_of xs)) ≡ counts_of (map changed xs)
      third [] = refl
      third (x ∷ xs) = ap (λ z. d x ∷ z) (third xs)

  module _ (keeps : (l : Listener) → (g l).number ≡ l.number) (goes : (t : Row) → GoesOn t.0.1 (w t.0) (Some t.1) (Some (d t))) where
    changed_row : (rows : List Row) (n : ℕ) → row_of n (map changed rows) ≡ option_map changed (row_of n rows)
    changed_row [] n = refl
    changed_row (t ∷ rows) n =
        ap (λ m. cond (m == n) (Some (changed t)) (row_of n (map changed rows))) (keeps t.0.0)
        ∙ elim (t.0.0.number == n) as (λ b. cond b (Some (changed t)) (row_of n (map changed rows)) ≡ option_map changed (cond b (Some t) (row_of n rows))) [
          | true ↦ refl
          | false ↦ changed_row rows n
        ]

    changed_all : (rows : List Row) → AllGo rows (map changed rows)
    changed_all rows n e =
        subst (Goes (row_of n rows)) (sym (changed_row rows n)) (at (row_of n rows) (sym (ap is_some (changed_row rows n)) ∙ e))
      where
        at : (o : Option Row) → is_some (option_map changed o) ≡ true → Goes o (option_map changed o)
        at None f = absurd (true≢false (sym f))
        at (Some t) f = goes t

-- ---- rows that are left

module _ (test : Listener → Bool) where
  abbrev left : List Row → List Row
  left rows = filter (λ (t : Row). test t.0.0) rows

  left_rows : (ls : List Listener) (vs : List (Option View)) (cs : List ℕ) (rows : List Row) → AreRows ls vs cs rows
      → AreRows (filter test ls) (views_left test (record { listeners = ls; views = vs; counts = cs })) (counts_left test (record { listeners = ls; views = vs; counts = cs })) (left rows)
  left_rows ls vs cs rows r = record {
    listeners = (λ i. filter test (r.listeners i)) ∙ first rows;
    views = (λ i. views_left test (record { listeners = r.listeners i; views = r.views i; counts = r.counts i })) ∙ second rows;
    counts = (λ i. counts_left test (record { listeners = r.listeners i; views = r.views i; counts = r.counts i })) ∙ third rows;
  }
    where
      first : (xs : List Row) → filter test (listeners_in xs) ≡ listeners_in (left xs)
      first [] = refl
      first (x ∷ xs) = elim (test x.0.0) as (λ b. cond b (x.0.0 ∷ filter test (listeners_in xs)) (filter test (listeners_in xs)) ≡ listeners_in (cond b (x ∷ left xs) (left xs))) [
        | true ↦ ap (λ z. x.0.0 ∷ z) (first xs)
        | false ↦ first xs
      ]

      second : (xs : List Row) → views_left test (record { listeners = listeners_in xs; views = views_of xs; counts = counts_of xs }) ≡ views_of (left xs)
      second [] = refl
      second (x ∷ xs) = elim (test x.0.0) as (λ b. map (λ (c : ℕ × Option View). c.1) (cons_option (cond b (Some (x.0.0.number, x.0.1)) None) (views_where test (record { listeners = listeners_in xs; views = views_of xs; counts = counts_of xs }))) ≡ views_of (cond b (x ∷ left xs) (left xs))) [
        | true ↦ ap (λ z. x.0.1 ∷ z) (second xs)
        | false ↦ second xs
      ]

      third : (xs : List Row) → counts_left test (record { listeners = listeners_in xs; views = views_of xs; counts = counts_of xs }) ≡ counts_of (left xs)
      third [] = refl
      third (x ∷ xs) = elim (test x.0.0) as (λ b. cons_option (cond b (Some x.1) None) (filter_map (own_count test) (zip (listeners_in xs) (counts_of xs))) ≡ counts_of (cond b (x ∷ left xs) (left xs))) [
        | true ↦ ap (λ z. x.1 ∷ z) (third xs)
        | false ↦ third xs
      ]

  -- the number of one behind is greater
  above : (m n : ℕ) (rows : List Row) → All (λ (l : Listener). m < l.number) (listeners_in rows) → is_some (row_of n rows) ≡ true → m < n
  above m n [] h e = absurd (true≢false (sym e))
  above m n (t ∷ rows) h e =
      elim (t.0.0.number == n) as (λ b. (t.0.0.number == n) ≡ b → is_some (cond b (Some t) (row_of n rows)) ≡ true → m < n) [
        | true ↦ λ f g.
            let low : m < t.0.0.number = All-head (λ (l : Listener). m < l.number) t.0.0 (listeners_in rows) h in
            let same : t.0.0.number ≡ n = eqb-true t.0.0.number n f in
            omega (arith, low, same)
        | false ↦ λ f g. above m n rows (All-tail (λ (l : Listener). m < l.number) t.0.0 (listeners_in rows) h) g
      ] refl e

  -- one that is left is the one that there was
  left_row : (rows : List Row) → Rises (listeners_in rows) → (n : ℕ) → is_some (row_of n (left rows)) ≡ true → row_of n rows ≡ row_of n (left rows)
  left_row [] r n = λ e. refl
  left_row (t ∷ rows) r n =
      elim (test t.0.0) as (λ b. is_some (row_of n (cond b (t ∷ left rows) (left rows))) ≡ true → row_of n (t ∷ rows) ≡ row_of n (cond b (t ∷ left rows) (left rows))) [
        | true ↦ elim (t.0.0.number == n) as (λ b. is_some (cond b (Some t) (row_of n (left rows))) ≡ true → cond b (Some t) (row_of n rows) ≡ cond b (Some t) (row_of n (left rows))) [
          | true ↦ λ e. refl
          | false ↦ λ e. left_row rows r.1 n e
        ]
        | false ↦ λ e.
            let same : row_of n rows ≡ row_of n (left rows) = left_row rows r.1 n e in
            ap (λ b. cond b (Some t) (row_of n rows)) (other_number t.0.0.number n (above t.0.0.number n rows r.0 (ap is_some same ∙ e))) ∙ same
      ]

-- ---- one row more

added_rows : (ls : List Listener) (vs : List (Option View)) (cs : List ℕ) (rows : List Row) → AreRows ls vs cs rows → (l : Listener) (v : Option View) (c : ℕ) → AreRows (ls ++ l ∷ []) (vs ++ v ∷ []) (cs ++ c ∷ []) (rows ++ ((l, v), c) ∷ [])
added_rows ls vs cs rows r l v c = record {
  listeners = (λ i. r.listeners i ++ l ∷ []) ∙ first rows;
  views = (λ i. r.views i ++ v ∷ []) ∙ second rows;
  counts = (λ i. r.counts i ++ c ∷ []) ∙ third rows;
}
  where
    first : (xs : List Row) → listeners_in xs ++ l ∷ [] ≡ listeners_in (xs ++ ((l, v), c) ∷ [])
    first [] = refl
    first (x ∷ xs) = ap (λ z. x.0.0 ∷ z) (first xs)

    second : (xs : List Row) → views_of xs ++ v ∷ [] ≡ views_of (xs ++ ((l, v), c) ∷ [])
    second [] = refl
    second (x ∷ xs) = ap (λ z. x.0.1 ∷ z) (second xs)

    third : (xs : List Row) → counts_of xs ++ c ∷ [] ≡ counts_of (xs ++ ((l, v), c) ∷ [])
    third [] = refl
    third (x ∷ xs) = ap (λ z. x.1 ∷ z) (third xs)

added_all : (rows : List Row) (t : Row) → AllGo rows (rows ++ t ∷ [])
added_all [] t n = elim (t.0.0.number == n) as (λ b. is_some (cond b (Some t) None) ≡ true → Goes None (cond b (Some t) None)) [
  | true ↦ λ e. refl
  | false ↦ λ e. absurd (true≢false (sym e))
]
added_all (x ∷ rows) t n = elim (x.0.0.number == n) as (λ b. is_some (cond b (Some x) (row_of n (rows ++ t ∷ []))) ≡ true → Goes (cond b (Some x) (row_of n rows)) (cond b (Some x) (row_of n (rows ++ t ∷ [])))) [
  | true ↦ λ e. same_goes x.0.1 x.1
  | false ↦ λ e. added_all rows t n e
]

-- ---- what becomes of one

module _ (b : Brought) (ws : List Write) where
  first_goes : (q : Query) (c : ℕ) → GoesOn None (first_view_of b ws q) (Some c) (Some (count_with c (first_view_of b ws q)))
  first_goes q c =
      let one : View = first_view q (seen_over (base b q) ws q) in
      elim (is_known b ws q) as (λ k. GoesOn None (cond k (Some one) None) (Some c) (Some (count_with c (cond k (Some one) None)))) [
        | true ↦ refl
        | false ↦ refl
      ]

  kept_number : (l : Listener) → (renewed b ws l).number ≡ l.number
  kept_number l = elim (l.is_primed || is_known b ws l.query) as (λ z. (cond z (record l { is_primed = true; view = Some (shown_over b ws l.query) }) l).number ≡ l.number) [ true ↦ refl | false ↦ refl ]

  module _ (es : List Assignment) where
    after_goes : (q : Query) (o : Option View) (c : ℕ) → GoesOn o (view_after es b ws q o) (Some c) (Some (count_with c (view_after es b ws q o)))
    after_goes q None c = first_goes q c
    after_goes q (Some u) c = inr (
      elim (is_touched es b ws q u) as (λ z. (cond z (touched u (named_children es b ws q)) (taken u (seen_over (base b q) ws q))).turns ≡ (u.turns + 1) % 2 ^ 64) [ true ↦ refl | false ↦ refl ],
      refl,
    )

    met_goes : (t : Row) → GoesOn t.0.1 (view_met es b ws t.0) (Some t.1) (Some (count_met es b ws t))
    met_goes t =
        elim (do_meet es t.0.0.query.path) as (λ m. GoesOn t.0.1 (cond m (view_after es b ws t.0.0.query t.0.1) t.0.1) (Some t.1) (Some (cond m (count_with t.1 (cond m (view_after es b ws t.0.0.query t.0.1) t.0.1)) t.1))) [
          | true ↦ after_goes t.0.0.query t.0.1 t.1
          | false ↦ same_goes t.0.1 t.1
        ]

    heard_goes : (range : Option Query) (t : Row) → GoesOn t.0.1 (view_heard range es b ws t.0) (Some t.1) (Some (count_heard range es b ws t))
    heard_goes range t =
        elim (hears range t.0.0.query) as (λ h. GoesOn t.0.1 (cond h (view_met es b ws t.0) t.0.1) (Some t.1) (Some (count_if (h && do_meet es t.0.0.query.path) t.1 (cond h (view_met es b ws t.0) t.0.1)))) [
          | true ↦ met_goes t
          | false ↦ same_goes t.0.1 t.1
        ]

    met_number : (l : Listener) → (renewed_met es b ws l).number ≡ l.number
    met_number l = elim (do_meet es l.query.path) as (λ z. (cond z (renewed b ws l) l).number ≡ l.number) [ true ↦ kept_number l | false ↦ refl ]

  module _ (queries : List Query) where
    anew_goes : (q : Query) (o : Option View) (c : ℕ) → GoesOn o (view_anew b ws q o) (Some c) (Some (count_with c (view_anew b ws q o)))
    anew_goes q None c = first_goes q c
    anew_goes q (Some u) c = inr (refl, refl)

    renewed_goes : (t : Row) → GoesOn t.0.1 (view_of queries b ws t.0) (Some t.1) (Some (count_of queries b ws t))
    renewed_goes t =
        elim (is_among queries t.0.0.query) as (λ m. GoesOn t.0.1 (cond m (view_anew b ws t.0.0.query t.0.1) t.0.1) (Some t.1) (Some (cond m (count_with t.1 (cond m (view_anew b ws t.0.0.query t.0.1) t.0.1)) t.1))) [
          | true ↦ anew_goes t.0.0.query t.0.1 t.1
          | false ↦ same_goes t.0.1 t.1
        ]

    renewed_number : (l : Listener) → (renewed_of queries b ws l).number ≡ l.number
    renewed_number l = elim (is_among queries l.query) as (λ z. (cond z (renewed b ws l) l).number ≡ l.number) [ true ↦ kept_number l | false ↦ refl ]

-- ---- each kind of step

-- each listener has its count after it, and each count goes on
abbrev pub CountsOn : Held → Held → Type 0
CountsOn h k = HaveCounts (k.world).listeners k.counts × All (IsCounted h k) (k.world).listeners

module _ (h : Held) (s : Step) (k : Held) (rises : Rises (h.world).listeners) (viewed : AreViewed h) where
  abbrev b : Brought
  b = (k.world).brought

  abbrev ws : List Write
  ws = pending (k.world).requests

  abbrev old : List Row
  old = zip (zip (h.world).listeners h.views) h.counts

  is_old : IsOf h old
  is_old = aligned (IsViewed h.world) (h.world).listeners h.views h.counts viewed.pairs viewed.counted

  counts_on : (new : List Row) → IsOf k new → AllGo old new → CountsOn h k
  counts_on new q go = (have_counts k new q, all_counted h k old new is_old q go)

  met_on : (es : List Assignment) → RefreshesViews h es k → CountsOn h k
  met_on es has =
      let range : Option Query = has.range in
      let rows = changed_rows (renewed_met es b ws) (view_heard range es b ws) (count_heard range es b ws) (h.world).listeners h.views h.counts old is_old in
      counts_on (map (changed (renewed_met es b ws) (view_heard range es b ws) (count_heard range es b ws)) old)
      (record { listeners = has.listeners ∙ rows.listeners; views = has.views ∙ rows.views; counts = has.counts ∙ rows.counts })
      (changed_all (renewed_met es b ws) (view_heard range es b ws) (count_heard range es b ws) (met_number b ws es) (heard_goes b ws es range) old)

  added_on : (seat : ℕ) (query : Query) → AddsView h seat query k → CountsOn h k
  added_on seat query has =
      let rows = added_rows (h.world).listeners h.views h.counts old is_old _ _ has.counts.0 in
      counts_on _
      (record { listeners = has.listeners ∙ rows.listeners; views = has.views ∙ rows.views; counts = has.counts.1 ∙ rows.counts })
      (added_all old _)

  left_on : LeavesViews h s k → CountsOn h k
  left_on has =
      let some : List Row = left has.test old in
      let passed = left_rows has.test (h.world).listeners h.views h.counts old is_old in
      let rows = changed_rows (renewed_of has.moved b ws) (view_of has.moved b ws) (count_of has.moved b ws) (filter has.test (h.world).listeners) (views_left has.test (all_in h)) (counts_left has.test (all_in h)) some passed in
      let up : Rises (listeners_in old) = subst Rises is_old.listeners rises in
      counts_on (map (changed (renewed_of has.moved b ws) (view_of has.moved b ws) (count_of has.moved b ws)) some)
      (record { listeners = has.listeners ∙ rows.listeners; views = has.views ∙ rows.views; counts = has.counts ∙ rows.counts })
      (λ n e.
      let own : is_some (row_of n some) ≡ true = stays (changed (renewed_of has.moved b ws) (view_of has.moved b ws) (count_of has.moved b ws)) (row_of n some) (sym (ap is_some (changed_row (renewed_of has.moved b ws) (view_of has.moved b ws) (count_of has.moved b ws) (renewed_number b ws has.moved) (renewed_goes b ws has.moved) some n)) ∙ e) in
      subst (λ o. Goes o (row_of n (map (changed (renewed_of has.moved b ws) (view_of has.moved b ws) (count_of has.moved b ws)) some))) (sym (left_row has.test old up n own))
      (changed_all (renewed_of has.moved b ws) (view_of has.moved b ws) (count_of has.moved b ws) (renewed_number b ws has.moved) (renewed_goes b ws has.moved) some n e))
    where
      stays : (f : Row → Row) (o : Option Row) → is_some (option_map f o) ≡ true → is_some o ≡ true
      stays f None e = e
      stays f (Some t) e = refl

  by_change : (o : Option Change) → HasViewsBy o h s k → CountsOn h k
  by_change None has = met_on (entries_by h.world s) has
  by_change (Some (Add number query)) has = added_on has.seat query has.adds
  by_change (Some (Remove numbers)) has = left_on has
  by_change (Some (Revoke tag)) has = left_on has

  pub next_follows : HasViews h s k → ShowsStep h s k → FollowsStep h s k
  next_follows has shows =
      let on = by_change (change_by h.world s) has in
      record { viewed = record { pairs = shows.viewed; counted = on.0 }; reads = shows.reads; counts = on.1 }

-- where nothing changes
pub same_follows : (h : Held) (s : Step) → AreViewed h → ShowsStep h s h → FollowsStep h s h
same_follows h s viewed shows =
    let rows : List Row = zip (zip (h.world).listeners h.views) h.counts in
    let is = aligned (IsViewed h.world) (h.world).listeners h.views h.counts viewed.pairs viewed.counted in
    record { viewed = viewed; reads = shows.reads; counts = all_counted h h rows rows is is (same_all rows) }

-- ---- no entry meets any

none_counted : (b : Brought) (ws : List Write) (P : Listener → Option View → Type 0) (ls : List Listener) (vs : List (Option View)) (cs : List ℕ) → Pairs P ls vs → HaveCounts ls cs → cs ≡ map (count_met [] b ws) (zip (zip ls vs) cs)
none_counted b ws P [] [] [] h g = refl
none_counted b ws P [] [] (c ∷ cs) h g = absurd g
none_counted b ws P [] (v ∷ vs) cs h g = absurd h
none_counted b ws P (l ∷ ls) [] cs h g = absurd h
none_counted b ws P (l ∷ ls) (v ∷ vs) [] h g = absurd g
none_counted b ws P (l ∷ ls) (v ∷ vs) (c ∷ cs) h g = ap (λ ds. c ∷ ds) (none_counted b ws P ls vs cs h.1 g)

pub same_refreshed : (h k : Held) → AreViewed h → SameViews h k → RefreshesViews h [] k
same_refreshed h k viewed same =
    let b : Brought = (k.world).brought in
    let ws : List Write = pending (k.world).requests in
    record {
      range = None;
      still = λ l there e. absurd (true≢false e);
      listeners = same.listeners ∙ none_renewed b ws (h.world).listeners;
      views = same.views ∙ none_met b ws (IsViewed h.world) (h.world).listeners h.views viewed.pairs;
      counts = same.counts ∙ none_counted b ws (IsViewed h.world) (h.world).listeners h.views h.counts viewed.pairs viewed.counted;
    }
