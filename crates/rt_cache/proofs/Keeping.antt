-- The windows of the registered forms.
use Rattle.std.proofs.Common.{◌≡◌, ℕ, zero, suc, ◌<◌, length, get_or, drop, append_assoc, append-nil, Bool, true, false, cond, ◌||◌, List, [], ◌∷◌, ◌++◌, refl, sym, ap, ◌∙◌, Option, Some, None, is_some, arith}
use Rattle.std.specs.Ordering.{eq_by_cmp}
use Rattle.std.specs.Option.{option_map, option_or, option_to_list}
use Rattle.std.specs.List.{cons_option}
use Rattle.std.specs.Cmp.{Equal-is, eq_by_cmp_equiv}
use Rattle.std.specs.FinMap as map_of
use Rattle.std.proofs.lemmas.List.Elements.{All-cons, All-head, All-tail}
use Rattle.rt_query.specs.Queries.{Query, is_filtered}
use Rattle.rt_query.specs.QueryEq.{query_eq}
use Rattle.rt_query.specs.QueryOrder.{query_cmp}
use Rattle.rt_cache.specs.Brought.{Window}
use Rattle.rt_cache.specs.Recover.{in_query_order, is_among}
use Rattle.rt_cache.specs.declared.windows.Window as inside
use Rattle.rt_cache.specs.inside.Held.{seen_window, entry_of, entries_of, for_each}
use Rattle.rt_cache.proofs.Listing.{Listed}
use Rattle.rt_query.specs.laws.QueryOrder.{queries_total, exact_queries, tie_is_eq}
use Rattle.rt_cache.proofs.Stays.{AreFiltered, filtered-put}

-- what is found of the queries' windows
module _ (h : Query → Option Window) (x q : Query) (queries : List Query) (rest : map_of.find query_cmp x (for_each h queries) ≡ cond (is_among queries x) (h x) None) where
  tied : (b : Bool) → query_eq q x ≡ b → eq_by_cmp query_cmp x q ≡ b
  tied b e = (eq_by_cmp_equiv queries_total).symm x q ∙ tie_is_eq q x ∙ e

  other : query_eq q x ≡ false → (o : Option Window) → map_of.find query_cmp x (cons_option (option_map (λ w. (q, w)) o) (for_each h queries)) ≡ map_of.find query_cmp x (for_each h queries)
  other e None = refl
  other e (Some w) = ap (λ b. cond b (Some w) (map_of.find query_cmp x (for_each h queries))) (tied false e)

  gone : (b : Bool) (o : Option Window) → o ≡ None → cond b o None ≡ None
  gone true o e = e
  gone false o e = refl

  own : query_eq q x ≡ true → (o : Option Window) → h x ≡ o → map_of.find query_cmp x (cons_option (option_map (λ w. (q, w)) o) (for_each h queries)) ≡ o
  own e None f = rest ∙ gone (is_among queries x) (h x) f
  own e (Some w) f = ap (λ b. cond b (Some w) (map_of.find query_cmp x (for_each h queries))) (tied true e)

  one_more_found : (b : Bool) → query_eq q x ≡ b → map_of.find query_cmp x (for_each h (q ∷ queries)) ≡ cond (query_eq q x || is_among queries x) (h x) None
  one_more_found true e =
      let same : q ≡ x = exact_queries q x ((Equal-is (query_cmp q x)).0 (tie_is_eq q x ∙ e)) in
      ap (λ o. map_of.find query_cmp x (cons_option (option_map (λ w. (q, w)) o) (for_each h queries))) (ap h same)
      ∙ own e (h x) refl ∙ ap (λ b. cond (b || is_among queries x) (h x) None) (sym e)
  one_more_found false e = other e (h q) ∙ rest ∙ ap (λ b. cond (b || is_among queries x) (h x) None) (sym e)

pub find-for_each : (h : Query → Option Window) (x : Query) (queries : List Query) → map_of.find query_cmp x (for_each h queries) ≡ cond (is_among queries x) (h x) None
find-for_each h x [] = refl
find-for_each h x (q ∷ queries) = one_more_found h x q queries (find-for_each h x queries) (query_eq q x) refl

-- the queries from the n-th on
pub for_each-drop : (h : Query → Option Window) (queries : List Query) (n : ℕ) (d : Query) → n < length queries
    → for_each h (drop n queries) ≡ cons_option (option_map (λ w. (get_or queries n d, w)) (h (get_or queries n d))) (for_each h (drop (suc n) queries))
for_each-drop h [] n d lt = absurd (omega arith)
for_each-drop h (q ∷ queries) zero d lt = refl
for_each-drop h (q ∷ queries) (suc n) d lt = for_each-drop h queries n d (omega arith)

entries_of-append : (ws vs : List inside.Window) → entries_of (ws ++ vs) ≡ entries_of ws ++ entries_of vs
entries_of-append [] vs = refl
entries_of-append (w ∷ ws) vs = ap (λ es. (w.query, seen_window w) ∷ es) (entries_of-append ws vs)

-- one window more, or none
pub one_more_left : (left : List inside.Window) (o : Option inside.Window) (rest whole : Listed) → entries_of left ++ cons_option (option_map entry_of o) rest ≡ whole
    → entries_of (left ++ option_to_list o) ++ rest ≡ whole
one_more_left left None rest whole e = ap (λ ws. entries_of ws ++ rest) (append-nil left) ∙ e
one_more_left left (Some w) rest whole e = ap (λ es. es ++ rest) (entries_of-append left (w ∷ [])) ∙ append_assoc (entries_of left) (entry_of w ∷ []) rest ∙ e

-- the first list, and behind it the second
pub find-both : (x : Query) (es fs : Listed) → map_of.find query_cmp x (es ++ fs) ≡ option_or (map_of.find query_cmp x es) (map_of.find query_cmp x fs)
find-both x [] fs = refl
find-both x (e ∷ es) fs =
    elim (eq_by_cmp query_cmp x e.0) as (λ b. cond b (Some e.1) (map_of.find query_cmp x (es ++ fs)) ≡ option_or (cond b (Some e.1) (map_of.find query_cmp x es)) (map_of.find query_cmp x fs)) [
      | true ↦ refl
      | false ↦ find-both x es fs
    ]

-- ---- they are filtered

pub listed_filtered : (es : Listed) → AreFiltered es → AreFiltered (in_query_order es)
listed_filtered [] h = h
listed_filtered (e ∷ es) h =
    let P : Query × Window → Type 0 = λ x. is_filtered x.0 ≡ true in
    filtered-put e.0 e.1 (in_query_order es) (All-head P e es h) (listed_filtered es (All-tail P e es h))

pub each_filtered : (h : Query → Option Window) (queries : List Query) → ((q : Query) → is_some (h q) ≡ true → is_filtered q ≡ true) → AreFiltered (for_each h queries)
each_filtered h [] f = λ k d lt. absurd (omega arith)
each_filtered h (q ∷ queries) f =
    elim (h q) as (λ o. (is_some o ≡ true → is_filtered q ≡ true) → AreFiltered (cons_option (option_map (λ w. (q, w)) o) (for_each h queries))) [
      | None ↦ λ g. each_filtered h queries f
      | Some w ↦ λ g. All-cons (λ (x : Query × Window). is_filtered x.0 ≡ true) (q, w) (for_each h queries) (g refl) (each_filtered h queries f)
    ] (f q)
