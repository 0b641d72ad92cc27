-- Queries with their sources, in order: whether one had a window.
use Rattle.std.proofs.Common.{◌≡◌, ℕ, ◌<◌, ◌≤◌, Bool, true, false, ◌&&◌, List, length, get_or, refl, sym, ap, ◌∙◌, arith, ltb, ltb-true, ltb-false, nat_lt}
use mathlib.Core.Bool.{true≢false}
use Rattle.std.specs.Cmp.{IsStrictWeakOrder, IsTotalOrder, on_total, then_total, tied_itself}
use Rattle.std.specs.List.Sorted.{IsPartitionedBy, IsPartitionPoint, IsSorted}
use Rattle.std.specs.Ordering.{is_lt, ordering_index, ordering_reverse, ordering_then}
use Rattle.std.specs.declared.cmp.Ordering.{Ordering}
use Rattle.std.specs.declared.cmp.Ordering.TheVariants.{Less, Equal, Greater}
use Rattle.std.proofs.lemmas.List.{get_or_default}
use Rattle.std.proofs.lemmas.List.Folds.{list_any_at, list_any_none}
use Rattle.std.proofs.lemmas.List.Sorted.{searchable_from_sorted, IsPartitionedBy-ltb, ranks_by, sorted_far}
use Rattle.rt_tree.specs.TreeEq.{both_first, both_second}
use Rattle.rt_order.specs.laws.KeyOrder.{first_tied, second_tied}
use Rattle.rt_query.specs.Queries.{Query}
use Rattle.rt_query.specs.QueryEq.{query_eq}
use Rattle.rt_query.specs.QueryOrder.{query_cmp}
use Rattle.rt_query.specs.laws.QueryEq.{query_eq_tells}
use Rattle.rt_query.specs.laws.QueryOrder.{queries_total, exact_queries}
use Rattle.rt_sync.specs.declared.steps.losses.Had.{Had}
use Rattle.rt_sync.specs.inside.Moving.{had_cmp, had_of, has_come}

had_total : IsTotalOrder had_cmp
had_total = then_total (on_total (λ (h : Had). h.query) queries_total) (on_total (λ (h : Had). h.source) queries_total)

before_one : (o : Ordering) → is_lt o ≡ ltb (ordering_index o) 1
before_one Less = refl
before_one Equal = refl
before_one Greater = refl

pub lesser_first : (r : Had) (hs : List Had) → IsSorted had_cmp hs → IsPartitionedBy (λ (h : Had). is_lt (had_cmp h r)) hs
lesser_first r hs up i j d le lt e = before_one (had_cmp (get_or hs i d) r)
    ∙ IsPartitionedBy-ltb (λ (x : Had). ordering_index (had_cmp x r)) hs 1 (searchable_from_sorted had_total (λ (x : Had). x) hs r up) i j d le lt
    (sym (before_one (had_cmp (get_or hs j d) r)) ∙ e)

pub ranks : IsStrictWeakOrder (λ (x y : Had). is_lt (had_cmp x y))
ranks = ranks_by had_total (λ (x : Had). x)

far : (hs : List Had) → IsSorted had_cmp hs → (i j : ℕ) (d : Had) → i ≤ j → j < length hs → is_lt (had_cmp (get_or hs j d) (get_or hs i d)) ≡ false
far hs up = sorted_far (λ (x y : Had). is_lt (had_cmp x y)) ranks hs up

module _ (q f : Query) where
  abbrev is_it : Had → Bool
  is_it h = query_eq h.query q && query_eq h.source f

  abbrev r : Had
  r = had_of q f

  -- one that is it ties with it
  tied : (h : Had) → is_it h ≡ true → had_cmp h r ≡ Equal
  tied h e =
      (λ i. ordering_then (query_cmp ((query_eq_tells h.query q).0 (both_first (query_eq h.query q) (query_eq h.source f) e) i) q)
      (query_cmp ((query_eq_tells h.source f).0 (both_second (query_eq h.query q) (query_eq h.source f) e) i) f))
      ∙ tied_itself had_total r

  -- and one that ties is it
  tells : (h : Had) → had_cmp h r ≡ Equal → is_it h ≡ true
  tells h e =
      let one : h.query ≡ q = exact_queries h.query q (first_tied (query_cmp h.query q) (query_cmp h.source f) e) in
      let two : h.source ≡ f = exact_queries h.source f (second_tied (query_cmp h.query q) (query_cmp h.source f) e) in
      (λ i. (query_eq_tells h.query q).1 one i && query_eq h.source f) ∙ (query_eq_tells h.source f).1 two

  -- what stands before it is another one
  lesser_other : (h : Had) → is_lt (had_cmp h r) ≡ true → is_it h ≡ false
  lesser_other h e = at (is_it h) refl
    where
      at : (b : Bool) → is_it h ≡ b → is_it h ≡ false
      at false g = g
      at true g = absurd (true≢false (sym e ∙ ap is_lt (tied h g)))

  neither_lesser : (h : Had) → is_lt (had_cmp h r) ≡ false → is_lt (had_cmp r h) ≡ false → had_cmp h r ≡ Equal
  neither_lesser h a b = at (had_cmp h r) refl
    where
      at : (o : Ordering) → had_cmp h r ≡ o → had_cmp h r ≡ Equal
      at Less e = absurd (true≢false (sym (ap is_lt e) ∙ a))
      at Equal e = e
      at Greater e = absurd (true≢false (sym (ap is_lt (had_total.antisymm r h ∙ ap ordering_reverse e)) ∙ b))

  same_back : (h i : Had) → had_cmp h r ≡ Equal → is_lt (had_cmp h i) ≡ is_lt (had_cmp r i)
  same_back h i e =
      λ j. is_lt (ordering_then (query_cmp (exact_queries h.query q (first_tied (query_cmp h.query q) (query_cmp h.source f) e) j) i.query)
      (query_cmp (exact_queries h.source f (second_tied (query_cmp h.query q) (query_cmp h.source f) e) j) i.source))

  module _ (hs : List Had) (up : IsSorted had_cmp hs) (n : ℕ)
      (point : IsPartitionPoint (λ (h : Had). is_lt (had_cmp h (had_of q f)) ≡ true) (λ (h : Had). is_lt (had_cmp h (had_of q f)) ≡ false) hs n) where
    -- all stand before it
    pub at_end : n ≡ length hs → has_come hs q f ≡ false
    at_end all = list_any_none is_it hs (λ k d lt. lesser_other (get_or hs k d) (point.0 k d (omega arith) (omega (arith, lt, all))))

    -- or the first that doesn't is it, or none is
    pub at_first : (x : Had) → n < length hs → has_come hs q f ≡ (query_eq (get_or hs n x).query q && query_eq (get_or hs n x).source f)
    at_first x within = at (is_it (get_or hs n x)) refl
      where
        none : is_it (get_or hs n x) ≡ false → (k : ℕ) (d : Had) → k < length hs → is_it (get_or hs k d) ≡ false
        none other k d lt = at (nat_lt k n) refl
          where
            it_here : is_it (get_or hs k d) ≡ true → n ≤ k → ⊥
            it_here it le =
                let ties : had_cmp (get_or hs n d) r ≡ Equal = neither_lesser (get_or hs n d) (point.1 n d (omega arith) within)
                (sym (same_back (get_or hs k d) (get_or hs n d) (tied (get_or hs k d) it)) ∙ far hs up n k d le lt) in
                true≢false (sym (ap is_it (get_or_default hs n x d within) ∙ tells (get_or hs n d) ties) ∙ other)

            here : (b : Bool) → is_it (get_or hs k d) ≡ b → n ≤ k → is_it (get_or hs k d) ≡ false
            here false g le = g
            here true g le = absurd (it_here g le)

            at : (b : Bool) → nat_lt k n ≡ b → is_it (get_or hs k d) ≡ false
            at true e = lesser_other (get_or hs k d) (point.0 k d (omega arith) (ltb-true k n e))
            at false e = here (is_it (get_or hs k d)) refl (ltb-false k n e)

        at : (b : Bool) → is_it (get_or hs n x) ≡ b → has_come hs q f ≡ is_it (get_or hs n x)
        at true e = list_any_at is_it hs n x within e ∙ sym e
        at false e = list_any_none is_it hs (none e) ∙ sym e
