-- What is kept of actions at their places, where one comes, goes or loses entries.
use Rattle.std.proofs.Common.{◌≡◌, ℕ, suc, ◌+◌, ◌-◌, ◌<◌, ◌≤◌, ◌==◌, Bool, true, false, cond, not, List, [], ◌∷◌, length, get_or, Some, is_some, Result, Ok, Err, OnOk, OnErr, refl, sym, ap, subst, ◌∙◌, arith}
use mathlib.Core.Bool.{true≢false}
use Rattle.std.specs.List.{All, filter}
use Rattle.std.specs.Map.{keys_of, lookup, remove_entry}
use Rattle.std.specs.BTreeMap.{insert_entry, is_at as key_is}
use Rattle.std.specs.Ordering.{is_eq, match_ordering}
use Rattle.std.specs.declared.cmp.Ordering.TheVariants.{Less, Equal, Greater}
use Rattle.std.proofs.lemmas.List.Elements.{All-cons, All-filter, All-head, All-tail, All-weaker, filter_passes}
use Rattle.std.proofs.lemmas.Map.Keys.{sorted_tail}
use Rattle.rt_tree.specs.Assignments.{Assignment}
use Rattle.rt_writes.specs.Writes.{IsShallow}
use Rattle.rt_peer.specs.Calls.{is_empty}
use Rattle.rt_peer.specs.declared.actions.ActionKey.{ActionKey}
use Rattle.rt_peer.specs.inside.Counts.{count_of, AreCountedBy}
use Rattle.rt_peer.specs.inside.Placed.{has_place, is_bare, place_cmp, whose}
use Rattle.rt_peer.specs.inside.Placed.{AllMarked, AreByPlace, AreKept, PlacedActions}
use Rattle.rt_peer.proofs.CountLaws.{one_if}
use Rattle.rt_peer.proofs.PlacedLaws.{after_equal, counted_less, list_is, less_all, none_at}
use Rattle.rt_peer.proofs.PutBehind.{all_put, counted_more}

abbrev Entry : Type 0
Entry = ActionKey × List Assignment

abbrev Came : ℕ → Entry → Type 0
Came n e = e.0.arrival < n

abbrev Shallow : Entry → Type 0
Shallow e = All IsShallow e.1

abbrev Marked : List ActionKey → Entry → Type 0
Marked ps e = is_bare e ≡ true → has_place ps e.0 ≡ true

abbrev pub MarksKept : List ActionKey → List ActionKey → Type 0
MarksKept old new = (p : ActionKey) → has_place old p ≡ true → has_place new p ≡ true

abbrev pub IsPlaceTaken : ActionKey → List ActionKey → List ActionKey → Type 0
IsPlaceTaken k old new = (q : ActionKey) → has_place new q ≡ cond (is_eq (place_cmp k q)) false (has_place old q)

-- ---- marks more, the rest as it was

pub kept_still : (es : PlacedActions) (empty marks : List ActionKey) (counts more : List (ℕ × ℕ)) (arrived later : ℕ)
    → AreKept es empty counts arrived → MarksKept empty marks → ((n : ℕ) → count_of more n ≡ count_of counts n) → arrived ≤ later
    → AreKept es marks more later
kept_still es empty marks counts more arrived later k kept same le = record {
  order = k.order;
  came = All-weaker (Came arrived) (Came later) (λ e lt. omega (arith, lt, le)) es k.came;
  shallow = k.shallow;
  marked = All-weaker (Marked empty) (Marked marks) (λ e h bare. kept e.0 (h bare)) es k.marked;
  counted = λ n. same n ∙ k.counted n;
}

-- ---- one more

pub kept_put : (p : ActionKey) (v : List Assignment) (es : PlacedActions) (empty marks : List ActionKey) (counts more : List (ℕ × ℕ)) (arrived later : ℕ)
    → AreKept es empty counts arrived → p.arrival ≡ arrived → later ≡ arrived + 1 → All IsShallow v
    → AreByPlace (insert_entry place_cmp es p v) → MarksKept empty marks → (is_empty v ≡ true → has_place marks p ≡ true)
    → ((n : ℕ) → count_of more n ≡ count_of counts n + one_if p.connection n)
    → AreKept (insert_entry place_cmp es p v) marks more later
kept_put p v es empty marks counts more arrived later k at next shallow order kept marked one =
    let came : All (Came p.arrival) es = subst (λ n. All (Came n) es) (sym at) k.came in
    record {
      order = order;
      came = all_put (Came later) p v es came (All-weaker (Came p.arrival) (Came later) (λ e lt. omega (arith, lt, at, next)) es came) (omega (arith, at, next));
      shallow = all_put Shallow p v es came k.shallow shallow;
      marked = all_put (Marked marks) p v es came (All-weaker (Marked empty) (Marked marks) (λ e h bare. kept e.0 (h bare)) es k.marked) marked;
      counted = counted_more p v counts more es came k.counted one;
    }

-- ---- one less

all_removed : (P : Entry → Type 0) (p : ActionKey) (es : PlacedActions) → All P es → All P (remove_entry (key_is (place_cmp p)) es)
all_removed P p [] h = h
all_removed P p (e ∷ es) h =
    elim (is_eq (place_cmp p e.0)) as (λ b. All P (cond b es (e ∷ remove_entry (key_is (place_cmp p)) es))) [
      | true ↦ All-tail P e es h
      | false ↦ All-cons P e (remove_entry (key_is (place_cmp p)) es) (All-head P e es h) (all_removed P p es (All-tail P e es h))
    ]

still_there : (p q : ActionKey) (old new : List ActionKey) → IsPlaceTaken p old new → is_eq (place_cmp p q) ≡ false → has_place old q ≡ true → has_place new q ≡ true
still_there p q old new taken other h = taken q ∙ ap (λ b. cond b false (has_place old q)) other ∙ h

marked_taken : (p : ActionKey) (old new : List ActionKey) (es : PlacedActions) → AreByPlace es → IsPlaceTaken p old new → AllMarked old es
    → AllMarked new (remove_entry (key_is (place_cmp p)) es)
marked_taken p old new [] s taken h = λ k d lt. absurd (omega (arith, lt))
marked_taken p old new (e ∷ es) s taken h =
    elim (is_eq (place_cmp p e.0)) as (λ b. is_eq (place_cmp p e.0) ≡ b → AllMarked new (cond b es (e ∷ remove_entry (key_is (place_cmp p)) es))) [
      | true ↦ λ f. behind es (after_equal p e.0 (keys_of es) f s) (All-tail (Marked old) e es h)
      | false ↦ λ f.
          All-cons (Marked new) e (remove_entry (key_is (place_cmp p)) es)
          (λ bare. still_there p e.0 old new taken f (All-head (Marked old) e es h bare))
          (marked_taken p old new es (sorted_tail place_cmp e.0 (keys_of es) s) taken (All-tail (Marked old) e es h))
    ] refl
  where
    behind : (xs : PlacedActions) → All (λ r. place_cmp p r ≡ Less) (keys_of xs) → AllMarked old xs → AllMarked new xs
    behind [] less k = λ j d lt. absurd (omega (arith, lt))
    behind (x ∷ xs) less k =
        All-cons (Marked new) x xs
        (λ bare. still_there p x.0 old new taken (ap is_eq (All-head (λ r. place_cmp p r ≡ Less) x.0 (keys_of xs) less)) (All-head (Marked old) x xs k bare))
        (behind xs (All-tail (λ r. place_cmp p r ≡ Less) x.0 (keys_of xs) less) (All-tail (Marked old) x xs k))

pub kept_taken : (p : ActionKey) (v : List Assignment) (es : PlacedActions) (empty marks : List ActionKey) (counts less : List (ℕ × ℕ)) (arrived : ℕ)
    → AreKept es empty counts arrived → Some v ≡ lookup (key_is (place_cmp p)) es → AreByPlace (remove_entry (key_is (place_cmp p)) es)
    → IsPlaceTaken p empty marks → ((n : ℕ) → count_of less n ≡ count_of counts n - one_if p.connection n)
    → AreKept (remove_entry (key_is (place_cmp p)) es) marks less arrived
kept_taken p v es empty marks counts less arrived k there order taken one = record {
  order = order;
  came = all_removed (Came arrived) p es k.came;
  shallow = all_removed Shallow p es k.shallow;
  marked = marked_taken p empty marks es k.order taken k.marked;
  counted = counted_less p v counts less es k.counted there one;
}

-- what is found may be put
pub shallow_at : (p : ActionKey) (v : List Assignment) (es : PlacedActions) → All Shallow es → Some v ≡ lookup (key_is (place_cmp p)) es → All IsShallow v
shallow_at p v [] h there = absurd (true≢false (ap is_some there))
shallow_at p v (e ∷ es) h there =
    elim (is_eq (place_cmp p e.0)) as (λ b. Some v ≡ cond b (Some e.1) (lookup (key_is (place_cmp p)) es) → All IsShallow v) [
      | true ↦ λ g. subst (All IsShallow) (sym (list_is v e.1 g)) (All-head Shallow e es h)
      | false ↦ λ g. shallow_at p v es (All-tail Shallow e es h) g
    ] there

-- ---- without those that have no entries

all_filter : (P : Entry → Type 0) (t : Entry → Bool) (es : PlacedActions) → All P es → All P (filter t es)
all_filter P t es h = All-filter t P es h

pub kept_dropped : (es left : PlacedActions) (empty marks : List ActionKey) (counts less : List (ℕ × ℕ)) (arrived : ℕ)
    → AreKept es empty counts arrived → AreByPlace left → left ≡ filter (λ e. not (is_bare e)) es → AreCountedBy less left whose
    → AreKept left marks less arrived
kept_dropped es left empty marks counts less arrived k order is counted = record {
  order = order;
  came = subst (All (Came arrived)) (sym is) (all_filter (Came arrived) (λ e. not (is_bare e)) es k.came);
  shallow = subst (All Shallow) (sym is) (all_filter Shallow (λ e. not (is_bare e)) es k.shallow);
  marked = subst (All (Marked marks)) (sym is) (λ i d lt bare. absurd (true≢false (sym bare ∙ passes i d lt)));
  counted = counted;
}
  where
    is_not : (b : Bool) → not b ≡ true → b ≡ false
    is_not true e = sym e
    is_not false e = refl

    passes : (i : ℕ) (d : Entry) → i < length (filter (λ e. not (is_bare e)) es) → is_bare (get_or (filter (λ e. not (is_bare e)) es) i d) ≡ false
    passes i d lt = is_not _ (filter_passes (λ e. not (is_bare e)) es i d lt)

-- ---- one that loses entries

pub kept_left : (p : ActionKey) (v : List Assignment) (es : PlacedActions) (empty : List ActionKey) (counts : List (ℕ × ℕ)) (arrived : ℕ)
    → AreKept es empty counts arrived → All IsShallow v → is_empty v ≡ false → is_some (lookup (key_is (place_cmp p)) es) ≡ true
    → AreByPlace (insert_entry place_cmp es p v) → AreKept (insert_entry place_cmp es p v) empty counts arrived
kept_left p v es empty counts arrived k shallow some there order = record {
  order = order;
  came = all_set (Came arrived) (λ e h. h) es k.order there k.came;
  shallow = all_set Shallow (λ e h. shallow) es k.order there k.shallow;
  marked = all_set (Marked empty) (λ e h bare. absurd (true≢false (sym bare ∙ some))) es k.order there k.marked;
  counted = λ n. k.counted n ∙ sym (same_count n es k.order there);
}
  where
    all_set : (P : Entry → Type 0) → ((e : Entry) → P e → P (e.0, v)) → (xs : PlacedActions) → AreByPlace xs
        → is_some (lookup (key_is (place_cmp p)) xs) ≡ true → All P xs → All P (insert_entry place_cmp xs p v)
    all_set P f [] s t h = absurd (true≢false (sym t))
    all_set P f (x ∷ xs) s t h =
        elim (place_cmp p x.0) as (λ r. place_cmp p x.0 ≡ r → is_some (cond (is_eq r) (Some x.1) (lookup (key_is (place_cmp p)) xs)) ≡ true
        → All P (match_ordering r ((p, v) ∷ x ∷ xs) ((x.0, v) ∷ xs) (x ∷ insert_entry place_cmp xs p v))) [
          | Less ↦ λ e g. absurd (true≢false (sym g ∙ ap is_some (none_at p xs (All-tail (λ r. place_cmp p r ≡ Less) x.0 (keys_of xs) (less_all p x.0 (keys_of xs) e s)))))
          | Equal ↦ λ e g. All-cons P (x.0, v) xs (f x (All-head P x xs h)) (All-tail P x xs h)
          | Greater ↦ λ e g. All-cons P x (insert_entry place_cmp xs p v) (All-head P x xs h)
              (all_set P f xs (sorted_tail place_cmp x.0 (keys_of xs) s) g (All-tail P x xs h))
        ] refl t

    same_count : (n : ℕ) (xs : PlacedActions) → AreByPlace xs → is_some (lookup (key_is (place_cmp p)) xs) ≡ true
        → length (filter (λ x. whose x == n) (insert_entry place_cmp xs p v)) ≡ length (filter (λ x. whose x == n) xs)
    same_count n [] s t = absurd (true≢false (sym t))
    same_count n (x ∷ xs) s t =
        elim (place_cmp p x.0) as (λ r. place_cmp p x.0 ≡ r → is_some (cond (is_eq r) (Some x.1) (lookup (key_is (place_cmp p)) xs)) ≡ true
        → length (filter (λ y. whose y == n) (match_ordering r ((p, v) ∷ x ∷ xs) ((x.0, v) ∷ xs) (x ∷ insert_entry place_cmp xs p v)))
        ≡ length (filter (λ y. whose y == n) (x ∷ xs))) [
          | Less ↦ λ e g. absurd (true≢false (sym g ∙ ap is_some (none_at p xs (All-tail (λ r. place_cmp p r ≡ Less) x.0 (keys_of xs) (less_all p x.0 (keys_of xs) e s)))))
          | Equal ↦ λ e g. one_like (x.0.connection == n) (filter (λ y. whose y == n) xs)
          | Greater ↦ λ e g. with_like (x.0.connection == n) (filter (λ y. whose y == n) (insert_entry place_cmp xs p v)) (filter (λ y. whose y == n) xs)
              (same_count n xs (sorted_tail place_cmp x.0 (keys_of xs) s) g)
        ] refl t
      where
        one_like : (b : Bool) (ys : PlacedActions) → length (cond b ((x.0, v) ∷ ys) ys) ≡ length (cond b (x ∷ ys) ys)
        one_like true ys = refl
        one_like false ys = refl

        with_like : (b : Bool) (ys zs : PlacedActions) → length ys ≡ length zs → length (cond b (x ∷ ys) ys) ≡ length (cond b (x ∷ zs) zs)
        with_like true ys zs e = ap suc e
        with_like false ys zs e = e

-- what follows of a result either way
pub with_result : {A E : Type 0} {P Q R : Type 0} (r : Result A E) → OnOk r P → OnErr r Q → (P → R) → (Q → R) → R
with_result (Ok a) p q f g = f p
with_result (Err e) p q f g = g q
