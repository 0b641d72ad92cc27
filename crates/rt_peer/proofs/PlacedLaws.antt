-- Actions at their places: what a map's calls are to the list of them.
use Rattle.std.proofs.Common.{◌≡◌, ℕ, ◌+◌, ◌-◌, ◌==◌, Bool, true, false, cond, not, ◌||◌, ◌&&◌, List, [], ◌∷◌, length, get_or, Option, Some, None, is_some, refl, sym, ap, subst, ◌∙◌, arith, if◌then◌else◌}
use mathlib.Core.Bool.{true≢false}
use Rattle.std.specs.List.{All, filter}
use Rattle.std.specs.List.Sorted.{IsStrictlySortedBy}
use Rattle.std.specs.Map.{keys_of, lookup, remove_entry}
use Rattle.std.specs.BTreeMap.{is_at as key_is}
use Rattle.std.specs.Cmp.{Equal-is, tied_itself}
use Rattle.std.specs.FinMap.{nat_cmp-IsAntisymmetric}
use Rattle.std.specs.Option.{option_map_or}
use Rattle.std.specs.Ordering.{nat_cmp, is_eq, ordering_then}
use Rattle.std.specs.declared.cmp.Ordering.{Ordering}
use Rattle.std.specs.declared.cmp.Ordering.TheVariants.{Less, Equal, Greater}
use Rattle.std.proofs.lemmas.List.Elements.{All-cons, All-head, All-tail}
use Rattle.std.proofs.lemmas.Map.Keys.{sorted_tail}
use Rattle.std.proofs.lemmas.Map.Views.{All-after_first}
use Rattle.rt_tree.specs.Assignments.{Assignment}
use Rattle.rt_peer.specs.Calls.{is_empty}
use Rattle.rt_peer.specs.declared.actions.ActionKey.{ActionKey}
use Rattle.rt_peer.specs.inside.Counts.{count_of, AreCountedBy}
use Rattle.rt_peer.specs.inside.Placed.{has_place, is_bare, is_of, place_cmp, places_total, whose, without_bare}
use Rattle.rt_peer.specs.inside.Placed.{AllMarked, AreByPlace, PlacedActions}
use Rattle.rt_peer.proofs.CountLaws.{one_if}

abbrev Entry : Type 0
Entry = ActionKey × List Assignment

abbrev list_or : Option (List Assignment) → List Assignment → List Assignment
list_or None d = d
list_or (Some x) d = x

pub list_is : (x y : List Assignment) → Some x ≡ Some y → x ≡ y
list_is x y g = ap (λ r. list_or r x) g

-- ---- exact places

both_equal : (a b : Ordering) → is_eq (ordering_then a b) ≡ true → (a ≡ Equal) × (b ≡ Equal)
both_equal Less b e = absurd (true≢false (sym e))
both_equal Equal b e = (refl, (Equal-is b).0 e)
both_equal Greater b e = absurd (true≢false (sym e))

pub place_exact : (p q : ActionKey) → is_eq (place_cmp p q) ≡ true → p ≡ q
place_exact p q e =
    let one = both_equal (nat_cmp p.connection q.connection) (ordering_then (nat_cmp p.id q.id) (nat_cmp p.arrival q.arrival)) e in
    let two = both_equal (nat_cmp p.id q.id) (nat_cmp p.arrival q.arrival) (ap is_eq one.1) in
    let first : p.connection ≡ q.connection = nat_cmp-IsAntisymmetric p.connection q.connection one.0 in
    let second : p.id ≡ q.id = nat_cmp-IsAntisymmetric p.id q.id two.0 in
    let third : p.arrival ≡ q.arrival = nat_cmp-IsAntisymmetric p.arrival q.arrival two.1 in
    λ i. record { connection = first i; id = second i; arrival = third i }

-- what is less than the first is less than all
pub less_all : (p q : ActionKey) (ps : List ActionKey) → place_cmp p q ≡ Less → IsStrictlySortedBy place_cmp (q ∷ ps)
    → All (λ r. place_cmp p r ≡ Less) (q ∷ ps)
less_all p q ps e s =
    All-cons (λ r. place_cmp p r ≡ Less) q ps e
    (λ k d lt. places_total.trans p q (get_or ps k d) e (All-after_first place_cmp q ps s k d lt))

-- a place that is less than all keys is none of them
pub none_at : (p : ActionKey) (es : PlacedActions) → All (λ r. place_cmp p r ≡ Less) (keys_of es) → lookup (key_is (place_cmp p)) es ≡ None
none_at p [] h = refl
none_at p (e ∷ es) h =
    ap (λ o. cond (is_eq o) (Some e.1) (lookup (key_is (place_cmp p)) es)) (All-head (λ r. place_cmp p r ≡ Less) e.0 (keys_of es) h)
    ∙ none_at p es (All-tail (λ r. place_cmp p r ≡ Less) e.0 (keys_of es) h)

-- behind an equal place no other is
pub after_equal : (p q : ActionKey) (ps : List ActionKey) → is_eq (place_cmp p q) ≡ true → IsStrictlySortedBy place_cmp (q ∷ ps)
    → All (λ r. place_cmp p r ≡ Less) ps
after_equal p q ps e s k d lt =
    places_total.congr p q (get_or ps k d) ((Equal-is (place_cmp p q)).0 e) ∙ All-after_first place_cmp q ps s k d lt

-- ---- one without entries

pub bare_taken : (p : ActionKey) (es : PlacedActions) → AreByPlace es
    → option_map_or is_empty (lookup (key_is (place_cmp p)) es) false ≡ true
    → remove_entry (key_is (place_cmp p)) es ≡ without_bare p es
bare_taken p [] s h = refl
bare_taken p (e ∷ es) s h =
    elim (is_eq (place_cmp p e.0)) as (λ b. option_map_or is_empty (cond b (Some e.1) (lookup (key_is (place_cmp p)) es)) false ≡ true
    → cond b es (e ∷ remove_entry (key_is (place_cmp p)) es) ≡ (if b && is_bare e then es else e ∷ without_bare p es)) [
      | true ↦ λ g. sym (ap (λ b. if b then es else e ∷ without_bare p es) g)
      | false ↦ λ g. ap (λ xs. e ∷ xs) (bare_taken p es (sorted_tail place_cmp e.0 (keys_of es) s) g)
    ] h

pub bare_none : (p : ActionKey) (es : PlacedActions) → AreByPlace es
    → option_map_or is_empty (lookup (key_is (place_cmp p)) es) false ≡ false → es ≡ without_bare p es
bare_none p [] s h = refl
bare_none p (e ∷ es) s h =
    elim (is_eq (place_cmp p e.0)) as (λ b. is_eq (place_cmp p e.0) ≡ b
    → option_map_or is_empty (cond b (Some e.1) (lookup (key_is (place_cmp p)) es)) false ≡ false
    → e ∷ es ≡ (if b && is_bare e then es else e ∷ without_bare p es)) [
      | true ↦ λ f g.
          let rest : es ≡ without_bare p es = bare_none p es (sorted_tail place_cmp e.0 (keys_of es) s)
          (ap (λ r. option_map_or is_empty r false) (none_at p es (after_equal p e.0 (keys_of es) f s))) in
          ap (λ xs. e ∷ xs) rest ∙ sym (ap (λ b. if b then es else e ∷ without_bare p es) g)
      | false ↦ λ f g. ap (λ xs. e ∷ xs) (bare_none p es (sorted_tail place_cmp e.0 (keys_of es) s) g)
    ] refl h

-- the others that have entries stay
pub bare_left : (p : ActionKey) (es : PlacedActions)
    → filter (λ e. not (is_bare e)) (without_bare p es) ≡ filter (λ e. not (is_bare e)) es
bare_left p [] = refl
bare_left p (e ∷ es) =
    elim (is_eq (place_cmp p e.0)) as (λ b. filter (λ x. not (is_bare x)) (if b && is_bare e then es else e ∷ without_bare p es)
    ≡ filter (λ x. not (is_bare x)) (e ∷ es)) [
      | true ↦ elim (is_bare e) as (λ c. is_bare e ≡ c → filter (λ x. not (is_bare x)) (if c then es else e ∷ without_bare p es)
          ≡ filter (λ x. not (is_bare x)) (e ∷ es)) [
            | true ↦ λ g. sym (ap (λ c. cond (not c) (e ∷ filter (λ x. not (is_bare x)) es) (filter (λ x. not (is_bare x)) es)) g)
            | false ↦ λ g. ap (λ xs. cond (not (is_bare e)) (e ∷ xs) xs) (bare_left p es)
          ] refl
      | false ↦ ap (λ xs. cond (not (is_bare e)) (e ∷ xs) xs) (bare_left p es)
    ]

-- and their places stay among those that are marked
pub or_rest : (b c : Bool) → b ≡ false → (b || c) ≡ true → c ≡ true
or_rest true c e f = absurd (true≢false e)
or_rest false c e f = f

flipped : (p q : ActionKey) → is_eq (place_cmp q p) ≡ true → is_eq (place_cmp p q) ≡ true
flipped p q e = ap (λ r. is_eq (place_cmp p r)) (place_exact q p e) ∙ ap is_eq (tied_itself places_total p)

pub other_way : (p q : ActionKey) → is_eq (place_cmp p q) ≡ false → is_eq (place_cmp q p) ≡ false
other_way p q e =
    elim (is_eq (place_cmp q p)) as (λ b. is_eq (place_cmp q p) ≡ b → b ≡ false) [
      | true ↦ λ f. absurd (true≢false (sym (flipped p q f) ∙ e))
      | false ↦ λ f. refl
    ] refl

pub marked_left : (p : ActionKey) (ps : List ActionKey) (es : PlacedActions) → AreByPlace es → AllMarked (p ∷ ps) es → AllMarked ps (without_bare p es)
marked_left p ps [] s h = λ k d lt. absurd (omega (arith, lt))
marked_left p ps (e ∷ es) s h =
    elim (is_eq (place_cmp p e.0)) as (λ b. is_eq (place_cmp p e.0) ≡ b → AllMarked ps (if b && is_bare e then es else e ∷ without_bare p es)) [
      | true ↦ λ f.
          let later = marked_behind p ps es (after_equal p e.0 (keys_of es) f s) (All-tail (λ e. is_bare e ≡ true → has_place (p ∷ ps) e.0 ≡ true) e es h) in
          elim (is_bare e) as (λ c. is_bare e ≡ c → AllMarked ps (if c then es else e ∷ without_bare p es)) [
            | true ↦ λ g. later
            | false ↦ λ g.
                All-cons (λ e. is_bare e ≡ true → has_place ps e.0 ≡ true) e (without_bare p es)
                (λ i. absurd (true≢false (sym i ∙ g)))
                (marked_left p ps es (sorted_tail place_cmp e.0 (keys_of es) s) (All-tail (λ e. is_bare e ≡ true → has_place (p ∷ ps) e.0 ≡ true) e es h))
          ] refl
      | false ↦ λ f.
          All-cons (λ e. is_bare e ≡ true → has_place ps e.0 ≡ true) e (without_bare p es)
          (λ i. or_rest (is_eq (place_cmp e.0 p)) (has_place ps e.0) (other_way p e.0 f) (All-head (λ e. is_bare e ≡ true → has_place (p ∷ ps) e.0 ≡ true) e es h i))
          (marked_left p ps es (sorted_tail place_cmp e.0 (keys_of es) s) (All-tail (λ e. is_bare e ≡ true → has_place (p ∷ ps) e.0 ≡ true) e es h))
    ] refl
  where
    marked_behind : (p : ActionKey) (ps : List ActionKey) (es : PlacedActions) → All (λ r. place_cmp p r ≡ Less) (keys_of es)
        → AllMarked (p ∷ ps) es → AllMarked ps es
    marked_behind p ps [] less h = λ k d lt. absurd (omega (arith, lt))
    marked_behind p ps (e ∷ es) less h =
        All-cons (λ e. is_bare e ≡ true → has_place ps e.0 ≡ true) e es
        (λ i. or_rest (is_eq (place_cmp e.0 p)) (has_place ps e.0)
        (other_way p e.0 (ap is_eq (All-head (λ r. place_cmp p r ≡ Less) e.0 (keys_of es) less)))
        (All-head (λ e. is_bare e ≡ true → has_place (p ∷ ps) e.0 ≡ true) e es h i))
        (marked_behind p ps es (All-tail (λ r. place_cmp p r ≡ Less) e.0 (keys_of es) less)
        (All-tail (λ e. is_bare e ≡ true → has_place (p ∷ ps) e.0 ≡ true) e es h))

-- where no place is marked, all have entries
pub all_kept : (es : PlacedActions) → AllMarked [] es → es ≡ filter (λ e. not (is_bare e)) es
all_kept [] h = refl
all_kept (e ∷ es) h =
    elim (is_bare e) as (λ b. is_bare e ≡ b → e ∷ es ≡ cond (not b) (e ∷ filter (λ x. not (is_bare x)) es) (filter (λ x. not (is_bare x)) es)) [
      | true ↦ λ g. absurd (true≢false (sym (All-head (λ e. is_bare e ≡ true → has_place [] e.0 ≡ true) e es h g)))
      | false ↦ λ g. ap (λ xs. e ∷ xs) (all_kept es (All-tail (λ e. is_bare e ≡ true → has_place [] e.0 ≡ true) e es h))
    ] refl

pub all_unmarked : (ps : List ActionKey) (es : PlacedActions) → length ps ≡ 0 → AllMarked ps es → es ≡ filter (λ e. not (is_bare e)) es
all_unmarked [] es none h = all_kept es h
all_unmarked (p ∷ ps) es none h = absurd (omega (arith, none))

-- ---- how many there are

pub removed_count : (p : ActionKey) (v : List Assignment) (n : ℕ) (es : PlacedActions) → Some v ≡ lookup (key_is (place_cmp p)) es
    → length (filter (is_of n) es) ≡ length (filter (is_of n) (remove_entry (key_is (place_cmp p)) es)) + one_if p.connection n
removed_count p v n [] h = absurd (true≢false (ap is_some h))
removed_count p v n (e ∷ es) h =
    elim (is_eq (place_cmp p e.0)) as (λ b. is_eq (place_cmp p e.0) ≡ b → Some v ≡ cond b (Some e.1) (lookup (key_is (place_cmp p)) es)
    → length (filter (is_of n) (e ∷ es)) ≡ length (filter (is_of n) (cond b es (e ∷ remove_entry (key_is (place_cmp p)) es))) + one_if p.connection n) [
      | true ↦ λ f g. one_more (e.0.connection == n) e (filter (is_of n) es)
          ∙ ap (λ m. length (filter (is_of n) es) + one_if m n) (sym (ap (λ (q : ActionKey). q.connection) (place_exact p e.0 f)))
      | false ↦ λ f g. with_one (e.0.connection == n) e (filter (is_of n) es) (filter (is_of n) (remove_entry (key_is (place_cmp p)) es)) (one_if p.connection n)
          (removed_count p v n es g)
    ] refl h
  where
    one_more : (b : Bool) (e : Entry) (xs : PlacedActions) → length (cond b (e ∷ xs) xs) ≡ length xs + (if b then 1 else 0)
    one_more true e xs = omega arith
    one_more false e xs = omega arith

    with_one : (b : Bool) (e : Entry) (xs ys : PlacedActions) (m : ℕ) → length xs ≡ length ys + m
        → length (cond b (e ∷ xs) xs) ≡ length (cond b (e ∷ ys) ys) + m
    with_one true e xs ys m h = omega (arith, h)
    with_one false e xs ys m h = h

pub counted_less : (p : ActionKey) (v : List Assignment) (old new : List (ℕ × ℕ)) (es : PlacedActions) → AreCountedBy old es whose
    → Some v ≡ lookup (key_is (place_cmp p)) es → ((n : ℕ) → count_of new n ≡ count_of old n - one_if p.connection n)
    → AreCountedBy new (remove_entry (key_is (place_cmp p)) es) whose
counted_less p v old new es counted there less n =
    less n ∙ ap (λ m. m - one_if p.connection n) (counted n ∙ removed_count p v n es there)
    ∙ gone (length (filter (is_of n) (remove_entry (key_is (place_cmp p)) es))) (one_if p.connection n)
  where
    gone : (m j : ℕ) → m + j - j ≡ m
    gone m j = omega arith

-- ---- marks

abbrev pub IsPlaceAdded : ActionKey → List ActionKey → List ActionKey → Type 0
IsPlaceAdded k old new = (q : ActionKey) → has_place new q ≡ cond (is_eq (place_cmp k q)) true (has_place old q)

pub place_kept : (k : ActionKey) (old new : List ActionKey) → IsPlaceAdded k old new → (p : ActionKey) → has_place old p ≡ true → has_place new p ≡ true
place_kept k old new e p h =
    e p ∙ elim (is_eq (place_cmp k p)) as (λ b. cond b true (has_place old p) ≡ true) [
      | true ↦ refl
      | false ↦ h
    ]

pub place_added : (k : ActionKey) (old new : List ActionKey) → IsPlaceAdded k old new → has_place new k ≡ true
place_added k old new e = e k ∙ ap (λ o. cond (is_eq o) true (has_place old k)) (tied_itself places_total k)

-- one that has no entries, taken out and counted
pub counted_bare : (p : ActionKey) (old new : List (ℕ × ℕ)) (es : PlacedActions) → AreByPlace es → AreCountedBy old es whose
    → option_map_or is_empty (lookup (key_is (place_cmp p)) es) false ≡ true
    → ((n : ℕ) → count_of new n ≡ count_of old n - one_if p.connection n) → AreCountedBy new (without_bare p es) whose
counted_bare p old new es s counted bare less =
    subst (λ xs. AreCountedBy new xs whose) (bare_taken p es s bare)
    (by_value (lookup (key_is (place_cmp p)) es) refl bare)
  where
    by_value : (r : Option (List Assignment)) → r ≡ lookup (key_is (place_cmp p)) es → option_map_or is_empty r false ≡ true
        → AreCountedBy new (remove_entry (key_is (place_cmp p)) es) whose
    by_value None e b = absurd (true≢false (sym b))
    by_value (Some v) e b = counted_less p v old new es counted e less
