-- A step that begins and ends no listener moves none at or above whose path no entry of it sits.
use Rattle.std.proofs.Common.{◌≡◌, ℕ, zero, suc, ◌+◌, ◌<◌, Bool, true, false, cond, is_some, ◌||◌, List, [], ◌∷◌, ◌++◌, length, refl, sym, ap, subst, ◌∙◌, arith, append-nil, append_assoc, Option, Some, None}
use mathlib.Core.Bool.{true≢false}
use Rattle.std.specs.List.{find, flat_map, fold, list_any, Contains}
use Rattle.std.specs.Option.{option_map_or}
use Rattle.std.proofs.lemmas.List.Folds.{list_any-append}
use Rattle.rt_tree.specs.TreeEq.{both_second}
use Rattle.rt_tree.specs.PathTree.{Key, Path, key_eq, key_eq-is}
use Rattle.rt_tree.specs.Assignments.{Assignment, do_overlap, is_at_or_above}
use Rattle.rt_query.specs.Queries.{Query}
use Rattle.rt_query.specs.Supply.{does_supply}
use Rattle.rt_cache.specs.Brought.{Brought, push, region_part, source, with_form}
use Rattle.rt_cache.specs.Canonical.{IsCanonical, Belongs}
use Rattle.rt_cache.specs.Recover.{is_moved}
use Rattle.rt_cache.proofs.Changing.{is_brought}
use Rattle.rt_cache.proofs.FilteredRuns.{calls_hold}
use Rattle.rt_cache.proofs.Among.{any_with}
use Rattle.rt_cache.proofs.Moves.{unmoved_same}
use Rattle.rt_cache.proofs.Sources.{found_all, has_it}
use Rattle.rt_world.specs.declared.step.Step.{Step}
use Rattle.rt_world.specs.World.{World, listen_of}
use Rattle.rt_world.specs.After.{kind, part_pushed, pushed, brought_after}
use Rattle.rt_world.specs.Called.{IsCalled}
use Rattle.rt_world.specs.Met.{do_meet}
use Rattle.rt_world.specs.Reached.{IsReached}
use Rattle.rt_world.specs.Refusals.{refusal}
use Rattle.rt_world.specs.Sound.{IsSound}
use Rattle.rt_world.specs.Touched.{entries_by, is_covered, is_named, children_named}
use Rattle.rt_world.specs.steps.Kind.{Part}
use Rattle.rt_world.specs.laws.Steps.{PushIsBrought}
use Rattle.rt_world.specs.laws.World.{changes_listeners}
use Rattle.rt_world.proofs.Listeners.{or_false_left, or_false_right}
use Rattle.rt_world.proofs.NamedLaws.{misses_unnamed}
use Rattle.rt_world.proofs.PushLaws.{pushes_canonical, pushes_source}
use Rattle.rt_world.proofs.TouchingLaws.{misses}

-- ---- a child that no entry names

abbrev zeros : ℕ → Key
zeros zero = []
zeros (suc n) = 0 ∷ zeros n

length_zeros : (n : ℕ) → length (zeros n) ≡ n
length_zeros zero = refl
length_zeros (suc n) = ap suc (length_zeros n)

abbrev total : List Key → ℕ
total [] = 0
total (k ∷ ks) = length k + total ks

longer : (n : ℕ) (ks : List Key) → total ks < n → list_any (key_eq (zeros n)) ks ≡ false
longer n [] lt = refl
longer n (k ∷ ks) lt =
    let whole : length k + total ks < n = lt in
    let rest : total ks < n = omega (arith, whole) in
    (λ i. other whole (key_eq (zeros n) k) refl i || longer n ks rest i)
  where
    other : length k + total ks < n → (b : Bool) → key_eq (zeros n) k ≡ b → key_eq (zeros n) k ≡ false
    other whole false e = e
    other whole true e =
        let same : length (zeros n) ≡ length k = ap length (key_eq-is (zeros n) k e) in
        let long : length (zeros n) ≡ n = length_zeros n in
        absurd (omega (arith, whole, same, long))

-- ---- what is pushed elsewhere

parts_same : (w : World) (parts : List Part) (b : Brought) (q : Query) (d : Path) → IsCanonical b → misses (q.path ++ d) (flat_map (λ (p : Part). p.1) parts)
    → source (fold (part_pushed w) b parts) q ≡ source b q
parts_same w [] b q d c h = refl
parts_same w (p ∷ parts) b q d c h =
    let split = sym (list_any-append (λ (a : Assignment). do_overlap a.0 (q.path ++ d)) p.1 (flat_map (λ (p : Part). p.1) parts)) ∙ h in
    let here = or_false_left (list_any (λ (a : Assignment). do_overlap a.0 (q.path ++ d)) p.1) (list_any (λ (a : Assignment). do_overlap a.0 (q.path ++ d)) (flat_map (λ (p : Part). p.1) parts)) split in
    parts_same w parts (part_pushed w b p) q d (kept (listen_of w p.0)) (or_false_right (list_any (λ (a : Assignment). do_overlap a.0 (q.path ++ d)) p.1) _ split)
    ∙ one (listen_of w p.0) here
  where
    pushed_by : Option Query → Brought
    pushed_by o = option_map_or (λ f. fold (push f) b p.1) o b

    kept : (o : Option Query) → IsCanonical (pushed_by o)
    kept None = c
    kept (Some f) = pushes_canonical f p.1 b c

    one : (o : Option Query) → misses (q.path ++ d) p.1 → source (pushed_by o) q ≡ source b q
    one None m = refl
    one (Some f) m = pushes_source f q d p.1 b c m

entries_flat : (xs : List Assignment) (parts : List Part) → fold (λ (entries : List Assignment) (p : Part). entries ++ p.1) xs parts ≡ xs ++ flat_map (λ (p : Part). p.1) parts
entries_flat xs [] = sym (append-nil xs)
entries_flat xs (p ∷ parts) = entries_flat (xs ++ p.1) parts ∙ append_assoc xs p.1 (flat_map (λ (r : Part). r.1) parts)

pushed_same : (w : World) (s : Step) (q : Query) (d : Path) → IsCanonical w.brought → misses (q.path ++ d) (entries_by w s) → source (pushed w s) q ≡ source w.brought q
pushed_same w (Step.Data tag path tree) q d c h = parts_same w (kind (Step.Data tag path tree)).parts w.brought q d c h
pushed_same w (Step.DataMerge tag entries) q d c h = parts_same w (kind (Step.DataMerge tag entries)).parts w.brought q d c (subst (misses (q.path ++ d)) (sym (append-nil entries)) h)
pushed_same w (Step.Push parts) q d c h = parts_same w parts w.brought q d c (subst (misses (q.path ++ d)) (entries_flat [] parts) h)
pushed_same w (Step.Listen seat query) q d c h = refl
pushed_same w (Step.Unlisten seat listener) q d c h = refl
pushed_same w (Step.Write seat action) q d c h = refl
pushed_same w (Step.OnDisconnect seat ending) q d c h = refl
pushed_same w (Step.Accepted id) q d c h = refl
pushed_same w (Step.Refused id why) q d c h = refl
pushed_same w (Step.Revoked tag why) q d c h = refl
pushed_same w Step.Connected q d c h = refl
pushed_same w Step.Disconnected q d c h = refl
pushed_same w (Step.CloseSeat seat) q d c h = refl

-- ---- a step

-- the query is not moved
pub uncovered_unmoved : PushIsBrought → (w : World) (s : Step) (q : Query) → IsSound w → IsCalled w.brought → IsReached w → refusal w s ≡ None → changes_listeners s ≡ false
    → is_covered q.path (entries_by w s) ≡ false → is_moved w.brought (brought_after w s) q ≡ false
uncovered_unmoved law w s q sound called reached free still low =
    let x = calls_hold called.calls called.allowed in
    let c = subst IsCanonical called.left x.0 in
    let names : List Key = children_named q.path (entries_by w s) in
    let k : Key = zeros (suc (total names)) in
    let unnamed : is_named q.path (entries_by w s) k ≡ false = longer (suc (total names)) names (omega arith) in
    let same = pushed_same w s q (k ∷ []) c (misses_unnamed q.path k (entries_by w s) low unnamed) in
    unmoved_same w.brought (brought_after w s) q (is_brought w.brought c (subst Belongs called.left x.1))
    (ap (λ (b : Brought). source b q) (law w s sound called reached free still) ∙ same)

-- what no entry meets none covers
pub unmet_uncovered : (p : Path) (entries : List Assignment) → do_meet entries p ≡ false → is_covered p entries ≡ false
unmet_uncovered p [] h = refl
unmet_uncovered p (a ∷ entries) h =
    let here : do_overlap a.0 p ≡ false = or_false_left (do_overlap a.0 p) (do_meet entries p) h in
    (λ i. or_false_left (is_at_or_above a.0 p) (is_at_or_above p a.0) here i || unmet_uncovered p entries (or_false_right (do_overlap a.0 p) (do_meet entries p) h) i)

-- ---- a new listener

find_more : {X : Type 0} (p : X → Bool) (xs : List X) (x : X) → (p x ≡ true → list_any p xs ≡ true) → find p (xs ++ x ∷ []) ≡ find p xs
find_more p [] x h = at (p x) refl
  where
    at : (b : Bool) → p x ≡ b → cond (p x) (Some x) None ≡ None
    at true e = absurd (true≢false (sym (h e)))
    at false e = ap (λ b. cond b (Some x) None) e
find_more p (y ∷ ys) x h =
    elim (p y) as (λ b. (p x ≡ true → (b || list_any p ys) ≡ true) → cond b (Some y) (find p (ys ++ x ∷ [])) ≡ cond b (Some y) (find p ys)) [
      | true ↦ λ g. refl
      | false ↦ λ g. find_more p ys x g
    ] h

-- one form more moves no query: it has no window but where it was registered
pub registered_unmoved : (b : Brought) (f q : Query) → IsCalled b → (c : Brought) → c ≡ with_form f b → is_moved b c q ≡ false
registered_unmoved b f q h c e =
    let x = calls_hold h.calls h.allowed in
    let canonical = subst IsCanonical h.left x.0 in
    let belongs = subst Belongs h.left x.1 in
    ap (λ y. is_moved b y q) e
    ∙ unmoved_same b (with_form f b) q (is_brought b canonical belongs)
    (ap (cond (is_some (region_part b.regions q.path)) None) (find_more (has_it b.windows q) b.registered f (λ t.
    any_with (has_it b.windows q) b.registered f
    (found_all (Contains b.registered) f b.windows belongs.windows (both_second (does_supply f q) _ t)) t)))
