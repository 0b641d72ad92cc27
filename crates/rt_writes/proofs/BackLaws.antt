-- An entry that was laid in part, and a write that is taken back.
use Rattle.std.proofs.Common.{◌≡◌, ◌==◌, ◌≤◌, ◌<◌, ℕ, Bool, true, false, cond, not, ◌&&◌, ◌||◌, List, [], ◌∷◌, ◌++◌, Some, None, is_some, refl, sym, ap, subst, ◌∙◌, arith, eqb-true, ⊎_elim, take, zero, suc}
use Rattle.std.specs.List.{All, AllPairs, find, fold, list_any}
use Rattle.std.specs.Option.{option_map_or}
use Rattle.std.specs.Ordering.{nat_cmp}
use Rattle.std.specs.BTreeMap.{BTreeMap, get}
use Rattle.std.specs.BTreeSet.{contains}
use Rattle.std.proofs.lemmas.List.Elements.{All-head, All-tail}
use Rattle.std.proofs.lemmas.List.Quantifiers.{all_pairs_push}
use Rattle.rt_tree.specs.PathTree.{Key, Path, PathTree, key_cmp, key_eq, key_eq-is, key_eq-symm, path_eq, path_eq-is, path_eq-append, null, strip}
use Rattle.rt_tree.specs.Assignments.{Assignment, is_at_or_above}
use Rattle.rt_writes.specs.Writes.{Write, assignments, overlaid, without}
use Rattle.rt_writes.specs.declared.spots.Spot.{Spot}
use Rattle.rt_writes.specs.declared.marks.Marks.{Marks}
use Rattle.rt_writes.specs.inside.Spots.{under_of, below_of, here_of, tree_at, has_here, has_under, has_full, place_at, within, is_entry, is_full, some_write, some_entry, AddsAll, ForgetsAll, AddsTrees, KeepsTrees, KeepsBut, IsMerged}
use Rattle.rt_writes.proofs.NumberLaws.{not_so, or_left, or_right, rising_of, sets, equal_itself}
use Rattle.rt_writes.proofs.SpotLaws.{rolled, here_rolled, under_rolled, below_rolled, here_in, under_in, full_in, place_in, has_place}
use Rattle.rt_writes.proofs.AtChild.{at_itself}
use Rattle.rt_writes.proofs.KeptLaws.{tree_in, less_merged, no_within}

no_both : (b c : Bool) → c ≡ false → (b && c) ≡ false
no_both true c e = e
no_both false c e = refl

-- the numbers of other writes
pub other_all : (old : Spot) (u : Marks) (id : ℕ) → ((j : ℕ) → contains nat_cmp u.all j ≡ ((id == j) || contains nat_cmp (under_of old).all j))
    → (j : ℕ) → (id == j) ≡ false → contains nat_cmp u.all j ≡ contains nat_cmp (under_of old).all j
other_all old u id h j e = h j ∙ ap (λ b. b || contains nat_cmp (under_of old).all j) e

pub other_full : (old : Spot) (u : Marks) (id : ℕ) (fills : Bool)
    → ((j : ℕ) → contains nat_cmp u.full j ≡ ((fills && (id == j)) || contains nat_cmp (under_of old).full j))
    → (j : ℕ) → (id == j) ≡ false → contains nat_cmp u.full j ≡ contains nat_cmp (under_of old).full j
other_full old u id fills h j e = h j ∙ ap (λ b. b || contains nat_cmp (under_of old).full j) (no_both fills (id == j) e)

-- ---- an entry that was laid in part
-- at this spot, while those below it are as they were
pub kept_root : (old : Spot) (h : BTreeMap ℕ ℕ) (u : Marks) (m : BTreeMap Key Spot) (keys : Path) (id : ℕ)
    → ((j : ℕ) → (path_eq keys [] && (id == j)) ≡ false → get nat_cmp h j ≡ get nat_cmp (here_of old) j)
    → ((j : ℕ) → (id == j) ≡ false → contains nat_cmp u.all j ≡ contains nat_cmp (under_of old).all j)
    → ((j : ℕ) → (id == j) ≡ false → contains nat_cmp u.full j ≡ contains nat_cmp (under_of old).full j)
    → ((x : Key) → get key_cmp m x ≡ get key_cmp (below_of old) x)
    → KeepsBut (path_eq keys) (λ q. is_at_or_above q keys) old (rolled h u m) id
kept_root old h u m keys id here under full below =
    record { here = at_here; under = at_under; full = at_full; places = at_place; trees = at_tree }
  where
    at_here : (q : Path) (j : ℕ) → (path_eq keys q && (id == j)) ≡ false → has_here (rolled h u m) q j ≡ has_here old q j
    at_here [] j e = ap (λ s. is_some (get nat_cmp s j)) (here_rolled h u m) ∙ ap is_some (here j e)
    at_here (k ∷ q) j e = ap (λ z. here_in (get key_cmp z k) q j) (below_rolled h u m) ∙ ap (λ o. here_in o q j) (below k)

    at_under : (q : Path) (j : ℕ) → (is_at_or_above q keys && (id == j)) ≡ false → has_under (rolled h u m) q j ≡ has_under old q j
    at_under [] j e = ap (λ s. contains nat_cmp s.all j) (under_rolled h u m) ∙ under j e
    at_under (k ∷ q) j e = ap (λ z. under_in (get key_cmp z k) q j) (below_rolled h u m) ∙ ap (λ o. under_in o q j) (below k)

    at_full : (q : Path) (j : ℕ) → (is_at_or_above q keys && (id == j)) ≡ false → has_full (rolled h u m) q j ≡ has_full old q j
    at_full [] j e = ap (λ s. contains nat_cmp s.full j) (under_rolled h u m) ∙ full j e
    at_full (k ∷ q) j e = ap (λ z. full_in (get key_cmp z k) q j) (below_rolled h u m) ∙ ap (λ o. full_in o q j) (below k)

    at_place : (q : Path) (j i : ℕ) → (id == j) ≡ false → place_at (rolled h u m) q j ≡ Some i → place_at old q j ≡ Some i
    at_place [] j i e f = sym (ap (λ s. get nat_cmp s j) (here_rolled h u m) ∙ here j (no_both (path_eq keys []) (id == j) e)) ∙ f
    at_place (k ∷ q) j i e f =
        sym (ap (λ z. place_in (get key_cmp z k) q j) (below_rolled h u m) ∙ ap (λ o. place_in o q j) (below k)) ∙ f

    at_tree : (q : Path) (v : PathTree) → is_at_or_above q keys ≡ false → tree_at (rolled h u m) q ≡ Some v → tree_at old q ≡ Some v
    at_tree [] v e f = cc
    at_tree (k ∷ q) v e f = sym (ap (λ z. tree_in (get key_cmp z k) q) (below_rolled h u m) ∙ ap (λ o. tree_in o q) (below k)) ∙ f

-- and below it
pub kept_below : (old : Spot) (u : Marks) (m : BTreeMap Key Spot) (k : Key) (rest : Path) (c d : Spot) (id : ℕ)
    → ((j : ℕ) → (id == j) ≡ false → contains nat_cmp u.all j ≡ contains nat_cmp (under_of old).all j)
    → ((j : ℕ) → (id == j) ≡ false → contains nat_cmp u.full j ≡ contains nat_cmp (under_of old).full j)
    → ((x : Key) → get key_cmp m x ≡ cond (key_eq k x) (Some d) (get key_cmp (below_of old) x))
    → get key_cmp (below_of old) k ≡ Some c → KeepsBut (path_eq rest) (λ q. is_at_or_above q rest) c d id
    → (keys : Path) → keys ≡ k ∷ rest → KeepsBut (path_eq keys) (λ q. is_at_or_above q keys) old (rolled (here_of old) u m) id
kept_below old u m k rest c d id under full below got h keys is =
    subst (λ p. KeepsBut (path_eq p) (λ q. is_at_or_above q p) old (rolled (here_of old) u m) id) (sym is)
    (record { here = at_here; under = at_under; full = at_full; places = at_place; trees = at_tree })
  where
    was : (x : Key) → key_eq k x ≡ true → get key_cmp (below_of old) x ≡ Some c
    was x s = ap (get key_cmp (below_of old)) (sym (key_eq-is k x s)) ∙ got

    at_here : (q : Path) (j : ℕ) → (path_eq (k ∷ rest) q && (id == j)) ≡ false → has_here (rolled (here_of old) u m) q j ≡ has_here old q j
    at_here [] j e = ap (λ s. is_some (get nat_cmp s j)) (here_rolled (here_of old) u m)
    at_here (x ∷ q) j e =
        ap (λ z. here_in (get key_cmp z x) q j) (below_rolled (here_of old) u m) ∙ ap (λ o. here_in o q j) (below x)
        ∙ elim (key_eq k x) as (λ b. key_eq k x ≡ b → (option_map_or (path_eq rest) (cond b (Some q) None) false && (id == j)) ≡ false
        → here_in (cond b (Some d) (get key_cmp (below_of old) x)) q j ≡ here_in (get key_cmp (below_of old) x) q j) [
          | true ↦ λ s f. h.here q j f ∙ sym (ap (λ o. here_in o q j) (was x s))
          | false ↦ λ s f. refl
        ] refl (ap (λ b. b && (id == j)) (sym (path_eq-append (k ∷ []) rest (x ∷ q))) ∙ e)

    at_under : (q : Path) (j : ℕ) → (is_at_or_above q (k ∷ rest) && (id == j)) ≡ false → has_under (rolled (here_of old) u m) q j ≡ has_under old q j
    at_under [] j e = ap (λ s. contains nat_cmp s.all j) (under_rolled (here_of old) u m) ∙ under j e
    at_under (x ∷ q) j e =
        ap (λ z. under_in (get key_cmp z x) q j) (below_rolled (here_of old) u m) ∙ ap (λ o. under_in o q j) (below x)
        ∙ elim (key_eq k x) as (λ b. key_eq k x ≡ b → (is_some (cond b (strip q rest) None) && (id == j)) ≡ false
        → under_in (cond b (Some d) (get key_cmp (below_of old) x)) q j ≡ under_in (get key_cmp (below_of old) x) q j) [
          | true ↦ λ s f. h.under q j f ∙ sym (ap (λ o. under_in o q j) (was x s))
          | false ↦ λ s f. refl
        ] refl (ap (λ b. is_some (cond b (strip q rest) None) && (id == j)) (key_eq-symm k x) ∙ e)

    at_full : (q : Path) (j : ℕ) → (is_at_or_above q (k ∷ rest) && (id == j)) ≡ false → has_full (rolled (here_of old) u m) q j ≡ has_full old q j
    at_full [] j e = ap (λ s. contains nat_cmp s.full j) (under_rolled (here_of old) u m) ∙ full j e
    at_full (x ∷ q) j e =
        ap (λ z. full_in (get key_cmp z x) q j) (below_rolled (here_of old) u m) ∙ ap (λ o. full_in o q j) (below x)
        ∙ elim (key_eq k x) as (λ b. key_eq k x ≡ b → (is_some (cond b (strip q rest) None) && (id == j)) ≡ false
        → full_in (cond b (Some d) (get key_cmp (below_of old) x)) q j ≡ full_in (get key_cmp (below_of old) x) q j) [
          | true ↦ λ s f. h.full q j f ∙ sym (ap (λ o. full_in o q j) (was x s))
          | false ↦ λ s f. refl
        ] refl (ap (λ b. is_some (cond b (strip q rest) None) && (id == j)) (key_eq-symm k x) ∙ e)

    at_place : (q : Path) (j i : ℕ) → (id == j) ≡ false → place_at (rolled (here_of old) u m) q j ≡ Some i → place_at old q j ≡ Some i
    at_place [] j i e f = sym (ap (λ s. get nat_cmp s j) (here_rolled (here_of old) u m)) ∙ f
    at_place (x ∷ q) j i e f =
        elim (key_eq k x) as (λ b. key_eq k x ≡ b → place_in (cond b (Some d) (get key_cmp (below_of old) x)) q j ≡ Some i
        → place_in (get key_cmp (below_of old) x) q j ≡ Some i) [
          | true ↦ λ s g. ap (λ o. place_in o q j) (was x s) ∙ h.places q j i e g
          | false ↦ λ s g. g
        ] refl (sym (ap (λ z. place_in (get key_cmp z x) q j) (below_rolled (here_of old) u m) ∙ ap (λ o. place_in o q j) (below x)) ∙ f)

    at_tree : (q : Path) (v : PathTree) → is_at_or_above q (k ∷ rest) ≡ false → tree_at (rolled (here_of old) u m) q ≡ Some v → tree_at old q ≡ Some v
    at_tree [] v e f = cc
    at_tree (x ∷ q) v e f =
        elim (key_eq k x) as (λ b. key_eq k x ≡ b → is_some (cond b (strip q rest) None) ≡ false
        → tree_in (cond b (Some d) (get key_cmp (below_of old) x)) q ≡ Some v → tree_in (get key_cmp (below_of old) x) q ≡ Some v) [
          | true ↦ λ s g i. ap (λ o. tree_in o q) (was x s) ∙ h.trees q v g i
          | false ↦ λ s g i. i
        ] refl (ap (λ b. is_some (cond b (strip q rest) None)) (key_eq-symm k x) ∙ e)
        (sym (ap (λ z. tree_in (get key_cmp z x) q) (below_rolled (here_of old) u m) ∙ ap (λ o. tree_in o q) (below x)) ∙ f)

-- ---- entries that were laid, the last one in part
abbrev pub at_some : List Assignment → Path → Bool
at_some es q = list_any (λ a. path_eq a.0 q) es

abbrev pub on_some : List Assignment → Path → Bool
on_some es q = list_any (λ a. is_at_or_above q a.0) es

-- what passes of the first entries passes of all
pub some_taken : (test : Assignment → Bool) (n : ℕ) (es : List Assignment) → list_any test (take n es) ≡ true → list_any test es ≡ true
some_taken test zero es e = cc
some_taken test (suc n) [] e = cc
some_taken test (suc n) (a ∷ es) e =
    elim (test a) as (λ b. (b || list_any test (take n es)) ≡ true → (b || list_any test es) ≡ true) [
      | true ↦ λ f. refl
      | false ↦ λ f. some_taken test n es f
    ] e

-- one after another, where the second paths are among the first
no_less : (b c i : Bool) → (c ≡ true → b ≡ true) → (b && i) ≡ false → (c && i) ≡ false
no_less b true true h e = ap (λ x. x && true) (sym (h refl)) ∙ e
no_less b true false h e = refl
no_less b false i h e = refl

no_one : (b c : Bool) → (c ≡ true → b ≡ true) → b ≡ false → c ≡ false
no_one b true h e = sym (h refl) ∙ e
no_one b false h e = refl

pub kept_both : (at on at1 on1 at2 on2 : Path → Bool) (s m n : Spot) (id : ℕ)
    → ((q : Path) → at1 q ≡ true → at q ≡ true) → ((q : Path) → on1 q ≡ true → on q ≡ true)
    → ((q : Path) → at2 q ≡ true → at q ≡ true) → ((q : Path) → on2 q ≡ true → on q ≡ true)
    → KeepsBut at1 on1 s m id → KeepsBut at2 on2 m n id → KeepsBut at on s n id
kept_both at on at1 on1 at2 on2 s m n id a1 o1 a2 o2 g h = record {
  here = λ q j e. h.here q j (no_less (at q) (at2 q) (id == j) (a2 q) e) ∙ g.here q j (no_less (at q) (at1 q) (id == j) (a1 q) e);
  under = λ q j e. h.under q j (no_less (on q) (on2 q) (id == j) (o2 q) e) ∙ g.under q j (no_less (on q) (on1 q) (id == j) (o1 q) e);
  full = λ q j e. h.full q j (no_less (on q) (on2 q) (id == j) (o2 q) e) ∙ g.full q j (no_less (on q) (on1 q) (id == j) (o1 q) e);
  places = λ q j i e f. g.places q j i e (h.places q j i e f);
  trees = λ q u e f. g.trees q u (no_one (on q) (on1 q) (o1 q) e) (h.trees q u (no_one (on q) (on2 q) (o2 q) e) f);
}

-- what adds some entries keeps all else
and_first : (b c : Bool) → (b && c) ≡ true → b ≡ true
and_first true c e = refl
and_first false c e = e

full_on : (es : List Assignment) (q : Path) → list_any (λ a. is_at_or_above q a.0 && is_full a) es ≡ true → on_some es q ≡ true
full_on [] q e = e
full_on (a ∷ es) q e =
    elim (is_at_or_above q a.0 && is_full a) as (λ b. (is_at_or_above q a.0 && is_full a) ≡ b
    → (b || list_any (λ a. is_at_or_above q a.0 && is_full a) es) ≡ true → (is_at_or_above q a.0 || on_some es q) ≡ true) [
      | true ↦ λ f g. or_left (is_at_or_above q a.0) (on_some es q) (and_first (is_at_or_above q a.0) (is_full a) f)
      | false ↦ λ f g. or_right (is_at_or_above q a.0) (on_some es q) (full_on es q g)
    ] refl e

at_on : (es : List Assignment) (q : Path) → at_some es q ≡ true → on_some es q ≡ true
at_on [] q e = e
at_on (a ∷ es) q e =
    elim (path_eq a.0 q) as (λ b. path_eq a.0 q ≡ b → (b || at_some es q) ≡ true → (is_at_or_above q a.0 || on_some es q) ≡ true) [
      | true ↦ λ f g. or_left (is_at_or_above q a.0) (on_some es q) (sym (at_itself q a.0 (sym (path_eq-is a.0 q f))))
      | false ↦ λ f g. or_right (is_at_or_above q a.0) (on_some es q) (at_on es q g)
    ] refl e

pub adds_keep : (s m : Spot) (es : List Assignment) (id : ℕ) → AddsAll s m es id → AddsTrees s m es → KeepsBut (at_some es) (on_some es) s m id
adds_keep s m es id h g = record {
  here = λ q j e. h.here q j ∙ ap (λ b. b || has_here s q j) e;
  under = λ q j e. h.under q j ∙ ap (λ b. b || has_under s q j) e;
  full = λ q j e. h.full q j ∙ ap (λ b. b || has_full s q j)
      (no_less (on_some es q) (list_any (λ a. is_at_or_above q a.0 && is_full a) es) (id == j) (full_on es q) e);
  places = λ q j i e f. ⊎_elim (λ x. cc (sym (ap (λ n. n == j) x.0 ∙ equal_itself j) ∙ e)) (λ x. x) (h.places q j i f);
  trees = λ q u e f.
      let it = g q u f in
      ⊎_elim {C = tree_at s q ≡ Some u} (λ x. cc (sym (at_on es q x) ∙ e))
      (λ x. x ∙ ap Some (sym (it.1 ∙ ap (fold (overlaid q) it.0) (no_within q es e)))) it.2;
}

-- ---- a write is taken back
none_new : (test : Write → Bool) (ws : List Write) (id j : ℕ) → All (λ w. w.id < id) ws → id ≤ j → some_write test ws j ≡ false
none_new test [] id j h l = refl
none_new test (w ∷ ws) id j h l =
    let less : w.id < id = All-head (λ w. w.id < id) w ws h in
    ap (λ b. (b && test w) || some_write test ws j) (not_so (w.id == j) (λ e. let same : w.id ≡ j = eqb-true w.id j e in absurd (omega arith)))
    ∙ none_new test ws id j (All-tail (λ w. w.id < id) w ws h) l

true_one : (b : Bool) → (b && true) ≡ b
true_one true = refl
true_one false = refl

pub merged_back : (ws : List Write) (r m s : Spot) (id : ℕ) (es : List Assignment) → All (λ w. w.id < id) ws → IsMerged ws r
    → KeepsBut (at_some es) (on_some es) r m id → ForgetsAll m s es id → KeepsTrees m s es id → IsMerged ws s
merged_back ws r m s id es low h k f g = record { here = at_here; under = at_under; full = at_full; places = at_place; trees = at_tree }
  where
    none : (test : Write → Bool) (b : Bool) (j : ℕ) → (b && (id == j)) ≡ true → some_write test ws j ≡ false
    none test true j e = let same : id ≡ j = eqb-true id j e in none_new test ws id j low (omega arith)
    none test false j e = cc

    by : (test : Write → Bool) (b x y : Bool) (j : ℕ) → ((b && (id == j)) ≡ false → x ≡ y) → y ≡ some_write test ws j
        → (not (b && (id == j)) && x) ≡ some_write test ws j
    by test b x y j was is =
        elim (b && (id == j)) as (λ c. (b && (id == j)) ≡ c → (not c && x) ≡ some_write test ws j) [
          | true ↦ λ e. sym (none test b j e)
          | false ↦ λ e. was e ∙ is
        ] refl

    at_here : (q : Path) (j : ℕ) → has_here s q j ≡ some_entry (λ a. path_eq a.0 q) ws j
    at_here q j = f.here q j ∙ by (sets (λ a. path_eq a.0 q)) (at_some es q) (has_here m q j) (has_here r q j) j (k.here q j) (h.here q j)

    at_under : (q : Path) (j : ℕ) → has_under s q j ≡ some_entry (λ a. is_at_or_above q a.0) ws j
    at_under q j = f.under q j ∙ by (sets (λ a. is_at_or_above q a.0)) (on_some es q) (has_under m q j) (has_under r q j) j (k.under q j) (h.under q j)

    at_full : (q : Path) (j : ℕ) → has_full s q j ≡ some_entry (λ a. is_at_or_above q a.0 && is_full a) ws j
    at_full q j =
        f.full q j
        ∙ ap (λ t. not (list_any t es && (id == j)) && has_full m q j) (λ i a. true_one (is_at_or_above q a.0) i)
        ∙ by (sets (λ a. is_at_or_above q a.0 && is_full a)) (on_some es q) (has_full m q j) (has_full r q j) j (k.full q j) (h.full q j)

    no_place : (q : Path) (i : ℕ) → place_at s q id ≡ Some i → ⊥
    no_place q i e =
        cc (sym (ap is_some e) ∙ sym (has_place s q id) ∙ at_here q id ∙ none_new (sets (λ a. path_eq a.0 q)) ws id id low (omega arith))

    at_place : (q : Path) (j i : ℕ) → place_at s q j ≡ Some i → some_write (λ w. is_entry w.entries i q) ws j ≡ true
    at_place q j i e =
        elim (id == j) as (λ b. (id == j) ≡ b → some_write (λ w. is_entry w.entries i q) ws j ≡ true) [
          | true ↦ λ t. absurd (no_place q i (ap (place_at s q) (eqb-true id j t) ∙ e))
          | false ↦ λ t.
              ⊎_elim (λ x. absurd (no_place q i (ap (place_at s q) x.0 ∙ e))) (λ x. h.places q j i (k.places q j i t x)) (f.places q j i e)
        ] refl

    no_later : (q : Path) (j : ℕ) → id < j → has_here m q j ≡ true → ⊥
    no_later q j l e =
        cc (sym e
        ∙ k.here q j (no_both (at_some es q) (id == j) (not_so (id == j) (λ t. let same : id ≡ j = eqb-true id j t in absurd (omega arith))))
        ∙ h.here q j ∙ none_new (sets (λ a. path_eq a.0 q)) ws id j low (omega arith))

    at_tree : (q : Path) (u : PathTree) → tree_at s q ≡ Some u → u ≡ fold (overlaid q) null (within (assignments ws) q)
    at_tree q u e =
        let it = g q u e in
        ⊎_elim {C = u ≡ fold (overlaid q) null (within (assignments ws) q)} (λ x. h.trees q u (k.trees q u x it.0))
        (λ x. absurd (no_later q x.0 x.1 x.2)) it.1

-- ---- a whole write is taken back
find_new : (ws : List Write) (w : Write) → All (λ v. v.id < w.id) ws → find (λ v. v.id == w.id) (ws ++ w ∷ []) ≡ Some w
find_new [] w h = ap (λ b. cond b (Some w) None) (equal_itself w.id)
find_new (v ∷ ws) w h =
    let less : v.id < w.id = All-head (λ v. v.id < w.id) v ws h in
    ap (λ b. cond b (Some v) (find (λ v. v.id == w.id) (ws ++ w ∷ [])))
    (not_so (v.id == w.id) (λ e. let same : v.id ≡ w.id = eqb-true v.id w.id e in absurd (omega arith)))
    ∙ find_new ws w (All-tail (λ v. v.id < w.id) v ws h)

without_new : (ws : List Write) (w : Write) → All (λ v. v.id < w.id) ws → without w.id (ws ++ w ∷ []) ≡ ws
without_new [] w h = ap (λ b. cond (not b) (w ∷ []) []) (equal_itself w.id)
without_new (v ∷ ws) w h =
    let less : v.id < w.id = All-head (λ v. v.id < w.id) v ws h in
    ap (λ b. cond (not b) (v ∷ without w.id (ws ++ w ∷ [])) (without w.id (ws ++ w ∷ [])))
    (not_so (v.id == w.id) (λ e. let same : v.id ≡ w.id = eqb-true v.id w.id e in absurd (omega arith)))
    ∙ ap (λ vs. v ∷ vs) (without_new ws w (All-tail (λ v. v.id < w.id) v ws h))

pub whole_back : (ws : List Write) (m s : Spot) (id : ℕ) (es : List Assignment) → AllPairs (λ v w. v.id < w.id) ws → All (λ w. w.id < id) ws
    → IsMerged (ws ++ record { id = id; entries = es } ∷ []) m → ForgetsAll m s es id → KeepsTrees m s es id → IsMerged ws s
whole_back ws m s id es rises low h f g =
    let w : Write = record { id = id; entries = es } in
    subst (λ vs. IsMerged vs s) (without_new ws w low)
    (less_merged (ws ++ w ∷ []) m s id es f g (rising_of (ws ++ w ∷ []) (all_pairs_push (λ v w. v.id < w.id) ws w rises low)) (find_new ws w low) h)
