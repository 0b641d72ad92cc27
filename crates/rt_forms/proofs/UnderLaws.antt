-- All numbers at and under a path.
use Rattle.std.proofs.Common.{◌≡◌, ℕ, Bool, true, false, cond, ◌||◌, List, [], ◌∷◌, ◌++◌, Option, Some, None, refl, sym, ap, subst, ◌∙◌, append_assoc, append-nil}
use mathlib.Core.Bool.{true≢false}
use Rattle.std.specs.List.{list_any}
use Rattle.std.specs.Option.{option_map_or}
use Rattle.rt_tree.specs.PathTree.{Key, Path, key_eq, key_eq-is, key_eq-same}
use Rattle.rt_query.specs.Queries.{Query, plain, is_filtered}
use Rattle.rt_query.specs.QueryEq.{query_eq}
use Rattle.rt_query.specs.Supply.{form}
use Rattle.rt_nodes.specs.Forest.{bare, node, Sound}
use Rattle.rt_forms.specs.inside.Trees.{Standing, Trees, AreAt, among, own, seen, seen_in, child_in, IsStanding, Good, all_filtered, all_own, all_in, all_at}
use Rattle.rt_forms.proofs.RowLaws.{Child, good_child}
use Rattle.rt_forms.proofs.ListLaws.{Entries, own_eq, same_eq}
use Rattle.rt_forms.proofs.TakeLaws.{child_own}

-- ---- tests of joined lists
either_list : (a b : Bool) → (a || b) ≡ true → {A : Type 0} → (a ≡ true → A) → (b ≡ true → A) → A
either_list true b e f g = f refl
either_list false b e f g = g e

any_joined : (p : ℕ → Bool) (ms ns : List ℕ) → list_any p (ms ++ ns) ≡ (list_any p ms || list_any p ns)
any_joined p [] ns = refl
any_joined p (m ∷ ms) ns = ap (λ b. p m || b) (any_joined p ms ns) ∙ or_assoc (p m) (list_any p ms) (list_any p ns)
  where
    or_assoc : (a b c : Bool) → (a || (b || c)) ≡ ((a || b) || c)
    or_assoc true b c = refl
    or_assoc false b c = refl

or_first : (a b : Bool) → a ≡ true → (a || b) ≡ true
or_first a b e = ap (λ x. x || b) e

or_second : (a b : Bool) → b ≡ true → (a || b) ≡ true
or_second true b e = refl
or_second false b e = e

in_first : (p : ℕ → Bool) (ms ns : List ℕ) → list_any p ms ≡ true → list_any p (ms ++ ns) ≡ true
in_first p ms ns e = any_joined p ms ns ∙ or_first (list_any p ms) (list_any p ns) e

in_second : (p : ℕ → Bool) (ms ns : List ℕ) → list_any p ns ≡ true → list_any p (ms ++ ns) ≡ true
in_second p ms ns e = any_joined p ms ns ∙ or_second (list_any p ms) (list_any p ns) e

-- ---- each number of a form at or under the path is there
each_among : (p : ℕ → Bool) (q : Query) (es : Entries) → list_any p (among q es) ≡ true → list_any p (all_filtered es) ≡ true
each_among p q [] e = e
each_among p q (x ∷ es) e =
    elim (query_eq x.0 q) as (λ b. list_any p (cond b x.1 (among q es)) ≡ true → list_any p (x.1 ++ all_filtered es) ≡ true) [
      | true ↦ λ g. in_first p x.1 (all_filtered es) g
      | false ↦ λ g. in_second p x.1 (all_filtered es) (each_among p q es g)
    ] e

each_own : (p : ℕ → Bool) (q : Query) (x : Standing) → list_any p (own q x) ≡ true → list_any p (all_own x) ≡ true
each_own p q x e =
    elim (is_filtered q) as (λ b. list_any p (cond b (among q x.filtered) x.plain) ≡ true → list_any p (x.plain ++ all_filtered x.filtered) ≡ true) [
      | true ↦ λ g. in_second p x.plain (all_filtered x.filtered) (each_among p q x.filtered g)
      | false ↦ λ g. in_first p x.plain (all_filtered x.filtered) g
    ] e

in_child : (p : ℕ → Bool) (k : Key) (b : Trees) (c : Child) → child_in k b ≡ Some c → list_any p (all_own c.0 ++ all_in c.1) ≡ true → list_any p (all_in b) ≡ true
in_child p k bare c e any = cc
in_child p k (node n key x below behind) c e any =
    elim (key_eq k key) as (λ t. cond t (Some (x, below)) (child_in k behind) ≡ Some c → list_any p ((all_own x ++ all_in below) ++ all_in behind) ≡ true) [
      | true ↦ λ g. in_first p (all_own x ++ all_in below) (all_in behind) (subst (λ (d : Child). list_any p (all_own d.0 ++ all_in d.1) ≡ true) (sym (same_child (x, below) c g)) any)
      | false ↦ λ g. in_second p (all_own x ++ all_in below) (all_in behind) (in_child p k behind c g any)
    ] e
  where
    same_child : (c d : Child) → Some c ≡ Some d → c ≡ d
    same_child c d e = ap (λ o. option_map_or (λ (x : Child). x) o c) e

each_seen : (p : ℕ → Bool) (q : Query) (s : Path) (x : Standing) (b : Trees) → list_any p (seen q s x b) ≡ true → list_any p (all_own x ++ all_in b) ≡ true
each_seen p q [] x b e = in_first p (all_own x) (all_in b) (each_own p q x e)
each_seen p q (k ∷ s) x b e = in_second p (all_own x) (all_in b) (of (child_in k b) refl e (λ y c g. each_seen p q s y c g))
  where
    of : (o : Option Child) → child_in k b ≡ o → list_any p (option_map_or (λ (c : Child). seen q s c.0 c.1) o []) ≡ true
        → ((y : Standing) (c : Trees) → list_any p (seen q s y c) ≡ true → list_any p (all_own y ++ all_in c) ≡ true) → list_any p (all_in b) ≡ true
    of None is g more = absurd (true≢false (sym g))
    of (Some c) is g more = in_child p k b c is (more c.0 c.1 g)

pub each_at : (p : ℕ → Bool) (q : Query) (d s : Path) (x : Standing) (b : Trees) → list_any p (seen q (d ++ s) x b) ≡ true → list_any p (all_at d x b) ≡ true
each_at p q [] s x b e = each_seen p q s x b e
each_at p q (k ∷ d) s x b e = of (child_in k b) e (λ y c g. each_at p q d s y c g)
  where
    of : (o : Option Child) → list_any p (option_map_or (λ (c : Child). seen q (d ++ s) c.0 c.1) o []) ≡ true
        → ((y : Standing) (c : Trees) → list_any p (seen q (d ++ s) y c) ≡ true → list_any p (all_at d y c) ≡ true)
        → list_any p (option_map_or (λ (c : Child). all_at d c.0 c.1) o []) ≡ true
    of None g more = absurd (true≢false (sym g))
    of (Some c) g more = more c.0 c.1 g

-- ---- and no other
-- a form that has such a number at a path below a node
pub record Heard (p : ℕ → Bool) (d : Path) (x : Standing) (b : Trees) : Type 0 where
  pub query : Query
  pub rest : Path
  pub is_form : form query ≡ query
  pub at : query.path ≡ d ++ rest
  pub heard : list_any p (seen query rest x b) ≡ true

-- or below a row
record HeardIn (p : ℕ → Bool) (d : Path) (b : Trees) : Type 0 where
  query : Query
  key : Key
  rest : Path
  is_form : form query ≡ query
  at : query.path ≡ d ++ (key ∷ rest)
  heard : list_any p (seen_in query key rest b) ≡ true

record Among (p : ℕ → Bool) (d : Path) (es : Entries) : Type 0 where
  query : Query
  is_filtered : is_filtered query ≡ true
  at : query.path ≡ d
  heard : list_any p (among query es) ≡ true

only_among : (p : ℕ → Bool) (d : Path) (es : Entries) → AreAt d es → list_any p (all_filtered es) ≡ true → Among p d es
only_among p d [] h e = absurd (true≢false (sym e))
only_among p d (x ∷ es) h e =
    either_list (list_any p x.1) (list_any p (all_filtered es)) (sym (any_joined p x.1 (all_filtered es)) ∙ e)
    (λ g. record { query = x.0; is_filtered = h.0; at = h.1; heard = ap (λ b. list_any p (cond b x.1 (among x.0 es))) (own_eq x.0) ∙ g })
    (λ g. later (only_among p d es h.4 g))
  where
    later : Among p d es → Among p d (x ∷ es)
    later a = record {
      query = a.query;
      is_filtered = a.is_filtered;
      at = a.at;
      heard = elim (query_eq x.0 a.query) as (λ b. query_eq x.0 a.query ≡ b → list_any p (cond b x.1 (among a.query es)) ≡ true) [
        | true ↦ λ t. absurd (true≢false (sym a.heard ∙ ap (λ q. list_any p (among q es)) (sym (same_eq x.0 a.query t)) ∙ ap (list_any p) h.3))
        | false ↦ λ t. a.heard
      ] refl;
    }

only_own : (p : ℕ → Bool) (d : Path) (x : Standing) (b : Trees) → AreAt d x.filtered → list_any p (all_own x) ≡ true → Heard p d x b
only_own p d x b h e =
    either_list (list_any p x.plain) (list_any p (all_filtered x.filtered)) (sym (any_joined p x.plain (all_filtered x.filtered)) ∙ e)
    (λ g. record { query = plain d; rest = []; is_form = refl; at = sym (append-nil d); heard = g })
    (λ g.
    let a = only_among p d x.filtered h g in
    record {
      query = a.query;
      rest = [];
      is_form = ap (λ t. cond t a.query (plain (a.query).path)) a.is_filtered;
      at = a.at ∙ sym (append-nil d);
      heard = ap (λ t. list_any p (cond t (among a.query x.filtered) x.plain)) a.is_filtered ∙ a.heard;
    })

only_in : (p : ℕ → Bool) (d : Path) (b : Trees) → Good d b → Sound b → list_any p (all_in b) ≡ true → HeardIn p d b
only_in p d bare h sound e = absurd (true≢false (sym e))
only_in p d (node n key x below behind) h sound e =
    either_list (list_any p (all_own x ++ all_in below)) (list_any p (all_in behind)) (sym (any_joined p (all_own x ++ all_in below) (all_in behind)) ∙ e)
    (λ g. either_list (list_any p (all_own x)) (list_any p (all_in below)) (sym (any_joined p (all_own x) (all_in below)) ∙ g)
    (λ i. here (only_own p (d ++ key ∷ []) x below (h.1).at i))
    (λ i. under (only_in p (d ++ key ∷ []) below h.2 sound.1 i)))
    (λ g. past (only_in p d behind h.3 sound.2 g))
  where
    found : (q : Query) (s : Path) → seen_in q key s (node n key x below behind) ≡ seen q s x below
    found q s = ap (λ t. option_map_or (λ (c : Child). seen q s c.0 c.1) (cond t (Some (x, below)) (child_in key behind)) []) (key_eq-same key)

    here : Heard p (d ++ key ∷ []) x below → HeardIn p d (node n key x below behind)
    here a = record {
      query = a.query;
      key = key;
      rest = a.rest;
      is_form = a.is_form;
      at = a.at ∙ append_assoc d (key ∷ []) a.rest;
      heard = ap (list_any p) (found a.query a.rest) ∙ a.heard;
    }

    under : HeardIn p (d ++ key ∷ []) below → HeardIn p d (node n key x below behind)
    under a = record {
      query = a.query;
      key = key;
      rest = a.key ∷ a.rest;
      is_form = a.is_form;
      at = a.at ∙ append_assoc d (key ∷ []) (a.key ∷ a.rest);
      heard = ap (list_any p) (found a.query (a.key ∷ a.rest)) ∙ a.heard;
    }

    past : HeardIn p d behind → HeardIn p d (node n key x below behind)
    past a = record {
      query = a.query;
      key = a.key;
      rest = a.rest;
      is_form = a.is_form;
      at = a.at;
      heard = elim (key_eq a.key key) as (λ t. key_eq a.key key ≡ t
          → list_any p (option_map_or (λ (c : Child). seen a.query a.rest c.0 c.1) (cond t (Some (x, below)) (child_in a.key behind)) []) ≡ true) [
            | true ↦ λ t.
                let none : child_in a.key behind ≡ None = ap (λ k. child_in k behind) (key_eq-is a.key key t) ∙ child_own key behind sound.0 in
                absurd (true≢false (sym a.heard ∙ ap (λ o. list_any p (option_map_or (λ (c : Child). seen a.query a.rest c.0 c.1) o [])) none))
            | false ↦ λ t. a.heard
          ] refl;
    }

only_seen : (p : ℕ → Bool) (d : Path) (x : Standing) (b : Trees) → IsStanding d x b → Good d b → Sound b → list_any p (all_own x ++ all_in b) ≡ true → Heard p d x b
only_seen p d x b h good sound e =
    either_list (list_any p (all_own x)) (list_any p (all_in b)) (sym (any_joined p (all_own x) (all_in b)) ∙ e)
    (λ g. only_own p d x b h.at g)
    (λ g.
    let a = only_in p d b good sound g in
    record { query = a.query; rest = a.key ∷ a.rest; is_form = a.is_form; at = a.at; heard = a.heard })

sound_child : (k : Key) (b : Trees) (c : Child) → child_in k b ≡ Some c → Sound b → Sound c.1
sound_child k bare c e h = cc
sound_child k (node n key x below behind) c e h =
    elim (key_eq k key) as (λ t. cond t (Some (x, below)) (child_in k behind) ≡ Some c → Sound c.1) [
      | true ↦ λ g. subst (λ (y : Child). Sound y.1) (ap (λ o. option_map_or (λ (y : Child). y) o (x, below)) g) h.1
      | false ↦ λ g. sound_child k behind c g h.2
    ] e

-- by a path below a node that stands at d
pub record HeardAt (p : ℕ → Bool) (d s : Path) (x : Standing) (b : Trees) : Type 0 where
  pub query : Query
  pub rest : Path
  pub is_form : form query ≡ query
  pub at : query.path ≡ (d ++ s) ++ rest
  pub heard : list_any p (seen query (s ++ rest) x b) ≡ true

pub only_at : (p : ℕ → Bool) (d s : Path) (x : Standing) (b : Trees) → IsStanding d x b → Good d b → Sound b → list_any p (all_at s x b) ≡ true → HeardAt p d s x b
only_at p d [] x b h good sound e =
    let a = only_seen p d x b h good sound e in
    record { query = a.query; rest = a.rest; is_form = a.is_form; at = a.at ∙ ap (λ z. z ++ a.rest) (sym (append-nil d)); heard = a.heard }
only_at p d (k ∷ s) x b h good sound e = of (child_in k b) refl e (λ y c i j l g. only_at p (d ++ k ∷ []) s y c i j l g)
  where
    of : (o : Option Child) → child_in k b ≡ o → list_any p (option_map_or (λ (c : Child). all_at s c.0 c.1) o []) ≡ true
        → ((y : Standing) (c : Trees) → IsStanding (d ++ k ∷ []) y c → Good (d ++ k ∷ []) c → Sound c → list_any p (all_at s y c) ≡ true → HeardAt p (d ++ k ∷ []) s y c)
        → HeardAt p d (k ∷ s) x b
    of None is g more = absurd (true≢false (sym g))
    of (Some c) is g more =
        let known = good_child d k b c.0 c.1 good is in
        let a = more c.0 c.1 known.1 known.2 (sound_child k b c is sound) g in
        record {
          query = a.query;
          rest = a.rest;
          is_form = a.is_form;
          at = a.at ∙ ap (λ z. z ++ a.rest) (append_assoc d (k ∷ []) s);
          heard = ap (λ o. list_any p (option_map_or (λ (y : Child). seen a.query (s ++ a.rest) y.0 y.1) o [])) is ∙ a.heard;
        }
