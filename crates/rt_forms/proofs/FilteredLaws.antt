-- The filtered forms of a path.
use Rattle.std.proofs.Common.{◌≡◌, ◌<◌, ℕ, suc, List, [], ◌∷◌, ◌++◌, length, ◌⊎◌, inl, inr, Option, Some, None, is_some, true, false, cond, refl, sym, ap, subst, ◌∙◌, arith, append_assoc}
use mathlib.Core.Bool.{true≢false}
use Rattle.std.specs.List.{All, Contains}
use Rattle.std.proofs.lemmas.List.Elements.{All-cons, All-weaker}
use Rattle.slab.specs.Slab.{get}
use Rattle.rt_tree.specs.PathTree.{Key, Path}
use Rattle.rt_query.specs.Queries.{Query, is_filtered}
use Rattle.rt_query.specs.QueryEq.{query_eq}
use Rattle.rt_nodes.specs.Forest.{IsRow, row_at}
use Rattle.rt_nodes.specs.Walks.{IsPlace, index_in, place_in}
use Rattle.rt_nodes.specs.declared.nodes.Slot.{Slot}
use Rattle.rt_nodes.proofs.Paths.{Found, find_found, find_lacks}
use Rattle.rt_nodes.proofs.Reached.{same_some}
use Rattle.rt_forms.specs.Forms.{Forms, numbers, AreFilteredAt}
use Rattle.rt_forms.specs.inside.Trees.{Standing, Trees, Nodes, AreAt, Good, among, own, seen}
use Rattle.rt_forms.proofs.ListLaws.{Entries, own_eq, same_eq}
use Rattle.rt_forms.proofs.RowLaws.{child_found, good_child}

-- ---- of a list of them
each_among : (q : Query) (es : Entries) → (among q es ≡ []) ⊎ Contains es (q, among q es)
each_among q [] = inl refl
each_among q (e ∷ es) =
    elim (query_eq e.0 q) as (λ b. query_eq e.0 q ≡ b → (cond b e.1 (among q es) ≡ []) ⊎ Contains (e ∷ es) (q, cond b e.1 (among q es))) [
      | true ↦ λ t. inr (subst (λ (r : Query). Contains (e ∷ es) (r, e.1)) (same_eq e.0 q t) (0, omega arith, refl))
      | false ↦ λ t. elim (each_among q es) [
        | inl none ↦ inl none
        | inr there ↦ inr (suc there.0, omega (arith, there.1), there.2)
      ]
    ] refl

record IsEntry (d : Path) (es : Entries) (e : Query × List ℕ) : Type 0 where
  filtered : is_filtered e.0 ≡ true
  path : (e.0).path ≡ d
  some : 0 < length e.1
  numbers : among e.0 es ≡ e.1

only_among : (d : Path) (es : Entries) → AreAt d es → All (IsEntry d es) es
only_among d [] h = λ k x lt. absurd (omega arith)
only_among d (e ∷ es) h = All-cons (IsEntry d (e ∷ es)) e es
    (record { filtered = h.0; path = h.1; some = h.2; numbers = own_first })
    (All-weaker (IsEntry d es) (IsEntry d (e ∷ es)) later es (only_among d es h.4))
  where
    own_first : among e.0 (e ∷ es) ≡ e.1
    own_first = ap (λ b. cond b e.1 (among e.0 es)) (own_eq e.0)

    later : (x : Query × List ℕ) → IsEntry d es x → IsEntry d (e ∷ es) x
    later x h' = record {
      filtered = h'.filtered;
      path = h'.path;
      some = h'.some;
      numbers = elim (query_eq e.0 x.0) as (λ b. query_eq e.0 x.0 ≡ b → cond b e.1 (among x.0 es) ≡ x.1) [
        | true ↦ λ t.
            let none : x.1 ≡ [] = sym h'.numbers ∙ ap (λ q. among q es) (sym (same_eq e.0 x.0 t)) ∙ h.3 in
            absurd (omega (arith, h'.some, ap length none))
        | false ↦ λ t. h'.numbers
      ] refl;
    }

-- ---- what is found at a path
module _ (s : Nodes) where
  pub standing_at : (p d : Path) (o parent previous : Option ℕ) (f : Trees) (k : Key) → IsRow s o parent previous f → Good d f
      → (n : ℕ) (slot : Slot Standing) → place_in k p f ≡ Some n → get s n ≡ Some slot → AreAt (d ++ k ∷ p) slot.value.filtered
  standing_at [] d o parent previous f k h good n slot place there = of (index_in k f) refl
    where
      of : (i : Option ℕ) → index_in k f ≡ i → AreAt (d ++ k ∷ []) slot.value.filtered
      of None e = absurd (true≢false (sym (ap is_some (sym ((find_lacks f k h.sound e).place []) ∙ place))))
      of (Some m) e =
          let found : Found s k f m = find_found s o parent previous f k m h e in
          let same : m ≡ n = same_some m n (sym found.ends ∙ place) in
          let is : found.slot ≡ slot = same_some found.slot slot (sym found.there ∙ ap (get s) same ∙ there) in
          let child = good_child d k f found.slot.value (row_at s found.slot.first_child) good (child_found s o parent previous f k m found.slot h e found.there) in
          subst (λ (x : Slot Standing). AreAt (d ++ k ∷ []) x.value.filtered) is (child.1).at
  standing_at (j ∷ p) d o parent previous f k h good n slot place there =
      of (index_in k f) refl (λ m (x : Slot Standing) at deep. standing_at p (d ++ k ∷ []) x.first_child at.0 at.1 (row_at s x.first_child) j at.2 deep n slot)
    where
      of : (i : Option ℕ) → index_in k f ≡ i
          → ((m : ℕ) (x : Slot Standing) → IsPlace s x.first_child → Good (d ++ k ∷ []) (row_at s x.first_child)
          → place_in j p (row_at s x.first_child) ≡ Some n → get s n ≡ Some slot → AreAt ((d ++ k ∷ []) ++ j ∷ p) slot.value.filtered)
          → AreAt (d ++ k ∷ j ∷ p) slot.value.filtered
      of None e more = absurd (true≢false (sym (ap is_some (sym ((find_lacks f k h.sound e).place (j ∷ p)) ∙ place))))
      of (Some m) e more =
          let found : Found s k f m = find_found s o parent previous f k m h e in
          let child = good_child d k f found.slot.value (row_at s found.slot.first_child) good (child_found s o parent previous f k m found.slot h e found.there) in
          subst (λ x. AreAt x slot.value.filtered) (append_assoc d (k ∷ []) (j ∷ p))
          (more m found.slot (found.at).below child.2 (sym (found.goes j p) ∙ place) there)

-- ---- what that says of the forms
pub filtered_are : (a : Forms) (p : Path) (x : Standing) → ((q : Query) → own q x ≡ seen q p a.top (row_at a.nodes a.first)) → AreAt p x.filtered → AreFilteredAt a p x.filtered
filtered_are a p x is at = record {
  each = λ q filtered path.
      let same : among q x.filtered ≡ numbers a q = is_own q filtered path in
      subst (λ ns. (ns ≡ []) ⊎ Contains x.filtered (q, ns)) same (each_among q x.filtered);
  only = All-weaker (IsEntry p x.filtered) (λ (e : Query × List ℕ). (is_filtered e.0 ≡ true) × ((e.0).path ≡ p) × (numbers a e.0 ≡ e.1))
      (λ e h. (h.filtered, h.path, sym (is_own e.0 h.filtered h.path) ∙ h.numbers)) x.filtered (only_among p x.filtered at);
}
  where
    is_own : (q : Query) → is_filtered q ≡ true → q.path ≡ p → among q x.filtered ≡ numbers a q
    is_own q filtered path = ap (λ b. cond b (among q x.filtered) x.plain) (sym filtered) ∙ is q ∙ ap (λ z. seen q z a.top (row_at a.nodes a.first)) (sym path)

pub none_filtered : (a : Forms) (p : Path) → ((q : Query) → [] ≡ seen q p a.top (row_at a.nodes a.first)) → AreFilteredAt a p []
none_filtered a p is = record {
  each = λ q filtered path. inl (ap (λ z. seen q z a.top (row_at a.nodes a.first)) path ∙ sym (is q));
  only = λ k x lt. absurd (omega arith);
}
