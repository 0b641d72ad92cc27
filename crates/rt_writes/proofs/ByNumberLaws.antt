-- The pending writes as a map keeps them: what the map's calls are to the list of the writes.
use Rattle.std.proofs.Common.{◌≡◌, ◌==◌, ◌<◌, ◌≤◌, ℕ, zero, suc, true, false, cond, not, List, [], ◌∷◌, ◌++◌, Option, Some, None, map, nat_lt, refl, sym, ap, subst, ◌∙◌, arith, eqb-true}
use Rattle.std.specs.List.{All, find, slice_get}
use Rattle.std.specs.Cmp.{nat_eq_equiv, unsigned_tied}
use Rattle.std.specs.Ordering.{nat_cmp, is_eq, is_lt, match_ordering}
use Rattle.std.specs.declared.cmp.Ordering.TheVariants.{Less, Equal, Greater}
use Rattle.std.specs.BTreeMap.{insert_entry, is_at}
use Rattle.std.specs.Map.{keys_of, lookup, remove_entry}
use Rattle.std.specs.Option.{option_map}
use Rattle.std.proofs.lemmas.Bool.{ltb-true, lt-ltb, le-ltb}
use Rattle.std.proofs.lemmas.List.Elements.{All-cons, All-head, All-tail, All-push, All-filter}
use Rattle.std.proofs.lemmas.List.Quantifiers.{all_pairs_push}
use Rattle.std.proofs.lemmas.Map.Keys.{ge_from_not_lt}
use Rattle.rt_tree.specs.Assignments.{Assignment, have_overlap}
use Rattle.rt_writes.specs.Writes.{Write, IsShallow, entries_of, without}
use Rattle.rt_writes.specs.declared.spots.Spot.{Spot}
use Rattle.rt_writes.specs.inside.ByNumber.{write_of}
use Rattle.rt_writes.specs.inside.Spots.{ForgetsAll, KeepsTrees, IsMerged, IsPending}
use Rattle.rt_writes.proofs.NumberLaws.{Rising, After, not_so, kept_without, rising_of}
use Rattle.rt_writes.proofs.KeptLaws.{less_merged, none_without}

abbrev Entry : Type 0
Entry = ℕ × List Assignment

-- the order of numbers takes two for one where they are equal
same_number : (id k : ℕ) → is_eq (nat_cmp id k) ≡ (k == id)
same_number id k = unsigned_tied id k ∙ nat_eq_equiv.symm id k

above : (id k : ℕ) → k < id → nat_cmp id k ≡ Greater
above id k l =
    ap (λ b. cond b Less (cond (id == k) Equal Greater)) (le-ltb id k (omega arith))
    ∙ ap (λ b. cond b Equal Greater) (not_so (id == k) (λ e. let same : id ≡ k = eqb-true id k e in absurd (omega arith)))

-- ---- what is found
pub found_in : (es : List Entry) (id : ℕ)
    → find (λ w. w.id == id) (map write_of es) ≡ option_map (λ v. write_of (id, v)) (lookup (is_at (nat_cmp id)) es)
found_in [] id = refl
found_in (e ∷ es) id =
    elim (e.0 == id) as (λ b. (e.0 == id) ≡ b → is_eq (nat_cmp id e.0) ≡ b
    → cond b (Some (write_of e)) (find (λ w. w.id == id) (map write_of es))
    ≡ option_map (λ v. write_of (id, v)) (cond (is_eq (nat_cmp id e.0)) (Some e.1) (lookup (is_at (nat_cmp id)) es))) [
      | true ↦ λ s t.
          (λ i. Some (write_of (eqb-true e.0 id s i, e.1)))
          ∙ sym (ap (λ b. option_map (λ v. write_of (id, v)) (cond b (Some e.1) (lookup (is_at (nat_cmp id)) es))) t)
      | false ↦ λ s t.
          found_in es id
          ∙ sym (ap (λ b. option_map (λ v. write_of (id, v)) (cond b (Some e.1) (lookup (is_at (nat_cmp id)) es))) t)
    ] refl (same_number id e.0)

-- the entries of the write of a number are what the map has at it
pub entries_in : (es : List Entry) (id : ℕ) → lookup (is_at (nat_cmp id)) es ≡ entries_of id (map write_of es)
entries_in es id = sym (ap (option_map (λ w. w.entries)) (found_in es id) ∙ twice (lookup (is_at (nat_cmp id)) es))
  where
    twice : (o : Option (List Assignment)) → option_map (λ w. w.entries) (option_map (λ v. write_of (id, v)) o) ≡ o
    twice None = refl
    twice (Some v) = refl

-- and the write is the one that has them
pub found_at : (es : List Entry) (id : ℕ) (v : List Assignment)
    → Some v ≡ lookup (is_at (nat_cmp id)) es → find (λ w. w.id == id) (map write_of es) ≡ Some (write_of (id, v))
found_at es id v got = found_in es id ∙ ap (option_map (λ v. write_of (id, v))) (sym got)

pub found_none : (es : List Entry) (id : ℕ)
    → None ≡ lookup (is_at (nat_cmp id)) es → find (λ w. w.id == id) (map write_of es) ≡ None
found_none es id got = found_in es id ∙ ap (option_map (λ v. write_of (id, v))) (sym got)

-- what is so of all writes is so of the one that is found
pub all_found : (P : Write → Type 0) (ws : List Write) (id : ℕ) (w : Write) → All P ws → find (λ w. w.id == id) ws ≡ Some w → P w
all_found P [] id w h e = cc
all_found P (v ∷ ws) id w h e =
    elim (v.id == id) as (λ b. cond b (Some v) (find (λ w. w.id == id) ws) ≡ Some w → P w) [
      | true ↦ λ f. let is : v ≡ w = cc in subst P is (All-head P v ws h)
      | false ↦ λ f. all_found P ws id w (All-tail P v ws h) f
    ] e

-- ---- what is left
pub left_in : (es : List Entry) (id : ℕ) → Rising (map write_of es)
    → map write_of (remove_entry (is_at (nat_cmp id)) es) ≡ without id (map write_of es)
left_in [] id r = refl
left_in (e ∷ es) id r =
    elim (e.0 == id) as (λ b. (e.0 == id) ≡ b → map write_of (cond (is_eq (nat_cmp id e.0)) es (e ∷ remove_entry (is_at (nat_cmp id)) es))
    ≡ cond (not b) (write_of e ∷ without id (map write_of es)) (without id (map write_of es))) [
      | true ↦ λ s.
          ap (λ b. map write_of (cond b es (e ∷ remove_entry (is_at (nat_cmp id)) es))) (same_number id e.0 ∙ s)
          ∙ sym (none_without id (map write_of es) (subst (λ n. After n (map write_of es)) (eqb-true e.0 id s) r.0))
      | false ↦ λ s.
          ap (λ b. map write_of (cond b es (e ∷ remove_entry (is_at (nat_cmp id)) es))) (same_number id e.0 ∙ s)
          ∙ ap (λ ws. write_of e ∷ ws) (left_in es id r.1)
    ] refl

-- where none is found all stay
pub none_left : (ws : List Write) (id : ℕ) → find (λ w. w.id == id) ws ≡ None → ws ≡ without id ws
none_left [] id e = refl
none_left (w ∷ ws) id e =
    elim (w.id == id) as (λ b. cond b (Some w) (find (λ w. w.id == id) ws) ≡ None
    → w ∷ ws ≡ cond (not b) (w ∷ without id ws) (without id ws)) [
      | true ↦ λ f. cc
      | false ↦ λ f. ap (λ vs. w ∷ vs) (none_left ws id f)
    ] e

-- ---- a number above all others
pub added_in : (es : List Entry) (id : ℕ) (v : List Assignment) → All (λ w. w.id < id) (map write_of es)
    → map write_of (insert_entry nat_cmp es id v) ≡ map write_of es ++ write_of (id, v) ∷ []
added_in [] id v h = refl
added_in (e ∷ es) id v h =
    ap (λ o. map write_of (match_ordering o ((id, v) ∷ e ∷ es) ((e.0, v) ∷ es) (e ∷ insert_entry nat_cmp es id v)))
    (above id e.0 (All-head (λ w. w.id < id) (write_of e) (map write_of es) h))
    ∙ ap (λ ws. write_of e ∷ ws) (added_in es id v (All-tail (λ w. w.id < id) (write_of e) (map write_of es) h))

pub all_below : (es : List Entry) (n id : ℕ) → All (λ q. is_lt (nat_cmp n q) ≡ false) (keys_of es) → nat_lt n id ≡ true
    → All (λ w. w.id < id) (map write_of es)
all_below [] n id h t = λ k d l. absurd (omega arith)
all_below (e ∷ es) n id h t =
    let most : e.0 ≤ n = ge_from_not_lt n e.0 (All-head (λ q. is_lt (nat_cmp n q) ≡ false) e.0 (keys_of es) h) in
    let less : n < id = ltb-true n id t in
    All-cons (λ w. w.id < id) (write_of e) (map write_of es) (omega arith)
    (all_below es n id (All-tail (λ q. is_lt (nat_cmp n q) ≡ false) e.0 (keys_of es) h) t)

pub last_below : (es : List Entry) (i n id : ℕ) (v : List Assignment) → slice_get es i ≡ Some (n, v)
    → All (λ w. w.id < id) (map write_of es) → nat_lt n id ≡ true
last_below [] i n id v e h = cc
last_below (x ∷ es) zero n id v e h =
    let is : x ≡ (n, v) = cc in
    lt-ltb n id (subst (λ y. y.0 < id) is (All-head (λ w. w.id < id) (write_of x) (map write_of es) h))
last_below (x ∷ es) (suc i) n id v e h = last_below es i n id v e (All-tail (λ w. w.id < id) (write_of x) (map write_of es) h)

-- ---- the pending writes, with one more and with one less
pub pending_with : (ws : List Write) (w : Write) (before after : Spot) → IsPending ws before → All (λ v. v.id < w.id) ws
    → All IsShallow w.entries → have_overlap w.entries ≡ false → IsMerged (ws ++ w ∷ []) after → IsPending (ws ++ w ∷ []) after
pending_with ws w before after h low shallow apart tree = record {
  kept = record {
    rises = all_pairs_push (λ v w. v.id < w.id) ws w h.kept.rises low;
    shallow = All-push (λ w. All IsShallow w.entries) ws w h.kept.shallow shallow;
  };
  apart = All-push (λ w. have_overlap w.entries ≡ false) ws w h.apart apart;
  tree = tree;
}

pub pending_without : (ws : List Write) (id : ℕ) (es : List Assignment) (before after : Spot) → IsPending ws before
    → find (λ w. w.id == id) ws ≡ Some (write_of (id, es)) → ForgetsAll before after es id → KeepsTrees before after es id
    → IsPending (without id ws) after
pending_without ws id es before after h found forgets trees = record {
  kept = kept_without ws id h.kept;
  apart = All-filter (λ w. not (w.id == id)) (λ w. have_overlap w.entries ≡ false) ws h.apart;
  tree = less_merged ws before after id es forgets trees (rising_of ws h.kept.rises) found h.tree;
}
