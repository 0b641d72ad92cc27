-- What a lookup finds after a change.
use Rattle.std.proofs.Common.{◌≡◌, refl, sym, ap, ◌∙◌, List, [], ◌∷◌, Bool, true, false, cond, Some, None, Option}
use Rattle.std.specs.declared.cmp.Ordering.{Ordering}
use Rattle.std.specs.declared.cmp.Ordering.TheVariants.{Less, Equal, Greater}
use Rattle.std.specs.Ordering.{ordering_reverse, match_ordering, is_eq}
use Rattle.std.specs.Cmp.{IsTotalOrder, eq_by_cmp_equiv}
use Rattle.std.specs.BTreeMap.{insert_entry, is_at}
use Rattle.std.specs.Map.{lookup, remove_entry, keys_of}
use Rattle.std.specs.List.Sorted.{IsStrictlySortedBy}
use Rattle.std.proofs.lemmas.Map.{lookup-remove_entry}
use Rattle.std.proofs.lemmas.Map.Keys.{IsDistinct-from_sorted}
use Rattle.std.specs.List.{IsAmong}
use Rattle.std.specs.Prelude.{IfSome, suc}
use Rattle.std.specs.Option.{option_copied}
use denote.Bor.{Bor}
use Rattle.std.proofs.Common.{arith}
use Rattle.std.specs.Map.{values_of}
use Rattle.rt_map.specs.Maps.{map_of}
use Rattle.rt_map.specs.Updates.{Updates}

turned_eq : (r : Ordering) → is_eq (ordering_reverse r) ≡ is_eq r
turned_eq Less = refl
turned_eq Equal = refl
turned_eq Greater = refl

eq-is : (r : Ordering) → is_eq r ≡ true → r ≡ Equal
eq-is Less e = cc
eq-is Equal e = refl
eq-is Greater e = cc

not_greater : Equal ≡ Greater → ⊥
not_greater e = cc

cond_twice : {X : Type 0} (b : Bool) (x y z : X) → cond b x z ≡ cond b x (cond b y z)
cond_twice true x y z = refl
cond_twice false x y z = refl

cond_swap : {X : Type 0} (b c : Bool) (x y z : X) → (b ≡ true → c ≡ true → ⊥) → cond b x (cond c y z) ≡ cond c y (cond b x z)
cond_swap true true x y z n = absurd (n refl refl)
cond_swap true false x y z n = refl
cond_swap false true x y z n = refl
cond_swap false false x y z n = refl

module _ {K : Type 0} {cmp : K → K → Ordering} (o : IsTotalOrder cmp) where
  same_eq : (x y : K) → is_eq (cmp x y) ≡ is_eq (cmp y x)
  same_eq x y = ap is_eq (o.antisymm x y) ∙ turned_eq (cmp y x)

module _ {K V : Type 0} {cmp : K → K → Ordering} (o : IsTotalOrder cmp) where
  lookup_insert : (q k : K) (v : V) (es : List (K × V)) → lookup (is_at (cmp q)) (insert_entry cmp es k v) ≡ cond (is_at (cmp k) q) (Some v) (lookup (is_at (cmp q)) es)
  lookup_insert q k v [] = ap (λ b. cond b (Some v) None) (same_eq o q k)
  lookup_insert q k v (e ∷ es) =
      let found : Option V = lookup (is_at (cmp q)) es in
      elim (cmp k e.0) as (λ r. cmp k e.0 ≡ r → lookup (is_at (cmp q)) (match_ordering r ((k, v) ∷ e ∷ es) ((e.0, v) ∷ es) (e ∷ insert_entry cmp es k v)) ≡ cond (is_eq (cmp k q)) (Some v) (cond (is_eq (cmp q e.0)) (Some e.1) found)) [
        | Less ↦ λ is. ap (λ b. cond b (Some v) (cond (is_eq (cmp q e.0)) (Some e.1) found)) (same_eq o q k)
        | Equal ↦ λ is. cond_twice (is_eq (cmp q e.0)) (Some v) (Some e.1) found
            ∙ ap (λ b. cond b (Some v) (cond (is_eq (cmp q e.0)) (Some e.1) found)) (same_eq o q e.0 ∙ sym (ap is_eq (o.congr k e.0 q is)))
        | Greater ↦ λ is. ap (λ l. cond (is_eq (cmp q e.0)) (Some e.1) l) (lookup_insert q k v es)
            ∙ cond_swap (is_eq (cmp q e.0)) (is_eq (cmp k q)) (Some e.1) (Some v) found
            (λ there here. not_greater (sym (eq-is (cmp q e.0) there) ∙ sym (o.congr k q e.0 (eq-is (cmp k q) here)) ∙ is))
      ] refl

  pub updates-insert : (es : List (K × V)) (k : K) (v : V) → Updates cmp (map_of es) (map_of (insert_entry cmp es k v)) k (Some v)
  updates-insert es k v = λ q. lookup_insert q k v es

  pub updates-remove : (es : List (K × V)) (k : K) → IsStrictlySortedBy cmp (keys_of es) → Updates cmp (map_of es) (map_of (remove_entry (is_at (cmp k)) es)) k None
  updates-remove es k s = λ q. lookup-remove_entry (eq_by_cmp_equiv o) (is_at (cmp k)) (λ x y e. ap is_eq (o.congr k x y (eq-is (cmp k x) e))) q es (IsDistinct-from_sorted cmp (keys_of es) s)

module _ {K V : Type 0} where
  among : (test : K → Bool) (es : List (K × V)) (v : V) → lookup test es ≡ Some v → IsAmong (values_of es) v
  among test [] v h = cc
  among test (e ∷ es) v h =
      elim (test e.0) as (λ b. cond b (Some e.1) (lookup test es) ≡ Some v → IsAmong (e.1 ∷ values_of es) v) [
        | true ↦ λ here. (0, (omega arith, cc))
        | false ↦ λ later. let r = among test es v later in let lt = r.1.0 in (suc r.0, (omega arith, r.1.1))
      ] h

  -- a value that is found is one of the values
  pub found_is_among : (test : K → Bool) (es : List (K × V)) (r : Option (Bor V)) → option_copied r ≡ lookup test es → IfSome r (λ x. IsAmong (values_of es) x.now)
  found_is_among test es None h = tt
  found_is_among test es (Some x) h = among test es x.now (sym h)
