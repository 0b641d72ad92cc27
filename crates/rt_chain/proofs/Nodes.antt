-- Nodes that change: what the slots have, and how they are linked.
use Rattle.std.proofs.Common.{◌≡◌, ◌≢◌, ℕ, Bool, true, false, cond, List, [], ◌∷◌, ◌++◌, refl, sym, ap, subst, ◌∙◌, Option, Some, None}
use Rattle.std.specs.Prelude.{nat_eq}
use Rattle.std.proofs.lemmas.Bool.{eqb-true, eq-eqb}
use Rattle.std.specs.Option.{option_and_then, option_map, option_map_or}
use Rattle.slab.specs.Slab.{Slab, get, Updates}
use Rattle.rt_chain.specs.Chains.{IsApart, IsOther, head_or, last_or}
use Rattle.rt_chain.specs.inside.Links.{IsLinked, Pushes, is_link, is_marked, joined, kept_in, links_in}
use Rattle.rt_chain.specs.inside.Halves.{Kept}
use Rattle.rt_chain.specs.declared.chain.Node.{Node}
use Rattle.rt_chain.proofs.Runs.{JoinsTo, apart_with, apart_without, assoc_one, links_at, run_kept, run_same, run_with, run_without, turned, vacant_other}

pub inside : {A : Type 0} {a b : A} → Some a ≡ Some b → a ≡ b
inside e = cc e

differs : (m n : ℕ) → nat_eq n m ≡ false → m ≢ n
differs m n e same = cc (e, eq-eqb n m (sym same))

other_mid : (m n : ℕ) (fs gs : List ℕ) → IsOther m (fs ++ n ∷ gs) → (nat_eq m n ≡ false) × IsOther m (fs ++ gs)
other_mid m n [] gs o = o
other_mid m n (f ∷ fs) gs o = let r = other_mid m n fs gs o.1 in (r.0, (o.0, r.1))

other_with : (m n : ℕ) (fs gs : List ℕ) → nat_eq m n ≡ false → IsOther m (fs ++ gs) → IsOther m (fs ++ n ∷ gs)
other_with m n [] gs e o = (e, o)
other_with m n (f ∷ fs) gs e o = (o.0, other_with m n fs gs e o.1)

-- all slots but one have what they had
abbrev pub KeepsBut : {X : Type 0} → ℕ → Kept X → Kept X → Type 0
KeepsBut n g h = (m : ℕ) → nat_eq n m ≡ false → h m ≡ g m

module _ {X : Type 0} where
  abbrev links_of : Node X → Option ℕ × Option ℕ
  links_of x = (x.previous, x.next)

  abbrev pub kept_of : Node X → Bool × X
  kept_of x = (x.marked, x.value)

  -- ---- what a slot has
  mark_of : (o : Option (Node X)) (b : Bool) (x : X) → option_map kept_of o ≡ Some (b, x) → option_map_or (λ (y : Node X). y.marked) o false ≡ b
  mark_of None b x e = cc e
  mark_of (Some y) b x e = ap (λ (p : Bool × X). p.0) (inside e)

  pub marked_as : (s : Slab (Node X)) (n : ℕ) (b : Bool) (x : X) → kept_in s n ≡ Some (b, x) → is_marked s n ≡ b
  marked_as s n b x h = mark_of (get s n) b x h

  pub value_of : (o : Option (Node X)) (b : Bool) (x : X) → option_map kept_of o ≡ Some (b, x) → option_map (λ (y : Node X). y.value) o ≡ Some x
  value_of None b x e = cc e
  value_of (Some y) b x e = ap (λ (p : Bool × X). Some p.1) (inside e)

  pub previous_of : (o : Option (Node X)) (a b : Option ℕ) → option_map links_of o ≡ Some (a, b) → option_and_then (λ (x : Node X). x.previous) o ≡ a
  previous_of None a b h = cc h
  previous_of (Some x) a b h = ap (λ (y : Option ℕ × Option ℕ). y.0) (inside h)

  pub next_of : (o : Option (Node X)) (a b : Option ℕ) → option_map links_of o ≡ Some (a, b) → option_and_then (λ (x : Node X). x.next) o ≡ b
  next_of None a b h = cc h
  next_of (Some x) a b h = ap (λ (y : Option ℕ × Option ℕ). y.1) (inside h)

  -- ---- nodes that were linked to each other
  joins : (s t : Slab (Node X)) (p q : Option ℕ) → ((n : ℕ) → get t n ≡ option_map (joined p q n) (get s n)) → JoinsTo (links_in s) (links_in t) p q
  joins s t p q each n = ap (option_map links_of) (each n) ∙ at (get s n)
    where
      at : (o : Option (Node X)) → option_map links_of (option_map (joined p q n) o)
          ≡ option_map (λ (x : Option ℕ × Option ℕ). (cond (is_link q n) p x.0, cond (is_link p n) q x.1)) (option_map links_of o)
      at None = refl
      at (Some x) = refl

  -- a slot without a node has none once two were linked to each other
  more_none : (s t : Slab (Node X)) (p q : Option ℕ) (n : ℕ) → get t n ≡ option_map (joined p q n) (get s n) → get s n ≡ None → get t n ≡ None
  more_none s t p q n is none = is ∙ ap (option_map (joined p q n)) none

  pub kept_joined : (s t : Slab (Node X)) (p q : Option ℕ) (n : ℕ) → get t n ≡ option_map (joined p q n) (get s n) → kept_in t n ≡ kept_in s n
  kept_joined s t p q n is = ap (option_map kept_of) is ∙ at (get s n)
    where
      at : (o : Option (Node X)) → option_map kept_of (option_map (joined p q n) o) ≡ option_map kept_of o
      at None = refl
      at (Some x) = refl

  -- ---- a node with another value or another mark
  module _ (s t : Slab (Node X)) (n : ℕ) (f : Node X → Node X) (written : get t n ≡ option_map f (get s n)) (others : (m : ℕ) → m ≢ n → get t m ≡ get s m) where
    pub written_keeps : KeepsBut n (kept_in s) (kept_in t)
    written_keeps m e = ap (option_map kept_of) (others m (differs m n e))

    pub written_at : (p q : Bool × X) → ((z : Node X) → kept_of z ≡ p → kept_of (f z) ≡ q) → kept_in s n ≡ Some p → kept_in t n ≡ Some q
    written_at p q turns is = ap (option_map kept_of) written ∙ turn (get s n) is
      where
        turn : (o : Option (Node X)) → option_map kept_of o ≡ Some p → option_map kept_of (option_map f o) ≡ Some q
        turn None h = cc h
        turn (Some z) h = ap (λ (r : Bool × X). Some r) (turns z (inside h))

    pub written_linked : ((x : Node X) → links_of (f x) ≡ links_of x) → (ns : List ℕ) → IsLinked s ns → IsLinked t ns
    written_linked same ns h = record {
      linked = run_same (links_in s) (links_in t) each None ns None h.linked;
      apart = h.apart;
      whole = λ m o. gone m (h.whole m o);
    }
      where
        at : (o : Option (Node X)) → option_map links_of (option_map f o) ≡ option_map links_of o
        at None = refl
        at (Some x) = ap (λ (p : Option ℕ × Option ℕ). Some p) (same x)

        each : (m : ℕ) → links_in t m ≡ links_in s m
        each m = elim (nat_eq n m) as (λ b. nat_eq n m ≡ b → links_in t m ≡ links_in s m) [
          | true ↦ λ e. subst (λ k. links_in t k ≡ links_in s k) (eqb-true n m e) (ap (option_map links_of) written ∙ at (get s n))
          | false ↦ λ e. ap (option_map links_of) (others m (differs m n e))
        ] refl

        gone : (m : ℕ) → get s m ≡ None → get t m ≡ None
        gone m none = elim (nat_eq n m) as (λ b. nat_eq n m ≡ b → get t m ≡ None) [
          | true ↦ λ e. subst (λ k. get s k ≡ None → get t k ≡ None) (eqb-true n m e) (λ free. written ∙ ap (option_map f) free) none
          | false ↦ λ e. others m (differs m n e) ∙ none
        ] refl

  -- ---- a node that came
  module _ (s t : Slab (Node X)) (p q : Option ℕ) (n : ℕ) (b : Bool) (v : X) (h : Pushes p q n b v s t) where
    joined_twice : (m : ℕ) → kept_in t m ≡ kept_in h.mid m
    joined_twice m = kept_joined h.low t (Some n) q m (h.ended m) ∙ kept_joined h.mid h.low p (Some n) m (h.linked m)

    pub pushed_at : kept_in t n ≡ Some (b, v)
    pushed_at = joined_twice n ∙ ap (option_map kept_of) h.came.changed

    pub pushed_keeps : KeepsBut n (kept_in s) (kept_in t)
    pushed_keeps m e = joined_twice m ∙ ap (option_map kept_of) (h.came.others m (differs m n e))

    pub pushed_other : (ns : List ℕ) → IsLinked s ns → IsOther n ns
    pushed_other ns a = vacant_other (links_in s) n (ap (option_map links_of) h.vacant) None ns None a.linked

    pub pushed_linked : (fs gs : List ℕ) → p ≡ last_or None fs → q ≡ head_or gs None → IsLinked s (fs ++ gs) → IsLinked t (fs ++ n ∷ gs)
    pushed_linked fs gs before after a =
        let other = pushed_other (fs ++ gs) a in
        let kept : (m : ℕ) → nat_eq n m ≡ false → links_in h.mid m ≡ links_in s m = λ m e. ap (option_map links_of) (h.came.others m (differs m n e)) in
        let alone : links_in h.mid n ≡ Some (None, None) = ap (option_map links_of) h.came.changed in
        record {
          linked = run_with (links_in h.mid) (links_in h.low) (links_in t) fs gs n (run_kept (links_in s) (links_in h.mid) n kept None (fs ++ gs) None other a.linked) a.apart other alone
              (subst (λ y. JoinsTo (links_in h.mid) (links_in h.low) y (Some n)) before (joins h.mid h.low p (Some n) h.linked))
              (subst (λ y. JoinsTo (links_in h.low) (links_in t) (Some n) y) after (joins h.low t (Some n) q h.ended));
          apart = subst IsApart (assoc_one fs gs n) (apart_with fs gs n a.apart other);
          whole = λ m others.
              let far = other_mid m n fs gs others in
              let none : get h.mid m ≡ None = h.came.others m (λ is. differs n m far.0 (sym is)) ∙ a.whole m far.1 in
              more_none h.low t (Some n) q m (h.ended m) (more_none h.mid h.low p (Some n) m (h.linked m) none);
        }

  -- nor does room that was made beforehand
  pub pushed_from : (r s t : Slab (Node X)) (p q : Option ℕ) (n : ℕ) (b : Bool) (v : X) → ((m : ℕ) → get s m ≡ get r m) → Pushes p q n b v s t → Pushes p q n b v r t
  pushed_from r s t p q n b v same h = record {
    vacant = sym (same n) ∙ h.vacant;
    mid = h.mid;
    low = h.low;
    came = record { changed = h.came.changed; others = λ m far. h.came.others m far ∙ same m };
    linked = h.linked;
    ended = h.ended;
  }

  -- ---- a node that went
  module _ (s t u : Slab (Node X)) (n : ℕ) (x : Node X) (is : get s n ≡ Some x) (down : Updates s t n None) (join : (m : ℕ) → get u m ≡ option_map (joined x.previous x.next m) (get t m)) where
    pub taken_keeps : KeepsBut n (kept_in s) (kept_in u)
    taken_keeps m e = kept_joined t u x.previous x.next m (join m) ∙ ap (option_map kept_of) (down.others m (differs m n e))

    pub taken_links : (fs gs : List ℕ) → IsLinked s (fs ++ n ∷ gs) → (x.previous ≡ last_or None fs) × (x.next ≡ head_or gs None)
    taken_links fs gs a =
        let links : Some (x.previous, x.next) ≡ Some (last_or None fs, head_or gs None) = sym (ap (option_map links_of) is) ∙ links_at (links_in s) fs gs n a.linked in
        let pair : (x.previous, x.next) ≡ (last_or None fs, head_or gs None) = inside links in
        (ap (λ (o : Option ℕ × Option ℕ). o.0) pair, ap (λ (o : Option ℕ × Option ℕ). o.1) pair)

    pub taken_linked : (fs gs : List ℕ) → IsLinked s (fs ++ n ∷ gs) → IsLinked u (fs ++ gs)
    taken_linked fs gs a =
        let links = taken_links fs gs a in
        let kept : (m : ℕ) → nat_eq n m ≡ false → links_in t m ≡ links_in s m = λ m e. ap (option_map links_of) (down.others m (differs m n e)) in
        record {
          linked = run_without (links_in s) (links_in t) (links_in u) fs gs n a.linked a.apart kept
              (subst (λ o. JoinsTo (links_in t) (links_in u) o (head_or gs None)) links.0 (subst (λ o. JoinsTo (links_in t) (links_in u) x.previous o) links.1 (joins t u x.previous x.next join)));
          apart = (apart_without fs gs n a.apart).0;
          whole = λ m others. more_none t u x.previous x.next m (join m)
              (elim (nat_eq n m) as (λ b. nat_eq n m ≡ b → get t m ≡ None) [
                | true ↦ λ e. subst (λ k. get t k ≡ None) (eqb-true n m e) down.changed
                | false ↦ λ e. down.others m (differs m n e) ∙ a.whole m (other_with m n fs gs (turned n m e) others)
              ] refl);
        }

-- ---- slots that keep their nodes
pub same_linked : {X : Type 0} (s t : Slab (Node X)) → ((n : ℕ) → get t n ≡ get s n) → (ns : List ℕ) → IsLinked s ns → IsLinked t ns
same_linked s t same ns h = record {
  linked = run_same (links_in s) (links_in t) (λ n. ap (option_map links_of) (same n)) None ns None h.linked;
  apart = h.apart;
  whole = λ n o. same n ∙ h.whole n o;
}
