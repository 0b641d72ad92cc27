-- The calls that change a chain: a value comes, changes, goes, or crosses the cut.
use Rattle.std.proofs.Common.{◌≡◌, ◌≢◌, ℕ, ◌+◌, ◌≤◌, Bool, true, false, cond, List, [], ◌∷◌, ◌++◌, length, length-append, append_assoc, append-nil, refl, sym, ap, subst, ◌∙◌, arith, Option, Some, None, is_some, inl, inr}
use Rattle.std.specs.Prelude.{IfNone, OnErr, Result, Ok, Err}
use Rattle.std.specs.Option.{option_map}
use Rattle.std.specs.declared.cmp.Ordering.{Ordering}
use Rattle.std.specs.declared.cmp.Ordering.TheVariants.{Less, Greater}
use Rattle.std.specs.Ordering.{is_le, ordering_reverse}
use Rattle.std.specs.Cmp.{IsTotalOrder}
use Rattle.std.specs.List.Sorted.{IsStrictlySortedBy}
use Rattle.std.specs.BTreeMap.{insert_entry, is_at}
use Rattle.std.specs.Map.{keys_of, values_of, lookup, remove_entry}
use Rattle.slab.specs.Slab.{Slab, Updates, get}
use Rattle.rt_chain.specs.Chains.{Chain, CrossesAhead, CrossesBack, IsOther, all_in, below, half_at, half_between, head_or, in_half, is_from_first, is_to_last, last_or, slots_of}
use Rattle.rt_chain.specs.inside.Links.{IsLinked, IsRun, Pushes, is_marked, joined, kept_in, links_in, slot_after, slot_below, slot_next, slot_previous, with_mark, with_value}
use Rattle.rt_chain.specs.inside.Halves.{AreKept, AreListed, IsCut, chain_of, half_by, is_behind, is_front, places_in}
use Rattle.rt_chain.specs.declared.chain.Half.{Half}
use Rattle.rt_chain.specs.declared.chain.Half.TheVariants.{Front, Behind}
use Rattle.rt_chain.specs.declared.chain.Node.{Node}
use Rattle.rt_chain.proofs.Cuts.{Fits, Marks, Put, above_last, apart_at, both_other, from_first, last_both, last_stays, first_stays, lies, next_at, others-kept, previous_at, seen, settled, to_last}
use Rattle.rt_chain.proofs.Entries.{Above, Gap, Spot, Under, above-apart, under-apart, all-append, all-left, all-right, below_high, below_low, gap, held, insert_at, insert_between, keys-left, keys-right, lookup_at, lookup_other, places-append, places-below, places-insert, places-keys, places-length, places-remove, places-slots, remove_at, remove_other, slots-append, spot}
use Rattle.rt_chain.proofs.Nodes.{KeepsBut, inside, marked_as, next_of, pushed_at, pushed_keeps, pushed_linked, pushed_other, taken_keeps, taken_linked, taken_links, written_at, written_keeps, written_linked}
use Rattle.rt_chain.proofs.Runs.{head-append}

-- ---- the last entry, and the first
pub record Ends {K X : Type 0} (n : ℕ) (fs : List (K × (ℕ × X))) : Type 0 where
  pub rest : List (K × (ℕ × X))
  pub key : K
  pub value : X
  pub whole : fs ≡ rest ++ (key, (n, value)) ∷ []

ends_with : {K X : Type 0} (n : ℕ) (e : K × (ℕ × X)) (fs : List (K × (ℕ × X))) → last_or (Some e.1.0) (slots_of fs) ≡ Some n → Ends n (e ∷ fs)
ends_with n e [] h = record { rest = []; key = e.0; value = e.1.1; whole = ap (λ m. (e.0, (m, e.1.1)) ∷ []) (inside h) }
ends_with n e (d ∷ fs) h =
    let more = ends_with n d fs h in
    record { rest = e ∷ more.rest; key = more.key; value = more.value; whole = ap (λ xs. e ∷ xs) more.whole }

pub ends_in : {K X : Type 0} (n : ℕ) (fs : List (K × (ℕ × X))) → last_or None (slots_of fs) ≡ Some n → Ends n fs
ends_in n [] h = cc h
ends_in n (e ∷ fs) h = ends_with n e fs h

pub record Begins {K X : Type 0} (n : ℕ) (bs : List (K × (ℕ × X))) : Type 0 where
  pub key : K
  pub value : X
  pub rest : List (K × (ℕ × X))
  pub whole : bs ≡ (key, (n, value)) ∷ rest

begins_with : {K X : Type 0} (n : ℕ) (bs : List (K × (ℕ × X))) → head_or (slots_of bs) None ≡ Some n → Begins n bs
begins_with n [] h = cc h
begins_with n (e ∷ bs) h = record { key = e.0; value = e.1.1; rest = bs; whole = ap (λ m. (e.0, (m, e.1.1)) ∷ bs) (inside h) }

pub nothing_last : {K X : Type 0} (fs : List (K × (ℕ × X))) → last_or None (slots_of fs) ≡ None → fs ≡ []
nothing_last [] h = refl
nothing_last {K} {X} (e ∷ fs) h = no e fs h
  where
    no : (d : K × (ℕ × X)) (gs : List (K × (ℕ × X))) → last_or (Some d.1.0) (slots_of gs) ≡ None → e ∷ fs ≡ []
    no d [] g = cc g
    no d (x ∷ gs) g = no x gs g

pub nothing_first : {K X : Type 0} (bs : List (K × (ℕ × X))) → head_or (slots_of bs) None ≡ None → bs ≡ []
nothing_first [] h = refl
nothing_first (e ∷ bs) h = cc h

-- what holds anyway
pub if_none : {A : Type 0} (P : Type 0) (r : Option A) → P → IfNone r P
if_none P None p = p
if_none P (Some x) p = tt

pub on_err : {A E : Type 0} (P : Type 0) (r : Result A E) → P → OnErr r P
on_err P (Ok x) p = tt
on_err P (Err x) p = p

-- a removal takes the key out of the half that has it
pub record Taken {K X : Type 0} (cmp : K → K → Ordering) (k : K) (in_front in_behind : Bool) (old new : Chain K X) : Type 0 where
  pub front : new.front ≡ remove_entry (is_at (cmp k)) old.front
  pub behind : new.behind ≡ remove_entry (is_at (cmp k)) old.behind
  pub whole : all_in new ≡ remove_entry (is_at (cmp k)) (all_in old)
  pub was_front : in_front ≡ is_some (lookup (is_at (cmp k)) old.front)
  pub was_behind : in_behind ≡ is_some (lookup (is_at (cmp k)) old.behind)

-- nothing is taken out where nothing is found
pub unchanged : {K Y : Type 0} (p : K → Bool) (es : List (K × Y)) → lookup p es ≡ None → es ≡ remove_entry p es
unchanged p [] h = refl
unchanged p (e ∷ es) h =
    elim (p e.0) as (λ b. cond b (Some e.1) (lookup p es) ≡ None → e ∷ es ≡ cond b es (e ∷ remove_entry p es)) [
      | true ↦ λ g. cc g
      | false ↦ λ g. ap (λ xs. e ∷ xs) (unchanged p es g)
    ] h

pub none_left : {K Y : Type 0} (p : K → Bool) (fs bs : List (K × Y)) → lookup p (fs ++ bs) ≡ None → (lookup p fs ≡ None) × (lookup p bs ≡ None)
none_left p [] bs h = (refl, h)
none_left p (e ∷ fs) bs h =
    elim (p e.0) as (λ t. cond t (Some e.1) (lookup p (fs ++ bs)) ≡ None → (cond t (Some e.1) (lookup p fs) ≡ None) × (lookup p bs ≡ None)) [
      | true ↦ λ g. cc g
      | false ↦ λ g. none_left p fs bs g
    ] h

pub untaken : {K X : Type 0} (cmp : K → K → Ordering) (k : K) (c : Chain K X) → lookup (is_at (cmp k)) (all_in c) ≡ None → Taken cmp k false false c c
untaken cmp k c none =
    let parts = none_left (is_at (cmp k)) c.front c.behind none in
    record {
      front = unchanged (is_at (cmp k)) c.front parts.0;
      behind = unchanged (is_at (cmp k)) c.behind parts.1;
      whole = unchanged (is_at (cmp k)) (all_in c) none;
      was_front = sym (ap is_some parts.0);
      was_behind = sym (ap is_some parts.1);
    }

module _ {K X : Type 0} where
  -- the slot behind the last of some
  after_last : (s : Slab (Node X)) (places : List (K × ℕ)) (fs gs : List (K × (ℕ × X))) → IsLinked s (slots_of (fs ++ gs)) → places ≡ places_in (fs ++ gs) → slot_after s places (last_or None (slots_of fs)) ≡ head_or (slots_of gs) None
  after_last s places [] gs a is = ap (λ es. head_or (values_of es) None) is ∙ ap (λ ns. head_or ns None) (places-slots gs)
  after_last s places (e ∷ fs) gs a is = walk None e.1.0 (slots_of fs) (slots_of gs) (subst (λ ns. IsRun (links_in s) None ns None) (slots-append (e ∷ fs) gs) a.linked)
    where
      walk : (y : Option ℕ) (n : ℕ) (ns ms : List ℕ) → IsRun (links_in s) y (n ∷ ns ++ ms) None → slot_after s places (last_or (Some n) ns) ≡ head_or ms None
      walk y n [] ms h = next_of (get s n) y (head_or ms None) h.0
      walk y n (m ∷ ns) ms h = walk (Some n) m ns ms h.1

module _ {K X : Type 0} {cmp : K → K → Ordering} where
  -- the same places, where the slots are linked as they were
  relisted : {places : List (K × ℕ)} {s t : Slab (Node X)} {es ds : List (K × (ℕ × X))} → AreListed cmp places s es → places_in es ≡ places_in ds → IsLinked t (slots_of es) → AreListed cmp places t ds
  relisted {places} {s} {t} {es} {ds} a same h = record {
    rises = subst (IsStrictlySortedBy cmp) (sym (places-keys es) ∙ ap keys_of same ∙ places-keys ds) a.rises;
    places_are = a.places_are ∙ same;
    linked = subst (IsLinked t) (sym (places-slots es) ∙ ap values_of same ∙ places-slots ds) h;
  }

  -- what holds of a chain holds of what it is seen as
  pub settle : {places : List (K × ℕ)} {s : Slab (Node X)} {l f : Option ℕ} {count : ℕ} (P : Chain K X → Type 0) (c : Chain K X) → IsCut cmp places s l f count c → P c
      → IsCut cmp places s l f count (chain_of places s) × P (chain_of places s)
  settle P c a p = (settled a, subst P (sym (seen a)) p)

  module _ (o : IsTotalOrder cmp) {places : List (K × ℕ)} {s : Slab (Node X)} {l f : Option ℕ} {count : ℕ} {c : Chain K X} (a : IsCut cmp places s l f count c) (k : K) where
    -- ---- a value comes at a key that is missing
    module _ (absent : lookup (is_at (cmp k)) (all_in c) ≡ None) where
      abbrev at : Gap cmp k (all_in c)
      at = gap cmp o k (all_in c) a.all.rises absent

      below_is : slot_below (cmp k) places ≡ last_or None (slots_of at.low)
      below_is =
          let lower : below (cmp k) (all_in c) ≡ at.low =
          ap (below (cmp k)) at.whole ∙ below_low cmp k at.low at.high at.above ∙ ap (λ xs. at.low ++ xs) (below_high cmp k at.high at.under) ∙ append-nil at.low in
          ap (λ (es : List (K × ℕ)). last_or None (values_of es)) (ap (below (cmp k)) a.all.places_are ∙ places-below (cmp k) (all_in c) ∙ ap places_in lower) ∙ ap (last_or None) (places-slots at.low)

      after_is : slot_after s places (last_or None (slots_of at.low)) ≡ head_or (slots_of at.high) None
      after_is = after_last s places at.low at.high (subst (λ (es : List (K × (ℕ × X))). IsLinked s (slots_of es)) at.whole a.all.linked) (a.all.places_are ∙ ap places_in at.whole)

      module _ (n : ℕ) (x : X) (ps : List (K × ℕ)) (more : ps ≡ insert_entry cmp places k n) where
        abbrev both : List (K × (ℕ × X))
        both = at.low ++ (k, (n, x)) ∷ at.high

        put_whole : insert_entry cmp (all_in c) k (n, x) ≡ both
        put_whole = ap (λ (es : List (K × (ℕ × X))). insert_entry cmp es k (n, x)) at.whole ∙ insert_between cmp k (n, x) at.low at.high at.above at.under

        places_put : ps ≡ places_in both
        places_put = more ∙ ap (λ (es : List (K × ℕ)). insert_entry cmp es k n) a.all.places_are ∙ places-insert cmp k n x (all_in c) ∙ ap places_in put_whole

        pub room_put : count + 1 ≤ length ps
        room_put =
            omega (
              arith,
              a.count_is,
              length-append c.front c.behind,
              ap (λ (es : List (K × (ℕ × X))). length es) at.whole,
              length-append at.low at.high,
              ap (λ (es : List (K × ℕ)). length es) places_put,
              places-length both,
              length-append at.low ((k, (n, x)) ∷ at.high),
            )

      module _ (p q : Option ℕ) (before : p ≡ slot_below (cmp k) places) (after : q ≡ slot_after s places p) where
        p_is : p ≡ last_or None (slots_of at.low)
        p_is = before ∙ below_is

        q_is : q ≡ head_or (slots_of at.high) None
        q_is = after ∙ ap (slot_after s places) p_is ∙ after_is

        -- in which half the key lies
        pub put_side : (at_cut half : Half) → half ≡ half_between (is_front (is_marked s) q) (is_behind (is_marked s) p) at_cut → Fits half c at.low at.high × (half ≡ half_at cmp k at_cut c)
        put_side at_cut half is =
            let side = is ∙ (λ i. half_between (is_front (is_marked s) (q_is i)) (is_behind (is_marked s) (p_is i)) at_cut) in
            let told = lies o a k at.low at.high at.whole at.above at.under at_cut in
            (subst (λ h. Fits h c at.low at.high) (sym side) told.0, side ∙ told.1)

        module _ (n : ℕ) (b : Bool) (x : X) {t : Slab (Node X)} (h : Pushes p q n b x s t) (ps : List (K × ℕ)) (more : ps ≡ insert_entry cmp places k n) (rises : IsStrictlySortedBy cmp (keys_of ps)) where
          abbrev with_it : List (K × (ℕ × X))
          with_it = at.low ++ (k, (n, x)) ∷ at.high

          listed : AreListed cmp ps t with_it
          listed = record {
            rises = subst (IsStrictlySortedBy cmp) (ap keys_of (places_put n x ps more) ∙ places-keys with_it) rises;
            places_are = places_put n x ps more;
            linked = subst (IsLinked t) (sym (slots-append at.low ((k, (n, x)) ∷ at.high)))
                (pushed_linked s t p q n b x h (slots_of at.low) (slots_of at.high) p_is q_is (subst (IsLinked s) (ap slots_of at.whole ∙ slots-append at.low at.high) a.all.linked));
          }

          other : IsOther n (slots_of c.front) × IsOther n (slots_of c.behind)
          other = both_other n c.front c.behind (pushed_other s t p q n b x h (slots_of (all_in c)) a.all.linked)

          fronts : AreKept true (kept_in t) c.front
          fronts = others-kept n (kept_in s) (kept_in t) (pushed_keeps s t p q n b x h) true c.front other.0 a.marked

          behinds : AreKept false (kept_in t) c.behind
          behinds = others-kept n (kept_in s) (kept_in t) (pushed_keeps s t p q n b x h) false c.behind other.1 a.unmarked

          pub come_front : b ≡ true → Fits Front c at.low at.high → (l' : Option ℕ) → l' ≡ cond (is_front (is_marked s) q) l (Some n) → (m : ℕ) → m ≡ count + 1
              → IsCut cmp ps t l' f m (chain_of ps t) × Put cmp k (n, x) Front c (chain_of ps t)
          come_front is fits l' last m one =
              let xs : List (K × (ℕ × X)) = fits.0 in
              let d : Chain K X = record { front = at.low ++ (k, (n, x)) ∷ xs; behind = c.behind } in
              let whole : all_in d ≡ with_it = append_assoc at.low ((k, (n, x)) ∷ xs) c.behind ∙ ap (λ ys. at.low ++ (k, (n, x)) ∷ ys) (sym fits.1.1) in
              let kept = subst (AreKept true (kept_in t)) fits.1.0 fronts in
              let under = keys-left cmp (λ j. cmp k j ≡ Less) xs c.behind (subst (λ (ys : List (K × (ℕ × X))). Under cmp k (keys_of ys)) fits.1.1 at.under) in
              let cut : IsCut cmp ps t l' f m d = record {
                all = subst (AreListed cmp ps t) (sym whole) listed;
                marked = all-append (Marks true (kept_in t)) at.low ((k, (n, x)) ∷ xs) (all-left (Marks true (kept_in t)) at.low xs kept)
                    (pushed_at s t p q n b x h ∙ ap (λ u. Some (u, x)) is, all-right (Marks true (kept_in t)) at.low xs kept);
                unmarked = behinds;
                last_is = last ∙ ap (λ y. cond (is_front (is_marked s) y) l (Some n)) (q_is ∙ ap (λ ys. head_or (slots_of ys) None) fits.1.1)
                    ∙ last_stays s l (Some n) at.low xs c.behind (a.last_is ∙ ap (λ ys. last_or None (slots_of ys)) fits.1.0) (all-right (Marks true (kept_in s)) at.low xs (subst (AreKept true (kept_in s)) fits.1.0 a.marked)) a.unmarked
                    ∙ sym (last_both s None at.low ((k, (n, x)) ∷ xs));
                first_is = a.first_is;
                count_is = omega (arith, one, a.count_is, ap (λ (ys : List (K × (ℕ × X))). length ys) fits.1.0, length-append at.low xs, length-append at.low ((k, (n, x)) ∷ xs));
              } in
              settle (Put cmp k (n, x) Front c) d cut (record {
                puts = (sym (ap (λ (ys : List (K × (ℕ × X))). insert_entry cmp ys k (n, x)) fits.1.0 ∙ insert_between cmp k (n, x) at.low xs at.above under), refl);
                whole = whole ∙ sym (put_whole n x ps more);
              })

          pub come_behind : b ≡ false → Fits Behind c at.low at.high → (f' : Option ℕ) → f' ≡ cond (is_behind (is_marked s) p) f (Some n)
              → IsCut cmp ps t l f' count (chain_of ps t) × Put cmp k (n, x) Behind c (chain_of ps t)
          come_behind is fits f' first =
              let xs : List (K × (ℕ × X)) = fits.0 in
              let d : Chain K X = record { front = c.front; behind = xs ++ (k, (n, x)) ∷ at.high } in
              let whole : all_in d ≡ with_it = sym (append_assoc c.front xs ((k, (n, x)) ∷ at.high)) ∙ ap (λ ys. ys ++ (k, (n, x)) ∷ at.high) (sym fits.1.0) in
              let kept = subst (AreKept false (kept_in t)) fits.1.1 behinds in
              let above = keys-right cmp (λ j. cmp k j ≡ Greater) c.front xs (subst (λ (ys : List (K × (ℕ × X))). Above cmp k (keys_of ys)) fits.1.0 at.above) in
              let cut : IsCut cmp ps t l f' count d = record {
                all = subst (AreListed cmp ps t) (sym whole) listed;
                marked = fronts;
                unmarked = all-append (Marks false (kept_in t)) xs ((k, (n, x)) ∷ at.high) (all-left (Marks false (kept_in t)) xs at.high kept)
                    (pushed_at s t p q n b x h ∙ ap (λ u. Some (u, x)) is, all-right (Marks false (kept_in t)) xs at.high kept);
                last_is = a.last_is;
                first_is = first ∙ ap (λ y. cond (is_behind (is_marked s) y) f (Some n)) (p_is ∙ ap (λ ys. last_or None (slots_of ys)) fits.1.0)
                    ∙ first_stays s f (Some n) c.front xs at.high (a.first_is ∙ ap (λ ys. head_or (slots_of ys) None) fits.1.1) a.marked (all-left (Marks false (kept_in s)) xs at.high (subst (AreKept false (kept_in s)) fits.1.1 a.unmarked))
                    ∙ sym (ap (λ ns. head_or ns None) (slots-append xs ((k, (n, x)) ∷ at.high)) ∙ head-append (slots_of xs) (n ∷ slots_of at.high) None);
                count_is = a.count_is;
              } in
              settle (Put cmp k (n, x) Behind c) d cut (record {
                puts = (refl, sym (ap (λ (ys : List (K × (ℕ × X))). insert_entry cmp ys k (n, x)) fits.1.1 ∙ insert_between cmp k (n, x) xs at.high above at.under));
                whole = whole ∙ sym (put_whole n x ps more);
              })

    -- ---- a key that is there
    module _ (n : ℕ) (x : X) (there : lookup (is_at (cmp k)) (all_in c) ≡ Some (n, x)) where
      abbrev here : Spot cmp k (n, x) (all_in c)
      here = spot cmp o k (n, x) (all_in c) a.all.rises there

      apart : IsOther n (slots_of here.low) × IsOther n (slots_of here.high)
      apart = apart_at s (all_in c) here.low here.high here.key n x a.all.linked here.whole

      -- where it stands: its half, by its mark and by the keys at the cut, and what that half has at the key
      pub record Stands (half : Half) : Type 0 where
        pub marked : half_by (is_marked s n) ≡ half
        pub at_cut : (h : Half) → half_at cmp k h c ≡ half
        pub is : lookup (is_at (cmp k)) (in_half half c) ≡ Some (n, x)

      stands_front : (xs : List (K × (ℕ × X))) → c.front ≡ here.low ++ (here.key, (n, x)) ∷ xs → here.high ≡ xs ++ c.behind → Stands Front
      stands_front xs u w =
          let under = keys-left cmp (λ j. cmp k j ≡ Less) xs c.behind (subst (λ (ys : List (K × (ℕ × X))). Under cmp k (keys_of ys)) w here.under) in
          let last = ap (is_to_last cmp k) u ∙ to_last cmp k here.low (here.key, (n, x)) xs (ap is_le here.same) under in
          record {
            marked = ap half_by (marked_as s n true x (all-right (Marks true (kept_in s)) here.low ((here.key, (n, x)) ∷ xs) (subst (AreKept true (kept_in s)) u a.marked)).0);
            at_cut = λ h. ap (λ t. half_between t (is_from_first cmp k c.behind) h) last;
            is = ap (lookup (is_at (cmp k))) u ∙ lookup_at cmp k here.key (n, x) here.low xs (above-apart cmp k (keys_of here.low) here.above) here.same;
          }

      stands_behind : (xs : List (K × (ℕ × X))) → here.low ≡ c.front ++ xs → c.behind ≡ xs ++ (here.key, (n, x)) ∷ here.high → Stands Behind
      stands_behind xs u w =
          let above = subst (λ (ys : List (K × (ℕ × X))). Above cmp k (keys_of ys)) u here.above in
          let over = keys-right cmp (λ j. cmp k j ≡ Greater) c.front xs above in
          let last = above_last cmp k c.front (keys-left cmp (λ j. cmp k j ≡ Greater) c.front xs above) in
          let first = ap (is_from_first cmp k) w ∙ from_first cmp k o xs (here.key, (n, x)) here.high over (inr (ap ordering_reverse here.same)) in
          record {
            marked = ap half_by (marked_as s n false x (all-right (Marks false (kept_in s)) xs ((here.key, (n, x)) ∷ here.high) (subst (AreKept false (kept_in s)) w a.unmarked)).0);
            at_cut = λ h. λ i. half_between (last i) (first i) h;
            is = ap (lookup (is_at (cmp k))) w ∙ lookup_at cmp k here.key (n, x) xs here.high (above-apart cmp k (keys_of xs) over) here.same;
          }

      pub count_take : half_by (is_marked s n) ≡ Front → 1 ≤ count
      count_take half = elim (held c.front c.behind here.low here.high (here.key, (n, x)) here.whole) [
        | inl p ↦ omega (arith, a.count_is, ap (λ (ys : List (K × (ℕ × X))). length ys) p.1.0, length-append here.low ((here.key, (n, x)) ∷ p.0))
        | inr p ↦ cc (half, (stands_behind p.0 p.1.0 p.1.1).marked)
      ]

      -- it gets another value
      module _ (y : X) (t : Slab (Node X)) (written : get t n ≡ option_map (with_value y) (get s n)) (others : (m : ℕ) → m ≢ n → get t m ≡ get s m) where
        keep : KeepsBut n (kept_in s) (kept_in t)
        keep = written_keeps s t n (with_value y) written others

        set_at : (b : Bool) → kept_in s n ≡ Some (b, x) → kept_in t n ≡ Some (b, y)
        set_at b = written_at s t n (with_value y) written others (b, x) (b, y) (λ z h. ap (λ (r : Bool × X). (r.0, y)) h)

        set_listed : AreListed cmp places t (here.low ++ (here.key, (n, y)) ∷ here.high)
        set_listed = relisted a.all (ap places_in here.whole ∙ places-append here.low ((here.key, (n, x)) ∷ here.high) ∙ sym (places-append here.low ((here.key, (n, y)) ∷ here.high)))
            (written_linked s t n (with_value y) written others (λ z. refl) (slots_of (all_in c)) a.all.linked)

        -- a half with the other value
        set_half : (b : Bool) (low high : List (K × (ℕ × X))) → IsOther n (slots_of low) → IsOther n (slots_of high) → AreKept b (kept_in s) (low ++ (here.key, (n, x)) ∷ high) → AreKept b (kept_in t) (low ++ (here.key, (n, y)) ∷ high)
        set_half b low high p q h =
            let rest = all-right (Marks b (kept_in s)) low ((here.key, (n, x)) ∷ high) h in
            all-append (Marks b (kept_in t)) low ((here.key, (n, y)) ∷ high) (others-kept n (kept_in s) (kept_in t) keep b low p (all-left (Marks b (kept_in s)) low ((here.key, (n, x)) ∷ high) h))
            (set_at b rest.0, others-kept n (kept_in s) (kept_in t) keep b high q rest.1)

        pub set_step : (half : Half) → half ≡ half_by (is_marked s n) → Stands half × (IsCut cmp places t l f count (chain_of places t) × Put cmp k (n, y) half c (chain_of places t))
        set_step half is = elim (held c.front c.behind here.low here.high (here.key, (n, x)) here.whole) [
          | inl p ↦
              let stands = stands_front p.0 p.1.0 p.1.1 in
              let d : Chain K X = record { front = here.low ++ (here.key, (n, y)) ∷ p.0; behind = c.behind } in
              let q = both_other n p.0 c.behind (subst (λ ys. IsOther n (slots_of ys)) p.1.1 apart.1) in
              let whole : all_in d ≡ here.low ++ (here.key, (n, y)) ∷ here.high = append_assoc here.low ((here.key, (n, y)) ∷ p.0) c.behind ∙ ap (λ ys. here.low ++ (here.key, (n, y)) ∷ ys) (sym p.1.1) in
              let cut : IsCut cmp places t l f count d = record {
                all = subst (AreListed cmp places t) (sym whole) set_listed;
                marked = set_half true here.low p.0 apart.0 q.0 (subst (AreKept true (kept_in s)) p.1.0 a.marked);
                unmarked = others-kept n (kept_in s) (kept_in t) keep false c.behind q.1 a.unmarked;
                last_is = a.last_is ∙ ap (λ ys. last_or None (slots_of ys)) p.1.0 ∙ ap (last_or None) (slots-append here.low ((here.key, (n, x)) ∷ p.0)) ∙ sym (ap (last_or None) (slots-append here.low ((here.key, (n, y)) ∷ p.0)));
                first_is = a.first_is;
                count_is = omega (arith, a.count_is, ap (λ (ys : List (K × (ℕ × X))). length ys) p.1.0, length-append here.low ((here.key, (n, x)) ∷ p.0), length-append here.low ((here.key, (n, y)) ∷ p.0));
              } in
              subst (λ h. Stands h × (IsCut cmp places t l f count (chain_of places t) × Put cmp k (n, y) h c (chain_of places t))) (sym (is ∙ stands.marked)) (
                stands,
                settle (Put cmp k (n, y) Front c) d cut (record {
                  puts = (sym (ap (λ (ys : List (K × (ℕ × X))). insert_entry cmp ys k (n, y)) p.1.0 ∙ insert_at cmp k here.key (n, y) (n, x) here.low p.0 here.above here.same), refl);
                  whole = whole ∙ sym set_whole;
                }),
              )
          | inr p ↦
              let stands = stands_behind p.0 p.1.0 p.1.1 in
              let d : Chain K X = record { front = c.front; behind = p.0 ++ (here.key, (n, y)) ∷ here.high } in
              let q = both_other n c.front p.0 (subst (λ ys. IsOther n (slots_of ys)) p.1.0 apart.0) in
              let whole : all_in d ≡ here.low ++ (here.key, (n, y)) ∷ here.high = sym (append_assoc c.front p.0 ((here.key, (n, y)) ∷ here.high)) ∙ ap (λ ys. ys ++ (here.key, (n, y)) ∷ here.high) (sym p.1.0) in
              let above = keys-right cmp (λ j. cmp k j ≡ Greater) c.front p.0 (subst (λ (ys : List (K × (ℕ × X))). Above cmp k (keys_of ys)) p.1.0 here.above) in
              let cut : IsCut cmp places t l f count d = record {
                all = subst (AreListed cmp places t) (sym whole) set_listed;
                marked = others-kept n (kept_in s) (kept_in t) keep true c.front q.0 a.marked;
                unmarked = set_half false p.0 here.high q.1 apart.1 (subst (AreKept false (kept_in s)) p.1.1 a.unmarked);
                last_is = a.last_is;
                first_is = a.first_is ∙ ap (λ ys. head_or (slots_of ys) None) p.1.1 ∙ ap (λ ns. head_or ns None) (slots-append p.0 ((here.key, (n, x)) ∷ here.high) ∙ sym (slots-append p.0 ((here.key, (n, y)) ∷ here.high)));
                count_is = a.count_is;
              } in
              subst (λ h. Stands h × (IsCut cmp places t l f count (chain_of places t) × Put cmp k (n, y) h c (chain_of places t))) (sym (is ∙ stands.marked)) (
                stands,
                settle (Put cmp k (n, y) Behind c) d cut (record {
                  puts = (refl, sym (ap (λ (ys : List (K × (ℕ × X))). insert_entry cmp ys k (n, y)) p.1.1 ∙ insert_at cmp k here.key (n, y) (n, x) p.0 here.high above here.same));
                  whole = whole ∙ sym set_whole;
                }),
              )
        ]
          where
            set_whole : insert_entry cmp (all_in c) k (n, y) ≡ here.low ++ (here.key, (n, y)) ∷ here.high
            set_whole = ap (λ (ys : List (K × (ℕ × X))). insert_entry cmp ys k (n, y)) here.whole ∙ insert_at cmp k here.key (n, y) (n, x) here.low here.high here.above here.same

      -- it is taken out
      module _ (z : Node X) (is : get s n ≡ Some z) (t u : Slab (Node X)) (down : Updates s t n None) (join : (m : ℕ) → get u m ≡ option_map (joined z.previous z.next m) (get t m))
          (ps : List (K × ℕ)) (less : ps ≡ remove_entry (is_at (cmp k)) places) (rises : IsStrictlySortedBy cmp (keys_of ps)) where
        kept : KeepsBut n (kept_in s) (kept_in u)
        kept = taken_keeps s t u n z is down join

        slots_here : slots_of (all_in c) ≡ slots_of here.low ++ n ∷ slots_of here.high
        slots_here = ap slots_of here.whole ∙ slots-append here.low ((here.key, (n, x)) ∷ here.high)

        ends : (z.previous ≡ last_or None (slots_of here.low)) × (z.next ≡ head_or (slots_of here.high) None)
        ends = taken_links s t u n z is down join (slots_of here.low) (slots_of here.high) (subst (IsLinked s) slots_here a.all.linked)

        less_whole : remove_entry (is_at (cmp k)) (all_in c) ≡ here.low ++ here.high
        less_whole = ap (remove_entry (is_at (cmp k))) here.whole ∙ remove_at cmp k here.key (n, x) here.low here.high (above-apart cmp k (keys_of here.low) here.above) here.same

        places_less : ps ≡ places_in (here.low ++ here.high)
        places_less = less ∙ ap (remove_entry (is_at (cmp k))) a.all.places_are ∙ places-remove (is_at (cmp k)) (all_in c) ∙ ap places_in less_whole

        less_listed : AreListed cmp ps u (here.low ++ here.high)
        less_listed = record {
          rises = subst (IsStrictlySortedBy cmp) (ap keys_of places_less ∙ places-keys (here.low ++ here.high)) rises;
          places_are = places_less;
          linked = subst (IsLinked u) (sym (slots-append here.low here.high)) (taken_linked s t u n z is down join (slots_of here.low) (slots_of here.high) (subst (IsLinked s) slots_here a.all.linked));
        }

        pub take_front : half_by (is_marked s n) ≡ Front → (l' : Option ℕ) → l' ≡ cond (is_front (is_marked u) z.next) l z.previous → (m : ℕ) → m + 1 ≡ count
            → IsCut cmp ps u l' f m (chain_of ps u) × Taken cmp k true false c (chain_of ps u)
        take_front half l' last m one = elim (held c.front c.behind here.low here.high (here.key, (n, x)) here.whole) [
          | inl p ↦
              let d : Chain K X = record { front = here.low ++ p.0; behind = c.behind } in
              let q = both_other n p.0 c.behind (subst (λ ys. IsOther n (slots_of ys)) p.1.1 apart.1) in
              let whole : all_in d ≡ here.low ++ here.high = append_assoc here.low p.0 c.behind ∙ ap (λ ys. here.low ++ ys) (sym p.1.1) in
              let was = subst (AreKept true (kept_in s)) p.1.0 a.marked in
              let low = others-kept n (kept_in s) (kept_in u) kept true here.low apart.0 (all-left (Marks true (kept_in s)) here.low ((here.key, (n, x)) ∷ p.0) was) in
              let high = others-kept n (kept_in s) (kept_in u) kept true p.0 q.0 (all-right (Marks true (kept_in s)) here.low ((here.key, (n, x)) ∷ p.0) was).1 in
              let behinds = others-kept n (kept_in s) (kept_in u) kept false c.behind q.1 a.unmarked in
              let under = keys-right cmp (λ j. cmp k j ≡ Less) p.0 c.behind (subst (λ (ys : List (K × (ℕ × X))). Under cmp k (keys_of ys)) p.1.1 here.under) in
              let below = above-apart cmp k (keys_of here.low) here.above in
              let cut : IsCut cmp ps u l' f m d = record {
                all = subst (AreListed cmp ps u) (sym whole) less_listed;
                marked = all-append (Marks true (kept_in u)) here.low p.0 low high;
                unmarked = behinds;
                last_is = last ∙ (λ i. cond (is_front (is_marked u) (ends.1 i)) l (ends.0 i)) ∙ ap (λ ys. cond (is_front (is_marked u) (head_or (slots_of ys) None)) l (last_or None (slots_of here.low))) p.1.1
                    ∙ last_stays u l (last_or None (slots_of here.low)) (here.low ++ (here.key, (n, x)) ∷ []) p.0 c.behind
                    (a.last_is ∙ ap (λ ys. last_or None (slots_of ys)) (p.1.0 ∙ sym (append_assoc here.low ((here.key, (n, x)) ∷ []) p.0))) high behinds
                    ∙ sym (last_both u None here.low p.0);
                first_is = a.first_is;
                count_is = omega (arith, one, a.count_is, ap (λ (ys : List (K × (ℕ × X))). length ys) p.1.0, length-append here.low ((here.key, (n, x)) ∷ p.0), length-append here.low p.0);
              } in
              settle (Taken cmp k true false c) d cut (record {
                front = sym (ap (remove_entry (is_at (cmp k))) p.1.0 ∙ remove_at cmp k here.key (n, x) here.low p.0 below here.same);
                behind = sym (remove_other cmp k c.behind (under-apart cmp k (keys_of c.behind) under));
                whole = whole ∙ sym less_whole;
                was_front = sym (ap (λ ys. is_some (lookup (is_at (cmp k)) ys)) p.1.0 ∙ ap is_some (lookup_at cmp k here.key (n, x) here.low p.0 below here.same));
                was_behind = sym (ap is_some (lookup_other cmp k c.behind (under-apart cmp k (keys_of c.behind) under)));
              })
          | inr p ↦ cc (half, (stands_behind p.0 p.1.0 p.1.1).marked)
        ]

        pub take_behind : half_by (is_marked s n) ≡ Behind → (f' : Option ℕ) → f' ≡ cond (is_behind (is_marked u) z.previous) f z.next
            → IsCut cmp ps u l f' count (chain_of ps u) × Taken cmp k false true c (chain_of ps u)
        take_behind half f' first = elim (held c.front c.behind here.low here.high (here.key, (n, x)) here.whole) [
          | inl p ↦ cc (half, (stands_front p.0 p.1.0 p.1.1).marked)
          | inr p ↦
              let d : Chain K X = record { front = c.front; behind = p.0 ++ here.high } in
              let q = both_other n c.front p.0 (subst (λ ys. IsOther n (slots_of ys)) p.1.0 apart.0) in
              let whole : all_in d ≡ here.low ++ here.high = sym (append_assoc c.front p.0 here.high) ∙ ap (λ ys. ys ++ here.high) (sym p.1.0) in
              let was = subst (AreKept false (kept_in s)) p.1.1 a.unmarked in
              let low = others-kept n (kept_in s) (kept_in u) kept false p.0 q.1 (all-left (Marks false (kept_in s)) p.0 ((here.key, (n, x)) ∷ here.high) was) in
              let high = others-kept n (kept_in s) (kept_in u) kept false here.high apart.1 (all-right (Marks false (kept_in s)) p.0 ((here.key, (n, x)) ∷ here.high) was).1 in
              let fronts = others-kept n (kept_in s) (kept_in u) kept true c.front q.0 a.marked in
              let above = subst (λ (ys : List (K × (ℕ × X))). Above cmp k (keys_of ys)) p.1.0 here.above in
              let over = above-apart cmp k (keys_of c.front) (keys-left cmp (λ j. cmp k j ≡ Greater) c.front p.0 above) in
              let below = above-apart cmp k (keys_of p.0) (keys-right cmp (λ j. cmp k j ≡ Greater) c.front p.0 above) in
              let cut : IsCut cmp ps u l f' count d = record {
                all = subst (AreListed cmp ps u) (sym whole) less_listed;
                marked = fronts;
                unmarked = all-append (Marks false (kept_in u)) p.0 here.high low high;
                last_is = a.last_is;
                first_is = first ∙ (λ i. cond (is_behind (is_marked u) (ends.0 i)) f (ends.1 i)) ∙ ap (λ ys. cond (is_behind (is_marked u) (last_or None (slots_of ys))) f (head_or (slots_of here.high) None)) p.1.0
                    ∙ first_stays u f (head_or (slots_of here.high) None) c.front p.0 ((here.key, (n, x)) ∷ here.high) (a.first_is ∙ ap (λ ys. head_or (slots_of ys) None) p.1.1) fronts low
                    ∙ sym (ap (λ ns. head_or ns None) (slots-append p.0 here.high) ∙ head-append (slots_of p.0) (slots_of here.high) None);
                count_is = a.count_is;
              } in
              settle (Taken cmp k false true c) d cut (record {
                front = sym (remove_other cmp k c.front over);
                behind = sym (ap (remove_entry (is_at (cmp k))) p.1.1 ∙ remove_at cmp k here.key (n, x) p.0 here.high below here.same);
                whole = whole ∙ sym less_whole;
                was_front = sym (ap is_some (lookup_other cmp k c.front over));
                was_behind = sym (ap (λ ys. is_some (lookup (is_at (cmp k)) ys)) p.1.1 ∙ ap is_some (lookup_at cmp k here.key (n, x) p.0 here.high below here.same));
              })
        ]

  -- ---- the cut moves
  module _ {places : List (K × ℕ)} {s : Slab (Node X)} {l f : Option ℕ} {count : ℕ} {c : Chain K X} (a : IsCut cmp places s l f count c) (n : ℕ) where
    pub count_back : l ≡ Some n → 1 ≤ count
    count_back is = let e = ends_in n c.front (sym a.last_is ∙ is) in omega (arith, a.count_is, ap (λ (ys : List (K × (ℕ × X))). length ys) e.whole, length-append e.rest ((e.key, (n, e.value)) ∷ []))

    module _ (b : Bool) (t : Slab (Node X)) (written : get t n ≡ option_map (with_mark b) (get s n)) (others : (m : ℕ) → m ≢ n → get t m ≡ get s m) where
      still : KeepsBut n (kept_in s) (kept_in t)
      still = written_keeps s t n (with_mark b) written others

      mark_at : (v : Bool) (x : X) → kept_in s n ≡ Some (v, x) → kept_in t n ≡ Some (b, x)
      mark_at v x = written_at s t n (with_mark b) written others (v, x) (b, x) (λ z h. ap (λ (r : Bool × X). (b, r.1)) h)

      marked_list : (ds : List (K × (ℕ × X))) → all_in c ≡ ds → AreListed cmp places t ds
      marked_list ds same = relisted a.all (ap places_in same) (written_linked s t n (with_mark b) written others (λ z. refl) (slots_of (all_in c)) a.all.linked)

      pub back_step : b ≡ false → l ≡ Some n → (l' : Option ℕ) → l' ≡ slot_previous t n → (m : ℕ) → m + 1 ≡ count
          → IsCut cmp places t l' (Some n) m (chain_of places t) × CrossesBack n c (chain_of places t)
      back_step off is l' last m one =
          let e = ends_in n c.front (sym a.last_is ∙ is) in
          let d : Chain K X = record { front = e.rest; behind = (e.key, (n, e.value)) ∷ c.behind } in
          let whole : all_in c ≡ all_in d = ap (λ ys. ys ++ c.behind) e.whole ∙ append_assoc e.rest ((e.key, (n, e.value)) ∷ []) c.behind in
          let p = apart_at s (all_in c) e.rest c.behind e.key n e.value a.all.linked whole in
          let was = subst (AreKept true (kept_in s)) e.whole a.marked in
          let list = marked_list (all_in d) whole in
          let cut : IsCut cmp places t l' (Some n) m d = record {
            all = list;
            marked = others-kept n (kept_in s) (kept_in t) still true e.rest p.0 (all-left (Marks true (kept_in s)) e.rest ((e.key, (n, e.value)) ∷ []) was);
            unmarked = (mark_at true e.value (all-right (Marks true (kept_in s)) e.rest ((e.key, (n, e.value)) ∷ []) was).0 ∙ ap (λ v. Some (v, e.value)) off, others-kept n (kept_in s) (kept_in t) still false c.behind p.1 a.unmarked);
            last_is = last ∙ previous_at t (all_in d) e.rest c.behind e.key n e.value list.linked refl;
            first_is = refl;
            count_is = omega (arith, one, a.count_is, ap (λ (ys : List (K × (ℕ × X))). length ys) e.whole, length-append e.rest ((e.key, (n, e.value)) ∷ []));
          } in
          settle (CrossesBack n c) d cut (record { one = (e.key, (n, e.value)); is = refl; was = e.whole; behind = refl })

      pub ahead_step : b ≡ true → f ≡ Some n → (f' : Option ℕ) → f' ≡ slot_next t n → (m : ℕ) → m ≡ count + 1
          → IsCut cmp places t (Some n) f' m (chain_of places t) × CrossesAhead n c (chain_of places t)
      ahead_step on is f' first m one =
          let e = begins_with n c.behind (sym a.first_is ∙ is) in
          let d : Chain K X = record { front = c.front ++ (e.key, (n, e.value)) ∷ []; behind = e.rest } in
          let split : all_in c ≡ c.front ++ (e.key, (n, e.value)) ∷ e.rest = ap (λ ys. c.front ++ ys) e.whole in
          let whole : all_in d ≡ c.front ++ (e.key, (n, e.value)) ∷ e.rest = append_assoc c.front ((e.key, (n, e.value)) ∷ []) e.rest in
          let p = apart_at s (all_in c) c.front e.rest e.key n e.value a.all.linked split in
          let was = subst (AreKept false (kept_in s)) e.whole a.unmarked in
          let list = marked_list (all_in d) (split ∙ sym whole) in
          let cut : IsCut cmp places t (Some n) f' m d = record {
            all = list;
            marked = all-append (Marks true (kept_in t)) c.front ((e.key, (n, e.value)) ∷ []) (others-kept n (kept_in s) (kept_in t) still true c.front p.0 a.marked) (mark_at false e.value was.0 ∙ ap (λ v. Some (v, e.value)) on, tt);
            unmarked = others-kept n (kept_in s) (kept_in t) still false e.rest p.1 was.1;
            last_is = sym (last_both t None c.front ((e.key, (n, e.value)) ∷ []));
            first_is = first ∙ next_at t (all_in d) c.front e.rest e.key n e.value list.linked whole;
            count_is = omega (arith, one, a.count_is, length-append c.front ((e.key, (n, e.value)) ∷ []));
          } in
          settle (CrossesAhead n c) d cut (record { one = (e.key, (n, e.value)); is = refl; was = e.whole; front = refl })
