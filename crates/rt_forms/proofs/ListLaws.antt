-- Filtered forms with the numbers of their listeners.
use Rattle.std.proofs.Common.{◌≡◌, ℕ, zero, suc, ◌+◌, ◌==◌, Bool, true, false, cond, not, List, [], ◌∷◌, length, Option, Some, None, refl, sym, ap, subst, ◌∙◌, arith, set, get_or}
use mathlib.Core.Bool.{true≢false}
use Rattle.std.specs.List.{insert, list_any}
use Rattle.rt_nodes.proofs.Reached.{same_some}
use Rattle.std.specs.Option.{option_map}
use Rattle.rt_tree.specs.PathTree.{Path}
use Rattle.rt_query.specs.Queries.{Query, is_filtered}
use Rattle.rt_query.specs.QueryEq.{query_eq}
use Rattle.rt_query.specs.laws.QueryEq.{query_eq_tells}
use Rattle.rt_forms.specs.Numbers.{with_number}
use Rattle.rt_forms.specs.inside.Trees.{Standing, among, own, of_filtered, AreAt, alike, Gained}
use Rattle.rt_forms.specs.inside.Lists.{entry_at, IsJoined}
use Rattle.rt_forms.proofs.NumberLaws.{length_with}

abbrev pub Entries : Type 0
Entries = List (Query × List ℕ)

pub own_eq : (q : Query) → query_eq q q ≡ true
own_eq q = (query_eq_tells q q).1 refl

pub same_eq : (q r : Query) → query_eq q r ≡ true → q ≡ r
same_eq q r e = (query_eq_tells q r).0 e

-- ---- where a form stands
-- what the numbers at a place are
pub among_at : (q : Query) (es : Entries) (i : ℕ) (e : Query × List ℕ) → entry_at q es ≡ Some i → e ≡ get_or es i e → among q es ≡ e.1
among_at q [] i e = λ at there. cc
among_at q (x ∷ es) i e =
    elim (query_eq x.0 q) as (λ b. cond b (Some 0) (option_map suc (entry_at q es)) ≡ Some i → e ≡ get_or (x ∷ es) i e → cond b x.1 (among q es) ≡ e.1) [
      | true ↦ λ at there.
          let zero_is : 0 ≡ i = same_some 0 i at in
          let same : e ≡ x = there ∙ ap (λ j. get_or (x ∷ es) j e) (sym zero_is) in
          ap (λ (z : Query × List ℕ). z.1) (sym same)
      | false ↦ later (entry_at q es) refl i (λ k is there. among_at q es k e is there)
    ]
  where
    later : (o : Option ℕ) → entry_at q es ≡ o → (j : ℕ) → ((k : ℕ) → entry_at q es ≡ Some k → e ≡ get_or es k e → among q es ≡ e.1)
        → option_map suc o ≡ Some j → e ≡ get_or (x ∷ es) j e → among q es ≡ e.1
    later None is j more at there = cc
    later (Some k) is j more at there =
        let onward : suc k ≡ j = same_some (suc k) j at in
        more k is (there ∙ ap (λ m. get_or (x ∷ es) m e) (sym onward))

-- a form with a listener more, where it stands
abbrev joined : Query → ℕ → Entries → Entries
joined q n [] = (q, n ∷ []) ∷ []
joined q n (e ∷ es) = cond (query_eq e.0 q) ((e.0, with_number n e.1) ∷ es) (e ∷ joined q n es)

set_joined : (q : Query) (n : ℕ) (es : Entries) (i : ℕ) (e : Query × List ℕ) → entry_at q es ≡ Some i → e ≡ get_or es i e → set es i (e.0, with_number n e.1) ≡ joined q n es
set_joined q n [] i e = λ at there. cc
set_joined q n (x ∷ es) i e =
    elim (query_eq x.0 q) as (λ b. cond b (Some 0) (option_map suc (entry_at q es)) ≡ Some i → e ≡ get_or (x ∷ es) i e → set (x ∷ es) i (e.0, with_number n e.1) ≡ cond b ((x.0, with_number n x.1) ∷ es) (x ∷ joined q n es)) [
      | true ↦ λ at there.
          let zero_is : 0 ≡ i = same_some 0 i at in
          let same : e ≡ x = there ∙ ap (λ j. get_or (x ∷ es) j e) (sym zero_is) in
          ap (λ j. set (x ∷ es) j (e.0, with_number n e.1)) (sym zero_is)
          ∙ ap (λ (z : Query × List ℕ). (z.0, with_number n z.1) ∷ es) same
      | false ↦ later (entry_at q es) refl i (λ k is there. set_joined q n es k e is there)
    ]
  where
    later : (o : Option ℕ) → entry_at q es ≡ o → (j : ℕ) → ((k : ℕ) → entry_at q es ≡ Some k → e ≡ get_or es k e → set es k (e.0, with_number n e.1) ≡ joined q n es)
        → option_map suc o ≡ Some j → e ≡ get_or (x ∷ es) j e → set (x ∷ es) j (e.0, with_number n e.1) ≡ x ∷ joined q n es
    later None is j more at there = cc
    later (Some k) is j more at there =
        let onward : suc k ≡ j = same_some (suc k) j at in
        ap (λ m. set (x ∷ es) m (e.0, with_number n e.1)) (sym onward)
        ∙ ap (λ z. x ∷ z) (more k is (there ∙ ap (λ m. get_or (x ∷ es) m e) (sym onward)))

-- ---- a listener more
among_joined : (r : Query) (n : ℕ) (es : Entries) (q : Query) → among q (joined r n es) ≡ cond (query_eq r q) (with_number n (among q es)) (among q es)
among_joined r n [] q = refl
among_joined r n (e ∷ es) q =
    elim (query_eq e.0 r) as (λ b. query_eq e.0 r ≡ b → among q (cond b ((e.0, with_number n e.1) ∷ es) (e ∷ joined r n es)) ≡ cond (query_eq r q) (with_number n (cond (query_eq e.0 q) e.1 (among q es))) (cond (query_eq e.0 q) e.1 (among q es))) [
      | true ↦ λ g.
          let same : e.0 ≡ r = same_eq e.0 r g in
          ap (λ x. cond (query_eq x q) (with_number n e.1) (among q es)) same
          ∙ both (query_eq r q)
          ∙ ap (λ x. cond (query_eq r q) (with_number n (cond (query_eq x q) e.1 (among q es))) (cond (query_eq x q) e.1 (among q es))) (sym same)
      | false ↦ λ g.
          ap (cond (query_eq e.0 q) e.1) (among_joined r n es q)
          ∙ apart (query_eq e.0 q) (query_eq r q) (λ a b. true≢false (sym (ap (λ x. query_eq x r) (same_eq e.0 q a) ∙ ap (query_eq q) (same_eq r q b) ∙ own_eq q) ∙ g))
    ] refl
  where
    both : (b : Bool) → cond b (with_number n e.1) (among q es) ≡ cond b (with_number n (cond b e.1 (among q es))) (cond b e.1 (among q es))
    both true = refl
    both false = refl

    apart : (a b : Bool) → (a ≡ true → b ≡ true → ⊥) → cond a e.1 (cond b (with_number n (among q es)) (among q es)) ≡ cond b (with_number n (cond a e.1 (among q es))) (cond a e.1 (among q es))
    apart true true h = absurd (h refl refl)
    apart true false h = refl
    apart false b h = refl

count_joined : (r : Query) (n : ℕ) (es : Entries) → list_any (λ m. m == n) (among r es) ≡ false → of_filtered (joined r n es) ≡ of_filtered es + 1
count_joined r n [] free = omega arith
count_joined r n (e ∷ es) free =
    elim (query_eq e.0 r) as (λ b. list_any (λ m. m == n) (cond b e.1 (among r es)) ≡ false → of_filtered (cond b ((e.0, with_number n e.1) ∷ es) (e ∷ joined r n es)) ≡ length e.1 + of_filtered es + 1) [
      | true ↦ λ g. let more = length_with n e.1 g in omega (arith, more)
      | false ↦ λ g. let more = count_joined r n es g in omega (arith, more)
    ] free

at_joined : (r : Query) (n : ℕ) (es : Entries) (p : Path) → is_filtered r ≡ true → r.path ≡ p → list_any (λ m. m == n) (among r es) ≡ false → AreAt p es → AreAt p (joined r n es)
at_joined r n [] p filtered at free h = (filtered, at, omega arith, refl, tt)
at_joined r n (e ∷ es) p filtered at free h =
    elim (query_eq e.0 r) as (λ b. query_eq e.0 r ≡ b → list_any (λ m. m == n) (cond b e.1 (among r es)) ≡ false → AreAt p (cond b ((e.0, with_number n e.1) ∷ es) (e ∷ joined r n es))) [
      | true ↦ λ g f. let more = length_with n e.1 f in (h.0, h.1, omega (arith, more), h.3, h.4)
      | false ↦ λ g f. (h.0, h.1, h.2, among_joined r n es e.0 ∙ ap (λ b. cond b (with_number n (among e.0 es)) (among e.0 es)) (other g) ∙ h.3, at_joined r n es p filtered at f h.4)
    ] refl free
  where
    other : query_eq e.0 r ≡ false → query_eq r e.0 ≡ false
    other g = elim (query_eq r e.0) as (λ b. query_eq r e.0 ≡ b → b ≡ false) [
      | true ↦ λ t. absurd (true≢false (sym (ap (query_eq e.0) (same_eq r e.0 t) ∙ own_eq e.0) ∙ g))
      | false ↦ λ t. refl
    ] refl

pub is_joined : (r : Query) (n : ℕ) (es : Entries) (i : ℕ) (e : Query × List ℕ) → entry_at r es ≡ Some i → e ≡ get_or es i e → list_any (λ m. m == n) (among r es) ≡ false
    → IsJoined es (set es i (e.0, with_number n e.1)) r n
is_joined r n es i e at there free = subst (λ fs. IsJoined es fs r n) (sym (set_joined r n es i e at there)) (record {
  numbers = among_joined r n es;
  holds = count_joined r n es free;
  at = λ p filtered of h. at_joined r n es p filtered of free h;
})

-- ---- a form more
abbrev IsNew : Query → Entries → Type 0
IsNew r [] = Unit {0}
IsNew r (e ∷ es) = (query_eq e.0 r ≡ false) × IsNew r es

new_when : (r : Query) (es : Entries) → entry_at r es ≡ None → IsNew r es
new_when r [] = λ none. tt
new_when r (e ∷ es) =
    elim (query_eq e.0 r) as (λ b. query_eq e.0 r ≡ b → cond b (Some 0) (option_map suc (entry_at r es)) ≡ None → (query_eq e.0 r ≡ false) × IsNew r es) [
      | true ↦ λ g at. cc
      | false ↦ λ g. later (entry_at r es) refl (λ is. (g, new_when r es is))
    ] refl
  where
    later : (o : Option ℕ) → entry_at r es ≡ o → (entry_at r es ≡ None → (query_eq e.0 r ≡ false) × IsNew r es) → option_map suc o ≡ None → (query_eq e.0 r ≡ false) × IsNew r es
    later None is more at = more is
    later (Some k) is more at = cc

among_new : (r : Query) (es : Entries) → IsNew r es → among r es ≡ []
among_new r [] h = refl
among_new r (e ∷ es) h = ap (λ b. cond b e.1 (among r es)) h.0 ∙ among_new r es h.1

pub other_way : (q r : Query) → query_eq q r ≡ false → query_eq r q ≡ false
other_way q r g = elim (query_eq r q) as (λ b. query_eq r q ≡ b → b ≡ false) [
  | true ↦ λ t. absurd (true≢false (sym (ap (query_eq q) (same_eq r q t) ∙ own_eq q) ∙ g))
  | false ↦ λ t. refl
] refl

among_front : (r : Query) (n : ℕ) (es : Entries) → IsNew r es → (q : Query) → among q ((r, n ∷ []) ∷ es) ≡ cond (query_eq r q) (with_number n (among q es)) (among q es)
among_front r n es new q = elim (query_eq r q) as (λ b. query_eq r q ≡ b → cond b (n ∷ []) (among q es) ≡ cond b (with_number n (among q es)) (among q es)) [
  | true ↦ λ g. ap (with_number n) (sym (ap (λ x. among x es) (sym (same_eq r q g)) ∙ among_new r es new))
  | false ↦ λ g. refl
] refl

among_entered : (r : Query) (n : ℕ) (es : Entries) (i : ℕ) → IsNew r es → (q : Query) → among q (insert es i (r, n ∷ [])) ≡ cond (query_eq r q) (with_number n (among q es)) (among q es)
among_entered r n es zero new q = among_front r n es new q
among_entered r n [] (suc i) new q = among_front r n [] new q
among_entered r n (e ∷ es) (suc i) new q =
    ap (cond (query_eq e.0 q) e.1) (among_entered r n es i new.1 q)
    ∙ apart (query_eq e.0 q) (query_eq r q) (λ a b. true≢false (sym (ap (λ x. query_eq x r) (same_eq e.0 q a) ∙ ap (query_eq q) (same_eq r q b) ∙ own_eq q) ∙ new.0))
  where
    apart : (a b : Bool) → (a ≡ true → b ≡ true → ⊥) → cond a e.1 (cond b (with_number n (among q es)) (among q es)) ≡ cond b (with_number n (cond a e.1 (among q es))) (cond a e.1 (among q es))
    apart true true h = absurd (h refl refl)
    apart true false h = refl
    apart false b h = refl

count_entered : (r : Query) (n : ℕ) (es : Entries) (i : ℕ) → of_filtered (insert es i (r, n ∷ [])) ≡ of_filtered es + 1
count_entered r n es zero = omega arith
count_entered r n [] (suc i) = omega arith
count_entered r n (e ∷ es) (suc i) = let more = count_entered r n es i in omega (arith, more)

at_entered : (r : Query) (n : ℕ) (es : Entries) (i : ℕ) (p : Path) → is_filtered r ≡ true → r.path ≡ p → IsNew r es → AreAt p es → AreAt p (insert es i (r, n ∷ []))
at_entered r n es zero p filtered at new h = (filtered, at, omega arith, among_new r es new, h)
at_entered r n [] (suc i) p filtered at new h = (filtered, at, omega arith, refl, tt)
at_entered r n (e ∷ es) (suc i) p filtered at new h =
    (h.0, h.1, h.2, among_entered r n es i new.1 e.0 ∙ ap (λ b. cond b (with_number n (among e.0 es)) (among e.0 es)) (other_way e.0 r new.0) ∙ h.3, at_entered r n es i p filtered at new.1 h.4)

pub is_entered : (r : Query) (n : ℕ) (es : Entries) (i : ℕ) → entry_at r es ≡ None → IsJoined es (insert es i (r, n ∷ [])) r n
is_entered r n es i at = let new = new_when r es at in record {
  numbers = among_entered r n es i new;
  holds = count_entered r n es i;
  at = λ p filtered of h. at_entered r n es i p filtered of new h;
}

-- ---- what a form has, once it got a listener
pub gained_filtered : (x : Standing) (r : Query) (n : ℕ) (es : Entries) → is_filtered r ≡ true → IsJoined x.filtered es r n
    → Gained x (record { plain = x.plain; filtered = es; count = x.count + 1 }) r n
gained_filtered x r n es filtered is = record {
  numbers = numbers;
  holds = let more = is.holds in omega (arith, more);
  count = refl;
  at = λ p at h. is.at p filtered at h;
}
  where
    numbers : (q : Query) → cond (is_filtered q) (among q es) x.plain ≡ cond (alike q r) (with_number n (own q x)) (own q x)
    numbers q = elim (is_filtered q) as (λ b. is_filtered q ≡ b → cond b (among q es) x.plain ≡ cond (cond b (query_eq r q) (not (is_filtered r))) (with_number n (cond b (among q x.filtered) x.plain)) (cond b (among q x.filtered) x.plain)) [
      | true ↦ λ e. is.numbers q
      | false ↦ λ e. sym (ap (λ b. cond (not b) (with_number n x.plain) x.plain) filtered)
    ] refl

pub gained_plain : (x : Standing) (r : Query) (n : ℕ) (ns : List ℕ) → is_filtered r ≡ false → list_any (λ m. m == n) (own r x) ≡ false → ns ≡ with_number n x.plain
    → Gained x (record { plain = ns; filtered = x.filtered; count = x.count + 1 }) r n
gained_plain x r n ns plain free is =
    subst (λ z. Gained x (record { plain = z; filtered = x.filtered; count = x.count + 1 }) r n) (sym is) (record {
      numbers = numbers;
      holds = let more = length_with n x.plain free_in in omega (arith, more);
      count = refl;
      at = λ p at h. h;
    })
  where
    free_in : list_any (λ m. m == n) x.plain ≡ false
    free_in = ap (λ b. list_any (λ m. m == n) (cond b (among r x.filtered) x.plain)) (sym plain) ∙ free

    numbers : (q : Query) → cond (is_filtered q) (among q x.filtered) (with_number n x.plain) ≡ cond (alike q r) (with_number n (own q x)) (own q x)
    numbers q = elim (is_filtered q) as (λ b. is_filtered q ≡ b → cond b (among q x.filtered) (with_number n x.plain) ≡ cond (cond b (query_eq r q) (not (is_filtered r))) (with_number n (cond b (among q x.filtered) x.plain)) (cond b (among q x.filtered) x.plain)) [
      | true ↦ λ e. sym (ap (λ b. cond b (with_number n (among q x.filtered)) (among q x.filtered)) (other q e))
      | false ↦ λ e. sym (ap (λ b. cond (not b) (with_number n x.plain) x.plain) plain)
    ] refl
      where
        other : (q : Query) → is_filtered q ≡ true → query_eq r q ≡ false
        other q e = elim (query_eq r q) as (λ b. query_eq r q ≡ b → b ≡ false) [
          | true ↦ λ t. absurd (true≢false (sym e ∙ ap is_filtered (sym (same_eq r q t)) ∙ plain))
          | false ↦ λ t. refl
        ] refl

-- the plain numbers are those of a plain form
pub own_plain : (x : Standing) (r : Query) (n : ℕ) → is_filtered r ≡ false → list_any (λ m. m == n) (own r x) ≡ false → list_any (λ m. m == n) x.plain ≡ false
own_plain x r n plain free = ap (λ b. list_any (λ m. m == n) (cond b (among r x.filtered) x.plain)) (sym plain) ∙ free
