-- What is registered at a path, with a listener less.
use Rattle.std.proofs.Common.{◌≡◌, ℕ, suc, ◌+◌, ◌<◌, ◌≤◌, Bool, true, false, cond, not, nat_lt, ◌==◌, List, [], ◌∷◌, length, Option, Some, None, refl, sym, ap, subst, ◌∙◌, arith, set, get_or, eqb-true}
use mathlib.Core.Bool.{true≢false}
use Rattle.std.specs.List.{remove, list_any}
use Rattle.std.specs.Option.{option_map}
use Rattle.std.proofs.lemmas.Bool.Decides.{nat_tests}
use Rattle.rt_tree.specs.PathTree.{Path}
use Rattle.rt_query.specs.Queries.{Query, is_filtered}
use Rattle.rt_query.specs.QueryEq.{query_eq}
use Rattle.rt_nodes.proofs.Reached.{same_some}
use Rattle.rt_forms.specs.Numbers.{without_number}
use Rattle.rt_forms.specs.inside.Trees.{Standing, among, own, of_filtered, held, AreAt, alike, Lost}
use Rattle.rt_forms.specs.inside.Lists.{entry_at, parted}
use Rattle.rt_forms.proofs.ListLaws.{Entries, own_eq, same_eq, other_way}

pub some_true : (n : ℕ) → 0 < n → nat_lt 0 n ≡ true
some_true n h = grind (arith, nat_tests)

pub some_is : (n : ℕ) → nat_lt 0 n ≡ true → 0 < n
some_is n e = grind (arith, nat_tests)

pub none_is : (n : ℕ) → nat_lt 0 n ≡ false → n ≡ 0
none_is n e = grind (arith, nat_tests)

any_is : (n : ℕ) → (n == 0) ≡ false → 0 < n
any_is n e = grind (arith, nat_tests)

pub no_numbers : (ns : List ℕ) → length ns ≡ 0 → ns ≡ []
no_numbers [] e = refl
no_numbers (n ∷ ns) e = absurd (omega (arith, e))

-- ---- the form that a listener leaves
pub parted_at : (q : Query) (n : ℕ) (es : Entries) (i : ℕ) (e : Query × List ℕ) → entry_at q es ≡ Some i → e ≡ get_or es i e
    → cond (length (without_number n e.1) == 0) (remove (set es i (e.0, without_number n e.1)) i) (set es i (e.0, without_number n e.1)) ≡ parted q n es
parted_at q n [] i e = λ at there. cc
parted_at q n (x ∷ es) i e =
    elim (query_eq x.0 q) as (λ b. cond b (Some 0) (option_map suc (entry_at q es)) ≡ Some i → e ≡ get_or (x ∷ es) i e → left (x ∷ es) i
    ≡ cond b (cond (length (without_number n x.1) == 0) es ((x.0, without_number n x.1) ∷ es)) (x ∷ parted q n es)) [
      | true ↦ λ at there.
          let zero_is : 0 ≡ i = same_some 0 i at in
          let same : e ≡ x = there ∙ ap (λ j. get_or (x ∷ es) j e) (sym zero_is) in
          ap (left (x ∷ es)) (sym zero_is)
          ∙ ap (λ (z : Query × List ℕ). cond (length (without_number n z.1) == 0) es ((z.0, without_number n z.1) ∷ es)) same
      | false ↦ later (entry_at q es) refl i (λ k is there. parted_at q n es k e is there)
    ]
  where
    left : Entries → ℕ → Entries
    left fs j = cond (length (without_number n e.1) == 0) (remove (set fs j (e.0, without_number n e.1)) j) (set fs j (e.0, without_number n e.1))

    onward : (k : ℕ) → left (x ∷ es) (suc k) ≡ x ∷ left es k
    onward k = elim (length (without_number n e.1) == 0) as (λ b. cond b (remove (set (x ∷ es) (suc k) (e.0, without_number n e.1)) (suc k)) (set (x ∷ es) (suc k) (e.0, without_number n e.1))
        ≡ x ∷ cond b (remove (set es k (e.0, without_number n e.1)) k) (set es k (e.0, without_number n e.1))) [ true ↦ refl | false ↦ refl ]

    later : (o : Option ℕ) → entry_at q es ≡ o → (j : ℕ) → ((k : ℕ) → entry_at q es ≡ Some k → e ≡ get_or es k e → left es k ≡ parted q n es)
        → option_map suc o ≡ Some j → e ≡ get_or (x ∷ es) j e → left (x ∷ es) j ≡ x ∷ parted q n es
    later None is j more at there = cc
    later (Some k) is j more at there =
        let behind : suc k ≡ j = same_some (suc k) j at in
        ap (left (x ∷ es)) (sym behind)
        ∙ onward k
        ∙ ap (λ z. x ∷ z) (more k is (there ∙ ap (λ m. get_or (x ∷ es) m e) (sym behind)))

-- a form that has a listener stands among the others
pub among_none : (q : Query) (es : Entries) → entry_at q es ≡ None → among q es ≡ []
among_none q [] = λ none. refl
among_none q (x ∷ es) =
    elim (query_eq x.0 q) as (λ b. cond b (Some 0) (option_map suc (entry_at q es)) ≡ None → cond b x.1 (among q es) ≡ []) [
      | true ↦ λ at. cc
      | false ↦ later (entry_at q es) refl (λ is. among_none q es is)
    ]
  where
    later : (o : Option ℕ) → entry_at q es ≡ o → (entry_at q es ≡ None → among q es ≡ []) → option_map suc o ≡ None → among q es ≡ []
    later None is more at = more is
    later (Some k) is more at = cc

-- ---- forms that are without a listener go
module _ (p : Path) (r : Query) (n : ℕ) (e : Query × List ℕ) (es : Entries) (h : AreAt p (e ∷ es)) where
  abbrev kept : Entries
  kept = cond (length (without_number n e.1) == 0) es ((e.0, without_number n e.1) ∷ es)

  parted_here : query_eq e.0 r ≡ true → parted r n (e ∷ es) ≡ kept
  parted_here is = ap (λ b. cond b kept (e ∷ parted r n es)) is

  parted_later : query_eq e.0 r ≡ false → parted r n (e ∷ es) ≡ e ∷ parted r n es
  parted_later is = ap (λ b. cond b kept (e ∷ parted r n es)) is

  among_kept : (q : Query) → among q kept ≡ cond (query_eq e.0 q) (without_number n e.1) (among q es)
  among_kept q = elim (length (without_number n e.1) == 0) as (λ b. (length (without_number n e.1) == 0) ≡ b
      → among q (cond b es ((e.0, without_number n e.1) ∷ es)) ≡ cond (query_eq e.0 q) (without_number n e.1) (among q es)) [
        | true ↦ λ t.
            let empty : without_number n e.1 ≡ [] = no_numbers (without_number n e.1) (eqb-true (length (without_number n e.1)) 0 t) in
            elim (query_eq e.0 q) as (λ b. query_eq e.0 q ≡ b → among q es ≡ cond b (without_number n e.1) (among q es)) [
              | true ↦ λ is. ap (λ x. among x es) (sym (same_eq e.0 q is)) ∙ h.3 ∙ sym empty
              | false ↦ λ is. refl
            ] refl
        | false ↦ λ t. refl
      ] refl

  of_kept : of_filtered kept ≡ length (without_number n e.1) + of_filtered es
  of_kept = elim (length (without_number n e.1) == 0) as (λ b. (length (without_number n e.1) == 0) ≡ b
      → of_filtered (cond b es ((e.0, without_number n e.1) ∷ es)) ≡ length (without_number n e.1) + of_filtered es) [
        | true ↦ λ t. let none = eqb-true (length (without_number n e.1)) 0 t in omega (arith, none)
        | false ↦ λ t. refl
      ] refl

  at_kept : AreAt p kept
  at_kept = elim (length (without_number n e.1) == 0) as (λ b. (length (without_number n e.1) == 0) ≡ b
      → AreAt p (cond b es ((e.0, without_number n e.1) ∷ es))) [
        | true ↦ λ t. h.4
        | false ↦ λ t. (h.0, h.1, any_is (length (without_number n e.1)) t, h.3, h.4)
      ] refl

pub among_parted : (p : Path) (r : Query) (n : ℕ) (es : Entries) (q : Query) → AreAt p es → among q (parted r n es) ≡ cond (query_eq r q) (without_number n (among q es)) (among q es)
among_parted p r n [] q h = elim (query_eq r q) as (λ b. [] ≡ cond {A = List ℕ} b [] []) [ true ↦ refl | false ↦ refl ]
among_parted p r n (e ∷ es) q h =
    elim (query_eq e.0 r) as (λ b. query_eq e.0 r ≡ b → among q (parted r n (e ∷ es)) ≡ cond (query_eq r q) (without_number n (cond (query_eq e.0 q) e.1 (among q es))) (cond (query_eq e.0 q) e.1 (among q es))) [
      | true ↦ λ g.
          let same : e.0 ≡ r = same_eq e.0 r g in
          ap (among q) (parted_here p r n e es h g)
          ∙ among_kept p r n e es h q
          ∙ ap (λ x. cond (query_eq x q) (without_number n e.1) (among q es)) same
          ∙ both (query_eq r q)
          ∙ ap (λ x. cond (query_eq r q) (without_number n (cond (query_eq x q) e.1 (among q es))) (cond (query_eq x q) e.1 (among q es))) (sym same)
      | false ↦ λ g.
          ap (among q) (parted_later p r n e es h g)
          ∙ ap (cond (query_eq e.0 q) e.1) (among_parted p r n es q h.4)
          ∙ apart (query_eq e.0 q) (query_eq r q) (λ a b. true≢false (sym (ap (λ x. query_eq x r) (same_eq e.0 q a) ∙ ap (query_eq q) (same_eq r q b) ∙ own_eq q) ∙ g))
    ] refl
  where
    both : (b : Bool) → cond b (without_number n e.1) (among q es) ≡ cond b (without_number n (cond b e.1 (among q es))) (cond b e.1 (among q es))
    both true = refl
    both false = refl

    apart : (a b : Bool) → (a ≡ true → b ≡ true → ⊥) → cond a e.1 (cond b (without_number n (among q es)) (among q es)) ≡ cond b (without_number n (cond a e.1 (among q es))) (cond a e.1 (among q es))
    apart true true h = absurd (h refl refl)
    apart true false h = refl
    apart false b h = refl

pub count_parted : (p : Path) (r : Query) (n : ℕ) (es : Entries) → AreAt p es → length (without_number n (among r es)) + 1 ≡ length (among r es) → of_filtered (parted r n es) + 1 ≡ of_filtered es
count_parted p r n [] h less = let e : 0 + 1 ≡ 0 = less in absurd (omega (arith, e))
count_parted p r n (e ∷ es) h less =
    elim (query_eq e.0 r) as (λ b. query_eq e.0 r ≡ b → length (without_number n (cond b e.1 (among r es))) + 1 ≡ length (cond b e.1 (among r es)) → of_filtered (parted r n (e ∷ es)) + 1 ≡ length e.1 + of_filtered es) [
      | true ↦ λ g l.
          let a = ap of_filtered (parted_here p r n e es h g) in
          let k = of_kept p r n e es h in
          let one : length (without_number n e.1) + 1 ≡ length e.1 = l in omega (arith, one, a, k)
      | false ↦ λ g l. let a = ap of_filtered (parted_later p r n e es h g) in let rest = count_parted p r n es h.4 l in omega (arith, a, rest)
    ] refl less

pub at_parted : (p : Path) (r : Query) (n : ℕ) (es : Entries) → AreAt p es → AreAt p (parted r n es)
at_parted p r n [] h = tt
at_parted p r n (e ∷ es) h =
    elim (query_eq e.0 r) as (λ b. query_eq e.0 r ≡ b → AreAt p (parted r n (e ∷ es))) [
      | true ↦ λ g. subst (AreAt p) (sym (parted_here p r n e es h g)) (at_kept p r n e es h)
      | false ↦ λ g. subst (AreAt p) (sym (parted_later p r n e es h g))
          (h.0, h.1, h.2, among_parted p r n es e.0 h.4 ∙ ap (λ b. cond b (without_number n (among e.0 es)) (among e.0 es)) (other_way e.0 r g) ∙ h.3, at_parted p r n es h.4)
    ] refl

-- ---- what a form has, once it lost a listener
pub lost_filtered : (x : Standing) (r : Query) (n m : ℕ) (es : Entries) (p : Path) → is_filtered r ≡ true → AreAt p x.filtered
    → length (without_number n (among r x.filtered)) + 1 ≡ length (among r x.filtered) → m + 1 ≡ x.count → es ≡ parted r n x.filtered
    → Lost x (record { plain = x.plain; filtered = es; count = m }) r n
lost_filtered x r n m es p filtered at less fewer is =
    subst (λ z. Lost x (record { plain = x.plain; filtered = z; count = m }) r n) (sym is) (record {
      numbers = numbers;
      holds = let more = count_parted p r n x.filtered at less in omega (arith, more);
      count = fewer;
      at = λ d h. at_parted d r n x.filtered h;
    })
  where
    numbers : (q : Query) → cond (is_filtered q) (among q (parted r n x.filtered)) x.plain ≡ cond (alike q r) (without_number n (own q x)) (own q x)
    numbers q = elim (is_filtered q) as (λ b. is_filtered q ≡ b → cond b (among q (parted r n x.filtered)) x.plain ≡ cond (cond b (query_eq r q) (not (is_filtered r))) (without_number n (cond b (among q x.filtered) x.plain)) (cond b (among q x.filtered) x.plain)) [
      | true ↦ λ e. among_parted p r n x.filtered q at
      | false ↦ λ e. sym (ap (λ b. cond (not b) (without_number n x.plain) x.plain) filtered)
    ] refl

pub lost_plain : (x : Standing) (r : Query) (n m : ℕ) (ns : List ℕ) → is_filtered r ≡ false → length ns + 1 ≡ length x.plain → m + 1 ≡ x.count → ns ≡ without_number n x.plain
    → Lost x (record { plain = ns; filtered = x.filtered; count = m }) r n
lost_plain x r n m ns plain less fewer is = record {
  numbers = numbers;
  holds = omega (arith, less);
  count = fewer;
  at = λ d h. h;
}
  where
    other : (q : Query) → is_filtered q ≡ true → query_eq r q ≡ false
    other q e = elim (query_eq r q) as (λ b. query_eq r q ≡ b → b ≡ false) [
      | true ↦ λ t. absurd (true≢false (sym e ∙ ap is_filtered (sym (same_eq r q t)) ∙ plain))
      | false ↦ λ t. refl
    ] refl

    numbers : (q : Query) → cond (is_filtered q) (among q x.filtered) ns ≡ cond (alike q r) (without_number n (own q x)) (own q x)
    numbers q = elim (is_filtered q) as (λ b. is_filtered q ≡ b → cond b (among q x.filtered) ns ≡ cond (cond b (query_eq r q) (not (is_filtered r))) (without_number n (cond b (among q x.filtered) x.plain)) (cond b (among q x.filtered) x.plain)) [
      | true ↦ λ e. sym (ap (λ b. cond b (without_number n (among q x.filtered)) (among q x.filtered)) (other q e))
      | false ↦ λ e. is ∙ sym (ap (λ b. cond (not b) (without_number n x.plain) x.plain) plain)
    ] refl

-- ---- no form has more listeners than there are
pub some_of : (p : ℕ → Bool) (ns : List ℕ) → list_any p ns ≡ true → 0 < length ns
some_of p [] e = absurd (true≢false (sym e))
some_of p (n ∷ ns) e = omega arith

among_bound : (q : Query) (es : Entries) → length (among q es) ≤ of_filtered es
among_bound q [] = omega arith
among_bound q (e ∷ es) = elim (query_eq e.0 q) as (λ b. length (cond b e.1 (among q es)) ≤ length e.1 + of_filtered es) [
  | true ↦ omega arith
  | false ↦ let rest = among_bound q es in omega (arith, rest)
]

pub own_bound : (q : Query) (x : Standing) → length (own q x) ≤ held x
own_bound q x = elim (is_filtered q) as (λ b. length (cond b (among q x.filtered) x.plain) ≤ length x.plain + of_filtered x.filtered) [
  | true ↦ let le = among_bound q x.filtered in omega (arith, le)
  | false ↦ omega arith
]
