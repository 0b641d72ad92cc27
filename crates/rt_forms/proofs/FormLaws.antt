-- Queries of one form.
use Rattle.std.proofs.Common.{◌≡◌, [], ◌∷◌, Bool, true, false, cond, not, refl, sym, ap, ◌∙◌}
use mathlib.Core.Bool.{true≢false}
use Rattle.std.specs.Prelude.{◌&&◌}
use Rattle.std.specs.Cmp.{both_ways}
use Rattle.rt_tree.specs.PathTree.{Path, key_eq, key_eq-is, key_eq-same}
use Rattle.rt_tree.specs.TreeEq.{both_first, both_second, both}
use Rattle.rt_query.specs.Queries.{Query, plain, is_filtered}
use Rattle.rt_query.specs.QueryEq.{query_eq}
use Rattle.rt_query.specs.laws.QueryEq.{query_eq_tells}
use Rattle.rt_query.specs.Supply.{form}
use Rattle.rt_forms.specs.Forms.{share_form}
use Rattle.rt_forms.specs.inside.Trees.{same_path, alike}

pub same_path_same : (p : Path) → same_path p p ≡ true
same_path_same [] = refl
same_path_same (k ∷ p) = ap (λ b. b && same_path p p) (key_eq-same k) ∙ same_path_same p

pub same_path_is : (p q : Path) → same_path p q ≡ true → p ≡ q
same_path_is [] [] e = refl
same_path_is [] (k ∷ q) e = absurd (true≢false (sym e))
same_path_is (j ∷ p) [] e = absurd (true≢false (sym e))
same_path_is (j ∷ p) (k ∷ q) e = λ i. key_eq-is j k (both_first (key_eq j k) (same_path p q) e) i ∷ same_path_is p q (both_second (key_eq j k) (same_path p q) e) i

-- two plain queries
plains : (p q : Path) → query_eq (plain p) (plain q) ≡ (same_path p q && true)
plains p q = both_ways (query_eq (plain p) (plain q)) (same_path p q && true)
    (λ e. let same : p ≡ q = ap (λ (x : Query). x.path) ((query_eq_tells (plain p) (plain q)).0 e) in
    both (same_path p q) true (ap (λ x. same_path x q) same ∙ same_path_same q) refl)
    (λ e. ap (λ x. query_eq (plain x) (plain q)) (same_path_is p q (both_first (same_path p q) true e)) ∙ (query_eq_tells (plain q) (plain q)).1 refl)

-- two filtered ones
filtered : (q r : Query) → query_eq q r ≡ (same_path q.path r.path && query_eq r q)
filtered q r = both_ways (query_eq q r) (same_path q.path r.path && query_eq r q)
    (λ e. let same : q ≡ r = (query_eq_tells q r).0 e in
    both (same_path q.path r.path) (query_eq r q) (ap (λ (x : Query). same_path x.path r.path) same ∙ same_path_same r.path)
    (ap (query_eq r) same ∙ (query_eq_tells r r).1 refl))
    (λ e. ap (λ x. query_eq x r) (sym ((query_eq_tells r q).0 (both_second (same_path q.path r.path) (query_eq r q) e))) ∙ (query_eq_tells r r).1 refl)

-- a filtered one and a plain one
never : (q r : Query) → is_filtered q ≡ true → is_filtered r ≡ false → query_eq q r ≡ false
never q r f g = elim (query_eq q r) as (λ b. query_eq q r ≡ b → b ≡ false) [
  | true ↦ λ e. absurd (true≢false (sym f ∙ ap is_filtered ((query_eq_tells q r).0 e) ∙ g))
  | false ↦ λ e. refl
] refl

never_back : (q r : Query) → is_filtered q ≡ false → is_filtered r ≡ true → query_eq q r ≡ false
never_back q r f g = elim (query_eq q r) as (λ b. query_eq q r ≡ b → b ≡ false) [
  | true ↦ λ e. absurd (true≢false (sym g ∙ ap is_filtered (sym ((query_eq_tells q r).0 e)) ∙ f))
  | false ↦ λ e. refl
] refl

and_false : (b : Bool) → (b && false) ≡ false
and_false true = refl
and_false false = refl

-- the same form at one path
pub share_form_is : (q r : Query) → share_form q r ≡ (same_path q.path r.path && alike q r)
share_form_is q r =
    elim (is_filtered q) as (λ b. is_filtered q ≡ b → query_eq (cond b q (plain q.path)) (form r) ≡ (same_path q.path r.path && cond b (query_eq r q) (not (is_filtered r)))) [
      | true ↦ λ e. elim (is_filtered r) as (λ c. is_filtered r ≡ c → query_eq q (cond c r (plain r.path)) ≡ (same_path q.path r.path && query_eq r q)) [
        | true ↦ λ g. filtered q r
        | false ↦ λ g. never q (plain r.path) e refl ∙ sym (ap (λ b. same_path q.path r.path && b) (never_back r q g e) ∙ and_false (same_path q.path r.path))
      ] refl
      | false ↦ λ e. elim (is_filtered r) as (λ c. is_filtered r ≡ c → query_eq (plain q.path) (cond c r (plain r.path)) ≡ (same_path q.path r.path && not c)) [
        | true ↦ λ g. never_back (plain q.path) r refl g ∙ sym (and_false (same_path q.path r.path))
        | false ↦ λ g. plains q.path r.path
      ] refl
    ] refl
