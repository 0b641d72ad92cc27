-- Views, where listens come and go.
use Rattle.std.proofs.Common.{◌≡◌, Bool, true, false, not, ◌||◌, List, [], ◌∷◌, None, is_some, refl, sym, ap, subst, ◌∙◌, if◌then◌else◌}
use mathlib.Core.Bool.{true≢false}
use Rattle.std.specs.Prelude.{IfSome}
use Rattle.std.specs.List.{filter, list_any}
use Rattle.std.specs.Ordering.{is_eq}
use Rattle.std.specs.Cmp.{tied_itself}
use Rattle.std.proofs.lemmas.List.Folds.{list_any-append}
use Rattle.rt_tree.specs.PathTree.{PathTree}
use Rattle.rt_query.specs.Queries.{Query}
use Rattle.rt_query.specs.QueryOrder.{query_cmp}
use Rattle.rt_query.specs.laws.QueryOrder.{queries_total}
use Rattle.rt_peer.specs.Peers.{Listen, in_place, is_before}
use Rattle.rt_peer.specs.declared.listens.Owner.{Owner}
use Rattle.rt_peer.specs.declared.views.Watched.{Watched}
use Rattle.rt_peer.specs.inside.Looked.{at_query}
use Rattle.rt_peer.specs.inside.Spots.{listen_of}
use Rattle.rt_peer.specs.inside.Watched.{AreHeard, AreOf, IsOf}
use Rattle.rt_peer.proofs.FoundLaws.{is_own}
use Rattle.rt_peer.proofs.LookedLaws.{same_query}
use Rattle.rt_peer.proofs.Places.{any-parted, swapped}
use Rattle.rt_peer.proofs.TurnLaws.{twice}

abbrev Seen : Type 0
Seen = List (Query × Watched)

-- ---- no views

pub of_none : (t : PathTree) (views : Seen) → views ≡ [] → AreOf t views
of_none t views none = subst (AreOf t) (sym none) (λ q. tt)

pub heard_none : (listens : List Listen) (views : Seen) → views ≡ [] → AreHeard listens views
heard_none listens views none = subst (AreHeard listens) (sym none) (λ q e. absurd (true≢false (sym e)))

-- ---- a view is forgotten

pub of_less : (t : PathTree) (q : Query) (views after : Seen)
    → ((r : Query) → at_query after r ≡ (if is_eq (query_cmp q r) then None else at_query views r))
    → AreOf t views → AreOf t after
of_less t q views after less h r =
    subst (λ o. IfSome o (IsOf t r)) (sym (less r))
    (elim (is_eq (query_cmp q r)) as (λ b. IfSome (if b then None else at_query views r) (IsOf t r)) [
      | true ↦ tt
      | false ↦ h r
    ])

others : (o : Owner) (ls left : List Listen) (test : Listen → Bool) → left ≡ filter (λ l. not (is_own o l)) ls
    → list_any test ls ≡ true → (list_any test left || list_any test (filter (is_own o) ls)) ≡ true
others o ls left test is e =
    ap (λ xs. list_any test xs || list_any test (filter (is_own o) ls)) is ∙ any-parted test (is_own o) ls ∙ e

or_first : (a b : Bool) → b ≡ false → (a || b) ≡ true → a ≡ true
or_first true b f e = refl
or_first false b f e = absurd (true≢false (sym e ∙ f))

not_that : (q r : Query) → is_eq (query_cmp q r) ≡ false → is_eq (query_cmp r q) ≡ false
not_that q r e =
    elim (is_eq (query_cmp r q)) as (λ b. is_eq (query_cmp r q) ≡ b → b ≡ false) [
      | true ↦ λ f. absurd (true≢false (sym (ap is_eq (tied_itself queries_total q))
          ∙ ap (λ s. is_eq (query_cmp q s)) (sym (same_query r q f)) ∙ e))
      | false ↦ λ f. refl
    ] refl

-- the one listen of an owner goes, and the view of its query
pub heard_less : (o : Owner) (q : Query) (ls left : List Listen) (views after : Seen)
    → filter (is_own o) ls ≡ listen_of (o, q) ∷ [] → left ≡ filter (λ l. not (is_own o l)) ls
    → ((r : Query) → at_query after r ≡ (if is_eq (query_cmp q r) then None else at_query views r))
    → AreHeard ls views → AreHeard left after
heard_less o q ls left views after own is less h r e =
    elim (is_eq (query_cmp q r)) as (λ b. is_eq (query_cmp q r) ≡ b
    → is_some (if b then None else at_query views r) ≡ true → list_any (λ (l : Listen). is_eq (query_cmp r l.query)) left ≡ true) [
      | true ↦ λ f g. absurd (true≢false (sym g))
      | false ↦ λ f g.
          let there = others o ls left (λ l. is_eq (query_cmp r l.query)) is (h r g) in
          let gone : list_any (λ (l : Listen). is_eq (query_cmp r l.query)) (filter (is_own o) ls) ≡ false =
          ap (list_any (λ (l : Listen). is_eq (query_cmp r l.query))) own ∙ ap (λ b. b || false) (not_that q r f) in
          or_first (list_any (λ l. is_eq (query_cmp r l.query)) left) _ gone there
    ] refl (ap is_some (sym (less r)) ∙ e)

-- an owner without a listen goes
pub heard_still : (o : Owner) (ls left : List Listen) (views : Seen) → filter (is_own o) ls ≡ []
    → left ≡ filter (λ l. not (is_own o l)) ls → AreHeard ls views → AreHeard left views
heard_still o ls left views own is h r e =
    or_first (list_any (λ l. is_eq (query_cmp r l.query)) left) (list_any (λ l. is_eq (query_cmp r l.query)) (filter (is_own o) ls))
    (ap (list_any (λ (l : Listen). is_eq (query_cmp r l.query))) own)
    (others o ls left (λ l. is_eq (query_cmp r l.query)) is (h r e))

-- ---- a listen comes

or_either : (a b : Bool) → b ≡ true → (a || b) ≡ true
or_either true b e = refl
or_either false b e = e

any_in_place : (test : Listen → Bool) (x : Listen) (xs : List Listen) → list_any test xs ≡ true
    → list_any test (in_place is_before x xs) ≡ true
any_in_place test x xs e =
    let front = filter (λ y. not (is_before x y)) xs in
    let behind = filter (is_before x) xs in
    list_any-append test front (x ∷ behind)
    ∙ swapped (list_any test front) (test x) (list_any test behind)
    ∙ or_either (test x) (list_any test front || list_any test behind) (any-parted test (is_before x) xs ∙ e)

-- where none of its owner was left
pub kept_alone : (o : Owner) (x : Listen) (ls left all : List Listen) → left ≡ filter (λ l. not (is_own o l)) ls
    → all ≡ in_place is_before x (filter (λ l. not (is_own o l)) left)
    → all ≡ in_place is_before x (filter (λ l. not (is_own o l)) ls)
kept_alone o x ls left all is kept =
    kept ∙ ap (in_place is_before x) (ap (filter (λ l. not (is_own o l))) is ∙ twice (λ l. not (is_own o l)) ls)

pub heard_more : (o : Owner) (x : Listen) (ls left all : List Listen) (views : Seen) → left ≡ filter (λ l. not (is_own o l)) ls
    → all ≡ in_place is_before x (filter (λ l. not (is_own o l)) left) → AreHeard left views → AreHeard all views
heard_more o x ls left all views is kept h r e =
    let there : list_any (λ (l : Listen). is_eq (query_cmp r l.query)) (filter (λ l. not (is_own o l)) left) ≡ true =
    ap (list_any (λ (l : Listen). is_eq (query_cmp r l.query)))
    (ap (filter (λ l. not (is_own o l))) is ∙ twice (λ l. not (is_own o l)) ls ∙ sym is) ∙ h r e in
    ap (list_any (λ (l : Listen). is_eq (query_cmp r l.query))) kept
    ∙ any_in_place (λ l. is_eq (query_cmp r l.query)) x (filter (λ l. not (is_own o l)) left) there
