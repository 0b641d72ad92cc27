-- Views while a write is looked at, listen by listen.
use Rattle.std.proofs.Common.{◌≡◌, Bool, true, false, cond, ◌||◌, List, [], ◌∷◌, get_or, Option, Some, None, is_some, refl, sym, ap, subst, ◌∙◌, arith, if◌then◌else◌}
use mathlib.Core.Bool.{true≢false}
use Rattle.std.specs.Prelude.{IfSome}
use Rattle.std.specs.List.{All, filter, list_any}
use Rattle.std.specs.Ordering.{is_eq}
use Rattle.std.specs.Cmp.{tied_itself}
use Rattle.std.proofs.lemmas.List.Elements.{All-cons, All-head, All-tail}
use Rattle.rt_tree.specs.PathTree.{PathTree, sub}
use Rattle.rt_tree.specs.Assignments.{Assignment}
use Rattle.rt_query.specs.Queries.{Query, is_filtered}
use Rattle.rt_query.specs.QueryOrder.{query_cmp}
use Rattle.rt_query.specs.laws.QueryOrder.{queries_total}
use Rattle.rt_peer.specs.Peers.{Listen}
use Rattle.rt_peer.specs.Pushes.{written}
use Rattle.rt_peer.specs.declared.listens.Owner.{Owner}
use Rattle.rt_peer.specs.declared.views.Watched.{Watched}
use Rattle.rt_peer.specs.inside.Looked.{at_query}
use Rattle.rt_peer.specs.inside.Spots.{has_owner, is_concerned, listen_of, owner_of, spot_of}
use Rattle.rt_peer.specs.inside.Watched.{tree_now, AreHeard, AreLeft, AreOf, AreTurned, GoesOn, IsOf, IsVisited}
use Rattle.rt_peer.proofs.FoundLaws.{apart_stays, is_own, own_is}
use Rattle.rt_peer.proofs.LookedLaws.{part_so, same_query}
use Rattle.rt_peer.proofs.WatchedLaws.{of_same}

abbrev Noted : Type 0
Noted = List (Query × Option PathTree)

abbrev Seen : Type 0
Seen = List (Query × Watched)

itself : (q : Query) → is_eq (query_cmp q q) ≡ true
itself q = ap is_eq (tied_itself queries_total q)

or_either : (a b : Bool) → b ≡ true → (a || b) ≡ true
or_either true b e = refl
or_either false b e = e

-- ---- one query is looked at

pub turned_none : (t u : PathTree) (looked : Noted) (views : Seen) → looked ≡ [] → AreOf t views
    → AreTurned t u looked views
turned_none t u looked views none h = subst (λ es. AreTurned t u es views) (sym none) h

-- the view of one that was not looked at is of the tree before
pub still_before : (t u : PathTree) (looked : Noted) (views : Seen) (q : Query) → None ≡ at_query looked q
    → AreTurned t u looked views → IfSome (at_query views q) (IsOf t q)
still_before t u looked views q none h =
    subst (λ (x : PathTree). IfSome (at_query views q) (IsOf x q))
    (ap (λ o. if is_some o then u else t) (sym none)) (h q)

pub put_here : (q : Query) (w : Watched) (views after : Seen) (u : PathTree)
    → ((r : Query) → at_query after r ≡ (if is_eq (query_cmp q r) then Some w else at_query views r)) → IsOf u q w
    → IfSome (at_query after q) (IsOf u q)
put_here q w views after u more h =
    subst (λ o. IfSome o (IsOf u q)) (sym (more q ∙ ap (λ b. if b then Some w else at_query views q) (itself q))) h

pub turned_more : (t u : PathTree) (q : Query) (told : Option PathTree) (looked noted : Noted) (views after : Seen)
    → ((r : Query) → at_query noted r ≡ (if is_eq (query_cmp q r) then Some told else at_query looked r))
    → IfSome (at_query after q) (IsOf u q)
    → ((r : Query) → is_eq (query_cmp q r) ≡ false → at_query after r ≡ at_query views r)
    → AreTurned t u looked views → AreTurned t u noted after
turned_more t u q told looked noted views after more here others h r =
    elim (is_eq (query_cmp q r)) as (λ b. is_eq (query_cmp q r) ≡ b → IfSome (at_query after r) (IsOf (tree_now t u noted r) r)) [
      | true ↦ λ e.
          let noted_here : at_query noted r ≡ Some told = more r ∙ ap (λ b. if b then Some told else at_query looked r) e in
          subst (λ (x : PathTree). IfSome (at_query after r) (IsOf x r)) (sym (ap (λ o. if is_some o then u else t) noted_here))
          (subst (λ (s : Query). IfSome (at_query after s) (IsOf u s)) (same_query q r e) here)
      | false ↦ λ e.
          let as_before : at_query noted r ≡ at_query looked r = more r ∙ ap (λ b. if b then Some told else at_query looked r) e in
          subst (λ (x : PathTree). IfSome (at_query after r) (IsOf x r)) (sym (ap (λ o. if is_some o then u else t) as_before))
          (subst (λ o. IfSome o (IsOf (tree_now t u looked r) r)) (sym (others r e)) (h r))
    ] refl

pub goes_more : (q : Query) (told : Option PathTree) (looked noted : Noted) (views after : Seen)
    → ((r : Query) → at_query noted r ≡ (if is_eq (query_cmp q r) then Some told else at_query looked r))
    → ((r : Query) → is_eq (query_cmp q r) ≡ false → at_query after r ≡ at_query views r)
    → GoesOn q looked noted views after
goes_more q told looked noted views after more others = record {
  stays = λ r e. ap is_some (more r) ∙ elim (is_eq (query_cmp q r)) as (λ b.
      is_some (if b then Some told else at_query looked r) ≡ true) [ true ↦ refl | false ↦ e ];
  here = λ f. ap is_some (more q ∙ ap (λ b. if b then Some told else at_query looked q) (itself q));
  alone = λ r e. elim (is_eq (query_cmp q r)) as (λ b. is_eq (query_cmp q r) ≡ b
      → (b || is_some (at_query views r)) ≡ true) [
        | true ↦ λ f. refl
        | false ↦ λ f. ap is_some (sym (others r f)) ∙ e
      ] refl;
}

-- one that was looked at before
pub goes_noted : (q : Query) (looked : Noted) (views : Seen) (told : Option PathTree) → Some told ≡ at_query looked q
    → GoesOn q looked looked views views
goes_noted q looked views told e = record {
  stays = λ r h. h;
  here = λ f. ap is_some (sym e);
  alone = λ r h. or_either (is_eq (query_cmp q r)) (is_some (at_query views r)) h;
}

-- a plain one
pub goes_plain : (q : Query) (looked : Noted) (views : Seen) → is_filtered q ≡ false → GoesOn q looked looked views views
goes_plain q looked views plain = record {
  stays = λ r h. h;
  here = λ f. absurd (true≢false (sym f ∙ plain));
  alone = λ r h. or_either (is_eq (query_cmp q r)) (is_some (at_query views r)) h;
}

-- ---- an owner is visited

all_of_filter : {X : Type 0} (p : X → Bool) (P : X → Type 0) (xs : List X) → All P (filter p xs)
    → All (λ x. p x ≡ true → P x) xs
all_of_filter p P [] h = λ k d lt. absurd (omega (arith, lt))
all_of_filter p P (x ∷ xs) h =
    elim (p x) as (λ b. p x ≡ b → All P (cond b (x ∷ filter p xs) (filter p xs)) → All (λ y. p y ≡ true → P y) (x ∷ xs)) [
      | true ↦ λ e g. All-cons (λ y. p y ≡ true → P y) x xs (λ f. All-head P x (filter p xs) g)
          (all_of_filter p P xs (All-tail P x (filter p xs) g))
      | false ↦ λ e g. All-cons (λ y. p y ≡ true → P y) x xs (λ f. absurd (true≢false (sym f ∙ e)))
          (all_of_filter p P xs g)
    ] refl h

any_within : {X : Type 0} (p test : X → Bool) (xs : List X) → list_any test (filter p xs) ≡ true → list_any test xs ≡ true
any_within p test [] e = e
any_within p test (x ∷ xs) e =
    elim (p x) as (λ b. list_any test (cond b (x ∷ filter p xs) (filter p xs)) ≡ true → (test x || list_any test xs) ≡ true) [
      | true ↦ λ f. elim (test x) as (λ c. (c || list_any test (filter p xs)) ≡ true → (c || list_any test xs) ≡ true) [
        | true ↦ λ g. refl
        | false ↦ λ g. any_within p test xs g
      ] f
      | false ↦ λ f. or_either (test x) (list_any test xs) (any_within p test xs f)
    ] e

-- a listen's query was looked at, where it is filtered
abbrev pub WasNoted : Noted → Listen → Type 0
WasNoted noted l = is_filtered l.query ≡ true → is_some (at_query noted l.query) ≡ true

-- the owner's listen of the query
pub visited_one : (o : Owner) (q : Query) (listens : List Listen) (looked noted : Noted) (views after : Seen)
    → filter (is_own o) listens ≡ listen_of (o, q) ∷ [] → GoesOn q looked noted views after
    → IsVisited o listens looked noted views after
visited_one o q listens looked noted views after own h = record {
  stays = h.stays;
  here = all_of_filter (is_own o) (WasNoted noted) listens (subst (All (WasNoted noted)) (sym own)
      (All-cons (WasNoted noted) (listen_of (o, q)) [] h.here (λ k d lt. absurd (omega (arith, lt)))));
  heard = λ before r e. elim (is_eq (query_cmp q r)) as (λ b. is_eq (query_cmp q r) ≡ b
      → (b || is_some (at_query views r)) ≡ true → list_any (λ (l : Listen). is_eq (query_cmp r l.query)) listens ≡ true) [
        | true ↦ λ f g. subst (λ (s : Query). list_any (λ (l : Listen). is_eq (query_cmp s l.query)) listens ≡ true) (same_query q r f)
            (any_within (is_own o) (λ l. is_eq (query_cmp q l.query)) listens
            (ap (list_any (λ (l : Listen). is_eq (query_cmp q l.query))) own ∙ ap (λ b. b || false) (itself q)))
        | false ↦ λ f g. before r g
      ] refl (h.alone r e);
}

pub visited_none : (o : Owner) (listens : List Listen) (looked : Noted) (views : Seen)
    → filter (is_own o) listens ≡ [] → IsVisited o listens looked looked views views
visited_none o listens looked views own = record {
  stays = λ r h. h;
  here = all_of_filter (is_own o) (WasNoted looked) listens
      (subst (All (WasNoted looked)) (sym own)
      (λ k d lt. absurd (omega (arith, lt))));
  heard = λ before. before;
}

-- ---- owner by owner

pub left_all : (es : List Assignment) (found left : List Owner) (listens : List Listen) (looked : Noted) → left ≡ found
    → All (λ l. is_concerned es (spot_of l) ≡ true → has_owner found (owner_of l) ≡ true) listens
    → AreLeft es left listens looked
left_all es found left listens looked is all k d lt f there =
    ap (λ os. has_owner os (owner_of (get_or listens k d)) || is_some (at_query looked (get_or listens k d).query)) is
    ∙ ap (λ b. b || is_some (at_query looked (get_or listens k d).query)) (all k d lt there)

pub left_less : (es : List Assignment) (left rest : List Owner) (o : Owner) (listens : List Listen) (looked noted : Noted) (views after : Seen)
    → left ≡ o ∷ rest → IsVisited o listens looked noted views after → AreLeft es left listens looked
    → AreLeft es rest listens noted
left_less es left rest o listens looked noted views after is h before k d lt f there =
    let l : Listen = get_or listens k d in
    let old : (has_owner (o ∷ rest) (owner_of l) || is_some (at_query looked l.query)) ≡ true =
    ap (λ os. has_owner os (owner_of l) || is_some (at_query looked l.query)) (sym is) ∙ before k d lt f there in
    elim (is_own o l) as (λ b. is_own o l ≡ b → (has_owner rest (owner_of l) || is_some (at_query noted l.query)) ≡ true) [
      | true ↦ λ e. or_either (has_owner rest (owner_of l)) (is_some (at_query noted l.query)) (h.here k d lt e f)
      | false ↦ λ e. elim (has_owner rest (owner_of l)) as (λ b. has_owner rest (owner_of l) ≡ b
          → (b || is_some (at_query noted l.query)) ≡ true) [
            | true ↦ λ g. refl
            | false ↦ λ g. h.stays l.query
                (sym (λ i. ((own_is o l ∙ e) i || g i) || is_some (at_query looked l.query)) ∙ old)
          ] refl
    ] refl

-- ---- all owners are visited

module _ (t u : PathTree) (es : List Assignment) (looked : Noted) (made : u ≡ written t es) where
  abbrev WasLooked : Listen → Type 0
  WasLooked l = is_filtered l.query ≡ true → is_concerned es (spot_of l) ≡ true
      → (has_owner [] (owner_of l) || is_some (at_query looked l.query)) ≡ true

  -- who was not looked at is not concerned
  apart : (l : Listen) → is_filtered l.query ≡ true → is_some (at_query looked l.query) ≡ false
      → WasLooked l → sub u l.query.path ≡ sub t l.query.path
  apart l filtered none was =
      elim (is_concerned es (spot_of l)) as (λ b. is_concerned es (spot_of l) ≡ b → sub u l.query.path ≡ sub t l.query.path) [
        | true ↦ λ e. absurd (true≢false (sym (was filtered e) ∙ none))
        | false ↦ λ e. part_so t u es l.query (ap (λ x. sub x l.query.path) made) (apart_stays t es l e)
      ] refl

  among : (q : Query) (listens : List Listen) → is_filtered q ≡ true → is_some (at_query looked q) ≡ false
      → list_any (λ l. is_eq (query_cmp q l.query)) listens ≡ true → All WasLooked listens → sub u q.path ≡ sub t q.path
  among q [] filtered none e was = absurd (true≢false (sym e))
  among q (l ∷ ls) filtered none e was =
      elim (is_eq (query_cmp q l.query)) as (λ b. is_eq (query_cmp q l.query) ≡ b
      → (b || list_any (λ m. is_eq (query_cmp q m.query)) ls) ≡ true → sub u q.path ≡ sub t q.path) [
        | true ↦ λ f g.
            let same : l.query ≡ q = sym (same_query q l.query f) in
            subst (λ (s : Query). sub u s.path ≡ sub t s.path) same
            (apart l (ap is_filtered same ∙ filtered) (ap (λ s. is_some (at_query looked s)) same ∙ none)
            (All-head WasLooked l ls was))
        | false ↦ λ f g. among q ls filtered none g (All-tail WasLooked l ls was)
      ] refl e

  pub turned_all : (listens : List Listen) (left : List Owner) (views : Seen) → left ≡ [] → AreLeft es left listens looked
      → AreTurned t u looked views → AreHeard listens views → AreOf u views
  turned_all listens left views none was turned heard q =
      elim (at_query views q) as (λ o. at_query views q ≡ o → IfSome o (IsOf (tree_now t u looked q) q) → IfSome o (IsOf u q)) [
        | None ↦ λ e h. tt
        | Some w ↦ λ e h. elim (is_some (at_query looked q)) as (λ b. is_some (at_query looked q) ≡ b
            → IsOf (if b then u else t) q w → IsOf u q w) [
              | true ↦ λ f g. g
              | false ↦ λ f g. of_same t u q w
                  (among q listens g.filtered f (heard q (ap is_some e)) (subst (λ os. AreLeft es os listens looked) none was)) g
            ] refl h
      ] refl (turned q)
