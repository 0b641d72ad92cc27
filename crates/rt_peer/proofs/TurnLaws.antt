-- The end of a connection in turns is its end.
use Rattle.std.proofs.Common.{◌≡◌, ℕ, zero, suc, ◌+◌, ◌<◌, ◌≤◌, ◌==◌, nat_le, Bool, true, false, cond, not, List, [], ◌∷◌, ◌++◌, length, take, drop, refl, sym, ap, ◌∙◌, append_assoc, arith, if◌then◌else◌}
use Rattle.std.specs.List.{All, AllPairs, filter}
use Rattle.std.proofs.lemmas.Bool.Decides.{nat_tests}
use Rattle.std.proofs.lemmas.List.{length-drop, take-append-drop, take_all}
use Rattle.std.proofs.lemmas.List.Elements.{All-cons, All-head, All-tail}
use Rattle.std.proofs.lemmas.List.Kept.{AllPairs-cons}
use Rattle.rt_tree.specs.PathTree.{PathTree}
use Rattle.rt_peer.specs.Peers.{Deferred, Listen, Peer}
use Rattle.rt_peer.specs.Pushes.{bundled, pushes, pushes_after, tree_after, written}
use Rattle.rt_peer.specs.Calls.{actions_of, disconnected}
use Rattle.rt_peer.specs.Turns.{first_actions, is_last_turn, turned, without_first}
use Rattle.rt_peer.specs.laws.Turns.{LastTurnIsEnd, TurnThenEndIsEnd, TurnsRunSoMany}
use Rattle.rt_peer.proofs.Places.{pairs_head, pairs_tail}

-- what is left of those that pass, and of the others
pub own_left : {X : Type 0} (test : X → Bool) (n : ℕ) (xs : List X)
    → filter test (without_first test n xs) ≡ drop n (filter test xs)
own_left test zero xs = refl
own_left test (suc n) [] = refl
own_left test (suc n) (x ∷ xs) =
    elim (test x) as (λ b. test x ≡ b
    → filter test (cond b (without_first test n xs) (x ∷ without_first test (suc n) xs))
    ≡ drop (suc n) (cond b (x ∷ filter test xs) (filter test xs))) [
      | true ↦ λ e. own_left test n xs
      | false ↦ λ e. ap (λ b. cond b (x ∷ filter test (without_first test (suc n) xs))
          (filter test (without_first test (suc n) xs))) e ∙ own_left test (suc n) xs
    ] refl

pub others_left : {X : Type 0} (test : X → Bool) (n : ℕ) (xs : List X)
    → filter (λ x. not (test x)) (without_first test n xs) ≡ filter (λ x. not (test x)) xs
others_left test zero xs = refl
others_left test (suc n) [] = refl
others_left test (suc n) (x ∷ xs) =
    elim (test x) as (λ b. test x ≡ b
    → filter (λ y. not (test y)) (cond b (without_first test n xs) (x ∷ without_first test (suc n) xs))
    ≡ cond (not b) (x ∷ filter (λ y. not (test y)) xs) (filter (λ y. not (test y)) xs)) [
      | true ↦ λ e. others_left test n xs
      | false ↦ λ e. ap (λ b. cond (not b) (x ∷ filter (λ y. not (test y)) (without_first test (suc n) xs))
          (filter (λ y. not (test y)) (without_first test (suc n) xs))) e
          ∙ ap (λ ys. x ∷ ys) (others_left test (suc n) xs)
    ] refl

-- what holds of all, and of each with all later ones, holds of those that are left
pub all-without : {X : Type 0} (P : X → Type 0) (test : X → Bool) (n : ℕ) (xs : List X) → All P xs
    → All P (without_first test n xs)
all-without P test zero xs h = h
all-without P test (suc n) [] h = h
all-without P test (suc n) (x ∷ xs) h =
    elim (test x) as (λ b. All P (cond b (without_first test n xs) (x ∷ without_first test (suc n) xs))) [
      | true ↦ all-without P test n xs (All-tail P x xs h)
      | false ↦ All-cons P x (without_first test (suc n) xs) (All-head P x xs h)
          (all-without P test (suc n) xs (All-tail P x xs h))
    ]

pub pairs-without : {X : Type 0} (R : X → X → Type 0) (test : X → Bool) (n : ℕ) (xs : List X) → AllPairs R xs
    → AllPairs R (without_first test n xs)
pairs-without R test zero xs h = h
pairs-without R test (suc n) [] h = h
pairs-without R test (suc n) (x ∷ xs) h =
    elim (test x) as (λ b. AllPairs R (cond b (without_first test n xs) (x ∷ without_first test (suc n) xs))) [
      | true ↦ pairs-without R test n xs (pairs_tail R x xs h)
      | false ↦ AllPairs-cons R x (without_first test (suc n) xs)
          (all-without (R x) test (suc n) xs (pairs_head R x xs h))
          (pairs-without R test (suc n) xs (pairs_tail R x xs h))
    ]

pub twice : {X : Type 0} (p : X → Bool) (xs : List X) → filter p (filter p xs) ≡ filter p xs
twice p [] = refl
twice p (x ∷ xs) =
    elim (p x) as (λ b. p x ≡ b → filter p (cond b (x ∷ filter p xs) (filter p xs)) ≡ cond b (x ∷ filter p xs) (filter p xs)) [
      | true ↦ λ e. ap (λ b. cond b (x ∷ filter p (filter p xs)) (filter p (filter p xs))) e ∙ ap (λ ys. x ∷ ys) (twice p xs)
      | false ↦ λ e. twice p xs
    ] refl

tree_after-append : (t : PathTree) (xs ys : List Deferred) → tree_after t (xs ++ ys) ≡ tree_after (tree_after t xs) ys
tree_after-append t [] ys = refl
tree_after-append t (a ∷ xs) ys = tree_after-append (written t a.entries) xs ys

pushes_after-append : (newer : List ℕ) (ls : List Listen) (t : PathTree) (xs ys : List Deferred)
    → pushes_after newer ls t (xs ++ ys) ≡ pushes_after newer ls t xs ++ pushes_after newer ls (tree_after t xs) ys
pushes_after-append newer ls t [] ys = refl
pushes_after-append newer ls t (a ∷ xs) ys =
    let u = written t a.entries in
    ap (λ sent. bundled newer (pushes t u a.entries ls) ++ sent) (pushes_after-append newer ls u xs ys)
    ∙ sym (append_assoc (bundled newer (pushes t u a.entries ls)) (pushes_after newer ls u xs)
    (pushes_after newer ls (tree_after u xs) ys))

-- those that pass are all others of none
none_left : {X : Type 0} (test : X → Bool) (n : ℕ) (xs : List X) → length (filter test xs) ≤ n
    → without_first test n xs ≡ filter (λ x. not (test x)) xs
none_left test zero [] le = refl
none_left test (suc n) [] le = refl
none_left test zero (x ∷ xs) le =
    elim (test x) as (λ b. test x ≡ b → length (cond b (x ∷ filter test xs) (filter test xs)) ≤ 0
    → x ∷ xs ≡ cond (not b) (x ∷ filter (λ y. not (test y)) xs) (filter (λ y. not (test y)) xs)) [
      | true ↦ λ e h. absurd (omega (arith, h))
      | false ↦ λ e h. ap (λ ys. x ∷ ys) (none_left test zero xs h)
    ] refl le
none_left test (suc n) (x ∷ xs) le =
    elim (test x) as (λ b. test x ≡ b → length (cond b (x ∷ filter test xs) (filter test xs)) ≤ suc n
    → cond b (without_first test n xs) (x ∷ without_first test (suc n) xs)
    ≡ cond (not b) (x ∷ filter (λ y. not (test y)) xs) (filter (λ y. not (test y)) xs)) [
      | true ↦ λ e h. none_left test n xs (omega (arith, h))
      | false ↦ λ e h. ap (λ ys. x ∷ ys) (none_left test (suc n) xs h)
    ] refl le

le_of : (m n : ℕ) → nat_le m n ≡ true → m ≤ n
le_of m n e = grind (arith, nat_tests)

lt_of : (m n : ℕ) → nat_le m n ≡ false → n < m
lt_of m n e = grind (arith, nat_tests)

module _ (p : Peer) (n most : ℕ) where
  abbrev own : Deferred → Bool
  own a = a.connection == n

  abbrev other : ℕ → Bool
  other m = not (m == n)

  abbrev stays : Listen → Bool
  stays l = not (l.connection == n)

  abbrev q : Peer
  q = (turned p n most).0

  left : actions_of q n ≡ drop most (actions_of p n)
  left = own_left own most p.actions

  tree_is : tree_after q.tree (actions_of q n) ≡ tree_after p.tree (actions_of p n)
  tree_is =
      ap (tree_after q.tree) left
      ∙ sym (tree_after-append p.tree (take most (actions_of p n)) (drop most (actions_of p n)))
      ∙ ap (tree_after p.tree) (take-append-drop most (actions_of p n))

  known_is : filter other q.connections ≡ filter other p.connections
  known_is =
      elim (is_last_turn p n most) as (λ b.
      filter other (if b then filter other p.connections else p.connections) ≡ filter other p.connections) [
        | true ↦ twice other p.connections
        | false ↦ refl
      ]

  peer_is : (disconnected q n).0 ≡ (disconnected p n).0
  peer_is = λ i. record {
    tree = tree_is i;
    denied = p.denied;
    connections = known_is i;
    newer = twice other p.newer i;
    listens = twice stays p.listens i;
    actions = others_left own most p.actions i;
  }

  sent_is : (turned p n most).1 ++ (disconnected q n).1 ≡ (disconnected p n).1
  sent_is =
      (λ i. (turned p n most).1
      ++ pushes_after (twice other p.newer i) (twice stays p.listens i) q.tree (left i))
      ∙ sym (pushes_after-append (filter other p.newer) (filter stays p.listens) p.tree
      (take most (actions_of p n)) (drop most (actions_of p n)))
      ∙ ap (pushes_after (filter other p.newer) (filter stays p.listens) p.tree) (take-append-drop most (actions_of p n))

  last_is : is_last_turn p n most ≡ true → turned p n most ≡ disconnected p n
  last_is e =
      let few : length (actions_of p n) ≤ most = le_of (length (actions_of p n)) most e in
      let all : first_actions p n most ≡ actions_of p n = take_all most (actions_of p n) few in
      λ i. (
        record {
          tree = tree_after p.tree (all i);
          denied = p.denied;
          connections = ap (λ b. if b then filter other p.connections else p.connections) e i;
          newer = filter other p.newer;
          listens = filter stays p.listens;
          actions = none_left own most p.actions few i;
        },
        pushes_after (filter other p.newer) (filter stays p.listens) p.tree (all i),
      )

  some_left : is_last_turn p n most ≡ false → length (actions_of q n) + most ≡ length (actions_of p n)
  some_left e =
      let many : most < length (actions_of p n) = lt_of (length (actions_of p n)) most e in
      omega (arith, ap length left, length-drop most (actions_of p n))

pub turn_then_end : TurnThenEndIsEnd
turn_then_end p n most = (peer_is p n most, sent_is p n most)

pub last_turn : LastTurnIsEnd
last_turn p n most e = last_is p n most e

pub so_many : TurnsRunSoMany
so_many p n most e = some_left p n most e
