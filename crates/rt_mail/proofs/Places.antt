-- Places in lists of numbers, and of listeners.
use Rattle.std.proofs.Common.{◌≡◌, ℕ, zero, suc, ◌+◌, ◌<◌, Bool, true, false, cond, not, nat_le, ◌==◌, List, [], ◌∷◌, ◌++◌, map, length, take, drop, set, refl, sym, ap, ◌∙◌, arith, get_or}
use Rattle.std.specs.List.{insert, position_or_len}
use Rattle.std.proofs.lemmas.List.Sums.{position_or_len_is}
use Rattle.rt_view.specs.declared.change.Change.{Change}
use Rattle.rt_view.specs.Changes.{replay}
use Rattle.rt_mail.specs.Mailbox.{Children, played, with_listener, without_listener, with_request, without_request}
use Rattle.rt_mail.specs.inside.Places.{does_stand}

-- the first place at which no lesser number stands
abbrev pub place : ℕ → List ℕ → ℕ
place n ns = position_or_len (nat_le n) ns

-- where none is lesser, it is after all
pub place_last : (test : ℕ → Bool) (ns : List ℕ) → ((k d : ℕ) → k < length ns → test (get_or ns k d) ≡ false) → length ns ≡ position_or_len test ns
place_last test [] h = refl
place_last test (n ∷ ns) h = sym (position_or_len_is test (n ∷ ns) (length (n ∷ ns)) n (omega arith) (λ k lt. h k n lt) (λ lt. absurd (omega arith)))

pub next : (p : ℕ) → suc p ≡ 1 + p
next p = omega arith

-- a request is put in its place, unless it stands there
pub with_request-place : (n : ℕ) (ns : List ℕ) → with_request n ns ≡ cond (does_stand ns (place n ns) n) ns (insert ns (place n ns) n)
with_request-place n [] = refl
with_request-place n (m ∷ ns) =
    let p = place n ns in
    elim (nat_le n m) as (λ b. cond b (cond (m == n) (m ∷ ns) (n ∷ m ∷ ns)) (m ∷ with_request n ns)
    ≡ cond (does_stand (m ∷ ns) (cond (not b) (1 + p) 0) n) (m ∷ ns) (insert (m ∷ ns) (cond (not b) (1 + p) 0) n)) [
      | false ↦
          ap (λ z. m ∷ z) (with_request-place n ns)
          ∙ elim (does_stand ns p n) as (λ d. m ∷ cond d ns (insert ns p n) ≡ cond d (m ∷ ns) (insert (m ∷ ns) (suc p) n)) [ true ↦ refl | false ↦ refl ]
          ∙ ap (λ q. cond (does_stand (m ∷ ns) q n) (m ∷ ns) (insert (m ∷ ns) q n)) (next p)
      | true ↦ refl
    ]

-- the numbers of listeners
abbrev pub numbers : List (ℕ × Children) → List ℕ
numbers ls = map (λ l. l.0) ls

-- and so is a listener
pub with_listener-place : (n : ℕ) (ls : List (ℕ × Children))
    → with_listener n ls ≡ cond (does_stand (numbers ls) (place n (numbers ls)) n) ls (insert ls (place n (numbers ls)) (n, []))
with_listener-place n [] = refl
with_listener-place n (l ∷ ls) =
    let p = place n (numbers ls) in
    elim (nat_le n l.0) as (λ b. cond b (cond (l.0 == n) (l ∷ ls) ((n, []) ∷ l ∷ ls)) (l ∷ with_listener n ls)
    ≡ cond (does_stand (numbers (l ∷ ls)) (cond (not b) (1 + p) 0) n) (l ∷ ls) (insert (l ∷ ls) (cond (not b) (1 + p) 0) (n, []))) [
      | false ↦
          ap (λ z. l ∷ z) (with_listener-place n ls)
          ∙ elim (does_stand (numbers ls) p n) as (λ d. l ∷ cond d ls (insert ls p (n, [])) ≡ cond d (l ∷ ls) (insert (l ∷ ls) (suc p) (n, []))) [ true ↦ refl | false ↦ refl ]
          ∙ ap (λ q. cond (does_stand (numbers (l ∷ ls)) q n) (l ∷ ls) (insert (l ∷ ls) q (n, []))) (next p)
      | true ↦ refl
    ]

pub numbers-insert : (p : ℕ) (ls : List (ℕ × Children)) (x : ℕ × Children) → numbers (insert ls p x) ≡ insert (numbers ls) p x.0
numbers-insert zero ls x = refl
numbers-insert (suc p) [] x = refl
numbers-insert (suc p) (l ∷ ls) x = ap (λ z. l.0 ∷ z) (numbers-insert p ls x)

pub numbers-without : (n : ℕ) (ls : List (ℕ × Children)) → numbers (without_listener n ls) ≡ without_request n (numbers ls)
numbers-without n [] = refl
numbers-without n (l ∷ ls) =
    elim (l.0 == n) as (λ b. numbers (cond (not b) (l ∷ without_listener n ls) (without_listener n ls)) ≡ cond (not b) (l.0 ∷ without_request n (numbers ls)) (without_request n (numbers ls))) [
      | true ↦ numbers-without n ls
      | false ↦ ap (λ z. l.0 ∷ z) (numbers-without n ls)
    ]

-- a batch keeps the numbers
pub numbers-played : (n : ℕ) (cs : List Change) (ls : List (ℕ × Children)) → numbers (map (played n cs) ls) ≡ numbers ls
numbers-played n cs [] = refl
numbers-played n cs (l ∷ ls) =
    let rest = numbers-played n cs ls in
    elim (l.0 == n) as (λ b. (cond b (l.0, replay cs l.1) l).0 ∷ numbers (map (played n cs) ls) ≡ l.0 ∷ numbers ls) [ true ↦ ap (λ z. l.0 ∷ z) rest | false ↦ ap (λ z. l.0 ∷ z) rest ]

-- the element at i after f, where those before it are so already
pub map_step : {X : Type 0} (f : X → X) (ps rs : List X) (i : ℕ) (d new : X)
    → rs ≡ map f (take i ps) ++ drop i ps → i < length rs → new ≡ f (get_or rs i d)
    → set rs i new ≡ map f (take (suc i) ps) ++ drop (suc i) ps
map_step f ps [] i d new e lt put = absurd (omega arith)
map_step f [] (x ∷ rs) zero d new e lt put = cc
map_step f (p ∷ ps) (x ∷ rs) zero d new e lt put =
    let head : x ≡ p = cc in
    let tail : rs ≡ ps = cc in
    λ i. (put ∙ ap f head) i ∷ tail i
map_step f [] (x ∷ rs) (suc i) d new e lt put = cc
map_step f (p ∷ ps) (x ∷ rs) (suc i) d new e lt put =
    let head : x ≡ f p = cc in
    let tail : rs ≡ map f (take i ps) ++ drop i ps = cc in
    λ j. head j ∷ map_step f ps rs i d new tail (omega arith) put j
