-- What of pushes that are sent as one comes to each connection.
use Rattle.std.proofs.Common.{◌≡◌, ℕ, ◌<◌, ◌==◌, ◌&&◌, ◌||◌, Bool, true, false, cond, nat_lt}
use Rattle.std.proofs.Common.{List, [], ◌∷◌, ◌++◌, map, drop, refl, sym, ap, subst, ◌∙◌, append-nil, arith, if◌then◌else◌}
use Rattle.std.specs.Prelude.{⊤}
use Rattle.std.specs.List.{All, AllPairs, filter, flat_map}
use Rattle.std.proofs.lemmas.Bool.Decides.{nat_tests}
use Rattle.std.proofs.lemmas.List.{map-append}
use Rattle.std.proofs.lemmas.List.Elements.{All-cons, All-head, All-tail, filter-append}
use Rattle.rt_wire.specs.declared.server.ServerMessage.{ServerMessage}
use Rattle.rt_wire.specs.declared.server.ServerMessage.TheVariants.{Push}
use Rattle.rt_peer.specs.declared.pushes.Sent.{Sent}
use Rattle.rt_peer.specs.Peers.{Listen, is_before, is_known}
use Rattle.rt_peer.specs.Pushes.{parts_in, go_together, together, joined, bundled}
use Rattle.rt_peer.specs.laws.Pushed.{messages_to, as_one}
use Rattle.rt_peer.proofs.BundleLaws.{same_number}
use Rattle.rt_peer.proofs.Places.{pairs_head, pairs_tail}

-- ---- numbers

flipped : (m n : ℕ) → (m == n) ≡ (n == m)
flipped m n = grind (arith, nat_tests)

same : (n : ℕ) → (n == n) ≡ true
same n = grind (arith, nat_tests)

equal_of : (m n : ℕ) → (m == n) ≡ true → m ≡ n
equal_of m n e = grind (arith, nat_tests)

above_other : (m n : ℕ) → n < m → (m == n) ≡ false
above_other m n h = grind (arith, nat_tests)

lex_apart : (a b c d : ℕ) → (nat_lt a c || a == c && nat_lt b d) ≡ true → (c == a) ≡ false → a < c
lex_apart a b c d h e = grind (arith, nat_tests)

lex_above : (n a b c d : ℕ) → n < a → (nat_lt a c || a == c && nat_lt b d) ≡ true → n < c
lex_above n a b c d lt h = grind (arith, nat_tests)

-- ---- messages to one

pub to-append : (n : ℕ) (xs ys : List Sent)
    → messages_to n (xs ++ ys) ≡ messages_to n xs ++ messages_to n ys
to-append n xs ys =
    ap (map (λ s. s.message)) (filter-append (λ s. s.to == n) xs ys)
    ∙ map-append (λ s. s.message) (filter (λ s. s.to == n) xs) (filter (λ s. s.to == n) ys)

pub to-own : (n : ℕ) (s : Sent) (xs : List Sent) → (s.to == n) ≡ true
    → messages_to n (s ∷ xs) ≡ s.message ∷ messages_to n xs
to-own n s xs h =
    ap (λ b. map (λ r. r.message) (cond b (s ∷ filter (λ r. r.to == n) xs) (filter (λ r. r.to == n) xs))) h

pub to-other : (n : ℕ) (s : Sent) (xs : List Sent) → (s.to == n) ≡ false
    → messages_to n (s ∷ xs) ≡ messages_to n xs
to-other n s xs h =
    ap (λ b. map (λ r. r.message) (cond b (s ∷ filter (λ r. r.to == n) xs) (filter (λ r. r.to == n) xs))) h

-- ---- whom the first is for

abbrev first_is : ℕ → List Sent → Bool
first_is n [] = false
first_is n (s ∷ rest) = s.to == n

first-joined : (newer : List ℕ) (n : ℕ) (s : Sent) (xs : List Sent)
    → first_is n (joined newer s xs) ≡ (s.to == n)
first-joined newer n s [] = refl
first-joined newer n s (r ∷ rest) =
    elim (go_together newer s r) as (λ b.
    first_is n (if b then together s r ∷ rest else s ∷ r ∷ rest) ≡ (s.to == n))
    [ true ↦ refl | false ↦ refl ]

first-bundled : (newer : List ℕ) (n : ℕ) (xs : List Sent)
    → first_is n (bundled newer xs) ≡ first_is n xs
first-bundled newer n [] = refl
first-bundled newer n (s ∷ rest) = first-joined newer n s (bundled newer rest)

-- all for one connection stand beside each other
abbrev pub StandTogether : List Sent → Type 0
StandTogether [] = ⊤
StandTogether (s ∷ rest) = (first_is s.to rest ≡ false → messages_to s.to rest ≡ []) × StandTogether rest

-- ---- one that is in front of others

not_together : (newer : List ℕ) (s r : Sent) → (r.to == s.to) ≡ false → go_together newer s r ≡ false
not_together newer s r e = ap (λ b. b && is_known newer s.to) (flipped s.to r.to ∙ e)

and_false : (a b : Bool) → b ≡ false → (a && b) ≡ false
and_false true b e = e
and_false false b e = refl

joined-apart : (newer : List ℕ) (s : Sent) (xs : List Sent) → first_is s.to xs ≡ false
    → joined newer s xs ≡ s ∷ xs
joined-apart newer s [] e = refl
joined-apart newer s (r ∷ rest) e =
    ap (λ b. if b then together s r ∷ rest else s ∷ r ∷ rest) (not_together newer s r e)

joined-older : (newer : List ℕ) (s : Sent) (xs : List Sent) → is_known newer s.to ≡ false
    → joined newer s xs ≡ s ∷ xs
joined-older newer s [] e = refl
joined-older newer s (r ∷ rest) e =
    ap (λ b. if b then together s r ∷ rest else s ∷ r ∷ rest)
    (and_false (s.to == r.to) (is_known newer s.to) e)

-- to another connection
joined-other : (newer : List ℕ) (n : ℕ) (s : Sent) (xs : List Sent) → (s.to == n) ≡ false
    → messages_to n (joined newer s xs) ≡ messages_to n xs
joined-other newer n s [] h = to-other n s [] h
joined-other newer n s (r ∷ rest) h =
    elim (go_together newer s r) as (λ b. go_together newer s r ≡ b
    → messages_to n (if b then together s r ∷ rest else s ∷ r ∷ rest) ≡ messages_to n (r ∷ rest)) [
      | true ↦ λ e.
          to-other n (together s r) rest h
          ∙ sym (to-other n r rest
          (ap (λ m. m == n) (sym (same_number s.to r.to (is_known newer s.to) e)) ∙ h))
      | false ↦ λ e. to-other n s (r ∷ rest) h
    ] refl

-- one more push in front of those that are one
abbrev first_or : ServerMessage → List ServerMessage → ServerMessage
first_or m [] = m
first_or m (k ∷ rest) = k

one_more : (m r : ServerMessage) (rest ms : List ServerMessage) → r ∷ rest ≡ as_one ms
    → Push (parts_in m ++ parts_in r) ∷ rest ≡ as_one (m ∷ ms)
one_more m r rest [] e = cc
one_more m r rest (k ∷ []) e =
    ap (λ x. Push (parts_in m ++ parts_in x) ∷ rest) (ap (first_or m) e)
    ∙ ap (λ xs. Push (parts_in m ++ parts_in k) ∷ xs) (ap (drop 1) e)
    ∙ ap (λ ps. Push (parts_in m ++ ps) ∷ []) (sym (append-nil (parts_in k)))
one_more m r rest (k ∷ l ∷ ms) e =
    ap (λ x. Push (parts_in m ++ parts_in x) ∷ rest) (ap (first_or m) e)
    ∙ ap (λ xs. Push (parts_in m ++ flat_map parts_in (k ∷ l ∷ ms)) ∷ xs) (ap (drop 1) e)

-- to its own, which reads version 2, in front of the first for it
joined-own : (newer : List ℕ) (s : Sent) (xs : List Sent) (ms : List ServerMessage)
    → is_known newer s.to ≡ true → first_is s.to xs ≡ true → messages_to s.to xs ≡ as_one ms
    → messages_to s.to (joined newer s xs) ≡ as_one (s.message ∷ ms)
joined-own newer s [] ms known first h = cc
joined-own newer s (r ∷ rest) ms known first h =
    let both : go_together newer s r ≡ true =
    ap (λ b. b && is_known newer s.to) (flipped s.to r.to ∙ first) ∙ known in
    ap (λ b. messages_to s.to (if b then together s r ∷ rest else s ∷ r ∷ rest)) both
    ∙ to-own s.to (together s r) rest (same s.to)
    ∙ one_more s.message r.message (messages_to s.to rest) ms (sym (to-own s.to r rest first) ∙ h)

-- ---- by version

abbrev pub one_if : Bool → List ServerMessage → List ServerMessage
one_if newer ms = if newer then as_one ms else ms

own : (newer : List ℕ) (s : Sent) (rest : List Sent)
    → (first_is s.to rest ≡ false → messages_to s.to rest ≡ [])
    → messages_to s.to (bundled newer rest) ≡ one_if (is_known newer s.to) (messages_to s.to rest)
    → messages_to s.to (joined newer s (bundled newer rest))
    ≡ one_if (is_known newer s.to) (s.message ∷ messages_to s.to rest)
own newer s rest alone h =
    elim (is_known newer s.to) as (λ k. is_known newer s.to ≡ k
    → messages_to s.to (bundled newer rest) ≡ one_if k (messages_to s.to rest)
    → messages_to s.to (joined newer s (bundled newer rest))
    ≡ one_if k (s.message ∷ messages_to s.to rest)) [
      | true ↦ λ known g.
          elim (first_is s.to rest) as (λ b. first_is s.to rest ≡ b
          → messages_to s.to (joined newer s (bundled newer rest))
          ≡ as_one (s.message ∷ messages_to s.to rest)) [
            | true ↦ λ e.
                joined-own newer s (bundled newer rest) (messages_to s.to rest) known
                (first-bundled newer s.to rest ∙ e) g
            | false ↦ λ e.
                ap (messages_to s.to) (joined-apart newer s (bundled newer rest)
                (first-bundled newer s.to rest ∙ e))
                ∙ to-own s.to s (bundled newer rest) (same s.to)
                ∙ ap (λ ms. s.message ∷ ms) (g ∙ ap as_one (alone e))
                ∙ sym (ap (λ ms. as_one (s.message ∷ ms)) (alone e))
          ] refl
      | false ↦ λ known g.
          ap (messages_to s.to) (joined-older newer s (bundled newer rest) known)
          ∙ to-own s.to s (bundled newer rest) (same s.to)
          ∙ ap (λ ms. s.message ∷ ms) g
    ] refl h

pub bundled-to : (newer : List ℕ) (n : ℕ) (xs : List Sent) → StandTogether xs
    → messages_to n (bundled newer xs) ≡ one_if (is_known newer n) (messages_to n xs)
bundled-to newer n [] h =
    elim (is_known newer n) as (λ b. [] ≡ one_if b []) [ true ↦ refl | false ↦ refl ]
bundled-to newer n (s ∷ rest) h =
    elim (s.to == n) as (λ b. (s.to == n) ≡ b
    → messages_to n (joined newer s (bundled newer rest))
    ≡ one_if (is_known newer n) (messages_to n (s ∷ rest))) [
      | true ↦ λ e.
          let is : s.to ≡ n = equal_of s.to n e in
          let P : ℕ → Type 0 = λ k. messages_to k (joined newer s (bundled newer rest))
          ≡ one_if (is_known newer k) (messages_to k (s ∷ rest)) in
          subst P is (own newer s rest h.0 (bundled-to newer s.to rest h.1)
          ∙ ap (one_if (is_known newer s.to)) (sym (to-own s.to s rest (same s.to))))
      | false ↦ λ e.
          joined-other newer n s (bundled newer rest) e
          ∙ bundled-to newer n rest h.1
          ∙ ap (one_if (is_known newer n)) (sym (to-other n s rest e))
    ] refl

-- ---- what listens in order are sent

module _ (message : Listen → ServerMessage) where
  abbrev pub told : List Listen → List Sent
  told ls = map (λ l. record { to = l.connection; message = message l }) ls

  none_to : (n : ℕ) (ls : List Listen) → All (λ l. n < l.connection) ls → messages_to n (told ls) ≡ []
  none_to n [] h = refl
  none_to n (l ∷ ls) h =
      to-other n (record { to = l.connection; message = message l }) (told ls)
      (above_other l.connection n (All-head (λ m. n < m.connection) l ls h))
      ∙ none_to n ls (All-tail (λ m. n < m.connection) l ls h)

  none_later : (l : Listen) (ls : List Listen) → All (λ m. is_before l m ≡ true) ls
      → AllPairs (λ a b. is_before a b ≡ true) ls → first_is l.connection (told ls) ≡ false
      → messages_to l.connection (told ls) ≡ []
  none_later l [] before pairs e = refl
  none_later l (k ∷ ks) before pairs e =
      let above : l.connection < k.connection =
      lex_apart l.connection l.tag k.connection k.tag
      (All-head (λ m. is_before l m ≡ true) k ks before) e in
      none_to l.connection (k ∷ ks) (All-cons (λ m. l.connection < m.connection) k ks above
      (λ i d lt. lex_above l.connection k.connection k.tag _ _ above
      (pairs_head (λ a b. is_before a b ≡ true) k ks pairs i d lt)))

  pub told_together : (ls : List Listen) → AllPairs (λ a b. is_before a b ≡ true) ls
      → StandTogether (told ls)
  told_together [] h = tt
  told_together (l ∷ ls) h =
      let rest = pairs_tail (λ a b. is_before a b ≡ true) l ls h in
      (none_later l ls (pairs_head (λ a b. is_before a b ≡ true) l ls h) rest, told_together ls rest)
