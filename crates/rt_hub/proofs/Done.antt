-- Calls of the peer and the lines after them.
use Rattle.std.proofs.Common.{◌≡◌, ℕ, ◌+◌, ◌<◌, ◌≤◌, Bool, true, false, List, [], ◌∷◌, length, drop, get_or}
use Rattle.std.proofs.Common.{◌++◌, cond, map, not, refl, sym, ap, subst, ◌∙◌, Option, Some, None}
use Rattle.std.specs.Prelude.{◌==◌, if◌then◌else◌, is_some, IfOk, IfSome, OnOk, Result, Ok, Err}
use Rattle.std.specs.List.{filter, fold}
use Rattle.std.specs.Option.{option_map}
use Rattle.std.proofs.lemmas.List.{drop_all, drop_more}
use Rattle.std.proofs.lemmas.List.Sums.{fold-append}
use Rattle.rt_wire.specs.declared.client.ClientMessage.{ClientMessage}
use Rattle.rt_peer.specs.declared.pushes.Sent.{Sent}
use Rattle.rt_peer.specs.Peers.{Peer, is_known, least_free}
use Rattle.rt_peer.specs.Calls.{Outcome, answered, connected, fault, one}
use Rattle.rt_peer.specs.Runs.{Call, Connect, Message, EndSome, outcome}
use Rattle.rt_peer.specs.Turns.{connections_after, is_last_turn, turned}
use Rattle.rt_hub.specs.declared.refusal.Bounds.{Bounds}
use Rattle.rt_hub.specs.Bounded.{bar_of, bounded, said_by, unless_barred}
use Rattle.rt_hub.specs.declared.door.Bar.{Bar}
use Rattle.rt_hub.specs.Hubs.{IsMade, left_line, receivers}
use Rattle.rt_hub.specs.Lines.{Line, checked, empty_line, is_full, line_of, over_line, text_of, texts_to}
use Rattle.rt_hub.specs.Lines.{told_more, with_text, with_texts, without_first}
use Rattle.rt_hub.specs.inside.Lined.{AreLinedOf, IsDone, hub_of}
use Rattle.rt_hub.proofs.Known.{answers, free_is_next, free_is_positive, joins, known_of, leaves}
use Rattle.rt_hub.proofs.Places.{IsChanged, Places, same_number}

-- ---- what follows of an answer

pub on_ok : {X Y : Type 0} {A B : Type 0} (r : Result X Y) → (A → B) → OnOk r A → OnOk r B
on_ok (Ok x) f h = f h
on_ok (Err e) f h = h

pub if_ok : {X Y : Type 0} {A B : X → Type 0} (r : Result X Y) → ((x : X) → A x → B x) → IfOk r A → IfOk r B
if_ok (Ok x) f h = f x h
if_ok (Err e) f h = h

-- ---- lines

-- what texts make of a line, one after another
abbrev pub Steps : Type 0
Steps = List (List ℕ) → Option Line → Option Line

-- none make nothing, and those of more messages come behind those of the first
pub record AreSteps (f : Steps) : Type 0 where
  pub none : (line : Option Line) → f [] line ≡ line
  pub join : (xs ys : List (List ℕ)) (line : Option Line) → f (xs ++ ys) line ≡ f ys (f xs line)

-- texts come behind what waits
abbrev pub puts : Steps
puts texts line = option_map (λ l. fold with_text l texts) line

-- before they come
abbrev pub checks : Bounds → Steps
checks b texts line = option_map (checked b texts) line

pub are_puts : AreSteps puts
are_puts = record { none = nothing; join = both }
  where
    nothing : (line : Option Line) → puts [] line ≡ line
    nothing None = refl
    nothing (Some l) = refl

    both : (xs ys : List (List ℕ)) (line : Option Line) → puts (xs ++ ys) line ≡ puts ys (puts xs line)
    both xs ys None = refl
    both xs ys (Some l) = ap Some (fold-append with_text l xs ys)

told_twice : (b : Bounds) (l : Line) → told_more b (told_more b l) ≡ told_more b l
told_twice b l =
    elim (is_full b l.waiting) as (λ t. is_full b l.waiting ≡ t
    → told_more b (if t then over_line else l) ≡ (if t then over_line else l)) [
      | true ↦ λ e. elim (is_full b []) as (λ t. (if t then over_line else over_line) ≡ over_line)
          [ true ↦ refl | false ↦ refl ]
      | false ↦ λ e. ap (λ t. if t then over_line else l) e
    ] refl

pub are_checks : (b : Bounds) → AreSteps (checks b)
are_checks b = record { none = nothing; join = both }
  where
    nothing : (line : Option Line) → checks b [] line ≡ line
    nothing None = refl
    nothing (Some l) = refl

    both : (xs ys : List (List ℕ)) (line : Option Line)
        → checks b (xs ++ ys) line ≡ checks b ys (checks b xs line)
    both xs ys None = refl
    both [] ys (Some l) = refl
    both (x ∷ xs) [] (Some l) = refl
    both (x ∷ xs) (y ∷ ys) (Some l) = ap Some (sym (told_twice b l))

-- first one and then the other
pub checked_then_put : (b : Bounds) (texts : List (List ℕ)) (line : Option Line)
    → puts texts (checks b texts line) ≡ with_texts b texts line
checked_then_put b texts None = refl
checked_then_put b texts (Some l) = refl

pub no_texts : (b : Bounds) (line : Option Line) → with_texts b [] line ≡ line
no_texts b None = refl
no_texts b (Some l) = refl

some_texts : (b : Bounds) (texts : List (List ℕ)) (line : Option Line) → is_some (with_texts b texts line)
    ≡ is_some line
some_texts b texts None = refl
some_texts b texts (Some l) = refl

some_first : (line : Option Line) → is_some (without_first line) ≡ is_some line
some_first None = refl
some_first (Some l) = refl

some_if : (t : Bool) (o line : Option Line) → is_some (if t then o else line)
    ≡ (if t then is_some o else is_some line)
some_if true o line = refl
some_if false o line = refl

to_more : (n : ℕ) (s : Sent) (rest : List Sent) → texts_to n (s ∷ rest) ≡ texts_to n (s ∷ [])
    ++ texts_to n rest
to_more n s rest =
    elim (s.to == n) as (λ t. map (λ (s : Sent). text_of s.message)
    (cond t (s ∷ filter (λ (s : Sent). s.to == n) rest) (filter (λ (s : Sent). s.to == n) rest))
    ≡ map (λ (s : Sent). text_of s.message) (cond t (s ∷ []) []) ++ texts_to n rest)
    [ true ↦ refl | false ↦ refl ]

-- so far these lines have what was sent, and what is left makes of them what all makes of the first
abbrev pub ArePut : Steps → Places → List Sent → Places → List Sent → Type 0
ArePut f had sent now left =
    (n : ℕ) → f (texts_to n left) (line_of now n) ≡ f (texts_to n sent) (line_of had n)

-- one message more
pub put_more : (f : Steps) (had now new : Places) (sent : List Sent) (i : ℕ) (s : Sent) → AreSteps f
    → i < length sent
    → s ≡ get_or sent i s → ArePut f had sent now (drop i sent)
    → ((n : ℕ) → line_of new n ≡ f (texts_to n (s ∷ [])) (line_of now n))
    → ArePut f had sent new (drop (i + 1) sent)
put_more f had now new sent i s are lt at so_far one = λ n.
    let rest : List Sent = drop (i + 1) sent in
    ap (f (texts_to n rest)) (one n)
    ∙ sym (are.join (texts_to n (s ∷ [])) (texts_to n rest) (line_of now n))
    ∙ ap (λ t. f t (line_of now n)) (sym (to_more n s rest))
    ∙ ap (λ left. f (texts_to n left) (line_of now n))
    (ap (λ y. y ∷ rest) at ∙ sym (drop_more sent i s lt))
    ∙ so_far n

-- none is left
pub put_last : (f : Steps) (had now : Places) (sent : List Sent) (i : ℕ) → AreSteps f → length sent ≤ i
    → ArePut f had sent now (drop i sent)
    → (n : ℕ) → line_of now n ≡ f (texts_to n sent) (line_of had n)
put_last f had now sent i are le so_far = λ n.
    sym (are.none (line_of now n))
    ∙ ap (λ left. f (texts_to n left) (line_of now n)) (sym (drop_all i sent le))
    ∙ so_far n

-- the text of one message
pub put_here : (had new : Places) (s : Sent) (n : ℕ) (o : Option Line) → n ≡ s.to
    → line_of had n ≡ o
    → IsChanged n (option_map (λ l. with_text l (text_of s.message)) o) had new
    → (k : ℕ) → line_of new k ≡ puts (texts_to k (s ∷ [])) (line_of had k)
put_here had new s n o is there ch k =
    ch k ∙ ap (λ m. if m == k then option_map (λ l. with_text l (text_of s.message)) o else line_of had k) is
    ∙ elim (s.to == k) as (λ t. (s.to == k) ≡ t
    → (if t then option_map (λ l. with_text l (text_of s.message)) o else line_of had k)
    ≡ puts (map (λ (s : Sent). text_of s.message) (cond t (s ∷ []) [])) (line_of had k)) [
      | true ↦ λ e.
          ap (λ x. option_map (λ l. with_text l (text_of s.message)) x)
          (sym there ∙ ap (line_of had) (is ∙ same_number s.to k e))
      | false ↦ λ e. sym (are_puts.none (line_of had k))
    ] refl

-- before it comes
pub check_here : (b : Bounds) (had new : Places) (s : Sent)
    → ((k : ℕ) → line_of new k ≡ (if s.to == k then option_map (told_more b) (line_of had k) else line_of had k))
    → (k : ℕ) → line_of new k ≡ checks b (texts_to k (s ∷ [])) (line_of had k)
check_here b had new s ch k = ch k ∙ chosen (s.to == k) (line_of had k)
  where
    chosen : (t : Bool) (line : Option Line) → (if t then option_map (told_more b) line else line)
        ≡ checks b (map (λ (s : Sent). text_of s.message) (cond t (s ∷ []) [])) line
    chosen true None = refl
    chosen true (Some l) = refl
    chosen false line = sym ((are_checks b).none line)

-- ---- a call

pub next_positive : (o : Option Peer) (had : Places) (n : ℕ) → AreLinedOf o had
    → IfSome o (λ p. n ≡ least_free p.connections) → 0 < n
next_positive None had n h e = absurd h
next_positive (Some p) had n h e = free_is_positive p.connections n e

pub next_within : (o : Option Peer) (had : Places) (n : ℕ) → AreLinedOf o had
    → IfSome o (λ p. (k : ℕ) → 1 ≤ k → k < n → is_known p.connections k ≡ true) → n < length had + 2
next_within None had n h all = absurd h
next_within (Some p) had n h all = free_is_next p had n h all

pub next_none : (o : Option Peer) (had : Places) (n : ℕ) → AreLinedOf o had
    → IfSome o (λ p. is_known p.connections n ≡ false) → line_of had n ≡ None
next_none None had n h e = absurd h
next_none (Some p) had n h e = no_line (line_of had n) (h n ∙ e)
  where
    no_line : (line : Option Line) → is_some line ≡ false → line ≡ None
    no_line None e = refl
    no_line (Some l) e = cc

pub began : (b : Bounds) (o q : Option Peer) (had has : Places) (n : ℕ) → AreLinedOf o had
    → IfSome o (λ p. n ≡ least_free p.connections) → IfSome o (λ p. q ≡ Some (connected p))
    → IsChanged n (Some empty_line) had has → IsDone b o had Connect q has
began b None q had has n lined is now ch = absurd lined
began b (Some p) q had has n lined is now ch =
    subst (λ q. IsDone b (Some p) had Connect q has) (sym now) (record {
      peer = refl;
      lines = λ k.
          ch k
          ∙ ap (λ m. if m == k then Some empty_line else line_of had k) is
          ∙ sym (no_texts b (if least_free p.connections == k then Some empty_line else line_of had k));
      lined = λ k.
          ap is_some (ch k) ∙ some_if (n == k) (Some empty_line) (line_of had k)
          ∙ ap (λ r. if n == k then true else r) (lined k)
          ∙ ap (λ m. if m == k then true else is_known p.connections k) is
          ∙ sym (joins p.connections (least_free p.connections) k);
    })

-- what a known connection says, and its end, are calls of the hub's peer
is_message : (p : Peer) (n : ℕ) (m : ClientMessage) → fault (Some p) n ≡ None → bar_of p n m ≡ None
    → answered p n m ≡ bounded p (Message n m)
is_message p n m known none =
    ap (λ (t : Bool). let o : Outcome = if t then answered p n m else (p, []) in o)
    (sym (known_of p n known))
    ∙ ap (λ s. unless_barred s p n (outcome p (Message n m))) (sym none)

-- what a test for a message that the hub answers itself says
pub bar_is : (o : Option Peer) (n : ℕ) (m : ClientMessage) (r i : Option Bar)
    → IfSome o (λ p. r ≡ bar_of p n m) → r ≡ i → IfSome o (λ p. bar_of p n m ≡ i)
bar_is None n m r i h e = tt
bar_is (Some p) n m r i h e = sym h ∙ e

is_barred : (p : Peer) (n : ℕ) (bar : Bar) (m : ClientMessage) → bar_of p n m ≡ Some bar
    → (p, one n (said_by bar)) ≡ bounded p (Message n m)
is_barred p n bar m e = ap (λ s. unless_barred s p n (outcome p (Message n m))) (sym e)

is_turn : (p : Peer) (n most : ℕ) → fault (Some p) n ≡ None → turned p n most ≡ bounded p (EndSome n most)
is_turn p n most known =
    ap (λ (t : Bool). let o : Outcome = if t then turned p n most else (p, []) in o)
    (sym (known_of p n known))

pub took : (b : Bounds) (o q : Option Peer) (had has : Places) (n : ℕ) (m : ClientMessage)
    (sent slice : List Sent)
    → slice ≡ sent → AreLinedOf o had → fault o n ≡ None → IfSome o (λ p. bar_of p n m ≡ None)
    → IfSome o (λ p. sent ≡ (answered p n m).1)
    → IfSome o (λ p. q ≡ Some (answered p n m).0)
    → ((k : ℕ) → line_of has k ≡ with_texts b (texts_to k slice) (line_of had k))
    → IsDone b o had (Message n m) q has
took b None q had has n m sent slice same lined known none told now put = absurd lined
took b (Some p) q had has n m sent slice same lined known none told now put =
    let is : answered p n m ≡ bounded p (Message n m) = is_message p n m known none in
    subst (λ q. IsDone b (Some p) had (Message n m) q has) (sym now) (record {
      peer = ap (λ (x : Outcome). x.0) is;
      lines = λ k.
          put k ∙ ap (λ s. with_texts b (texts_to k s) (line_of had k))
          (same ∙ told ∙ ap (λ (x : Outcome). x.1) is);
      lined = λ k.
          ap is_some (put k) ∙ some_texts b (texts_to k slice) (line_of had k) ∙ lined k
          ∙ ap (λ c. is_known c k) (sym (answers p n m));
    })

-- what the hub answers itself changes nothing of the peer
pub refuses : (b : Bounds) (o : Option Peer) (had has : Places) (n : ℕ) (bar : Bar) (m : ClientMessage)
    → AreLinedOf o had → IfSome o (λ p. bar_of p n m ≡ Some bar)
    → ((k : ℕ) → line_of has k ≡ with_texts b (texts_to k (one n (said_by bar))) (line_of had k))
    → IsDone b o had (Message n m) o has
refuses b None had has n bar m lined over put = absurd lined
refuses b (Some p) had has n bar m lined over put =
    let is : (p, one n (said_by bar)) ≡ bounded p (Message n m) = is_barred p n bar m over in
    record {
      peer = ap (λ (x : Outcome). x.0) is;
      lines = λ k.
          put k ∙ ap (λ s. with_texts b (texts_to k s) (line_of had k)) (ap (λ (x : Outcome). x.1) is);
      lined = λ k.
          ap is_some (put k) ∙ some_texts b (texts_to k (one n (said_by bar))) (line_of had k) ∙ lined k;
    }

-- who leaves a turn's lines: in the last one the connection has none any more
some_left : (b : Bool) (line : Option Line) → is_some (left_line b line) ≡ (if b then false else is_some line)
some_left true line = refl
some_left false None = refl
some_left false (Some l) = refl

-- after a turn a connection is known where it was, unless it was the last turn of its end
known_after : (p : Peer) (n most k : ℕ)
    → is_known (connections_after p n most) k
    ≡ (if n == k then (if is_last_turn p n most then false else is_known p.connections k) else is_known p.connections k)
known_after p n most k =
    elim (is_last_turn p n most) as (λ b. is_known (if b then filter (λ m. not (m == n)) p.connections
    else p.connections) k
    ≡ (if n == k then (if b then false else is_known p.connections k) else is_known p.connections k)) [
      | true ↦ leaves p.connections n k
      | false ↦ elim (n == k) as (λ t. is_known p.connections k
          ≡ (if t then is_known p.connections k else is_known p.connections k)) [ true ↦ refl | false ↦ refl ]
    ]

pub turns : (b : Bounds) (o q : Option Peer) (had mid has : Places) (n most : ℕ) (last : Bool)
    (sent slice : List Sent)
    → slice ≡ sent → AreLinedOf o had → fault o n ≡ None → IfSome o (λ p. sent ≡ (turned p n most).1)
    → IfSome o (λ p. last ≡ is_last_turn p n most)
    → IfSome o (λ p. q ≡ Some (turned p n most).0)
    → ((k : ℕ) → line_of mid k ≡ (if n == k then left_line last (line_of had k) else line_of had k))
    → ((k : ℕ) → line_of has k ≡ with_texts b (texts_to k slice) (line_of mid k))
    → IsDone b o had (EndSome n most) q has
turns b None q had mid has n most last sent slice same lined known told ends now gone put = absurd lined
turns b (Some p) q had mid has n most last sent slice same lined known told ends now gone put =
    let is : turned p n most ≡ bounded p (EndSome n most) = is_turn p n most known in
    subst (λ q. IsDone b (Some p) had (EndSome n most) q has) (sym now) (record {
      peer = ap (λ (x : Outcome). x.0) is;
      lines = λ k.
          put k ∙ ap (with_texts b (texts_to k slice)) (gone k)
          ∙ ap (λ l. with_texts b (texts_to k slice)
          (if n == k then left_line l (line_of had k) else line_of had k)) ends
          ∙ ap (λ s. with_texts b (texts_to k s)
          (if n == k then left_line (is_last_turn p n most) (line_of had k) else line_of had k))
          (same ∙ told ∙ ap (λ (x : Outcome). x.1) is);
      lined = λ k.
          ap is_some (put k) ∙ some_texts b (texts_to k slice) (line_of mid k) ∙ ap is_some (gone k)
          ∙ some_if (n == k) (left_line last (line_of had k)) (line_of had k)
          ∙ ap (λ r. if n == k then r else is_some (line_of had k)) (some_left last (line_of had k))
          ∙ ap (λ l. if n == k then (if l then false else is_some (line_of had k)) else is_some (line_of had k)) ends
          ∙ ap (λ r. if n == k then (if is_last_turn p n most then false else r) else r) (lined k)
          ∙ sym (known_after p n most k);
    })

-- what is seen of what was sent, as to whom it was
pub took_seen : {R E X : Type 0} (is_seen : R → X) (seen : List Sent → X) (r : Result R E) (o : Option Peer)
    (n : ℕ) (m : ClientMessage) (sent slice : List Sent) → slice ≡ sent → fault o n ≡ None
    → IfSome o (λ p. bar_of p n m ≡ None)
    → IfSome o (λ p. sent ≡ (answered p n m).1) → IfOk r (λ answer. is_seen answer ≡ seen slice)
    → IfOk r (λ answer. IfSome o (λ p. is_seen answer ≡ seen (bounded p (Message n m)).1))
took_seen is_seen seen r None n m sent slice same known none is e = if_ok r (λ answer h. tt) e
took_seen is_seen seen r (Some p) n m sent slice same known none is e =
    if_ok r (λ answer h. h ∙ ap seen (same ∙ is ∙ ap (λ (x : Outcome). x.1) (is_message p n m known none))) e

pub refuses_seen : {R E X : Type 0} (is_seen : R → X) (seen : List Sent → X) (r : Result R E) (o : Option Peer)
    (n : ℕ) (bar : Bar) (m : ClientMessage) → IfSome o (λ p. bar_of p n m ≡ Some bar)
    → IfOk r (λ answer. is_seen answer ≡ seen (one n (said_by bar)))
    → IfOk r (λ answer. IfSome o (λ p. is_seen answer ≡ seen (bounded p (Message n m)).1))
refuses_seen is_seen seen r None n bar m over e = if_ok r (λ answer h. tt) e
refuses_seen is_seen seen r (Some p) n bar m over e =
    if_ok r (λ answer h. h ∙ ap seen (ap (λ (x : Outcome). x.1) (is_barred p n bar m over))) e

pub turned_told : (o : Option Peer) (n most : ℕ) (sent slice : List Sent) (told : List ℕ) → slice ≡ sent
    → fault o n ≡ None → IfSome o (λ p. sent ≡ (turned p n most).1) → told ≡ receivers slice
    → IfSome o (λ p. told ≡ receivers (bounded p (EndSome n most)).1)
turned_told None n most sent slice told same known is e = tt
turned_told (Some p) n most sent slice told same known is e =
    e ∙ ap receivers (same ∙ is ∙ ap (λ (x : Outcome). x.1) (is_turn p n most known))

-- ---- hubs

pub made : (b : Bounds) (o q : Option Peer) (had has : Places) (call : Call) → IsDone b o had call q has
    → IsMade (hub_of false o b had) call (hub_of false q b has)
made b None q had has call h = absurd h
made b (Some p) None had has call h = absurd h
made b (Some p) (Some q) had has call h = record { peer = h.peer; bounds = refl; lines = h.lines }

pub still_lined : (b : Bounds) (o q : Option Peer) (had has : Places) (call : Call)
    → IsDone b o had call q has
    → AreLinedOf q has
still_lined b None q had has call h = absurd h
still_lined b (Some p) None had has call h = absurd h
still_lined b (Some p) (Some q) had has call h = h.lined

-- a line from which the first text is taken is still there
pub handed_lined : (o : Option Peer) (had has : Places) (n : ℕ) → AreLinedOf o had
    → ((k : ℕ) → line_of has k ≡ (if n == k then without_first (line_of had k) else line_of had k))
    → AreLinedOf o has
handed_lined None had has n h rest = absurd h
handed_lined (Some p) had has n h rest = λ k.
    ap is_some (rest k) ∙ some_if (n == k) (without_first (line_of had k)) (line_of had k)
    ∙ same (n == k) (some_first (line_of had k)) ∙ h k
  where
    same : {x y : Bool} (t : Bool) → x ≡ y → (if t then x else y) ≡ y
    same true e = e
    same false e = refl
