-- What is read ahead and sent, step by step.
use Rattle.std.proofs.Common.{◌≡◌, ℕ, ◌+◌, ◌<◌, ◌≤◌, List, [], ◌∷◌, ◌++◌, length, drop, get_or, true, false}
use Rattle.std.proofs.Common.{Option, None, refl, sym, ap, subst, ◌∙◌}
use Rattle.std.proofs.lemmas.List.{drop_all, drop_more}
use Rattle.rt_socket.specs.declared.wire.Lost.{Lost}
use Rattle.rt_wire.specs.declared.client.ClientMessage.{ClientMessage}
use Rattle.rt_connect.specs.declared.link.ServerFrame.{ServerFrame}
use Rattle.rt_connect.specs.Ahead.{ReadAhead, has_way, noted_of, with_kept, with_sent}
use Rattle.rt_connect.specs.Sending.{Awaits, Linked, MakesWay, Sends, SendsAll, text_of}

-- one more came
pub awaits_more : (len : ℕ) (a b c : ReadAhead) (ts : List ServerFrame) (t : ServerFrame) → Awaits len a ts b
    → has_way len b ≡ false → c ≡ with_kept t (noted_of t b) → Awaits len a (ts ++ t ∷ []) c
awaits_more len a b c [] t h lacks is =
    (subst (λ x. has_way len x ≡ false) h lacks, subst (λ x. c ≡ with_kept t (noted_of t x)) h is)
awaits_more len a b c (u ∷ us) t h lacks is =
    (h.0, awaits_more len (with_kept u (noted_of u a)) b c us t h.1 lacks is)

-- the list of what came is not empty then
pub some_came : {X : Type 0} (xs : List X) (x : X) → xs ++ x ∷ [] ≡ [] → ⊥
some_came [] x e = cc
some_came (y ∷ ys) x e = cc

-- so far these came, and there is no way
abbrev pub IsAwaiting : ℕ → ReadAhead → ReadAhead → Type 0
IsAwaiting len old now = (came : List ServerFrame) × Awaits len old came now × (has_way len now ≡ false)

-- one more came
abbrev pub HasCome : ℕ → ReadAhead → ReadAhead → Type 0
HasCome len old now = (came : List ServerFrame) × Awaits len old came now × (came ≡ [] → ⊥)

pub came_more : (len : ℕ) (a b c : ReadAhead) (t : ServerFrame) → IsAwaiting len a b
    → c ≡ with_kept t (noted_of t b) → HasCome len a c
came_more len a b c t h is =
    (h.0 ++ t ∷ [], awaits_more len a b c h.0 t h.1 h.2 is, some_came h.0 t)

-- then there is way
pub made_way : {W : Type 0} (len : ℕ) (old new : Linked W) → HasCome len old.ahead new.ahead
    → has_way len new.ahead ≡ true → MakesWay len old new
made_way len old new h way = record {
  came = h.0;
  awaits = h.1;
  way = way;
  still = λ e. absurd (h.2 e);
}

-- there is way at once
pub way_at_once : {W : Type 0} (len : ℕ) (old : Linked W) → has_way len old.ahead ≡ true → MakesWay len old old
way_at_once len old way = record { came = []; awaits = refl; way = way; still = λ _. refl }

-- one message is sent
pub sent_one : {W : Type 0} (sends : W → List ℕ → Option Lost → W → Type 0) (old ready new : Linked W)
    (m : ClientMessage) (len : ℕ) (words : List ℕ) (lost : Option Lost) → words ≡ text_of m → len ≡ length words
    → MakesWay len old ready → sends ready.wire words lost new.wire → lost ≡ None
    → new.ahead ≡ with_sent m len ready.ahead → Sends sends old m new
sent_one sends old ready new m len words lost is size way sent none noted =
    let long : len ≡ length (text_of m) = size ∙ ap length is in record {
      ready = ready;
      way = subst (λ n. MakesWay n old ready) long way;
      sent = subst (λ l. sends ready.wire (text_of m) l new.wire) none
          (subst (λ t. sends ready.wire t lost new.wire) is sent);
      noted = subst (λ n. new.ahead ≡ with_sent m n ready.ahead) long noted;
    }

-- one message more
pub send_more : {W : Type 0} (sends : W → List ℕ → Option Lost → W → Type 0) (old mid last : Linked W)
    (ms : List ClientMessage) (i : ℕ) (m : ClientMessage) → i < length ms → m ≡ get_or ms i m
    → Sends sends old m mid → SendsAll sends mid (drop (i + 1) ms) last → SendsAll sends old (drop i ms) last
send_more sends old mid last ms i m lt at s h =
    subst (λ xs. SendsAll sends old xs last)
    (ap (λ y. y ∷ drop (i + 1) ms) at ∙ sym (drop_more ms i m lt)) (mid, s, h)

-- none is left
pub sent_all : {W : Type 0} (sends : W → List ℕ → Option Lost → W → Type 0) (old : Linked W)
    (ms : List ClientMessage) (i : ℕ) → length ms ≤ i → SendsAll sends old (drop i ms) old
sent_all sends old ms i le = subst (λ xs. SendsAll sends old xs old) (sym (drop_all i ms le)) refl
