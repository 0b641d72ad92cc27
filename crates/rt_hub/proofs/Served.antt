-- What a connection is given, of any calls.
use Rattle.std.proofs.Common.{◌≡◌, ◌⊎◌, ℕ, Bool, true, false, not, List, [], ◌∷◌, ◌++◌, drop}
use Rattle.std.proofs.Common.{inl, inr, refl, sym, ap, subst, ◌∙◌, append-nil, append_assoc, Option}
use Rattle.std.proofs.Common.{Some, None}
use Rattle.std.specs.Prelude.{◌==◌, if◌then◌else◌}
use Rattle.std.specs.List.{fold}
use Rattle.std.proofs.lemmas.List.{take-append-drop}
use Rattle.rt_peer.specs.Peers.{Peer, least_free}
use Rattle.rt_peer.specs.Runs.{Call, Connect, Message, Disconnect, EndSome}
use Rattle.rt_peer.specs.Turns.{is_last_turn}
use Rattle.rt_hub.specs.declared.refusal.Bounds.{Bounds}
use Rattle.rt_hub.specs.Bounded.{bounded}
use Rattle.rt_hub.specs.Hubs.{Hub, kept_line, left_line, line_after}
use Rattle.rt_hub.specs.Lines.{Line, checked, empty_line, is_full, over_line, texts_to, with_text, with_texts}
use Rattle.rt_hub.specs.Lines.{without_first}
use Rattle.rt_hub.specs.Runs.{Asked, DoesOne, Lasts, Next, OfPeer, Watched, first_in}
use Rattle.rt_hub.specs.Runs.{given_all, given_by}
use Rattle.rt_hub.specs.Runs.{sent_all, sent_by, stays, watched_after, watched_all, watched_in}
use Rattle.rt_hub.specs.laws.Queues.{IsServed, IsServedAll, SeesItsOwn}

-- ---- hubs and their connections

sees_one : (old mid : Hub) (call : Asked) (n : ℕ) → DoesOne old call mid
    → watched_in n mid ≡ watched_after old.bounds n (watched_in n old) call
sees_one old mid (OfPeer call) n h = λ i. record { peer = h.peer i; line = h.lines n i }
sees_one old mid (Next m) n h = λ i. record { peer = h.peer i; line = h.lines n i }

same_bounds : (old mid : Hub) (call : Asked) → DoesOne old call mid → mid.bounds ≡ old.bounds
same_bounds old mid (OfPeer call) h = h.bounds
same_bounds old mid (Next m) h = h.bounds

pub sees_own : SeesItsOwn
sees_own old new [] n h = ap (watched_in n) h
sees_own old new (call ∷ calls) n (mid, one, rest) =
    sees_own mid new calls n rest
    ∙ ap (λ b. watched_all b n (watched_in n mid) calls) (same_bounds old mid call one)
    ∙ ap (λ w. watched_all old.bounds n w calls) (sees_one old mid call n one)

-- ---- texts

over_takes : (texts : List (List ℕ)) → fold with_text over_line texts ≡ over_line
over_takes [] = refl
over_takes (t ∷ texts) = over_takes texts

-- texts that come to a line that is over leave it so
over_stays : (b : Bounds) (texts : List (List ℕ)) → fold with_text (checked b texts over_line) texts ≡ over_line
over_stays b [] = refl
over_stays b (t ∷ texts) =
    elim (is_full b []) as (λ full. fold with_text (if full then over_line else over_line) (t ∷ texts) ≡ over_line)
    [ true ↦ over_takes texts | false ↦ over_takes texts ]

-- texts come behind what waits, or the line is over
abbrev pub Comes : Line → List (List ℕ) → Line → Type 0
Comes line texts left =
    (left ≡ over_line) ⊎ ((left.is_over ≡ false) × (left.waiting ≡ line.waiting ++ texts))

-- a line that isn't over, in which these wait
abbrev holds : List (List ℕ) → Line
holds texts = record { waiting = texts; is_over = false }

open_takes : (texts waiting : List (List ℕ)) → fold with_text (holds waiting) texts ≡ holds (waiting ++ texts)
open_takes [] waiting = ap holds (sym (append-nil waiting))
open_takes (t ∷ texts) waiting =
    open_takes texts (waiting ++ t ∷ []) ∙ ap holds (append_assoc waiting (t ∷ []) texts)

behind : (line : Line) (texts : List (List ℕ)) → line.is_over ≡ false
    → Comes line texts (fold with_text line texts)
behind line texts h =
    let is : line ≡ holds line.waiting = λ i. record { waiting = line.waiting; is_over = h i } in
    let all : fold with_text line texts ≡ holds (line.waiting ++ texts) =
    ap (λ l. fold with_text l texts) is ∙ open_takes texts line.waiting in
    subst (λ l. Comes line texts l) (sym all) (inr (refl, refl))

texts_come : (b : Bounds) (texts : List (List ℕ)) (line : Line) → line.is_over ≡ false
    → Comes line texts (fold with_text (checked b texts line) texts)
texts_come b [] line h = behind line [] h
texts_come b (t ∷ texts) line h =
    elim (is_full b line.waiting) as (λ full. Comes line (t ∷ texts)
    (fold with_text (if full then over_line else line) (t ∷ texts))) [
      | true ↦ inl (over_takes texts)
      | false ↦ behind line (t ∷ texts) h
    ]

-- ---- one call

not_true : (b : Bool) → not b ≡ true → b ≡ false
not_true true e = cc
not_true false e = refl

-- a line that lasts is kept
keeps : (n : ℕ) (p : Peer) (call : Call) (line : Option Line) → stays n p (OfPeer call) ≡ true
    → kept_line n p call line ≡ line
keeps n p Connect line e =
    ap (λ b. if b then Some empty_line else line) (not_true (least_free p.connections == n) e)
keeps n p (Message m message) line e = refl
keeps n p (Disconnect m) line e = ap (λ b. if b then None else line) (not_true (m == n) e)
keeps n p (EndSome m most) line e =
    ap (λ b. if b then left_line (is_last_turn p m most) line else line) (not_true (m == n) e)

after_call : (b : Bounds) (n : ℕ) (w : Watched) (call : Call) (line : Line) → w.line ≡ Some line
    → stays n w.peer (OfPeer call) ≡ true
    → line_after b n w.peer call w.line
    ≡ Some (fold with_text (checked b (texts_to n (bounded w.peer call).1) line) (texts_to n (bounded w.peer call).1))
after_call b n w call line is e =
    ap (with_texts b (texts_to n (bounded w.peer call).1)) (keeps n w.peer call w.line e ∙ is)

-- what a call gives, leaves and loses
pub record IsOne (b : Bounds) (n : ℕ) (w : Watched) (line : Line) (call : Asked) (left : Line) : Type 0
  where
    pub has : (watched_after b n w call).line ≡ Some left
    pub fate : (left ≡ over_line)
        × ((lost : List (List ℕ)) × (line.waiting ++ sent_by n w call ≡ given_by n w call ++ lost))
        ⊎ (left.is_over ≡ false) × (line.waiting ++ sent_by n w call ≡ given_by n w call ++ left.waiting)

drop_first : (m n : ℕ) (line : Option Line) (l : Line) (b : Bool) → line ≡ Some l
    → l.waiting ++ [] ≡ (if b then first_in line else []) ++ (if b then drop 1 l.waiting else l.waiting)
drop_first m n line l true is =
    append-nil l.waiting ∙ sym (take-append-drop 1 l.waiting)
    ∙ ap (λ o. first_in o ++ drop 1 l.waiting) (sym is)
drop_first m n line l false is = append-nil l.waiting

served_one : (b : Bounds) (n : ℕ) (w : Watched) (line : Line) (call : Asked) → w.line ≡ Some line
    → line.is_over ≡ false → stays n w.peer call ≡ true → (left : Line) × IsOne b n w line call left
served_one b n w line (OfPeer call) is open_line e =
    let texts : List (List ℕ) = texts_to n (bounded w.peer call).1 in
    let left : Line = fold with_text (checked b texts line) texts in (
      left,
      record {
        has = after_call b n w call line is e;
        fate = elim (texts_come b texts line open_line) as (λ _. (left ≡ over_line)
            × ((lost : List (List ℕ)) × (line.waiting ++ texts ≡ [] ++ lost))
            ⊎ (left.is_over ≡ false) × (line.waiting ++ texts ≡ [] ++ left.waiting)) [
              | inl over ↦ inl (over, (line.waiting ++ texts, refl))
              | inr went ↦ inr (went.0, sym went.1)
            ];
      },
    )
served_one b n w line (Next m) is open_line e =
    elim (m == n) as (λ t. (m == n) ≡ t → (left : Line) × IsOne b n w line (Next m) left) [
      | true ↦ λ t. (
        record line { waiting = drop 1 line.waiting },
        record {
          has = ap (λ t. if t then without_first w.line else w.line) t ∙ ap without_first is;
          fate = inr (
            open_line,
            drop_first m n w.line line true is
                ∙ ap (λ t. (if t then first_in w.line else []) ++ drop 1 line.waiting) (sym t),
          );
        },
      )
      | false ↦ λ t. (
        line,
        record {
          has = ap (λ t. if t then without_first w.line else w.line) t ∙ is;
          fate = inr (
            open_line,
            append-nil line.waiting
                ∙ ap (λ t. (if t then first_in w.line else []) ++ line.waiting) (sym t),
          );
        },
      )
    ] refl

-- ---- a line that is over

over_after : (b : Bounds) (n : ℕ) (w : Watched) (call : Asked) → w.line ≡ Some over_line
    → stays n w.peer call ≡ true → (watched_after b n w call).line ≡ Some over_line
over_after b n w (OfPeer call) is e =
    after_call b n w call over_line is e ∙ ap Some (over_stays b (texts_to n (bounded w.peer call).1))
over_after b n w (Next m) is e =
    elim (m == n) as (λ t. (if t then without_first w.line else w.line) ≡ Some over_line) [
      | true ↦ ap without_first is
      | false ↦ is
    ]

gives_none : (b : Bounds) (n : ℕ) (w : Watched) (call : Asked) → w.line ≡ Some over_line → given_by n w call
    ≡ []
gives_none b n w (OfPeer call) is = refl
gives_none b n w (Next m) is =
    elim (m == n) as (λ t. (if t then first_in w.line else []) ≡ [])
    [ true ↦ ap first_in is | false ↦ refl ]

over_all : (b : Bounds) (n : ℕ) (w : Watched) (calls : List Asked) → w.line ≡ Some over_line
    → Lasts b n w calls
    → ((watched_all b n w calls).line ≡ Some over_line) × (given_all b n w calls ≡ [])
over_all b n w [] is h = (is, refl)
over_all b n w (call ∷ calls) is h =
    let rest = over_all b n (watched_after b n w call) calls (over_after b n w call is h.0) h.1 in (
      rest.0,
      ap (λ x. x ++ given_all b n (watched_after b n w call) calls) (gives_none b n w call is)
          ∙ rest.1,
    )

-- ---- all calls

more_lost : (had sent given lost rest : List (List ℕ)) → had ++ sent ≡ given ++ lost
    → had ++ (sent ++ rest) ≡ (given ++ []) ++ (lost ++ rest)
more_lost had sent given lost rest e =
    sym (append_assoc had sent rest) ∙ ap (λ x. x ++ rest) e ∙ append_assoc given lost rest
    ∙ ap (λ x. x ++ (lost ++ rest)) (sym (append-nil given))

more_waits : (had sent given waits rest next lost : List (List ℕ)) → had ++ sent ≡ given ++ waits
    → waits ++ rest ≡ next ++ lost → had ++ (sent ++ rest) ≡ (given ++ next) ++ lost
more_waits had sent given waits rest next lost e f =
    sym (append_assoc had sent rest) ∙ ap (λ x. x ++ rest) e ∙ append_assoc given waits rest
    ∙ ap (λ x. given ++ x) f ∙ sym (append_assoc given next lost)

-- one call more: what it leaves is served from there, or the line is over
serve_more : (b : Bounds) (n : ℕ) (w : Watched) (line : Line) (call : Asked) (calls : List Asked)
    (left : Line)
    → Lasts b n (watched_after b n w call) calls → IsOne b n w line call left
    → (left.is_over ≡ false → IsServed b n (watched_after b n w call) left calls)
    → IsServed b n w line (call ∷ calls)
serve_more b n w line call calls left lasts one rest =
    let next : Watched = watched_after b n w call in
    elim one.fate as (λ _. IsServed b n w line (call ∷ calls)) [
      | inl over ↦
          let all = over_all b n next calls (one.has ∙ ap Some over.0) lasts in record {
            left = over_line;
            has = all.0;
            lost = over.1.0 ++ sent_all b n next calls;
            begins =
                more_lost line.waiting (sent_by n w call) (given_by n w call) over.1.0
                (sent_all b n next calls) over.1.1
                ∙ ap (λ x. (given_by n w call ++ x) ++ (over.1.0 ++ sent_all b n next calls)) (sym all.1);
            whole = λ e. absurd (cc e);
          }
      | inr went ↦
          let all = rest went.0 in record {
            left = all.left;
            has = all.has;
            lost = all.lost;
            begins =
                more_waits line.waiting (sent_by n w call) (given_by n w call) left.waiting
                (sent_all b n next calls) (given_all b n next calls) all.lost went.1 all.begins;
            whole = all.whole;
          }
    ]

pub served_all : IsServedAll
served_all b n w line [] is open_line h = record {
  left = line;
  has = is;
  lost = line.waiting;
  begins = append-nil line.waiting;
  whole = λ _. refl;
}
served_all b n w line (call ∷ calls) is open_line h =
    let one = served_one b n w line call is open_line h.0 in
    serve_more b n w line call calls one.0 h.1 one.1
    (λ e. served_all b n (watched_after b n w call) one.0 calls one.1.has e h.1)

-- both laws
pub ruleset laws = (sees_own, served_all)
