-- What is heard, message after message.
use Rattle.std.proofs.Common.{◌≡◌, ℕ, ◌+◌, ◌<◌, List, [], ◌∷◌, ◌++◌, map, Option, Some, None, refl}
use Rattle.std.proofs.Common.{sym, ap, subst, ◌∙◌, append_assoc, append-nil, arith, string_bytes}
use Rattle.std.specs.Prelude.{IfSome}
use Rattle.std.specs.List.{flat_map}
use Rattle.std.proofs.lemmas.Grind.{flat_map-append}
use Rattle.std.proofs.lemmas.List.{length-append, map-append}
use Rattle.std.proofs.lemmas.List.Sums.{fold-append}
use Rattle.rt_wire.specs.Client.{client_message}
use Rattle.rt_peer.specs.Peers.{Peer}
use Rattle.rt_hub.specs.Bounded.{after_bounded, bounded, sent_bounded}
use Rattle.rt_peer.specs.declared.pushes.Sent.{Sent}
use Rattle.rt_hub.specs.Hubs.{Hub, receivers}
use Rattle.rt_hub.specs.Runs.{DoesAll, OfPeer}
use Rattle.rt_hub.specs.Doors.{Gives}
use Rattle.rt_hub.specs.Refusing.{given_answers, text_answers}
use Rattle.rt_hub.specs.Turns.{AreMade, HasHeard, HasHeardIn, Hears, HearsTurn, IsNext, IsTurn}
use Rattle.rt_hub.specs.Turns.{all_accepted, calls_of, given_accepted, given_call, next_count, request_of}
use Rattle.rt_hub.specs.Turns.{text_accepted, text_call}
use Rattle.rt_hub.specs.declared.door.DoorRead.{DoorRead}
use Rattle.rt_hub.specs.declared.hub.Notes.{Notes}
use Rattle.rt_hub.specs.declared.turn.Turn.{Turn}
use Rattle.rt_hub.specs.declared.turn.Turn.TheVariants.{Idle, More, Ended}
use Rattle.rt_hub.proofs.Joining.{after_made, does_append, gives_more, gives_none, sent-append}

-- ---- one after another

accepted-append : (n : ℕ) (p : Peer) (g h : List (Option (List ℕ)))
    → all_accepted n p (g ++ h) ≡ all_accepted n p g ++ all_accepted n (after_bounded p (calls_of n g)) h
accepted-append n p [] h = refl
accepted-append n p (x ∷ g) h =
    let q : Peer = after_bounded p (given_call n x) in
    ap (λ l. given_accepted n p x ++ l) (accepted-append n q g h)
    ∙ sym (append_assoc (given_accepted n p x) (all_accepted n q g) (all_accepted n (after_bounded q (calls_of n g)) h))
    ∙ ap (λ r. (given_accepted n p x ++ all_accepted n q g) ++ all_accepted n r h)
    (sym (fold-append (λ q call. (bounded q call).0) p (given_call n x) (calls_of n g)))

heard_more : (n : ℕ) (g h : List (Option (List ℕ))) (a b c : Hub) (t u v : Notes)
    → HasHeard n g a b t u → HasHeard n h b c u v → HasHeard n (g ++ h) a c t v
heard_more n g h a b c t u v x y = record {
  made = subst (λ asked. DoesAll a asked c) (sym asked)
      (does_append a b c (map OfPeer (calls_of n g)) (map OfPeer (calls_of n h)) x.made y.made);
  told = y.told ∙ ap (λ l. l ++ receivers (sent_bounded b.peer (calls_of n h))) x.told
      ∙ append_assoc t.told.items (receivers (sent_bounded a.peer (calls_of n g)))
      (receivers (sent_bounded b.peer (calls_of n h)))
      ∙ ap (λ l. t.told.items ++ l) (sym sent);
  accepted = y.accepted ∙ ap (λ l. l ++ all_accepted n b.peer h) x.accepted
      ∙ append_assoc (map request_of t.accepted.items) (all_accepted n a.peer g) (all_accepted n b.peer h)
      ∙ ap (λ l. map request_of t.accepted.items ++ l) (sym accepts);
}
  where
    calls : calls_of n (g ++ h) ≡ calls_of n g ++ calls_of n h
    calls = flat_map-append (given_call n) g h

    asked : map OfPeer (calls_of n (g ++ h)) ≡ map OfPeer (calls_of n g) ++ map OfPeer (calls_of n h)
    asked = ap (map OfPeer) calls ∙ map-append OfPeer (calls_of n g) (calls_of n h)

    sent : receivers (sent_bounded a.peer (calls_of n (g ++ h)))
        ≡ receivers (sent_bounded a.peer (calls_of n g)) ++ receivers (sent_bounded b.peer (calls_of n h))
    sent =
        ap (λ cs. receivers (sent_bounded a.peer cs)) calls
        ∙ ap receivers (sent-append a.peer (calls_of n g) (calls_of n h))
        ∙ map-append (λ (s : Sent). s.to) (sent_bounded a.peer (calls_of n g))
        (sent_bounded (after_bounded a.peer (calls_of n g)) (calls_of n h))
        ∙ ap (λ p. receivers (sent_bounded a.peer (calls_of n g)) ++ receivers (sent_bounded p (calls_of n h)))
        (sym (after_made a b (calls_of n g) x.made))

    accepts : all_accepted n a.peer (g ++ h) ≡ all_accepted n a.peer g ++ all_accepted n b.peer h
    accepts =
        accepted-append n a.peer g h
        ∙ ap (λ p. all_accepted n a.peer g ++ all_accepted n p h) (sym (after_made a b (calls_of n g) x.made))

in_more : (n : ℕ) (g h : List (Option (List ℕ))) (a b c : Option Hub) (t u v : Notes)
    → HasHeardIn n g a b t u → HasHeardIn n h b c u v → HasHeardIn n (g ++ h) a c t v
in_more n g h None b c t u v x y = subst (λ o. HasHeardIn n h o c u v) x y
in_more n g h (Some a) None c t u v x y = absurd x
in_more n g h (Some a) (Some b) None t u v x y = absurd y
in_more n g h (Some a) (Some b) (Some c) t u v x y = heard_more n g h a b c t u v x y

answers_more : (g h : List (Option (List ℕ))) (w x y : List (List ℕ)) → x ≡ w ++ flat_map given_answers g
    → y ≡ x ++ flat_map given_answers h → y ≡ w ++ flat_map given_answers (g ++ h)
answers_more g h w x y e f =
    f ∙ ap (λ l. l ++ flat_map given_answers h) e
    ∙ append_assoc w (flat_map given_answers g) (flat_map given_answers h)
    ∙ ap (λ l. w ++ l) (sym (flat_map-append given_answers g h))

pub hears_more : (k m n : ℕ) (a b c : Option Hub) (p q r : Option (List (Option (List ℕ)))) (t u v : Notes)
    → Hears k n a b p q t u → Hears m n b c q r u v → Hears (k + m) n a c p r t v
hears_more k m n a b c p q r t u v x y = record {
  given = x.given ++ y.given;
  many = omega (arith, length-append x.given y.given, x.many, y.many);
  gave = gives_more p q r x.given y.given x.gave y.gave;
  heard = in_more n x.given y.given a b c t u v x.heard y.heard;
  answered =
      answers_more x.given y.given (map string_bytes t.answers.items) (map string_bytes u.answers.items)
      (map string_bytes v.answers.items) x.answered y.answered;
}

none_in : (n : ℕ) (a : Option Hub) (t : Notes) → HasHeardIn n [] a a t t
none_in n None t = refl
none_in n (Some a) t = record {
  made = refl;
  told = sym (append-nil t.told.items);
  accepted = sym (append-nil (map request_of t.accepted.items));
}

-- nothing was given, or a message that is no text
pub hears_nothing : (n : ℕ) (a : Option Hub) (p q : Option (List (Option (List ℕ)))) (t : Notes)
    → Gives p q [] → Hears 0 n a a p q t t
hears_nothing n a p q t g = record {
  given = [];
  many = refl;
  gave = g;
  heard = none_in n a t;
  answered = sym (append-nil (map string_bytes t.answers.items));
}

-- nothing comes behind
pub hears_none : (n : ℕ) (a : Option Hub) (p : Option (List (Option (List ℕ)))) (t : Notes)
    → Hears 0 n a a p p t t
hears_none n a p t = hears_nothing n a p p t (gives_none p)

other_in : (n : ℕ) (a : Option Hub) (t : Notes) → HasHeardIn n (None ∷ []) a a t t
other_in n None t = refl
other_in n (Some a) t = record {
  made = refl;
  told = sym (append-nil t.told.items);
  accepted = sym (append-nil (map request_of t.accepted.items));
}

pub hears_other : (n : ℕ) (a : Option Hub) (p q : Option (List (Option (List ℕ)))) (t : Notes)
    → Gives p q (None ∷ []) → Hears 1 n a a p q t t
hears_other n a p q t g = record {
  given = None ∷ [];
  many = refl;
  gave = g;
  heard = other_in n a t;
  answered = sym (append-nil (map string_bytes t.answers.items));
}

-- ---- a text

text_in : (n : ℕ) (text : List ℕ) (a b : Option Hub) (t u : Notes)
    → AreMade a (text_call n (client_message text)) b
    → IfSome a (λ h. u.told.items
    ≡ t.told.items ++ receivers (sent_bounded h.peer (text_call n (client_message text))))
    → IfSome a (λ h. map request_of u.accepted.items
    ≡ map request_of t.accepted.items ++ text_accepted n h.peer text (client_message text))
    → HasHeardIn n (Some text ∷ []) a b t u
text_in n text None b t u m s k = m
text_in n text (Some a) None t u m s k = absurd m
text_in n text (Some a) (Some b) t u m s k =
    let e : calls_of n (Some text ∷ []) ≡ text_call n (client_message text) =
    append-nil (text_call n (client_message text)) in
    record {
      made = subst (λ calls. DoesAll a (map OfPeer calls) b) (sym e) m;
      told = s ∙ ap (λ calls. t.told.items ++ receivers (sent_bounded a.peer calls)) (sym e);
      accepted = k ∙ ap (λ l. map request_of t.accepted.items ++ l)
          (sym (append-nil (text_accepted n a.peer text (client_message text))));
    }

pub hears_text : (n : ℕ) (text : List ℕ) (a b : Option Hub) (p q : Option (List (Option (List ℕ))))
    (t u : Notes) → Gives p q (Some text ∷ [])
    → AreMade a (text_call n (client_message text)) b
    → IfSome a (λ h. u.told.items
    ≡ t.told.items ++ receivers (sent_bounded h.peer (text_call n (client_message text))))
    → map string_bytes u.answers.items
    ≡ map string_bytes t.answers.items ++ text_answers text (client_message text)
    → IfSome a (λ h. map request_of u.accepted.items
    ≡ map request_of t.accepted.items ++ text_accepted n h.peer text (client_message text))
    → Hears 1 n a b p q t u
hears_text n text a b p q t u g m s e k = record {
  given = Some text ∷ [];
  many = refl;
  gave = g;
  heard = text_in n text a b t u m s k;
  answered = e ∙ ap (λ l. map string_bytes t.answers.items ++ l)
      (sym (append-nil (text_answers text (client_message text))));
}

-- ---- turns

-- a turn ends as the door says, behind what it took before
pub turn_ends : (turn : Turn) (said : DoorRead) (k most n : ℕ) (a b c : Option Hub)
    (p q r : Option (List (Option (List ℕ)))) (t u v : Notes) → k < most
    → IsNext (Some turn) said → Hears k n a b p q t u → Hears (next_count (Some turn)) n b c q r u v
    → HearsTurn turn most n a c p r t v
turn_ends Idle said k most n a b c p q r t u v lt is x y =
    (k + 0, omega (arith, lt), hears_more k 0 n a b c p q r t u v x y)
turn_ends More said k most n a b c p q r t u v lt is x y = absurd is
turn_ends Ended said k most n a b c p q r t u v lt is x y =
    (k + 0, omega (arith, lt), hears_more k 0 n a b c p q r t u v x y)

pub turn_is : (turn : Turn) (said : DoorRead) → IsNext (Some turn) said → IsTurn turn said
turn_is Idle said is = is
turn_is More said is = absurd is
turn_is Ended said is = is
