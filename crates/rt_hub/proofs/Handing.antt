-- What is handed over, text after text.
use Rattle.std.proofs.Common.{◌≡◌, ℕ, List, [], ◌∷◌, ◌++◌, Option, Some, None, refl, sym, ap, subst, ◌∙◌}
use Rattle.std.proofs.Common.{true, arith, append-nil}
use Rattle.std.specs.Prelude.{◌==◌, ◌≤◌, ◌+◌, length, if◌then◌else◌, take, drop}
use Rattle.std.proofs.lemmas.Bool.Decides.{nat_tests}
use Rattle.std.specs.List.{slice_get}
use Rattle.rt_hub.specs.Hubs.{Hub, IsHanded, first_of, line_in}
use Rattle.rt_hub.specs.Lines.{Line, line_of, without_first}
use Rattle.rt_hub.specs.Runs.{Asked, Next, OfPeer, first_in, given_all, watched_all, watched_in}
use Rattle.rt_hub.specs.Doors.{Takes}
use Rattle.rt_hub.specs.Handing.{AreNexts, Fewer, Hands, HasDrained, HasGiven, HasHanded, InHub, IsPassed, waits}
use Rattle.rt_hub.specs.declared.door.Flushed.{Flushed}
use Rattle.rt_hub.specs.declared.turn.Handed.{Handed}
use Rattle.rt_hub.specs.declared.turn.Handed.TheVariants.{Drained, Blocked, More, Failed}
use Rattle.rt_hub.specs.declared.turn.Passed.{Passed}
use Rattle.rt_hub.specs.declared.turn.Passed.TheVariants as Pass
use Rattle.rt_hub.proofs.Joining.{bounds_made, does_append, given-append, sees_all, takes_more}

-- ---- one after another

nexts-append : (n : ℕ) (xs ys : List Asked) → AreNexts n xs → AreNexts n ys → AreNexts n (xs ++ ys)
nexts-append n [] ys h k = k
nexts-append n (OfPeer call ∷ xs) ys h k = absurd h
nexts-append n (Next m ∷ xs) ys (e, h) k = (e, nexts-append n xs ys h k)

handed_more : (n : ℕ) (p q r : Option (List (List ℕ))) (a b c : Hub) → HasHanded n p q a b
    → HasHanded n q r b c → HasHanded n p r a c
handed_more n p q r a b c x y = record {
  asked = x.asked ++ y.asked;
  nexts = nexts-append n x.asked y.asked x.nexts y.nexts;
  made = does_append a b c x.asked y.asked x.made y.made;
  took = subst (λ texts. Takes p r texts) both
      (takes_more p q r (given_all a.bounds n (watched_in n a) x.asked)
      (given_all b.bounds n (watched_in n b) y.asked) x.took y.took);
}
  where
    second : given_all b.bounds n (watched_in n b) y.asked
        ≡ given_all a.bounds n (watched_all a.bounds n (watched_in n a) x.asked) y.asked
    second =
        ap (λ bo. given_all bo n (watched_in n b) y.asked) (bounds_made a b x.asked x.made)
        ∙ ap (λ w. given_all a.bounds n w y.asked) (sees_all a b x.asked n x.made)

    both : given_all a.bounds n (watched_in n a) x.asked ++ given_all b.bounds n (watched_in n b) y.asked
        ≡ given_all a.bounds n (watched_in n a) (x.asked ++ y.asked)
    both =
        ap (λ l. given_all a.bounds n (watched_in n a) x.asked ++ l) second
        ∙ sym (given-append a.bounds n (watched_in n a) x.asked y.asked)

drained_more : (n : ℕ) (p q r : Option (List (List ℕ))) (a b c : Hub) → HasHanded n p q a b
    → HasDrained n q r b c → HasDrained n p r a c
drained_more n p q r a b c x y =
    record { handed = handed_more n p q r a b c x y.handed; drained = y.drained }

given_more : (n : ℕ) (p q : Option (List (List ℕ))) (a b c : Hub) → HasHanded n p q a b
    → HasGiven n b c → HasGiven n a c
given_more n p q a b c x y = record {
  asked = x.asked ++ y.asked;
  nexts = nexts-append n x.asked y.asked x.nexts y.nexts;
  made = does_append a b c x.asked y.asked x.made y.made;
}

-- ---- also of a hub that has lacked memory

in_hub : (P Q R : Hub → Hub → Type 0) → ((a b c : Hub) → P a b → Q b c → R a c)
    → (a b c : Option Hub) → InHub P a b → InHub Q b c → InHub R a c
in_hub P Q R join None b c x y = subst (λ o. InHub Q o c) x y
in_hub P Q R join (Some a) None c x y = absurd x
in_hub P Q R join (Some a) (Some b) None x y = absurd y
in_hub P Q R join (Some a) (Some b) (Some c) x y = join a b c x y

weaker : (P Q : Hub → Hub → Type 0) → ((a b : Hub) → P a b → Q a b) → (a b : Option Hub) → InHub P a b
    → InHub Q a b
weaker P Q is None b x = x
weaker P Q is (Some a) None x = absurd x
weaker P Q is (Some a) (Some b) x = is a b x

pub passed_more : (passed : Passed) (n : ℕ) (p q r : Option (List (List ℕ))) (a b c : Option Hub)
    → InHub (HasHanded n p q) a b → IsPassed passed n q r b c → IsPassed passed n p r a c
passed_more Pass.Nothing n p q r a b c x y =
    in_hub (HasHanded n p q) (HasDrained n q r) (HasDrained n p r) (drained_more n p q r) a b c x y
passed_more (Pass.Texts bytes) n p q r a b c x y =
    in_hub (HasHanded n p q) (HasHanded n q r) (HasHanded n p r) (handed_more n p q r) a b c x y
passed_more Pass.Failed n p q r a b c x y =
    in_hub (HasHanded n p q) (HasGiven n) (HasGiven n) (given_more n p q) a b c x y

pub hands_more : (handed : Handed) (n : ℕ) (p q r : Option (List (List ℕ))) (flushed : Flushed)
    (a b c : Option Hub) → InHub (HasHanded n p q) a b → Hands handed n q r flushed b c
    → Hands handed n p r flushed a c
hands_more Drained n p q r flushed a b c x y = (
  in_hub (HasHanded n p q) (HasDrained n q r) (HasDrained n p r) (drained_more n p q r) a b c x y.0,
  y.1,
)
hands_more Blocked n p q r flushed a b c x y = (
  in_hub (HasHanded n p q) (HasHanded n q r) (HasHanded n p r) (handed_more n p q r) a b c x y.0,
  y.1,
)
hands_more More n p q r flushed a b c x y =
    in_hub (HasHanded n p q) (HasHanded n q r) (HasHanded n p r) (handed_more n p q r) a b c x y
hands_more Failed n p q r flushed a b c x y =
    in_hub (HasHanded n p q) (HasGiven n) (HasGiven n) (given_more n p q) a b c x y

abbrev or_nil : {X : Type 0} → Option (List X) → List X
or_nil None = []
or_nil (Some xs) = xs

-- nothing was handed over yet
takes_none : (p q : Option (List (List ℕ))) → q ≡ p → Takes p q []
takes_none None q e = tt
takes_none (Some p) None e = cc e
takes_none (Some p) (Some q) e = ap or_nil e ∙ sym (append-nil p)

pub none_handed : (n : ℕ) (p q : Option (List (List ℕ))) (a : Option Hub) → q ≡ p
    → InHub (HasHanded n p q) a a
none_handed n p q None e = refl
none_handed n p q (Some a) e = record { asked = []; nexts = tt; made = refl; took = takes_none p q e }

pub none_given : (n : ℕ) (a : Option Hub) → InHub (HasGiven n) a a
none_given n None = refl
none_given n (Some a) = record { asked = []; nexts = tt; made = refl }

-- ---- one text

equal : (n : ℕ) → (n == n) ≡ true
equal n = grind (arith, nat_tests)

-- what is given first is the oldest text
first_is : (line : Option Line) (text : List ℕ) → Some text ≡ first_of line → first_in line ≡ text ∷ []
first_is None text e = cc e
first_is (Some line) text e = head_is line.waiting e
  where
    head_is : (xs : List (List ℕ)) → Some text ≡ slice_get xs 0 → take 1 xs ≡ text ∷ []
    head_is [] e = cc e
    head_is (x ∷ xs) e = ap (λ t. t ∷ []) (sym (ap or_nil e))

first_none : (line : Option Line) → None ≡ first_of line → first_in line ≡ []
first_none None e = refl
first_none (Some line) e = none_is line.waiting e
  where
    none_is : (xs : List (List ℕ)) → None ≡ slice_get xs 0 → take 1 xs ≡ []
    none_is [] e = refl
    none_is (x ∷ xs) e = cc e

none_then : (line : Option Line) → None ≡ first_of line → first_of (without_first line) ≡ None
none_then None e = refl
none_then (Some line) e = none_is line.waiting e
  where
    none_is : (xs : List (List ℕ)) → None ≡ slice_get xs 0 → slice_get (drop 1 xs) 0 ≡ None
    none_is [] e = refl
    none_is (x ∷ xs) e = cc e

one_given : (n : ℕ) (line : Option Line) (texts : List (List ℕ)) → first_in line ≡ texts
    → (if n == n then first_in line else []) ++ [] ≡ texts
one_given n line texts e =
    append-nil (if n == n then first_in line else [])
    ∙ ap (λ b. if b then first_in line else []) (equal n) ∙ e

-- the door took the oldest text
pub handed_one : (n : ℕ) (p q : Option (List (List ℕ))) (text : List ℕ) (a b : Option Hub)
    → Some text ≡ first_of (line_in a n) → IsHanded a n b → Takes p q (text ∷ [])
    → InHub (HasHanded n p q) a b
handed_one n p q text None b f h t = h
handed_one n p q text (Some a) None f h t = absurd h
handed_one n p q text (Some a) (Some b) f h t = record {
  asked = Next n ∷ [];
  nexts = (refl, tt);
  made = (b, h, refl);
  took = subst (λ texts. Takes p q texts)
      (sym (one_given n (line_of a.lines n) (text ∷ []) (first_is (line_of a.lines n) text f))) t;
}

pub given_one : (n : ℕ) (a b : Option Hub) → IsHanded a n b → InHub (HasGiven n) a b
given_one n None b h = h
given_one n (Some a) None h = absurd h
given_one n (Some a) (Some b) h = record { asked = Next n ∷ []; nexts = (refl, tt); made = (b, h, refl) }

-- none waits
pub drained_one : (n : ℕ) (p : Option (List (List ℕ))) (a b : Option Hub)
    → None ≡ first_of (line_in a n) → IsHanded a n b → InHub (HasDrained n p p) a b
drained_one n p None b f h = h
drained_one n p (Some a) None f h = absurd h
drained_one n p (Some a) (Some b) f h = record {
  handed = record {
    asked = Next n ∷ [];
    nexts = (refl, tt);
    made = (b, h, refl);
    took = takes_nothing (given_all a.bounds n (watched_in n a) (Next n ∷ []))
        (one_given n (line_of a.lines n) [] (first_none (line_of a.lines n) f));
  };
  drained = ap first_of (h.lines n)
      ∙ ap (λ x. first_of (if x then without_first (line_of a.lines n) else line_of a.lines n)) (equal n)
      ∙ none_then (line_of a.lines n) f;
}
  where
    takes_nothing : (texts : List (List ℕ)) → texts ≡ [] → Takes p p texts
    takes_nothing texts e = subst (λ ts. Takes p p ts) (sym e) (takes_none p p refl)

-- ---- how many were handed over

pub none_fewer : (n : ℕ) (a : Option Hub) → Fewer 0 n a a
none_fewer n None = (refl, refl)
none_fewer n (Some a) = omega arith

pub some_fewer : (k j n : ℕ) (a b : Option Hub) → j ≤ k → Fewer k n a b → Fewer j n a b
some_fewer k j n None b le h = (omega (arith, le, h.0), h.1)
some_fewer k j n (Some a) None le h = absurd h
some_fewer k j n (Some a) (Some b) le h = omega (arith, le, h)

pub one_more : (k n : ℕ) (a b c : Option Hub) → Fewer k n a b → Fewer 1 n b c → Fewer (k + 1) n a c
one_more k n None b c h one =
    let none : Fewer 1 n None c = subst (λ x. Fewer 1 n x c) h.1 one in
    absurd (omega (arith, none.0))
one_more k n (Some a) None c h one = absurd h
one_more k n (Some a) (Some b) None h one = absurd one
one_more k n (Some a) (Some b) (Some c) h one = omega (arith, h, one)

shorter : (line : Option Line) (text : List ℕ) → Some text ≡ first_of line
    → waits (without_first line) + 1 ≤ waits line
shorter None text e = cc e
shorter (Some line) text e = go line.waiting e
  where
    go : (xs : List (List ℕ)) → Some text ≡ slice_get xs 0 → length (drop 1 xs) + 1 ≤ length xs
    go [] f = cc f
    go (x ∷ xs) f = omega arith

pub one_fewer : (n : ℕ) (text : List ℕ) (a b : Option Hub) → Some text ≡ first_of (line_in a n)
    → IsHanded a n b → Fewer 1 n a b
one_fewer n text None b f h = cc f
one_fewer n text (Some a) None f h = absurd h
one_fewer n text (Some a) (Some b) f h =
    subst (λ l. waits l + 1 ≤ waits (line_of a.lines n))
    (sym (h.lines n ∙ ap (λ x. if x then without_first (line_of a.lines n) else line_of a.lines n) (equal n)))
    (shorter (line_of a.lines n) text f)
