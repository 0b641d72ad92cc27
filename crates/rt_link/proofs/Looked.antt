-- What the items of a seat say of a request.
use Rattle.std.proofs.Common.{rules, ◌≡◌, ◌∙◌, ℕ, List, [], ◌∷◌, ◌++◌, take, drop, Bool, true, false, Option, Some, None, inl, inr, refl, sym, ap, subst, append_assoc, is_some}
use Rattle.std.specs.Prelude.{◌≢◌, if◌then◌else◌}
use mathlib.Core.Bool.{true≢false}
use Rattle.std.specs.List.{slice_get}
use Rattle.std.specs.Option.{option_or}
use Rattle.rt_mail.specs.declared.item.Item.{Item}
use Rattle.rt_mail.specs.Lanes.{Ring}
use Rattle.rt_client.specs.Lanes.{due}
use Rattle.rt_client.specs.Calls.{Seated}
use Rattle.rt_client.specs.Delivery.{RefusesTurn}
use Rattle.rt_client.specs.declared.error.ClientError.{ClientError}
use Rattle.rt_client.specs.declared.error.ClientError.TheVariants as client
use Rattle.rt_link.specs.Answering.{answer_among, answer_in, behind_answer, Answers, IsSilent, RefusesAnswering}
use Rattle.rt_link.specs.inside.Trials.{IsSettled}
use Rattle.rt_link.specs.declared.answers.Answer.{Answer}

-- ---- items that say nothing

among_at : (o l m z : Option Answer) → (l ≡ None → m ≡ z) → option_or o l ≡ None → option_or o m ≡ z
among_at None l m z on e = on e
among_at (Some a) l m z on e = absurd (cc)

behind_at : (o l : Option Answer) (xs ys zs : List Item) → (l ≡ None → ys ≡ zs) → option_or o l ≡ None → (if is_some o then xs else ys) ≡ zs
behind_at None l xs ys zs on e = on e
behind_at (Some a) l xs ys zs on e = absurd (cc)

-- some that say nothing, and then others
pub among_on : (xs ys : List Item) (r : ℕ) → answer_among xs r ≡ None → answer_among (xs ++ ys) r ≡ answer_among ys r
among_on [] ys r e = refl
among_on (x ∷ xs) ys r e = among_at (answer_in x r) (answer_among xs r) (answer_among (xs ++ ys) r) (answer_among ys r) (among_on xs ys r) e

pub behind_on : (xs ys : List Item) (r : ℕ) → answer_among xs r ≡ None → behind_answer (xs ++ ys) r ≡ behind_answer ys r
behind_on [] ys r e = refl
behind_on (x ∷ xs) ys r e = behind_at (answer_in x r) (answer_among xs r) (xs ++ ys) (behind_answer (xs ++ ys) r) (behind_answer ys r) (behind_on xs ys r) e

pub none_behind : (xs : List Item) (r : ℕ) → answer_among xs r ≡ None → behind_answer xs r ≡ []
none_behind [] r e = refl
none_behind (x ∷ xs) r e = behind_at (answer_in x r) (answer_among xs r) xs (behind_answer xs r) [] (none_behind xs r) e

-- ---- the first of them

pub silent_among : (xs : List Item) (x : Item) (r : ℕ) → slice_get xs 0 ≡ Some x → answer_in x r ≡ None → answer_among (drop 1 xs) r ≡ answer_among xs r
silent_among [] x r e none = absurd (cc)
silent_among (y ∷ ys) x r e none =
    let head : y ≡ x = cc in
    sym (ap (λ (o : Option Answer). option_or o (answer_among ys r)) (ap (λ (z : Item). answer_in z r) head ∙ none))

pub silent_behind : (xs : List Item) (x : Item) (r : ℕ) → slice_get xs 0 ≡ Some x → answer_in x r ≡ None → behind_answer (drop 1 xs) r ≡ behind_answer xs r
silent_behind [] x r e none = absurd (cc)
silent_behind (y ∷ ys) x r e none =
    let head : y ≡ x = cc in
    sym (ap (λ (o : Option Answer). if is_some o then ys else behind_answer ys r) (ap (λ (z : Item). answer_in z r) head ∙ none))

said_at : (o l : Option Answer) → is_some o ≡ true → option_or o l ≡ o
said_at None l s = absurd (true≢false (sym s))
said_at (Some a) l s = refl

pub said_among : (xs : List Item) (x : Item) (r : ℕ) → slice_get xs 0 ≡ Some x → is_some (answer_in x r) ≡ true → answer_among xs r ≡ answer_in x r
said_among [] x r e s = absurd (cc)
said_among (y ∷ ys) x r e s =
    let head : y ≡ x = cc in
    ap (λ (z : Item). option_or (answer_in z r) (answer_among ys r)) head ∙ said_at (answer_in x r) (answer_among ys r) s

pub said_behind : (xs : List Item) (x : Item) (r : ℕ) → slice_get xs 0 ≡ Some x → is_some (answer_in x r) ≡ true → behind_answer xs r ≡ drop 1 xs
said_behind [] x r e s = absurd (cc)
said_behind (y ∷ ys) x r e s =
    let head : y ≡ x = cc in
    ap (λ (b : Bool). if b then ys else behind_answer ys r) (ap (λ (z : Item). is_some (answer_in z r)) head ∙ s)

-- ---- round by round

-- before the first
pub nothing_passed : (s : Seated) (r : ℕ) → IsSilent s r s
nothing_passed s r = inl refl

-- the seat is not settled, and nothing is looked at
pub not_settled : (had left : Seated) (r : ℕ) (why : ClientError) → RefusesTurn had why left → why ≢ client.NoMemory
    → RefusesAnswering had r why left
not_settled had left r client.Failed t other = inl t
not_settled had left r client.WrongSeat t other = inl t
not_settled had left r client.MailboxFull t other = t
not_settled had left r client.TooManySeats t other = t
not_settled had left r (client.Core why) t other = t
not_settled had left r client.NoMemory t other = absurd (other refl)

-- the seat is settled, and its ring is looked through
pub looked : (old mid new : Seated) (r : ℕ) (said : Option Answer) → IsSettled old mid → said ≡ answer_among mid.ring.items r
    → new ≡ record mid { ring = record mid.ring { items = behind_answer mid.ring.items r } } → Answers old r said new
looked old mid new r said s told left =
    let lane = s.settles.hands.lane in
    let came = take (due old.ring lane) lane.waiting in
    let seated : mid ≡ record old { ring = s.settles.ring } = s.settles.seated in
    let ring = s.settles.hands.ring in
    let items : mid.ring.items ≡ old.ring.items ++ came = ap (λ (x : Seated). x.ring.items) seated ∙ ap (λ (g : Ring). g.items) ring in
    record {
      came = came;
      told = told ∙ ap (λ (xs : List Item). answer_among xs r) items;
      seat =
          left
          ∙ ap (λ (x : Seated). record x { ring = record x.ring { items = behind_answer x.ring.items r } }) seated
          ∙ ap (λ (g : Ring). record old { ring = record g { items = behind_answer g.items r } }) ring;
    }

-- items that said nothing, and then others
both_looked : (s0 s1 s2 : Seated) (r : ℕ) (said : Option Answer) → Answers s0 r None s1 → Answers s1 r said s2 → Answers s0 r said s2
both_looked s0 s1 s2 r said h t =
    let xs = s0.ring.items ++ h.came in
    let silent : answer_among xs r ≡ None = sym h.told in
    let empty : s1.ring.items ≡ [] = ap (λ (s : Seated). s.ring.items) h.seat ∙ none_behind xs r silent in
    let all : xs ++ t.came ≡ s0.ring.items ++ (h.came ++ t.came) = append_assoc s0.ring.items h.came t.came in
    let behind : behind_answer (s1.ring.items ++ t.came) r ≡ behind_answer (s0.ring.items ++ (h.came ++ t.came)) r =
    ap (λ (zs : List Item). behind_answer (zs ++ t.came) r) empty
    ∙ sym (behind_on xs t.came r silent)
    ∙ ap (λ (zs : List Item). behind_answer zs r) all in
    record {
      came = h.came ++ t.came;
      told =
          t.told
          ∙ ap (λ (zs : List Item). answer_among (zs ++ t.came) r) empty
          ∙ sym (among_on xs t.came r silent)
          ∙ ap (λ (zs : List Item). answer_among zs r) all;
      seat =
          t.seat
          ∙ ap (λ (zs : List Item). record s1 { ring = record s1.ring { items = zs } }) behind
          ∙ ap (λ (s : Seated). record s { ring = record s.ring { items = behind_answer (s0.ring.items ++ (h.came ++ t.came)) r } }) h.seat;
    }

-- some silent rounds, and then one more
looked_on : (s0 s1 s2 : Seated) (r : ℕ) (said : Option Answer) → IsSilent s0 r s1 → Answers s1 r said s2 → Answers s0 r said s2
looked_on s0 s1 s2 r said (inl same) t = subst (λ (x : Seated). Answers x r said s2) same t
looked_on s0 s1 s2 r said (inr h) t = both_looked s0 s1 s2 r said h t

pub looked_as : (s0 s1 s2 : Seated) (r : ℕ) (said other : Option Answer) → IsSilent s0 r s1 → Answers s1 r said s2 → said ≡ other → Answers s0 r other s2
looked_as s0 s1 s2 r said other h t same = subst (λ (o : Option Answer). Answers s0 r o s2) same (looked_on s0 s1 s2 r said h t)

silent_on : (s0 s1 s2 : Seated) (r : ℕ) → IsSilent s0 r s1 → IsSilent s1 r s2 → IsSilent s0 r s2
silent_on s0 s1 s2 r h (inl same) = subst (λ (s : Seated). IsSilent s0 r s) (sym same) h
silent_on s0 s1 s2 r h (inr t) = inr (looked_on s0 s1 s2 r None h t)

-- a round that is refused
pub refused_on : (s0 s1 s2 : Seated) (r : ℕ) (why : ClientError) → IsSilent s0 r s1 → RefusesAnswering s1 r why s2 → RefusesAnswering s0 r why s2
refused_on s0 s1 s2 r client.Failed h t = silent_on s0 s1 s2 r h t
refused_on s0 s1 s2 r client.WrongSeat h t = silent_on s0 s1 s2 r h t
refused_on s0 s1 s2 r client.MailboxFull h t = t
refused_on s0 s1 s2 r client.TooManySeats h t = t
refused_on s0 s1 s2 r (client.Core why) h t = t
refused_on s0 s1 s2 r client.NoMemory h t = t
