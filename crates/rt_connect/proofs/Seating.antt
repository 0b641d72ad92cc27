-- Seats by their numbers, and what is done to one of them.
use Rattle.std.proofs.Common.{◌≡◌, ◌+◌, ◌-◌, ◌<◌, ◌≤◌, ℕ, List, length, get_or, Bool, true, false, arith}
use Rattle.std.proofs.Common.{Option, Some, None, Result, Ok, Err, refl, sym, ap, subst, ◌∙◌}
use Rattle.std.specs.Prelude.{OnOk, ◌==◌, if◌then◌else◌, set}
use Rattle.std.specs.List.{slice_get}
use Rattle.std.proofs.lemmas.Bool.Decides.{nat_tests}
use Rattle.std.proofs.lemmas.List.{set-get_or, set-set}
use Rattle.std.proofs.lemmas.Option.{slice_get_past, slice_get_read}
use Rattle.rt_wire.specs.Server.{server_message}
use Rattle.rt_wire.specs.declared.error.WireError.TheVariants.{NotJson}
use Rattle.rt_world.specs.declared.step.Call.{Call}
use Rattle.rt_client.specs.Calls.{Locked, Seated}
use Rattle.rt_client.specs.declared.error.ClientError.TheVariants.{WrongSeat}
use Rattle.rt_lines.specs.Printing as lines
use Rattle.rt_lines.specs.declared.error.Refusal.TheVariants.{Wire}
use Rattle.rt_lines.specs.declared.order.Order.{Order}
use Rattle.rt_lines.specs.declared.order.Order.TheVariants as kinds
use Rattle.rt_connect.specs.declared.link.ServerFrame.{ServerFrame}
use Rattle.rt_connect.specs.declared.link.ServerFrame.TheVariants.{Text, Binary}
use Rattle.rt_connect.specs.Doing.{Calls, CallsSeat, ClosesAt, ClosesSeat, IsCalled, IsClosed, Obeys, Seats}
use Rattle.rt_connect.specs.Doing.{Shows, TakesTold, open_in, seat_at}
use Rattle.rt_connect.specs.Printing.{refusal_text}
use Rattle.rt_connect.specs.Taking.{Takes}

-- no seat has a number beyond the last
pub beyond : (seats : Seats) (n : ℕ) → length seats ≤ n - 1 → seat_at seats n ≡ None
beyond seats n le =
    elim (n == 0) as (λ b. (if b then None else open_in (slice_get seats (n - 1))) ≡ None) [
      | true ↦ refl
      | false ↦ ap open_in (slice_get_past seats (n - 1) le)
    ]

not_zero : (n place : ℕ) → n ≡ place + 1 → (n == 0) ≡ false
not_zero n place e = grind (arith, nat_tests)

before : (n place : ℕ) → n ≡ place + 1 → n - 1 ≡ place
before n place e = omega arith

-- the seat at a place
pub at_place : (seats : Seats) (n place : ℕ) (o : Option Seated) → place < length seats → n ≡ place + 1
    → o ≡ get_or seats place o → seat_at seats n ≡ o
at_place seats n place o lt is at =
    let F : Bool → Type 0 = λ b. (if b then None else open_in (slice_get seats (n - 1))) ≡ o in
    subst F (sym (not_zero n place is))
    (ap (λ k. open_in (slice_get seats k)) (before n place is)
    ∙ ap open_in (slice_get_read seats (length seats) place o refl lt at))

on_ok : {A E : Type 0} (P Q : Type 0) (r : Result A E) → (P → Q) → OnOk r P → OnOk r Q
on_ok P Q (Ok x) f h = f h
on_ok P Q (Err e) f h = h

-- nothing is put in the place of what is there
pub put_back : (seats : Seats) (place : ℕ) (o p : Option Seated) → o ≡ get_or seats place o → p ≡ o
    → set seats place p ≡ seats
put_back seats place o p at is =
    ap (λ q. set seats place q) (is ∙ at) ∙ set-get_or seats place o

-- ---- calls

pub called_none : {A E : Type 0} (P : List ℕ → Type 0) (r : Result A E) (old : Locked) (seats left : Seats) (n : ℕ)
    (call : Call) → seat_at seats n ≡ None → left ≡ seats → OnOk r (P (refusal_text WrongSeat))
    → OnOk r ((x : List ℕ) × P x × Calls old seats n call x old left)
called_none P r old seats left n call is same told =
    on_ok (P (refusal_text WrongSeat)) ((x : List ℕ) × P x × Calls old seats n call x old left) r (λ p. (
      refusal_text WrongSeat,
      p,
      subst (λ o. CallsSeat o old seats n call (refusal_text WrongSeat) old left) (sym is) (refl, refl, same),
    )) told

pub called_some : {A E : Type 0} (P : List ℕ → Type 0) (r : Result A E) (old new : Locked) (seats : Seats)
    (n place : ℕ) (call : Call) (seat after : Seated) → seat_at seats n ≡ Some seat → n ≡ place + 1
    → OnOk r ((x : List ℕ) × P x × IsCalled old seat call x new after)
    → OnOk r ((x : List ℕ) × P x × Calls old seats n call x new (set seats place (Some after)))
called_some P r old new seats n place call seat after is at made =
    on_ok ((x : List ℕ) × P x × IsCalled old seat call x new after)
    ((x : List ℕ) × P x × Calls old seats n call x new (set seats place (Some after))) r (λ h. (
      h.0,
      h.1,
      subst (λ o. CallsSeat o old seats n call h.0 new (set seats place (Some after))) (sym is)
          (after, h.2, ap (λ k. set seats k (Some after)) (sym (before n place at))),
    )) made

-- ---- the end of a seat

pub closed_none : {A E : Type 0} (P : List ℕ → Type 0) (r : Result A E) (old : Locked) (seats left : Seats) (n : ℕ)
    → seat_at seats n ≡ None → left ≡ seats → OnOk r (P (refusal_text WrongSeat))
    → OnOk r ((x : List ℕ) × P x × ClosesAt old seats n x old left)
closed_none P r old seats left n is same told =
    on_ok (P (refusal_text WrongSeat)) ((x : List ℕ) × P x × ClosesAt old seats n x old left) r (λ p. (
      refusal_text WrongSeat,
      p,
      subst (λ o. ClosesSeat o old seats n (refusal_text WrongSeat) old left) (sym is) (refl, refl, same),
    )) told

pub closed_some : (P : List ℕ → Type 0) (old new : Locked) (seats : Seats) (n place : ℕ) (seat : Seated)
    (between after : Option Seated) → seat_at seats n ≡ Some seat → n ≡ place + 1
    → ((x : List ℕ) × P x × IsClosed old seat x new after)
    → ((x : List ℕ) × P x × ClosesAt old seats n x new (set (set seats place between) place after))
closed_some P old new seats n place seat between after is at h = (
  h.0,
  h.1,
  subst (λ o. ClosesSeat o old seats n h.0 new (set (set seats place between) place after)) (sym is) (
    after,
    h.2,
    set-set seats place between after ∙ ap (λ k. set seats k after) (sym (before n place at)),
  ),
)

-- ---- messages and orders

pub told_text : {A E : Type 0} (P : List ℕ → Type 0) (r : Result A E) (old new : Locked) (told : ServerFrame)
    (words w : List ℕ) → told ≡ Text words → w ≡ words
    → OnOk r ((x : List ℕ) × P x × Takes (server_message w) old new x)
    → OnOk r ((x : List ℕ) × P x × TakesTold told old new x)
told_text P r old new told words w is same h =
    let at : OnOk r ((x : List ℕ) × P x × TakesTold (Text words) old new x) =
    subst (λ y. OnOk r ((x : List ℕ) × P x × Takes (server_message y) old new x)) same h in
    subst (λ t. OnOk r ((x : List ℕ) × P x × TakesTold t old new x)) (sym is) at

pub told_binary : {A E : Type 0} (P : List ℕ → Type 0) (r : Result A E) (old : Locked) (told : ServerFrame)
    → told ≡ Binary → OnOk r (P (lines.refusal_text (Wire NotJson)))
    → OnOk r ((x : List ℕ) × P x × TakesTold told old old x)
told_binary P r old told is h =
    let at : OnOk r ((x : List ℕ) × P x × TakesTold Binary old old x) =
    on_ok (P (lines.refusal_text (Wire NotJson))) ((x : List ℕ) × P x × TakesTold Binary old old x) r
    (λ p. (lines.refusal_text (Wire NotJson), p, (refl, refl))) h in
    subst (λ t. OnOk r ((x : List ℕ) × P x × TakesTold t old old x)) (sym is) at

-- an order is one of its kind
pub obeyed : {A E : Type 0} (P : List ℕ → Type 0) (r : Result A E) (order kind : Order) (old new : Locked)
    (seats left : Seats) → order ≡ kind → OnOk r ((x : List ℕ) × P x × Obeys kind old seats x new left)
    → OnOk r ((x : List ℕ) × P x × Obeys order old seats x new left)
obeyed P r order kind old new seats left is h =
    subst (λ o. OnOk r ((x : List ℕ) × P x × Obeys o old seats x new left)) (sym is) h

-- a look changes nothing
pub looked : {A E : Type 0} (P : List ℕ → Type 0) (r : Result A E) (order : Order) (old : Locked)
    (seats : Seats) → order ≡ kinds.Cover → OnOk r ((x : List ℕ) × P x × Shows old x)
    → OnOk r ((x : List ℕ) × P x × Obeys order old seats x old seats)
looked P r order old seats is h =
    obeyed P r order kinds.Cover old old seats seats is
    (on_ok ((x : List ℕ) × P x × Shows old x) ((x : List ℕ) × P x × Obeys kinds.Cover old seats x old seats) r
    (λ s. (s.0, s.1, (s.2, refl, refl))) h)
