-- Seats by their numbers, and what is done to one of them.
use Rattle.std.proofs.Common.{◌≡◌, ◌+◌, ◌-◌, ◌<◌, ◌≤◌, ℕ, List, length, get_or, Bool, true, false, arith}
use Rattle.std.proofs.Common.{Some, None, refl, sym, ap, subst, inl, inr, ◌∙◌}
use Rattle.std.specs.Prelude.{◌==◌, ◌≢◌, if◌then◌else◌, set, unwrap_or}
use Rattle.std.specs.List.{slice_get}
use Rattle.std.proofs.lemmas.Bool.Decides.{nat_tests}
use Rattle.std.proofs.lemmas.Option.{slice_get_past, slice_get_read}
use Rattle.rt_view.specs.declared.change.Kinds.{Kinds}
use Rattle.rt_world.specs.declared.step.Call.{Call}
use Rattle.rt_client.specs.declared.shared.Done.{Done}
use Rattle.rt_client.specs.declared.error.ClientError.{ClientError}
use Rattle.rt_client.specs.declared.error.ClientError.TheVariants as client
use Rattle.rt_client.specs.Calls.{Locked}
use Rattle.rt_client.specs.Settling as settling
use Rattle.rt_foreign.specs.Asking.{CallsSeat, SettlesSeat, TellsSeat, WantsSeat}
use Rattle.rt_foreign.specs.Clients.{Client, place_at, unrefused, with_place}
use Rattle.rt_foreign.specs.Places.{OpenSeat, GivesNext}
use Rattle.rt_foreign.specs.Refusing.{refusal_of, status_of, status_of_outcome}
use Rattle.rt_foreign.specs.Room.{MakesCall, RefusesCall}
use Rattle.rt_foreign.specs.Status as status
use Rattle.rt_foreign.specs.Wants.{with_want}

-- no seat has a number beyond the last
pub beyond : (places : List OpenSeat) (n : ℕ) → length places ≤ n - 1 → place_at places n ≡ None
beyond places n le =
    elim (n == 0) as (λ b. (if b then None else slice_get places (n - 1)) ≡ None) [
      | true ↦ refl
      | false ↦ slice_get_past places (n - 1) le
    ]

not_zero : (n place : ℕ) → n ≡ place + 1 → (n == 0) ≡ false
not_zero n place e = grind (arith, nat_tests)

before : (n place : ℕ) → n ≡ place + 1 → n - 1 ≡ place
before n place e = omega arith

-- the seat at a place
at_place : (places : List OpenSeat) (n place : ℕ) (p : OpenSeat) → place < length places → n ≡ place + 1
    → p ≡ get_or places place p → place_at places n ≡ Some p
at_place places n place p lt is at =
    let F : Bool → Type 0 = λ b. (if b then None else slice_get places (n - 1)) ≡ Some p in
    subst F (sym (not_zero n place is))
    (ap (λ k. slice_get places k) (before n place is) ∙ slice_get_read places (length places) place p refl lt at)

-- what is put there
put_there : (places : List OpenSeat) (n place : ℕ) (p : OpenSeat) → n ≡ place + 1
    → set places place p ≡ with_place n p places
put_there places n place p is = ap (λ k. set places k p) (sym (before n place is))

-- the call of a seat is made
pub call_made : (old : Client) (n place : ℕ) (p after : OpenSeat) (c : Call) (result given : ℕ) (done : Done)
    (shared : Locked)
    → place < length old.places → n ≡ place + 1 → p ≡ get_or old.places place p
    → MakesCall old.shared p.seat p.taken c done shared after.seat after.taken → after.wants ≡ p.wants
    → result ≡ status_of_outcome done.outcome → given ≡ unwrap_or done.given 0
    → CallsSeat (place_at old.places n) old n c result given (record (unrefused old) {
      shared = shared;
      places = set old.places place after;
    })
call_made old n place p after c result given done shared lt is at made kept result_is given_is =
    let new : Client = record (unrefused old) { shared = shared; places = set old.places place after } in
    subst (λ o. CallsSeat o old n c result given new) (sym (at_place old.places n place p lt is at)) (inl (record {
      done = done;
      shared = shared;
      after = after;
      made = made;
      kept = kept;
      status = result_is;
      numbered = given_is;
      client = ap (λ ps. record (unrefused old) { shared = shared; places = ps })
          (put_there old.places n place after is);
    }))

-- it is refused
pub call_refused : (old : Client) (n place : ℕ) (p after : OpenSeat) (c : Call) (result given : ℕ)
    (why : ClientError) (shared : Locked)
    → place < length old.places → n ≡ place + 1 → p ≡ get_or old.places place p
    → RefusesCall old.shared p.seat p.taken c why shared after.seat after.taken → after.wants ≡ p.wants
    → result ≡ status_of why → given ≡ 0
    → CallsSeat (place_at old.places n) old n c result given (record old {
      shared = shared;
      places = set old.places place after;
      refused = refusal_of why;
    })
call_refused old n place p after c result given why shared lt is at refused kept result_is given_is =
    let new : Client = record old {
      shared = shared;
      places = set old.places place after;
      refused = refusal_of why;
    } in
    subst (λ o. CallsSeat o old n c result given new) (sym (at_place old.places n place p lt is at)) (inr (record {
      why = why;
      shared = shared;
      after = after;
      refused = refused;
      kept = kept;
      status = result_is;
      numbered = given_is;
      client = ap (λ ps. record old { shared = shared; places = ps; refused = refusal_of why })
          (put_there old.places n place after is);
    }))

-- the client has no such seat
pub call_nowhere : (old : Client) (n : ℕ) (c : Call) → place_at old.places n ≡ None
    → CallsSeat (place_at old.places n) old n c status.wrong_seat 0 (unrefused old)
call_nowhere old n c is =
    subst (λ o. CallsSeat o old n c status.wrong_seat 0 (unrefused old)) (sym is) (refl, refl, refl)

-- ---- what a seat is told

-- the client has no such seat
pub settled_nowhere : (old : Client) (n : ℕ) → place_at old.places n ≡ None
    → SettlesSeat (place_at old.places n) old n status.wrong_seat (unrefused old)
settled_nowhere old n is =
    subst (λ o. SettlesSeat o old n status.wrong_seat (unrefused old)) (sym is) (refl, refl)

pub told_nowhere : (old : Client) (n : ℕ) (had : List ℕ) → place_at old.places n ≡ None
    → TellsSeat (place_at old.places n) old n had status.wrong_seat (unrefused old) had 0
told_nowhere old n had is =
    subst (λ o. TellsSeat o old n had status.wrong_seat (unrefused old) had 0) (sym is) ((refl, refl, refl), refl)

pub settled : (old : Client) (n place : ℕ) (p after : OpenSeat) (shared : Locked)
    → place < length old.places → n ≡ place + 1 → p ≡ get_or old.places place p
    → settling.Settles old.shared p.seat shared after.seat → after ≡ record p { seat = after.seat }
    → SettlesSeat (place_at old.places n) old n status.done (record (unrefused old) {
      shared = shared;
      places = set old.places place after;
    })
settled old n place p after shared lt is at settles kept =
    let new : Client = record (unrefused old) { shared = shared; places = set old.places place after } in
    subst (λ o. SettlesSeat o old n status.done new) (sym (at_place old.places n place p lt is at)) (inl (record {
      shared = shared;
      seat = after.seat;
      settles = settles;
      status = refl;
      client = ap (λ ps. record (unrefused old) { shared = shared; places = ps })
          (put_there old.places n place after is ∙ ap (λ q. with_place n q old.places) kept);
    }))

pub unsettled : (old : Client) (n place : ℕ) (p after : OpenSeat) (result : ℕ) (why : ClientError)
    (shared : Locked)
    → place < length old.places → n ≡ place + 1 → p ≡ get_or old.places place p
    → settling.RefusesSettle old.shared p.seat why shared after.seat → after ≡ record p { seat = after.seat }
    → why ≢ client.NoMemory → result ≡ status_of why
    → SettlesSeat (place_at old.places n) old n result (record old {
      shared = shared;
      places = set old.places place after;
      refused = refusal_of why;
    })
unsettled old n place p after result why shared lt is at refused kept memory result_is =
    let new : Client = record old {
      shared = shared;
      places = set old.places place after;
      refused = refusal_of why;
    } in
    subst (λ o. SettlesSeat o old n result new) (sym (at_place old.places n place p lt is at)) (inr (record {
      why = why;
      memory = memory;
      shared = shared;
      seat = after.seat;
      refused = refused;
      status = result_is;
      client = ap (λ ps. record old { shared = shared; places = ps; refused = refusal_of why })
          (put_there old.places n place after is ∙ ap (λ q. with_place n q old.places) kept);
    }))

pub told : (old : Client) (n place : ℕ) (p after : OpenSeat) (had : List ℕ) (result : ℕ) (left : List ℕ) (len : ℕ)
    → place < length old.places → n ≡ place + 1 → p ≡ get_or old.places place p
    → GivesNext p had result after left len
    → TellsSeat (place_at old.places n) old n had result (record (unrefused old) {
      places = set old.places place after;
    }) left len
told old n place p after had result left len lt is at gives =
    let new : Client = record (unrefused old) { places = set old.places place after } in
    subst (λ o. TellsSeat o old n had result new left len) (sym (at_place old.places n place p lt is at))
    (after, gives, ap (λ ps. record (unrefused old) { places = ps }) (put_there old.places n place after is))

-- ---- what listeners are told

pub wanted_nowhere : (old : Client) (n listener : ℕ) (kinds : Kinds) → place_at old.places n ≡ None
    → WantsSeat (place_at old.places n) n old listener kinds status.wrong_seat (unrefused old)
wanted_nowhere old n listener kinds is =
    subst (λ o. WantsSeat o n old listener kinds status.wrong_seat (unrefused old)) (sym is) (refl, refl)

pub wanted : (old : Client) (n place listener : ℕ) (kinds : Kinds) (p after : OpenSeat)
    → place < length old.places → n ≡ place + 1 → p ≡ get_or old.places place p
    → after ≡ record p { wants = with_want listener kinds p.wants }
    → WantsSeat (place_at old.places n) n old listener kinds status.done (record (unrefused old) {
      places = set old.places place after;
    })
wanted old n place listener kinds p after lt is at after_is =
    let new : Client = record (unrefused old) { places = set old.places place after } in
    subst (λ o. WantsSeat o n old listener kinds status.done new) (sym (at_place old.places n place p lt is at))
    (inl (
      refl,
      ap (λ ps. record (unrefused old) { places = ps })
          (put_there old.places n place after is ∙ ap (λ q. with_place n q old.places) after_is),
    ))

pub unwanted : (old : Client) (n place listener : ℕ) (kinds : Kinds) (p after : OpenSeat)
    → place < length old.places → n ≡ place + 1 → p ≡ get_or old.places place p → after ≡ p
    → WantsSeat (place_at old.places n) n old listener kinds status.no_memory (record (unrefused old) {
      places = set old.places place after;
    })
unwanted old n place listener kinds p after lt is at after_is =
    let new : Client = record (unrefused old) { places = set old.places place after } in
    subst (λ o. WantsSeat o n old listener kinds status.no_memory new) (sym (at_place old.places n place p lt is at))
    (inr (
      refl,
      ap (λ ps. record (unrefused old) { places = ps })
          (put_there old.places n place after is ∙ ap (λ q. with_place n q old.places) after_is),
    ))
