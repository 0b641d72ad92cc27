-- What is given, and what is still to be had.
use Rattle.std.proofs.Common.{◌≡◌, ◌⊎◌, ◌<◌, ◌≤◌, ℕ, List, length, Bool, true, false}
use Rattle.std.proofs.Common.{Option, Some, None, refl, sym, ap, subst, inl, inr}
use Rattle.std.specs.Prelude.{◌==◌, if◌then◌else◌, is_some}
use Rattle.std.specs.List.{slice_get}
use Rattle.serde_json.specs.Written.{compact_text}
use Rattle.rt_cover.specs.declared.listen.Kept.{Kept}
use Rattle.rt_push.specs.declared.error.PushError.{PushError}
use Rattle.rt_push.specs.Digits.{number}
use Rattle.rt_push.specs.PushIds.{push_fault, push_id, used}
use Rattle.rt_wire.specs.declared.client.ClientMessage.{ClientMessage}
use Rattle.rt_wire.specs.ClientData.{client_data}
use Rattle.rt_world.specs.declared.report.Outcome.{Outcome}
use Rattle.rt_mail.specs.declared.item.Item.{Item}
use Rattle.rt_client.specs.declared.error.ClientError.{ClientError}
use Rattle.rt_client.specs.Calls.{Comes, HasFailed, Locked, RefusesOn}
use Rattle.rt_client.specs.Settling.{RefusesCover, ShowsCover, TakesMessage}
use Rattle.rt_lines.specs.declared.error.Refusal.TheVariants.{Push}
use Rattle.rt_lines.specs.Printing.{cover_text}
use Rattle.rt_foreign.specs.declared.client.Event.{Event}
use Rattle.rt_foreign.specs.Clients.{Client, unrefused}
use Rattle.rt_foreign.specs.Connection.{GivesTaken, IsHeard, IsUnheard, LooksOut, Sends}
use Rattle.rt_foreign.specs.Events.{is_end, step_of_event}
use Rattle.rt_foreign.specs.Items.{item_text}
use Rattle.rt_foreign.specs.Looks.{GivesId, GivesKey, Shows}
use Rattle.rt_foreign.specs.Places.{OpenSeat, GivesFirst, GivesNext, given, looked}
use Rattle.rt_foreign.specs.Refusing.{refusal_of, status_of, status_of_outcome}
use Rattle.rt_foreign.specs.Status as status
use Rattle.rt_foreign.specs.Texts.{Gives}
use Rattle.rt_foreign.specs.Wants.{told}

-- ---- the next item of a seat

pub next_none : (old : OpenSeat) (had : List ℕ) → slice_get (looked old).taken 0 ≡ None
    → GivesNext old had status.none (looked old) had 0
next_none old had is =
    subst (λ o. GivesFirst o (looked old) had status.none (looked old) had 0) (sym is) ((refl, refl, refl), refl)

pub next_lacks : (old : OpenSeat) (item : Item) (had : List ℕ) → slice_get (looked old).taken 0 ≡ Some item
    → GivesNext old had status.no_memory (looked old) had 0
next_lacks old item had is =
    subst (λ o. GivesFirst o (looked old) had status.no_memory (looked old) had 0) (sym is)
    (inr ((refl, refl, refl), refl))

pub next_given : (old : OpenSeat) (item : Item) (had : List ℕ) (result : ℕ) (left : List ℕ) (len : ℕ)
    → slice_get (looked old).taken 0 ≡ Some item → Gives (item_text (told (looked old).wants item)) had result left len
    → (result == status.done) ≡ true
    → GivesNext old had result (given item (looked old)) left len
next_given old item had result left len is text done =
    let after : OpenSeat = given item (looked old) in
    subst (λ o. GivesFirst o (looked old) had result after left len) (sym is) (inl (record {
      text = text;
      rest = ap (λ b. if b then after else looked old) (sym done);
    }))

pub next_kept : (old : OpenSeat) (item : Item) (had : List ℕ) (result : ℕ) (left : List ℕ) (len : ℕ)
    → slice_get (looked old).taken 0 ≡ Some item → Gives (item_text (told (looked old).wants item)) had result left len
    → (result == status.done) ≡ false → GivesNext old had result (looked old) left len
next_kept old item had result left len is text not_done =
    subst (λ o. GivesFirst o (looked old) had result (looked old) left len) (sym is) (inl (record {
      text = text;
      rest = ap (λ b. if b then given item (looked old) else looked old) (sym not_done);
    }))

-- ---- the first message

pub sends_none : (old taken : Client) (had : List ℕ) → LooksOut old.message old taken → taken.message ≡ None
    → Sends old had status.none taken had 0
sends_none old taken had looks is = inl (record {
  taken = taken;
  looks = looks;
  gives = subst (λ o. GivesTaken o taken had status.none taken had 0) (sym is) ((refl, refl, refl), refl);
})

pub sends_lacking : (old taken : Client) (m : ClientMessage) (had : List ℕ) → LooksOut old.message old taken
    → taken.message ≡ Some m → Sends old had status.no_memory taken had 0
sends_lacking old taken m had looks is = inl (record {
  taken = taken;
  looks = looks;
  gives = subst (λ o. GivesTaken o taken had status.no_memory taken had 0) (sym is)
      (inr ((refl, refl, refl), refl));
})

pub sends_given : (old taken : Client) (m : ClientMessage) (had : List ℕ) (result : ℕ) (left : List ℕ) (len : ℕ)
    → LooksOut old.message old taken → taken.message ≡ Some m
    → Gives (compact_text (client_data m)) had result left len → (result == status.done) ≡ true
    → Sends old had result (record taken { message = None }) left len
sends_given old taken m had result left len looks is text done =
    let after : Client = record taken { message = None } in inl (record {
      taken = taken;
      looks = looks;
      gives = subst (λ o. GivesTaken o taken had result after left len) (sym is) (inl (record {
        text = text;
        rest = ap (λ b. if b then after else taken) (sym done);
      }));
    })

pub sends_kept : (old taken : Client) (m : ClientMessage) (had : List ℕ) (result : ℕ) (left : List ℕ) (len : ℕ)
    → LooksOut old.message old taken → taken.message ≡ Some m
    → Gives (compact_text (client_data m)) had result left len → (result == status.done) ≡ false
    → Sends old had result taken left len
sends_kept old taken m had result left len looks is text not_done = inl (record {
  taken = taken;
  looks = looks;
  gives = subst (λ o. GivesTaken o taken had result taken left len) (sym is) (inl (record {
    text = text;
    rest = ap (λ b. if b then record taken { message = None } else taken) (sym not_done);
  }));
})

pub sends_failed : (old : Client) (had : List ℕ) → old.message ≡ None → HasFailed old.shared
    → Sends old had status.failed (unrefused old) had 0
sends_failed old had none failed = inr (record {
  none = none;
  failed = failed;
  nothing = (refl, refl, refl);
  client = refl;
})

pub no_message : (o : Option ClientMessage) → is_some o ≡ false → o ≡ None
no_message None h = refl
no_message (Some m) h = cc

pub looks_kept : (old : Client) (m : ClientMessage) → old.message ≡ Some m
    → LooksOut old.message old (unrefused old)
looks_kept old m is = subst (λ o. LooksOut o old (unrefused old)) (sym is) refl

pub looks_out : (old : Client) (message : Option ClientMessage) (shared : Locked) → old.message ≡ None
    → TakesMessage old.shared message shared
    → LooksOut old.message old (record (unrefused old) { shared = shared; message = message })
looks_out old message shared is takes =
    subst (λ o. LooksOut o old (record (unrefused old) { shared = shared; message = message })) (sym is)
    (message, shared, takes, refl)

-- ---- what the connection brings

pub heard : (e : Event) (old : Client) (result : ℕ) (outcome : Outcome) (shared : Locked) (b : Bool)
    → Comes old.shared (step_of_event e) outcome shared → b ≡ is_end e → result ≡ status_of_outcome outcome
    → IsHeard e old result
    (record old { shared = shared; message = if b then None else old.message; refused = None })
    ⊎ IsUnheard e old result
    (record old { shared = shared; message = if b then None else old.message; refused = None })
heard e old result outcome shared b comes is status_is = inl (record {
  outcome = outcome;
  shared = shared;
  comes = comes;
  status = status_is;
  client = ap (λ (b : Bool). record old {
    shared = shared;
    message = if b then None else old.message;
    refused = None;
  }) is;
})

pub unheard : (e : Event) (old : Client) (result : ℕ) (why : ClientError) (shared : Locked)
    → RefusesOn old.shared (step_of_event e) why shared → result ≡ status_of why
    → IsHeard e old result (record old { shared = shared; refused = refusal_of why })
    ⊎ IsUnheard e old result (record old { shared = shared; refused = refusal_of why })
unheard e old result why shared refused status_is = inr (record {
  why = why;
  shared = shared;
  refused = refused;
  status = status_is;
  client = refl;
})

-- ---- looks

pub shown : (old : Client) (text had : List ℕ) (result : ℕ) (left : List ℕ) (len : ℕ)
    → ((kept : List Kept) × ShowsCover old.shared kept × (text ≡ cover_text kept))
    → Gives text had result left len → Shows old had result (unrefused old) left len
shown old text had result left len h gives = inl (record {
  kept = h.0;
  shows = h.1;
  text = subst (λ t. Gives t had result left len) h.2 gives;
  client = refl;
})

pub unshown : (old : Client) (had : List ℕ) (result : ℕ) (why : ClientError) → RefusesCover old.shared why
    → result ≡ status_of why → Shows old had result (record old { refused = refusal_of why }) had 0
unshown old had result why refused is = inr (record {
  why = why;
  refused = refused;
  nothing = (is, refl, refl);
  client = refl;
})

pub key_no_room : (now : ℕ) (random : List ℕ) (old : Client) (had : List ℕ) → length had < 20
    → GivesKey now random old had status.too_small (unrefused old) had 20
key_no_room now random old had lt = inl (record {
  room = lt;
  too_small = refl;
  same = refl;
  length = refl;
  client = refl;
})

pub key_refused : (now : ℕ) (random : List ℕ) (old : Client) (had : List ℕ) (e : PushError) → 20 ≤ length had
    → push_fault old.shared.ids now random ≡ Some e
    → GivesKey now random old had status.refused (record old { refused = Some (Push e) }) had 0
key_refused now random old had e le is =
    let new : Client = record old { refused = Some (Push e) } in
    inr (le, subst (λ o. GivesId o now random old had status.refused new had 0) (sym is) ((refl, refl, refl), refl))

pub key_given : (now : ℕ) (random : List ℕ) (old : Client) (had : List ℕ) (result : ℕ) (left : List ℕ) (len : ℕ)
    → 20 ≤ length had → push_fault old.shared.ids now random ≡ None
    → Gives (push_id (used old.shared.ids now (number random))) had result left len
    → GivesKey now random old had result (record (unrefused old) {
      shared = record old.shared { ids = Some (used old.shared.ids now (number random)) };
    }) left len
key_given now random old had result left len le is gives =
    let new : Client = record (unrefused old) {
      shared = record old.shared { ids = Some (used old.shared.ids now (number random)) };
    } in
    inr (le, subst (λ o. GivesId o now random old had result new left len) (sym is) (gives, refl))
