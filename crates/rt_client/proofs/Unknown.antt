-- Of a seat without a lane the core knows nothing, and it stays so.
use Rattle.std.proofs.Common.{◌≡◌, ℕ, Bool, true, false, cond, ◌==◌, List, [], ◌∷◌, ◌++◌, drop, refl, sym, ap, subst, ◌∙◌, replicate, Option, Some, None, Ok, Err}
use mathlib.Core.Bool.{true≢false}
use Rattle.std.specs.List.{cons_option}
use Rattle.std.specs.Option.{option_map, option_map_or}
use Rattle.rt_world.specs.declared.error.CoreError.{CoreError}
use Rattle.rt_world.specs.declared.limits.Limits.{Limits}
use Rattle.rt_world.specs.declared.report.Body.{Body}
use Rattle.rt_world.specs.declared.report.Body.TheVariants as body
use Rattle.rt_world.specs.declared.report.Note.{Note}
use Rattle.rt_world.specs.declared.step.Step.{Step}
use Rattle.rt_world.specs.Calls.{step_of}
use Rattle.rt_world.specs.World.{World, empty_world}
use Rattle.rt_world.specs.Refusals.{refusal, is_stale}
use Rattle.rt_world.specs.Messages.{next}
use Rattle.rt_world.specs.Answers.{Answer, step_by, step}
use Rattle.rt_world.specs.Limited.{IsWithin}
use Rattle.rt_world.specs.Sound.{IsSound}
use Rattle.rt_sync.specs.Core.{without_first as without_sent}
use Rattle.rt_world.specs.laws.Holds.{IsSteady, EmptyIsSteady, StaysSteady, EmptyIsWithin, StaysWithin}
use Rattle.rt_world.specs.laws.Holds.{TakenIsSound, TakenIsSteady}
use Rattle.rt_world.specs.laws.Steps.{StaysSound, WorldsAreSound}
use Rattle.rt_mail.specs.declared.item.Item.TheVariants as item
use Rattle.rt_mail.specs.declared.item.Receipt.{Receipt}
use Rattle.rt_mail.specs.Mailbox.{nothing_known, taken, known_of}
use Rattle.rt_mail.specs.Lanes.{Line}
use Rattle.rt_client.specs.Seats.{item_of, reflection, receipts_in, receipts_to, receipt_of, told_to, told_by, caller_of, does_close}
use Rattle.rt_client.specs.Lanes.{new_lane, lane_of, with_told, due, settled}
use Rattle.rt_client.specs.Shared.{Held, IsWhole, foreseen, signed_by, lane_after}
use Rattle.rt_client.specs.laws.Keeping.{NewIsWhole, StepStaysWhole, CallStaysWhole, SettlingStaysWhole, TakingStaysWhole, OpeningStaysWhole}
use Rattle.rt_client.specs.laws.Reflecting.{StepReflects, ClosedIsForgotten}
use Rattle.rt_client.proofs.Answered.{step_answered, changed_answered, handed_none}
use Rattle.rt_client.proofs.Called.{stays_open}
use Rattle.rt_client.proofs.Kept.{new_is_kept, step_keeps, lanes_new}
use Rattle.rt_client.proofs.Numbers.{same_number, other_number}
use Rattle.rt_client.proofs.PutBy.{no_receipt}
use Rattle.rt_client.proofs.Settled.{settling_keeps, taking_keeps}

-- ---- what is told to one of whom nothing is known

still : (b : Body) → taken nothing_known (item_of b) ≡ nothing_known
still (body.Settled id why) = refl
still (body.Cancelled n why) = refl
still (body.Batch batch) = refl

told_unknown : (seat : ℕ) (notes : List Note) → known_of nothing_known (told_to seat notes) ≡ nothing_known
told_unknown seat [] = refl
told_unknown seat (n ∷ notes) =
    elim (n.seat == seat) as (λ b. known_of nothing_known (cons_option (cond b (Some (item_of n.body)) None) (told_to seat notes)) ≡ nothing_known) [
      | true ↦ ap (λ m. known_of m (told_to seat notes)) (still n.body) ∙ told_unknown seat notes
      | false ↦ told_unknown seat notes
    ]

told_nothing : (seat : ℕ) (w : World) (s : Step) (answer : Answer) → receipts_to seat w s ≡ [] → known_of nothing_known (told_by seat w s answer) ≡ nothing_known
told_nothing seat w s (Err e) none = refl
told_nothing seat w s (Ok report) none = ap (λ xs. known_of nothing_known (xs ++ told_to seat report.notes)) none ∙ told_unknown seat report.notes

-- a step that is no seat's call has no receipt
no_receipts : (seat : ℕ) (w : World) (s : Step) → caller_of s ≡ None → receipts_to seat w s ≡ []
no_receipts seat w s none = ap (λ o. option_map_or (λ (r : ℕ × Receipt). cond (r.0 == seat) (item.Receipt r.1 ∷ []) []) o []) (no_receipt w s none)

-- ---- one step

none_mapped : (f : Line → Line) (o : Option Line) → option_map f o ≡ None → o ≡ None
none_mapped f None e = refl
none_mapped f (Some l) e = cc

-- a seat that the step does not close, and that has no lane then, had none
had_none : (seat : ℕ) (w : World) (s : Step) (answer : Answer) (old : Option Line) → does_close seat s ≡ false → lane_after seat w s answer old ≡ None → old ≡ None
had_none seat w s (Err e) old stays gone = gone
had_none seat w s (Ok report) old stays gone =
    let f = λ (l : Line). with_told (told_to seat report.notes) (signed_by seat (receipt_of w s) l) in
    none_mapped f old (ap (λ b. cond b None (option_map f old)) (sym stays) ∙ gone)

stays_unknown : StepReflects → (seat : ℕ) (w : World) (s : Step) (old : Option Line) → IsSound w → does_close seat s ≡ false → receipts_to seat w s ≡ []
    → (old ≡ None → reflection w seat ≡ nothing_known) → lane_after seat w s (step w s).1 old ≡ None → reflection (step w s).0 seat ≡ nothing_known
stays_unknown one seat w s old sound stays none before gone =
    sym (one w s seat sound stays)
    ∙ ap (λ m. known_of m (told_by seat w s (step w s).1)) (before (had_none seat w s (step w s).1 old stays gone))
    ∙ told_nothing seat w s (step w s).1 none

-- a seat that is closed is forgotten; where that is refused it has its lane
closed_by_answer : ClosedIsForgotten → (o : Option CoreError) (seat : ℕ) (w : World) (old : Option Line) → (old ≡ None → reflection w seat ≡ nothing_known)
    → lane_after seat w (Step.CloseSeat seat) (step_by o false w (Step.CloseSeat seat)).1 old ≡ None
    → reflection (step_by o false w (Step.CloseSeat seat)).0 seat ≡ nothing_known
closed_by_answer closed (Some e) seat w old before gone = before gone
closed_by_answer closed None seat w old before gone = closed w seat

closes_unknown : ClosedIsForgotten → (seat : ℕ) (w : World) (s : Step) (old : Option Line) → does_close seat s ≡ true
    → (old ≡ None → reflection w seat ≡ nothing_known) → lane_after seat w s (step w s).1 old ≡ None → reflection (step w s).0 seat ≡ nothing_known
closes_unknown closed seat w (Step.Listen own query) old closes before gone = absurd (true≢false (sym closes))
closes_unknown closed seat w (Step.Unlisten own n) old closes before gone = absurd (true≢false (sym closes))
closes_unknown closed seat w (Step.Write own action) old closes before gone = absurd (true≢false (sym closes))
closes_unknown closed seat w (Step.OnDisconnect own ending) old closes before gone = absurd (true≢false (sym closes))
closes_unknown closed seat w (Step.Data tag path tree) old closes before gone = absurd (true≢false (sym closes))
closes_unknown closed seat w (Step.DataMerge tag entries) old closes before gone = absurd (true≢false (sym closes))
closes_unknown closed seat w (Step.Push parts) old closes before gone = absurd (true≢false (sym closes))
closes_unknown closed seat w (Step.Accepted id) old closes before gone = absurd (true≢false (sym closes))
closes_unknown closed seat w (Step.Refused id why) old closes before gone = absurd (true≢false (sym closes))
closes_unknown closed seat w (Step.Revoked tag why) old closes before gone = absurd (true≢false (sym closes))
closes_unknown closed seat w Step.Connected old closes before gone = absurd (true≢false (sym closes))
closes_unknown closed seat w Step.Disconnected old closes before gone = absurd (true≢false (sym closes))
closes_unknown closed seat w (Step.CloseSeat own) old closes before gone =
    let same : own ≡ seat = same_number own seat closes in
    subst (λ n. lane_after seat w (Step.CloseSeat n) (step w (Step.CloseSeat n)).1 old ≡ None → reflection (step w (Step.CloseSeat n)).0 seat ≡ nothing_known) (sym same)
    (closed_by_answer closed (refusal w (Step.CloseSeat seat)) seat w old before) gone

step_unknown : StepReflects → ClosedIsForgotten → (seat : ℕ) (w : World) (s : Step) (old : Option Line) → IsSound w → caller_of s ≡ None
    → (old ≡ None → reflection w seat ≡ nothing_known) → lane_after seat w s (step w s).1 old ≡ None → reflection (step w s).0 seat ≡ nothing_known
step_unknown one closed seat w s old sound none before gone =
    elim (does_close seat s) as (λ b. does_close seat s ≡ b → reflection (step w s).0 seat ≡ nothing_known) [
      | true ↦ λ e. closes_unknown closed seat w s old e before gone
      | false ↦ λ e. stays_unknown one seat w s old sound e (no_receipts seat w s none) before gone
    ] refl

-- what holds of a world, and after each step that is not refused, holds after any step
holds_by : (P : World → Type 0) (w : World) (s : Step) → (refusal w s ≡ None → P (next w s)) → P w → (o : Option CoreError) (b : Bool) → refusal w s ≡ o → P (step_by o b w s).0
holds_by P w s made before (Some e) b is = before
holds_by P w s made before None true is = before
holds_by P w s made before None false is = made is

steady_after : StaysSteady → (w : World) (s : Step) → IsSteady w → IsSteady (step w s).0
steady_after stays w s steady = holds_by IsSteady w s (stays w s steady) steady (refusal w s) (is_stale w s) refl

within_after : StaysWithin → (w : World) (s : Step) → IsSound w → IsWithin w → IsWithin (step w s).0
within_after stays w s sound within = holds_by IsWithin w s (stays w s sound within) within (refusal w s) (is_stale w s) refl

pub step_stays_whole : StaysSound → StaysSteady → StaysWithin → StepReflects → ClosedIsForgotten → StepStaysWhole
step_stays_whole stays steady within one closed old new s done whole none made =
    let w = made.world in
    let same : whole.kept.world ≡ w = cc in
    let sound : IsSound w = subst IsSound same whole.kept.sound in
    record {
      steady = λ v is. let after : (step w s).0 ≡ v = cc in subst IsSteady after (steady_after steady w s (whole.steady w made.core));
      within = λ v is. let after : (step w s).0 ≡ v = cc in subst IsWithin after (within_after within w s sound (whole.within w made.core));
      kept = step_keeps stays one old new w s whole.kept made.core made.makes;
      unknown = λ v is seat gone.
          let after : (step w s).0 ≡ v = cc in
          ap (λ u. reflection u seat) (sym after)
          ∙ step_unknown one closed seat w s (lane_of old.lanes seat) sound none (whole.unknown w made.core seat) (sym (made.makes.lanes seat) ∙ gone);
      answered = step_answered w s (step w s).1 old.lanes new.lanes whole.answered made.makes.lanes;
    }

-- ---- the call of an open seat

-- it has no receipt for one that is not open
not_theirs : (seat own : ℕ) (w : World) (s : Step) (lanes : List (Option Line)) (lane : Line) (r : Receipt) → receipt_of w s ≡ Some (own, r)
    → lane_of lanes own ≡ Some lane → lane_of lanes seat ≡ None → receipts_to seat w s ≡ []
not_theirs seat own w s lanes lane r is stays none =
    ap (λ o. option_map_or (λ (x : ℕ × Receipt). cond (x.0 == seat) (item.Receipt x.1 ∷ []) []) o []) is
    ∙ ap (λ b. cond b (item.Receipt r ∷ []) []) (other_number own seat (λ same. clash (sym stays ∙ ap (lane_of lanes) same ∙ none)))
  where
    clash : Some lane ≡ None → ⊥
    clash e = cc

pub call_stays_whole : StaysSound → StaysSteady → StaysWithin → StepReflects → CallStaysWhole
call_stays_whole stays steady within one old new own had left c done whole called =
    let made = called.made in
    let w = made.world in
    let s = step_of own c in
    let same : whole.kept.world ≡ w = cc in
    let sound : IsSound w = subst IsSound same whole.kept.sound in
    record {
      steady = λ v is. let after : (step w s).0 ≡ v = cc in subst IsSteady after (steady_after steady w s (whole.steady w made.core));
      within = λ v is. let after : (step w s).0 ≡ v = cc in subst IsWithin after (within_after within w s sound (whole.within w made.core));
      kept = step_keeps stays one old new w s whole.kept made.core made.makes;
      unknown = λ v is seat gone.
          let after : (step w s).0 ≡ v = cc in
          let left_none = sym (made.makes.lanes seat) ∙ gone in
          let none = had_none seat w s (step w s).1 (lane_of old.lanes seat) (stays_open seat own c) left_none in
          ap (λ u. reflection u seat) (sym after)
          ∙ stays_unknown one seat w s (lane_of old.lanes seat) sound (stays_open seat own c)
          (not_theirs seat own w s old.lanes called.lane called.receipt called.signed called.is_open none)
          (whole.unknown w made.core seat) left_none;
      answered = step_answered w s (step w s).1 old.lanes new.lanes whole.answered made.makes.lanes;
    }

-- ---- no step

pub new_is_whole : WorldsAreSound → EmptyIsSteady → EmptyIsWithin → NewIsWhole
new_is_whole sound steady within limits lanes new = record {
  kept = new_is_kept sound limits lanes new;
  steady = λ v is. let same : empty_world limits ≡ v = cc in subst IsSteady same (steady limits);
  within = λ v is. let same : empty_world limits ≡ v = cc in subst IsWithin same (within limits);
  unknown = λ v is seat none. let same : empty_world limits ≡ v = cc in ap (λ u. reflection u seat) (sym same);
  answered = λ seat lane is. ap (λ (l : Line). receipts_in l.waiting) (new seat lane is);
}

pub settling_stays_whole : SettlingStaysWhole
settling_stays_whole old new seat had left whole s = record {
  kept = settling_keeps old new seat had left whole.kept s;
  steady = λ v is. whole.steady v (sym s.core ∙ is);
  within = λ v is. whole.within v (sym s.core ∙ is);
  unknown = λ v is n gone. whole.unknown v (sym s.core ∙ is) n (before (seat == n) (lane_of old.lanes n) (sym (s.lanes n) ∙ gone));
  answered = changed_answered old.lanes new.lanes seat (settled had s.lane) (handed_none (due had s.lane) s.lane (whole.answered seat s.lane s.is_open)) whole.answered s.lanes;
}
  where
    before : (b : Bool) (o : Option Line) → cond b (Some (settled had s.lane)) o ≡ None → o ≡ None
    before true o e = cc
    before false o e = e

within_sent : (w : World) → IsWithin w → IsWithin (without_sent w)
within_sent w is = record {
  listeners = is.listeners;
  requests = is.requests;
  next_listener = is.next_listener;
  next_request = is.next_request;
  next_tag = is.next_tag;
}

pub taking_stays_whole : TakenIsSound → TakenIsSteady → TakingStaysWhole
taking_stays_whole taken steady old new message whole t = record {
  kept = taking_keeps taken old new message whole.kept t;
  steady = λ v is.
      let same : without_sent t.world ≡ v = at (sym (ap (λ (h : Held). h.core) t.left) ∙ is) in
      subst IsSteady same (steady t.world (drop 1 t.world.outgoing) (whole.steady t.world t.core));
  within = λ v is.
      let same : without_sent t.world ≡ v = at (sym (ap (λ (h : Held). h.core) t.left) ∙ is) in
      subst IsWithin same (within_sent t.world (whole.within t.world t.core));
  unknown = λ v is seat none.
      let same : without_sent t.world ≡ v = at (sym (ap (λ (h : Held). h.core) t.left) ∙ is) in
      ap (λ u. reflection u seat) (sym same)
      ∙ whole.unknown t.world t.core seat (sym (ap (λ (h : Held). lane_of h.lanes seat) t.left) ∙ none);
  answered = λ seat lane is. whole.answered seat lane (sym (ap (λ (h : Held). lane_of h.lanes seat) t.left) ∙ is);
}
  where
    at : {u v : World} → Some u ≡ Some v → u ≡ v
    at e = cc

-- a seat is opened of which the core knows nothing
pub opening_stays_whole : OpeningStaysWhole
opening_stays_whole old new seat whole free core changed = record {
  kept = record {
    world = whole.kept.world;
    core = core ∙ whole.kept.core;
    sound = whole.kept.sound;
    told = λ n lane e. told n lane (seat == n) refl (sym (changed n) ∙ e);
  };
  unknown = λ v is n gone. whole.unknown v (sym core ∙ is) n (before (seat == n) (lane_of old.lanes n) (sym (changed n) ∙ gone));
  steady = λ v is. whole.steady v (sym core ∙ is);
  within = λ v is. whole.within v (sym core ∙ is);
  answered = changed_answered old.lanes new.lanes seat new_lane refl whole.answered changed;
}
  where
    before : (b : Bool) (o : Option Line) → cond b (Some new_lane) o ≡ None → o ≡ None
    before true o e = cc
    before false o e = e

    told : (n : ℕ) (lane : Line) (b : Bool) → (seat == n) ≡ b → cond b (Some new_lane) (lane_of old.lanes n) ≡ Some lane → foreseen lane ≡ Some (reflection whole.kept.world n)
    told n lane true t e =
        let same : new_lane ≡ lane = cc in
        ap foreseen (sym same)
        ∙ ap Some (sym (whole.unknown whole.kept.world whole.kept.core n (ap (lane_of old.lanes) (sym (same_number seat n t)) ∙ free)))
    told n lane false t e = whole.kept.told n lane e

-- ---- a client that is opened

pub opened_is_whole : NewIsWhole → (limits : Limits) (n : ℕ) → IsWhole (record { core = Some (empty_world limits); lanes = replicate n (Some new_lane) })
opened_is_whole new limits n = new limits (replicate n (Some new_lane)) (lanes_new n)
