-- Steps of a core, and what a client answers of them.
use Rattle.std.proofs.Common.{◌≡◌, Bool, true, false, cond, ◌&&◌, List, [], ◌∷◌, refl, sym, ap, subst, ◌∙◌, ◌⊎◌, inl, inr, Option, Some, None, Ok, Err}
use mathlib.Core.Bool.{true≢false}
use Rattle.std.specs.List.{find, list_all, slice_get}
use Rattle.std.specs.Option.{option_map}
use Rattle.rt_world.specs.declared.error.CoreError.{CoreError}
use Rattle.rt_world.specs.declared.error.CoreError.TheVariants as core
use Rattle.rt_world.specs.declared.report.Report.{Report}
use Rattle.rt_world.specs.declared.step.Step.{Step}
use Rattle.rt_world.specs.World.{World}
use Rattle.rt_world.specs.Refusals.{refusal, is_stale, conditions}
use Rattle.rt_world.specs.Answers.{step_by, step, stale_report}
use Rattle.rt_mail.specs.declared.error.MailError.{MailError}
use Rattle.rt_mail.specs.Lanes.{Line}
use Rattle.rt_sync.specs.Core.{Applies, refusal_in}
use Rattle.rt_client.specs.declared.error.ClientError.TheVariants as error
use Rattle.rt_client.specs.Codes.{of_core}
use Rattle.rt_client.specs.Lanes.{StopsAt}
use Rattle.rt_client.specs.Shared.{Held}
use Rattle.rt_client.specs.Calls.{IsRefused, LacksMemory, Refuses}

-- ---- refusals

-- the core has neither failed nor lacked memory
abbrev pub is_refusal : CoreError → Bool
is_refusal core.Failed = false
is_refusal core.UnknownListener = true
is_refusal core.TooManyListeners = true
is_refusal core.TooManyRequests = true
is_refusal core.Overlap = true
is_refusal core.EmptyUpdate = true
is_refusal core.TooDeep = true
is_refusal core.BadPush = true
is_refusal core.AlreadyConnected = true
is_refusal core.NotConnected = true
is_refusal core.NoMemory = false

-- what is found passes as all do
found_passes : (p : CoreError → Bool) (cs : List (Bool × CoreError)) → list_all (λ c. p c.1) cs ≡ true
    → (e : CoreError) → option_map (λ c. c.1) (find (λ c. c.0) cs) ≡ Some e → p e ≡ true
found_passes p [] all e is = cc
found_passes p (c ∷ cs) all e is = by (p c.1) c.0 refl (λ a i. found_passes p cs a e i) all is
  where
    by : (a b : Bool) → p c.1 ≡ a
        → (list_all (λ c. p c.1) cs ≡ true → option_map (λ c. c.1) (find (λ c. c.0) cs) ≡ Some e → p e ≡ true)
        → (a && list_all (λ c. p c.1) cs) ≡ true
        → option_map (λ c. c.1) (cond b (Some c) (find (λ c. c.0) cs)) ≡ Some e → p e ≡ true
    by false b pa rest all is = absurd (true≢false (sym all))
    by true true pa rest all is = let same : c.1 ≡ e = cc in ap p (sym same) ∙ pa
    by true false pa rest all is = rest all is

refusal_is : (w : World) (s : Step) (e : CoreError) → refusal w s ≡ Some e → is_refusal e ≡ true
refusal_is w s e is = found_passes is_refusal (conditions w s) refl e is

-- a step that is answered with a refusal
refused_step : (o : Option CoreError) (b : Bool) (w : World) (s : Step) (e : CoreError) → (step_by o b w s).1 ≡ Err e
    → (o ≡ Some e) × ((step_by o b w s).0 ≡ w)
refused_step (Some x) b w s e is = let same : x ≡ e = cc in (ap Some same, refl)
refused_step None true w s e is = cc
refused_step None false w s e is = cc

-- what a core leaves that answers with a refusal: it lacked memory for a step that was due, or it refuses and is unchanged
refused_core : (old new : Option World) (w : World) (s : Step) (e : CoreError) → old ≡ Some w → Applies old s (Err e) new
    → ((e ≡ core.NoMemory) × (refusal w s ≡ None) × (is_stale w s ≡ false)) ⊎ ((is_refusal e ≡ true) × ((step w s).1 ≡ Err e) × (new ≡ old))
refused_core None new w s e is applies = cc
refused_core (Some v) new w s e is (inl makes) =
    let same : v ≡ w = cc in
    let parts = refused_step (refusal v s) (is_stale v s) v s e (sym makes.told) in
    inr (refusal_is v s e parts.0, ap (λ v. (step v s).1) (sym same) ∙ sym makes.told, makes.world ∙ ap Some parts.1)
refused_core (Some v) new w s e is (inr lacks) =
    let told : e ≡ core.NoMemory = cc in
    let same : v ≡ w = cc in
    inl (told, ap (λ v. refusal v s) (sym same) ∙ lacks.not_refused, ap (λ v. is_stale v s) (sym same) ∙ lacks.not_stale)

-- a step that is answered with a report is not refused; one that tells something is not stale
report_is_due : (o : Option CoreError) (b : Bool) (w : World) (s : Step) (report : Report) → (step_by o b w s).1 ≡ Ok report
    → (o ≡ None) × ((b ≡ false) ⊎ (report.notes ≡ []))
report_is_due (Some x) b w s report is = cc
report_is_due None true w s report is = let same : stale_report ≡ report = cc in (refl, inr (sym (ap (λ (r : Report). r.notes) same)))
report_is_due None false w s report is = (refl, inl refl)

-- so it is of a core
pub done_is_due : (old new : Option World) (w : World) (s : Step) (report : Report) → old ≡ Some w → Applies old s (Ok report) new
    → (refusal w s ≡ None) × ((is_stale w s ≡ false) ⊎ (report.notes ≡ []))
done_is_due None new w s report is applies = cc
done_is_due (Some v) new w s report is (inl makes) =
    let same : v ≡ w = cc in
    report_is_due (refusal w s) (is_stale w s) w s report (ap (λ v. (step v s).1) (sym same) ∙ sym makes.told)
done_is_due (Some v) new w s report is (inr lacks) = cc

-- ---- what a client answers

passed_on : (e : CoreError) → is_refusal e ≡ true → of_core e ≡ error.Core e
passed_on core.Failed h = absurd (true≢false (sym h))
passed_on core.UnknownListener h = refl
passed_on core.TooManyListeners h = refl
passed_on core.TooManyRequests h = refl
passed_on core.Overlap h = refl
passed_on core.EmptyUpdate h = refl
passed_on core.TooDeep h = refl
passed_on core.BadPush h = refl
passed_on core.AlreadyConnected h = refl
passed_on core.NotConnected h = refl
passed_on core.NoMemory h = absurd (true≢false (sym h))

refuses_by : (e : CoreError) (old new : Held) (s : Step) → ((e ≡ core.NoMemory) × LacksMemory old s) ⊎ ((is_refusal e ≡ true) × IsRefused old s e × (new ≡ old))
    → Refuses old s (of_core e) new
refuses_by e old new s (inl h) = subst (λ e. Refuses old s (of_core e) new) (sym h.0) h.1
refuses_by e old new s (inr h) = subst (λ e. Refuses old s e new) (sym (passed_on e h.0)) (h.1, h.2)

-- a step that is refused leaves what is held
pub step_refused : (old new : Option World) (lanes : List (Option Line)) (w : World) (s : Step) (e : CoreError)
    → old ≡ Some w → Applies old s (Err e) new
    → Refuses (record { core = old; lanes = lanes }) s (of_core e) (record { core = new; lanes = lanes })
step_refused old new lanes w s e is applies =
    refuses_by e (record { core = old; lanes = lanes }) (record { core = new; lanes = lanes }) s (by (refused_core old new w s e is applies))
  where
    by : ((e ≡ core.NoMemory) × (refusal w s ≡ None) × (is_stale w s ≡ false)) ⊎ ((is_refusal e ≡ true) × ((step w s).1 ≡ Err e) × (new ≡ old))
        → ((e ≡ core.NoMemory) × LacksMemory (record { core = old; lanes = lanes }) s)
        ⊎ ((is_refusal e ≡ true) × IsRefused (record { core = old; lanes = lanes }) s e × ◌≡◌ {A = Held} (record { core = new; lanes = lanes }) (record { core = old; lanes = lanes }))
    by (inl h) = inl (h.0, record { world = w; core = is; not_refused = h.1; not_stale = h.2 })
    by (inr h) = inr (h.0, record { world = w; core = is; answer = h.1 }, λ i. record { core = h.2 i; lanes = lanes })

-- a step whose notes find no memory in their lanes was due
pub untold_is_due : (old new : Option World) (lanes left : List (Option Line)) (w : World) (s : Step) (report : Report) (why : MailError)
    → old ≡ Some w → Applies old s (Ok report) new → StopsAt report.notes lanes why left
    → LacksMemory (record { core = old; lanes = lanes }) s
untold_is_due old new lanes left w s report why is applies stops =
    let due = done_is_due old new w s report is applies in
    record { world = w; core = is; not_refused = due.0; not_stale = by due.1 }
  where
    by : (is_stale w s ≡ false) ⊎ (report.notes ≡ []) → is_stale w s ≡ false
    by (inl fresh) = fresh
    by (inr none) = let found : slice_get [] stops.before ≡ Some stops.note = ap (λ notes. slice_get notes stops.before) (sym none) ∙ stops.next in cc

-- a core that is asked why it refuses a step
pub asked_refused : (old : Held) (w : World) (s : Step) (e : CoreError) → old.core ≡ Some w → Some e ≡ refusal_in old.core s → Refuses old s (of_core e) old
asked_refused old w s e is why =
    let refused : refusal w s ≡ Some e = sym (why ∙ ap (λ o. refusal_in o s) is) in
    refuses_by e old old s
    (inr (refusal_is w s e refused, record { world = w; core = is; answer = ap (λ o. (step_by o (is_stale w s) w s).1) refused }, refl))
