-- What the lock keeps is kept.
use Rattle.std.proofs.Common.{◌≡◌, ℕ, zero, suc, Bool, true, false, cond, ◌==◌, List, [], ◌∷◌, ◌++◌, take, drop, refl, sym, ap, subst, ◌∙◌, replicate, Option, Some, None, Ok, Err}
use Rattle.std.specs.Option.{option_map, option_map_or}
use Rattle.rt_world.specs.declared.error.CoreError.{CoreError}
use Rattle.rt_world.specs.declared.step.Step.{Step}
use Rattle.rt_world.specs.World.{World, empty_world}
use Rattle.rt_world.specs.Refusals.{refusal, is_stale}
use Rattle.rt_world.specs.Answers.{Answer, step_by, step}
use Rattle.rt_world.specs.Sound.{IsSound}
use Rattle.rt_world.specs.laws.Steps.{StaysSound, WorldsAreSound}
use Rattle.rt_mail.specs.declared.item.Item.{Item}
use Rattle.rt_mail.specs.declared.item.Item.TheVariants as item
use Rattle.rt_mail.specs.declared.item.Receipt.{Receipt}
use Rattle.rt_mail.specs.Mailbox.{Known, taken, known_of}
use Rattle.rt_mail.specs.Lanes.{Line, without_first}
use Rattle.rt_client.specs.Seats.{reflection, told_to, told_by, receipt_of, does_close}
use Rattle.rt_client.specs.Lanes.{new_lane, lane_of, with_told}
use Rattle.rt_client.specs.Shared.{foreseen, AreTold, signed_by, lane_after}
use Rattle.rt_client.specs.laws.Keeping.{StepKeeps, NewIsKept, HandingKeeps}
use Rattle.rt_client.specs.laws.Reflecting.{StepReflects}
use Rattle.rt_client.proofs.Mirrored.{sound_by}
use Rattle.rt_client.proofs.Reflects.{known-append}

-- ---- one lane

-- notes behind what waits
foreseen_told : (items : List Item) (lane : Line) → foreseen (with_told items lane) ≡ option_map (λ m. known_of m items) (foreseen lane)
foreseen_told items lane = by_mirror lane.mirror
  where
    by_mirror : (o : Option Known) → option_map (λ m. known_of m (lane.waiting ++ items)) o ≡ option_map (λ m. known_of m items) (option_map (λ m. known_of m lane.waiting) o)
    by_mirror None = refl
    by_mirror (Some m) = ap Some (known-append m lane.waiting items)

-- the receipt behind what waited, and the notes behind it
foreseen_signed : (seat : ℕ) (r : Option (ℕ × Receipt)) (items : List Item) (lane : Line)
    → foreseen (with_told items (signed_by seat r lane))
    ≡ option_map (λ m. known_of m (option_map_or (λ r. cond (r.0 == seat) (item.Receipt r.1 ∷ []) []) r [] ++ items)) (foreseen lane)
foreseen_signed seat None items lane = foreseen_told items lane
foreseen_signed seat (Some r) items lane =
    elim (r.0 == seat) as (λ b. foreseen (with_told items (cond b (record { waiting = []; mirror = option_map (λ m. taken (known_of m lane.waiting) (item.Receipt r.1)) lane.mirror }) lane))
    ≡ option_map (λ m. known_of m (cond b (item.Receipt r.1 ∷ []) [] ++ items)) (foreseen lane)) [
      | true ↦ by_mirror lane.mirror
      | false ↦ foreseen_told items lane
    ]
  where
    by_mirror : (o : Option Known) → option_map (λ m. known_of m items) (option_map (λ m. taken (known_of m lane.waiting) (item.Receipt r.1)) o)
        ≡ option_map (λ m. known_of m (item.Receipt r.1 ∷ items)) (option_map (λ m. known_of m lane.waiting) o)
    by_mirror None = refl
    by_mirror (Some m) = refl

-- ---- a step

lane_told : StepReflects → (w : World) (s : Step) (seat : ℕ) (answer : Answer) (v : World) (old : Option Line) (lane : Line)
    → (does_close seat s ≡ false → known_of (reflection w seat) (told_by seat w s answer) ≡ reflection v seat)
    → ((l : Line) → old ≡ Some l → foreseen l ≡ Some (reflection w seat))
    → (does_refuse : (e : CoreError) → answer ≡ Err e → reflection v seat ≡ reflection w seat)
    → lane_after seat w s answer old ≡ Some lane → foreseen lane ≡ Some (reflection v seat)
lane_told one w s seat (Err e) v old lane goes told same is = told lane is ∙ ap Some (sym (same e refl))
lane_told one w s seat (Ok report) v None lane goes told same is =
    elim (does_close seat s) as (λ b. cond b None None ≡ Some lane → foreseen lane ≡ Some (reflection v seat)) [ true ↦ λ e. cc | false ↦ λ e. cc ] is
lane_told one w s seat (Ok report) v (Some l) lane goes told same is =
    elim (does_close seat s) as (λ b. does_close seat s ≡ b → cond b None (Some (with_told (told_to seat report.notes) (signed_by seat (receipt_of w s) l))) ≡ Some lane → foreseen lane ≡ Some (reflection v seat)) [
      | true ↦ λ t e. cc
      | false ↦ λ t e.
          let there : with_told (told_to seat report.notes) (signed_by seat (receipt_of w s) l) ≡ lane = cc in
          ap foreseen (sym there)
          ∙ foreseen_signed seat (receipt_of w s) (told_to seat report.notes) l
          ∙ ap (option_map (λ m. known_of m (told_by seat w s (Ok report)))) (told l refl)
          ∙ ap Some (goes t)
    ] refl is

refused_same : (o : Option CoreError) (b : Bool) (w : World) (s : Step) (seat : ℕ) (e : CoreError) → (step_by o b w s).1 ≡ Err e → reflection (step_by o b w s).0 seat ≡ reflection w seat
refused_same (Some x) b w s seat e is = refl
refused_same None true w s seat e is = refl
refused_same None false w s seat e is = cc

pub step_keeps : StaysSound → StepReflects → StepKeeps
step_keeps stays one old new w s kept is makes =
    let same : kept.world ≡ w = cc in
    let sound : IsSound w = subst IsSound same kept.sound in
    let told : AreTold w old.lanes = subst (λ v. AreTold v old.lanes) same kept.told in
    record {
      world = (step w s).0;
      core = makes.world;
      sound = sound_by stays (refusal w s) (is_stale w s) w s sound;
      told = λ seat lane e.
          lane_told one w s seat (step w s).1 (step w s).0 (lane_of old.lanes seat) lane (one w s seat sound) (told seat)
          (refused_same (refusal w s) (is_stale w s) w s seat) (sym (makes.lanes seat) ∙ e);
    }

-- ---- no step

pub new_is_kept : WorldsAreSound → NewIsKept
new_is_kept sound limits lanes new = record {
  world = empty_world limits;
  core = refl;
  sound = sound limits [];
  told = λ seat lane e. ap foreseen (new seat lane e);
}

pub take_drop : (n : ℕ) (xs : List Item) → take n xs ++ drop n xs ≡ xs
take_drop zero xs = refl
take_drop (suc n) [] = refl
take_drop (suc n) (x ∷ xs) = ap (λ z. x ∷ z) (take_drop n xs)

foreseen_handed : (n : ℕ) (lane : Line) → foreseen (without_first n lane) ≡ foreseen lane
foreseen_handed n lane = by_mirror lane.mirror
  where
    by_mirror : (o : Option Known) → option_map (λ m. known_of m (drop n lane.waiting)) (option_map (λ m. known_of m (take n lane.waiting)) o) ≡ option_map (λ m. known_of m lane.waiting) o
    by_mirror None = refl
    by_mirror (Some m) = ap Some (sym (known-append m (take n lane.waiting) (drop n lane.waiting)) ∙ ap (known_of m) (take_drop n lane.waiting))

pub handing_keeps : HandingKeeps
handing_keeps w old new told hands seat lane e =
    found (lane_of old seat) refl (sym (hands seat).1 ∙ e)
  where
    found : (o : Option Line) → lane_of old seat ≡ o → option_map (without_first (hands seat).0) o ≡ Some lane → foreseen lane ≡ Some (reflection w seat)
    found None is h = cc
    found (Some l) is h =
        let same : without_first (hands seat).0 l ≡ lane = cc in
        ap foreseen (sym same) ∙ foreseen_handed (hands seat).0 l ∙ told seat l is

-- ---- a client that is opened

pub lanes_new : (n seat : ℕ) (lane : Line) → lane_of (replicate n (Some new_lane)) seat ≡ Some lane → lane ≡ new_lane
lanes_new n zero lane e = cc
lanes_new zero (suc place) lane e = cc
lanes_new (suc n) (suc zero) lane e = cc
lanes_new (suc n) (suc (suc place)) lane e = lanes_new n (suc place) lane e
