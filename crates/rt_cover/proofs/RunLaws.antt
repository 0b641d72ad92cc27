-- Any run of changes leaves a sound cover, and gives the tags in order.
use Rattle.std.proofs.Common.{◌≡◌, ℕ, zero, suc, ◌+◌, ◌<◌, Bool, true, false, cond, List, [], ◌∷◌, ◌++◌, map, length, refl, sym, ap, subst, ◌∙◌, arith, Option, Some, None, is_some, length-append}
use mathlib.Core.Bool.{true≢false}
use Rattle.std.specs.List.{All, AllPairs}
use Rattle.std.specs.Option.{option_map_or}
use Rattle.rt_query.specs.Supply.{form}
use Rattle.rt_cover.specs.declared.change.Delta.{Delta}
use Rattle.rt_cover.specs.declared.error.CoverError.TheVariants.{UnknownListener, UnknownTag, NoTag}
use Rattle.rt_cover.specs.declared.listen.Kept.{Kept}
use Rattle.rt_cover.specs.Cover.{Registered, Tagged}
use Rattle.rt_cover.specs.State.{Cover, empty_cover, with_listener, without_listeners, left_after, with_listeners, started_for, shown_with, difference, listen_at, lacks_tag, fault_of, has_unknown}
use Rattle.rt_cover.specs.inside.Sound.{IsSound}
use Rattle.rt_cover.specs.Shown.{IsTold, counted}
use Rattle.rt_cover.specs.Runs.{Change, Add, Remove, Revoke, fault, changed, told, after, after_all, tags_of, tags_given}
use Rattle.rt_cover.specs.laws.Runs.{EveryRunIsSound}
use Rattle.rt_cover.specs.laws.ShownLaws.{shown_are_fewest, shown_are_certified}
use Rattle.rt_cover.specs.laws.SoundLaws.{HasForm, sound_after, sound_empty, with_listener_rises, with_listener_forms, without_listeners_rise, without_listeners_forms, left_after_rise, left_after_forms, told_exactly, is_told, is_told_without}

-- the listeners that a change registers
abbrev listeners_for : Cover → Change → List Registered
listeners_for c (Add n q) = with_listener c.listeners n (form q)
listeners_for c (Remove ns) = without_listeners c.listeners ns
listeners_for c (Revoke t) = left_after c t

rises : (c : Cover) (s : Change) → IsSound c → AllPairs (λ (l m : Registered). l.0 < m.0) (listeners_for c s)
rises c (Add n q) h = with_listener_rises c.listeners n (form q) h.listeners
rises c (Remove ns) h = without_listeners_rise c.listeners ns h.listeners
rises c (Revoke t) h = left_after_rise c t h.listeners

are_forms : (c : Cover) (s : Change) → IsSound c → All HasForm (listeners_for c s)
are_forms c (Add n q) h = with_listener_forms c.listeners n q h.forms
are_forms c (Remove ns) h = without_listeners_forms c.listeners ns h.forms
are_forms c (Revoke t) h = left_after_forms c t h.forms

changed_is : (c : Cover) (s : Change) → changed c s ≡ with_listeners c (listeners_for c s)
changed_is c (Add n q) = refl
changed_is c (Remove ns) = refl
changed_is c (Revoke t) = refl

-- a change without a fault lacks no tag
has_tag : (c : Cover) (ls : List Registered) → is_some (fault_of c ls) ≡ false → lacks_tag c ls ≡ false
has_tag c ls = by (lacks_tag c ls)
  where
    by : (b : Bool) → is_some (cond b (Some NoTag) None) ≡ false → b ≡ false
    by true h = h
    by false h = refl

room : (c : Cover) (s : Change) → is_some (fault c s) ≡ false → lacks_tag c (listeners_for c s) ≡ false
room c (Add n q) h = has_tag c (with_listener c.listeners n (form q)) h
room c (Remove ns) h = has_tag c (without_listeners c.listeners ns) (known (has_unknown c ns) h)
  where
    known : (b : Bool) → is_some (cond b (Some UnknownListener) (fault_of c (without_listeners c.listeners ns))) ≡ false → is_some (fault_of c (without_listeners c.listeners ns)) ≡ false
    known true e = absurd (true≢false e)
    known false e = e
room c (Revoke t) h = has_tag c (left_after c t) (known (listen_at c t) h)
  where
    known : (o : Option Tagged) → is_some (option_map_or (λ (_ : Tagged). fault_of c (left_after c t)) o (Some UnknownTag)) ≡ false → is_some (fault_of c (left_after c t)) ≡ false
    known None e = absurd (true≢false e)
    known (Some k) e = e

-- what starts, of the difference
started_tags : (c : Cover) (ls : List Registered) → IsSound c → length (map (λ (k : Kept). k.tag) (difference c (with_listeners c ls)).started) ≡ length (started_for c ls)
started_tags c ls h = ap (λ (d : Delta). length (map (λ (k : Kept). k.tag) d.started)) (told_exactly c ls h) ∙ both (started_for c ls)
  where
    both : (ss : List Tagged) → length (map (λ (k : Kept). k.tag) (map (shown_with ls) ss)) ≡ length ss
    both [] = refl
    both (s ∷ ss) = ap suc (both ss)

-- what is told of a change: the next tags, as many as the next one rises by
told_tags : (c : Cover) (s : Change) → IsSound c → IsTold c.next_tag (told c s) × (length (map (λ (k : Kept). k.tag) (told c s).started) ≡ length (started_for c (listeners_for c s)))
told_tags c (Add n q) h = (is_told c (with_listener c.listeners n (form q)) h (rises c (Add n q) h), started_tags c (with_listener c.listeners n (form q)) h)
told_tags c (Remove ns) h = (is_told c (without_listeners c.listeners ns) h (rises c (Remove ns) h), started_tags c (without_listeners c.listeners ns) h)
told_tags c (Revoke t) h = (is_told_without c.next_tag t (difference c (with_listeners c (left_after c t))) (is_told c (left_after c t) h (rises c (Revoke t) h)), started_tags c (left_after c t) h)

length_of_tags : (ks : List Kept) → length (map (λ (k : Kept). k.tag) ks) ≡ length ks
length_of_tags [] = refl
length_of_tags (k ∷ ks) = ap suc (length_of_tags ks)

-- one change
pub record Steps (c : Cover) (s : Change) : Type 0 where
  pub sound : IsSound (after c s)
  pub last : (after c s).last_tag ≡ c.last_tag
  pub tags : tags_of c s ≡ counted c.next_tag (length (tags_of c s))
  pub next : (after c s).next_tag ≡ c.next_tag + length (tags_of c s)

steps : (c : Cover) (s : Change) → IsSound c → Steps c s
steps c s h =
    elim (is_some (fault c s)) as (λ b. is_some (fault c s) ≡ b → Steps c s) [
      | true ↦ λ e.
          let same : after c s ≡ c = ap (λ b. cond b c (changed c s)) e in
          let none : tags_of c s ≡ [] = ap (λ b. cond b [] (map (λ (k : Kept). k.tag) (told c s).started)) e in
          record {
            sound = subst IsSound (sym same) h;
            last = ap (λ (x : Cover). x.last_tag) same;
            tags = subst (λ z. z ≡ counted c.next_tag (length z)) (sym none) refl;
            next = omega (arith, ap (λ (x : Cover). x.next_tag) same, ap length none);
          }
      | false ↦ λ e.
          let made : after c s ≡ with_listeners c (listeners_for c s) = ap (λ b. cond b c (changed c s)) e ∙ changed_is c s in
          let given : tags_of c s ≡ map (λ (k : Kept). k.tag) (told c s).started = ap (λ b. cond b [] (map (λ (k : Kept). k.tag) (told c s).started)) e in
          let t = told_tags c s h in
          record {
            sound = subst IsSound (sym made) (sound_after c (listeners_for c s) h (rises c s h) (are_forms c s h) (room c s e));
            last = ap (λ (x : Cover). x.last_tag) made;
            tags = subst (λ z. z ≡ counted c.next_tag (length z)) (sym given) ((t.0).next_tags ∙ ap (counted c.next_tag) (sym (length_of_tags (told c s).started)));
            next = omega (arith, ap (λ (x : Cover). x.next_tag) made, ap length given, t.1);
          }
    ] refl

counted-append : (first m n : ℕ) → counted first m ++ counted (first + m) n ≡ counted first (m + n)
counted-append first zero n =
    let a : first + zero ≡ first = omega arith in
    let b : n ≡ zero + n = omega arith in
    ap (λ f. counted f n) a ∙ ap (counted first) b
counted-append first (suc m) n =
    let a : first + suc m ≡ first + 1 + m = omega arith in
    let b : suc (m + n) ≡ suc m + n = omega arith in
    ap (λ z. first ∷ z) (ap (λ f. counted (first + 1) m ++ counted f n) a ∙ counted-append (first + 1) m n) ∙ ap (counted first) b

-- all changes
pub record Runs (c : Cover) (changes : List Change) : Type 0 where
  pub sound : IsSound (after_all c changes)
  pub last : (after_all c changes).last_tag ≡ c.last_tag
  pub tags : tags_given c changes ≡ counted c.next_tag (length (tags_given c changes))
  pub next : (after_all c changes).next_tag ≡ c.next_tag + length (tags_given c changes)

runs : (c : Cover) (changes : List Change) → IsSound c → Runs c changes
runs c [] h = record { sound = h; last = refl; tags = refl; next = omega arith }
runs c (s ∷ rest) h =
    let one = steps c s h in
    let more = runs (after c s) rest one.sound in
    let size : length (tags_given c (s ∷ rest)) ≡ length (tags_of c s) + length (tags_given (after c s) rest) = length-append (tags_of c s) (tags_given (after c s) rest) in
    record {
      sound = more.sound;
      last = more.last ∙ one.last;
      tags = (λ i. one.tags i ++ more.tags i) ∙ ap (λ f. counted c.next_tag (length (tags_of c s)) ++ counted f (length (tags_given (after c s) rest))) one.next
          ∙ counted-append c.next_tag (length (tags_of c s)) (length (tags_given (after c s) rest)) ∙ ap (counted c.next_tag) (sym size);
      next = omega (arith, more.next, one.next, size);
    }

pub every_run : EveryRunIsSound
every_run last changes =
    let r = runs (empty_cover last) changes (sound_empty last) in
    record {
      fewest = shown_are_fewest (after_all (empty_cover last) changes) r.sound;
      certified = shown_are_certified (after_all (empty_cover last) changes) r.sound;
      tags = r.tags;
      last = omega (arith, r.next, (r.sound).next, r.last);
    }
