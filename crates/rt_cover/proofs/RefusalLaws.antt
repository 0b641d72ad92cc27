-- The refusals of changes, by whether a tag is lacking.
use Rattle.std.proofs.Common.{◌≡◌, ◌≢◌, ℕ, ◌==◌, Bool, true, false, cond, not, List, [], Option, Some, None, is_some, refl, sym, ap, ◌∙◌, arith}
use mathlib.Core.Bool.{true≢false}
use Rattle.std.specs.List.{list_any}
use Rattle.std.specs.Option.{option_map, option_map_or}
use Rattle.rt_query.specs.Queries.{Query}
use Rattle.rt_cover.specs.declared.error.CoverError.{CoverError}
use Rattle.rt_cover.specs.declared.error.CoverError.TheVariants.{UnknownListener, UnknownTag, NoTag}
use Rattle.rt_cover.specs.Errors.{code_of}
use Rattle.rt_cover.specs.Cover.{Registered, Tagged}
use Rattle.rt_cover.specs.State.{Cover, lacks_tag, fault_of, has_unknown, AreChosen, remove_fault, revoke_fault, without_listeners, without_chosen, without_form, left_after, listen_at}
use Rattle.rt_cover.specs.laws.Pairs.{filter_agreeing}

-- ---- a change to some listeners

pub fault_lacking : (c : Cover) (ls : List Registered) → lacks_tag c ls ≡ true → fault_of c ls ≡ Some NoTag
fault_lacking c ls e = ap (λ b. cond b (Some NoTag) None) e

pub fault_none : (c : Cover) (ls : List Registered) → lacks_tag c ls ≡ false → fault_of c ls ≡ None
fault_none c ls e = ap (λ b. cond b (Some NoTag) None) e

-- refusals are told apart by their numbers
abbrev number : Option CoverError → ℕ
number o = option_map_or code_of o 0

pub fault_other : (o : Option CoverError) → o ≡ None → o ≢ Some NoTag
fault_other o none e = absurd (omega (arith, ap number (sym none ∙ e)))

-- ---- a removal

pub remove_known : (c : Cover) (numbers : List ℕ) → has_unknown c numbers ≡ false
    → remove_fault c numbers ≡ fault_of c (without_listeners c.listeners numbers)
remove_known c numbers e = ap (λ b. cond b (Some UnknownListener) (fault_of c (without_listeners c.listeners numbers))) e

pub remove_unknown : (c : Cover) (numbers : List ℕ) → has_unknown c numbers ≡ true → remove_fault c numbers ≢ Some NoTag
remove_unknown c numbers e is =
    absurd (omega (arith, ap number (sym (ap (λ b. cond b (Some UnknownListener) (fault_of c (without_listeners c.listeners numbers))) e) ∙ is)))

-- of the chosen listeners, by whether their end lacks a tag
pub remove_chosen : (c : Cover) (chosen : ℕ → Bool) (numbers : List ℕ) (lacks : Bool) → AreChosen c chosen numbers
    → lacks ≡ lacks_tag c (without_chosen chosen c.listeners) → remove_fault c numbers ≡ cond lacks (Some NoTag) None
remove_chosen c chosen numbers lacks h e =
    remove_known c numbers h.registered
    ∙ ap (fault_of c) (filter_agreeing (λ (l : Registered). not (list_any (λ n. n == l.0) numbers)) (λ (l : Registered). not (chosen l.0)) c.listeners
    (λ k d lt. ap not (h.each k d lt)))
    ∙ ap (λ b. cond b (Some NoTag) None) (sym e)

-- ---- a revocation

-- whether one of a kept tag lacks a tag
abbrev pub lacks_to_revoke : Cover → ℕ → Bool
lacks_to_revoke c tag = option_map_or (λ _. lacks_tag c (left_after c tag)) (listen_at c tag) false

pub revoke_lacking : (c : Cover) (tag : ℕ) → lacks_to_revoke c tag ≡ true → revoke_fault c tag ≡ Some NoTag
revoke_lacking c tag h = by (listen_at c tag) h
  where
    by : (o : Option Tagged) → option_map_or (λ (_ : Tagged). lacks_tag c (left_after c tag)) o false ≡ true
        → option_map_or (λ (_ : Tagged). fault_of c (left_after c tag)) o (Some UnknownTag) ≡ Some NoTag
    by None h = absurd (true≢false (sym h))
    by (Some k) h = fault_lacking c (left_after c tag) h

pub revoke_room : (c : Cover) (tag : ℕ) → lacks_to_revoke c tag ≡ false → is_some (listen_at c tag) ≡ true
    → lacks_tag c (left_after c tag) ≡ false
revoke_room c tag h known = by (listen_at c tag) h known
  where
    by : (o : Option Tagged) → option_map_or (λ (_ : Tagged). lacks_tag c (left_after c tag)) o false ≡ false → is_some o ≡ true
        → lacks_tag c (left_after c tag) ≡ false
    by None h known = absurd (true≢false (sym known))
    by (Some k) h known = h

pub revoke_other : (c : Cover) (tag : ℕ) → lacks_to_revoke c tag ≡ false → revoke_fault c tag ≢ Some NoTag
revoke_other c tag h is = by (listen_at c tag) h is
  where
    by : (o : Option Tagged) → option_map_or (λ (_ : Tagged). lacks_tag c (left_after c tag)) o false ≡ false
        → option_map_or (λ (_ : Tagged). fault_of c (left_after c tag)) o (Some UnknownTag) ≢ Some NoTag
    by None h is = absurd (omega (arith, ap number is))
    by (Some k) h is = fault_other (fault_of c (left_after c tag)) (fault_none c (left_after c tag) h) is

-- the refusal of a kept tag's revocation that lacks none
pub revoke_none : (c : Cover) (tag : ℕ) → lacks_to_revoke c tag ≡ false → is_some (listen_at c tag) ≡ true → revoke_fault c tag ≡ None
revoke_none c tag h known = by (listen_at c tag) h known
  where
    by : (o : Option Tagged) → option_map_or (λ (_ : Tagged). lacks_tag c (left_after c tag)) o false ≡ false → is_some o ≡ true
        → option_map_or (λ (_ : Tagged). fault_of c (left_after c tag)) o (Some UnknownTag) ≡ None
    by None h known = absurd (true≢false (sym known))
    by (Some k) h known = fault_none c (left_after c tag) h

-- a tag that is not kept lacks none
pub revoke_kept : (c : Cover) (tag : ℕ) → lacks_to_revoke c tag ≡ true → listen_at c tag ≢ None
revoke_kept c tag h is = true≢false (sym h ∙ ap (λ o. option_map_or (λ (_ : Tagged). lacks_tag c (left_after c tag)) o false) is)

-- ---- who is left

-- those that have not the form of the tag
pub left_of_form : (c : Cover) (tag : ℕ) (f : Query) → option_map (λ (k : Tagged). k.form) (listen_at c tag) ≡ Some f
    → left_after c tag ≡ without_form c.listeners f
left_of_form c tag f h = by (listen_at c tag) h
  where
    by : (o : Option Tagged) → option_map (λ (k : Tagged). k.form) o ≡ Some f
        → option_map_or (λ (k : Tagged). without_form c.listeners k.form) o c.listeners ≡ without_form c.listeners f
    by None h = cc
    by (Some k) h = ap (λ o. option_map_or (without_form c.listeners) o []) h

-- the tag is kept
pub known_of_form : (c : Cover) (tag : ℕ) (f : Query) → option_map (λ (k : Tagged). k.form) (listen_at c tag) ≡ Some f → is_some (listen_at c tag) ≡ true
known_of_form c tag f h = by (listen_at c tag) h
  where
    by : (o : Option Tagged) → option_map (λ (k : Tagged). k.form) o ≡ Some f → is_some o ≡ true
    by None h = cc
    by (Some k) h = refl
