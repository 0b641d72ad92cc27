-- Objects and arrays that are written part by part.
use Rattle.std.proofs.Common.{◌≡◌, ℕ, ◌^◌, ◌<◌, ◌≤◌, List, [], ◌∷◌, ◌++◌, Some, refl, sym, ap, ap₂, ◌∙◌, subst, arith, append_assoc, decimal}
use Rattle.std.specs.Option.{option_map, option_and_then}
use Rattle.json.specs.Token.{Token, key, begin_object, end_object, begin_array, end_array}
use Rattle.json.specs.Token as token
use Rattle.json.specs.Json as json
use Rattle.json.specs.Tree as text
use Rattle.json.specs.Written.{Written}
use Rattle.serde_json.specs.Data.{Data, Items, no_items, item, Members, no_members, put, object, array, unsigned, members_depth}
use Rattle.serde_json.specs.Data as value
use Rattle.serde_json.specs.Read.{of_items, of_members}
use Rattle.serde_json.specs.Written.{blank_members, members_outline, WritesValue, WritesItems, WritesMembers}
use Rattle.serde_json.proofs.Numbers.{number_of-decimal}
use Rattle.serde_json.proofs.Texts.{unless_float-number_of}
use Rattle.rt_wire.specs.FieldData.{Field, members_of, object_of}
use Rattle.rt_wire.specs.inside.Writing.{PutsValue, PutsItems, PutsField, PutsFields}

-- ---- a token that is a value
pub null_put : (old new : Written) → new.before ≡ old.before → new.tokens ≡ old.tokens ++ token.null ∷ [] → PutsValue value.null old new
null_put old new b e = record { before = b; value = (json.null, e, refl, omega arith, refl) }

pub string_put : (s : List ℕ) (old new : Written) → new.before ≡ old.before → new.tokens ≡ old.tokens ++ token.string s ∷ [] → PutsValue (value.string s) old new
string_put s old new b e = record { before = b; value = (json.string s, e, refl, omega arith, refl) }

pub number_put : (n : ℕ) (old new : Written) → n < 2 ^ 64 → new.before ≡ old.before → new.tokens ≡ old.tokens ++ token.number (decimal n) ∷ [] → PutsValue (value.number (unsigned n)) old new
number_put n old new small b e =
    let reads = number_of-decimal n small in
    record { before = b; value = (json.number (decimal n), e, ap (option_map value.number) reads, omega arith, ap json.number (unless_float-number_of (decimal n) (unsigned n) reads)) }

-- ---- members
-- a name, and then its value
pub field_put : (f : Field) (old named new : Written) → named.before ≡ old.before → named.tokens ≡ old.tokens ++ key f.0 ∷ [] → PutsValue f.1 named new → PutsField f old new
field_put f old named new b e h = record { before = h.before ∙ b; value = subst (λ ts. WritesValue f.1 ts new.tokens) e h.value }

pub one_field : (f : Field) (old new : Written) → PutsField f old new → PutsFields (f ∷ []) old new
one_field f old new h = (new, h, (refl, refl))

-- members that begin where nothing has come
begins : (fs : List Field) (old start new : Written) → start.before ≡ old.before → start.tokens ≡ old.tokens → PutsFields fs start new → PutsFields fs old new
begins [] old start new b e h = (h.0 ∙ b, h.1 ∙ e)
begins (f ∷ fs) old start new b e h = (
  h.0,
  record { before = h.1.before ∙ b; value = subst (λ ts. WritesValue f.1 (ts ++ key f.0 ∷ []) h.0.tokens) e h.1.value },
  h.2,
)

pub both_fields : (fs gs : List Field) (old mid new : Written) → PutsFields fs old mid → PutsFields gs mid new → PutsFields (fs ++ gs) old new
both_fields [] gs old mid new h g = begins gs old mid new h.0 h.1 g
both_fields (f ∷ fs) gs old mid new h g = (h.0, h.1, both_fields fs gs h.0 mid new h.2 g)

fields_before : (fs : List Field) (old new : Written) → PutsFields fs old new → new.before ≡ old.before
fields_before [] old new h = h.0
fields_before (f ∷ fs) old new h = fields_before fs h.0 new h.2 ∙ h.1.before

-- the members that come of putting them one after another
abbrev pub put_all : Members → List Field → Members
put_all ms [] = ms
put_all ms (f ∷ fs) = put_all (put f.0 f.1 ms) fs

fields_end : (fs : List Field) (found : Members) (old new : Written) (end : List Token) → PutsFields fs old new → end ≡ new.tokens ++ end_object ∷ []
    → (ms : json.Members) × (end ≡ old.tokens ++ text.members_tokens ms) × (of_members ms found ≡ Some (put_all found fs)) × (text.members_depth ms ≤ members_depth (members_of fs))
    × (blank_members ms ≡ members_outline (members_of fs))
fields_end [] found old new end h e = (json.no_members, e ∙ ap (λ ts. ts ++ end_object ∷ []) h.1, refl, omega arith, refl)
fields_end (f ∷ fs) found old new end h e =
    let rest = fields_end fs (put f.0 f.1 found) h.0 new end h.2 e in
    let w = h.1.value in (
      json.member f.0 w.0 rest.0,
      rest.1 ∙ ap (λ ts. ts ++ text.members_tokens rest.0) w.1 ∙ append_assoc (old.tokens ++ key f.0 ∷ []) (text.json_tokens w.0) (text.members_tokens rest.0)
          ∙ append_assoc old.tokens (key f.0 ∷ []) (text.json_tokens w.0 ++ text.members_tokens rest.0),
      ap (option_and_then (λ d. of_members rest.0 (put f.0 d found))) w.2 ∙ rest.2,
      omega (arith, w.3, rest.3),
      ap₂ (json.member f.0) w.4 rest.4,
    )

-- members in the order of their names, between the braces
pub object_put : (fs : List Field) (old opened filled closed : Written) → put_all no_members fs ≡ members_of fs → opened.before ≡ old.before → opened.tokens ≡ old.tokens ++ begin_object ∷ []
    → PutsFields fs opened filled → closed.before ≡ filled.before → closed.tokens ≡ filled.tokens ++ end_object ∷ [] → PutsValue (object_of fs) old closed
object_put fs old opened filled closed in_order b o h c e =
    let w = fields_end fs no_members opened filled closed.tokens h e in
    record {
      before = c ∙ fields_before fs opened filled h ∙ b;
      value = (
        json.object w.0,
        w.1 ∙ ap (λ ts. ts ++ text.members_tokens w.0) o ∙ append_assoc old.tokens (begin_object ∷ []) (text.members_tokens w.0),
        ap (option_map object) (w.2 ∙ ap Some in_order),
        omega (arith, w.3),
        ap json.object w.4,
      );
    }

pub members_put : (ms : Members) (old opened closed : Written) → opened.before ≡ old.before → opened.tokens ≡ old.tokens ++ begin_object ∷ [] → closed.before ≡ opened.before
    → WritesMembers ms opened.tokens closed.tokens → PutsValue (object ms) old closed
members_put ms old opened closed b o c w = record {
  before = c ∙ b;
  value = (
    json.object w.0,
    w.1 ∙ ap (λ ts. ts ++ text.members_tokens w.0) o ∙ append_assoc old.tokens (begin_object ∷ []) (text.members_tokens w.0),
    ap (option_map object) w.2,
    omega (arith, w.3),
    ap json.object w.4,
  );
}

-- ---- items
items_before : (ds : Items) (old new : Written) → PutsItems ds old new → new.before ≡ old.before
items_before no_items old new h = h.0
items_before (item d ds) old new h = items_before ds h.0 new h.2 ∙ h.1.before

items_end : (ds : Items) (old new : Written) (end : List Token) → PutsItems ds old new → end ≡ new.tokens ++ end_array ∷ [] → WritesItems ds old.tokens end
items_end no_items old new end h e = (json.no_items, e ∙ ap (λ ts. ts ++ end_array ∷ []) h.1, refl, omega arith, refl)
items_end (item d ds) old new end h e =
    let rest = items_end ds h.0 new end h.2 e in
    let w = h.1.value in (
      json.item w.0 rest.0,
      rest.1 ∙ ap (λ ts. ts ++ text.items_tokens rest.0) w.1 ∙ append_assoc old.tokens (text.json_tokens w.0) (text.items_tokens rest.0),
      ap (option_and_then (λ x. option_map (item x) (of_items rest.0))) w.2 ∙ ap (option_map (item d)) rest.2,
      omega (arith, w.3, rest.3),
      ap₂ json.item w.4 rest.4,
    )

pub array_put : (ds : Items) (old opened filled closed : Written) → opened.before ≡ old.before → opened.tokens ≡ old.tokens ++ begin_array ∷ [] → PutsItems ds opened filled
    → closed.before ≡ filled.before → closed.tokens ≡ filled.tokens ++ end_array ∷ [] → PutsValue (array ds) old closed
array_put ds old opened filled closed b o h c e =
    let w = items_end ds opened filled closed.tokens h e in
    record {
      before = c ∙ items_before ds opened filled h ∙ b;
      value = (
        json.array w.0,
        w.1 ∙ ap (λ ts. ts ++ text.items_tokens w.0) o ∙ append_assoc old.tokens (begin_array ∷ []) (text.items_tokens w.0),
        ap (option_map array) w.2,
        omega (arith, w.3),
        ap json.array w.4,
      );
    }
