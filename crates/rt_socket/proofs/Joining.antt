-- What goes between a wire and a client, joined.
use Rattle.std.proofs.Common.{◌≡◌, ◌≤◌, ◌<◌, ◌+◌, ℕ, List, [], ◌∷◌, ◌++◌, length, take, Option, Some, None}
use Rattle.std.proofs.Common.{refl, sym, ap}
use Rattle.std.proofs.Common.{subst, ◌∙◌, append_assoc, add-zero, get_or, Result}
use Rattle.std.proofs.lemmas.Grind.{flat_map-append}
use Rattle.std.proofs.lemmas.List.{length-append, map_more}
use Rattle.serde_json.specs.Written.{compact_text}
use Rattle.rt_wire.specs.ClientData.{client_data}
use Rattle.rt_wire.specs.declared.client.ClientMessage.{ClientMessage}
use Rattle.rt_wire.specs.declared.error.WireError.{WireError}
use Rattle.rt_wire.specs.declared.server.ServerMessage.{ServerMessage}
use Rattle.rt_socket.specs.Reading.{IsPause, Reads, ReadsMost, read_all, read_of, texts_of}
use Rattle.rt_socket.specs.Wires.{Gives, Takes, given_by, said_by}
use Rattle.rt_socket.specs.inside.Rounds.{PausesBy, given_count}
use Rattle.rt_socket.specs.declared.wire.Pause.{Pause}
use Rattle.rt_socket.specs.declared.wire.Pause.TheVariants as pause
use Rattle.rt_socket.specs.declared.wire.Said.{Said}
use Rattle.rt_socket.specs.declared.wire.Heard.{Heard}
use Rattle.rt_socket.specs.declared.wire.Heard.TheVariants.{Text, Binary, Sign, Nothing, Ended}

pub gives_more : {X : Type 0} (a b c : Option (List X)) (xs ys : List X) → Gives a b xs → Gives b c ys
    → Gives a c (xs ++ ys)
gives_more None b c xs ys h k = tt
gives_more (Some a) None c xs ys h k = absurd h
gives_more (Some a) (Some b) None xs ys h k = absurd k
gives_more (Some a) (Some b) (Some c) xs ys h k = h ∙ ap (λ l. xs ++ l) k ∙ sym (append_assoc xs ys c)

-- what is read of what was given for one ask
read_given : (heard : Heard) → read_all (given_by heard) ≡ read_of heard
read_given (Text words) = refl
read_given Binary = refl
read_given Sign = refl
read_given Nothing = refl
read_given (Ended why) = refl

-- one more was asked for
pub reads_more : (m n k : ℕ) (a b c : Option (List Heard)) (had has : List (Result ServerMessage WireError))
    (heard : Heard) → Reads m a b had → Gives b c (given_by heard) → length (given_by heard) ≡ n
    → has ≡ had ++ read_of heard → m + n ≡ k → Reads k a c has
reads_more m n k a b c had has heard r g count grown sum = record {
  given = r.given ++ given_by heard;
  many = length-append r.given (given_by heard) ∙ ap (λ x. x + length (given_by heard)) r.many
      ∙ ap (λ x. m + x) count ∙ sum;
  gave = gives_more a b c r.given (given_by heard) r.gave g;
  read = grown ∙ ap (λ x. x ++ read_of heard) r.read
      ∙ ap (λ x. read_all r.given ++ x) (sym (read_given heard))
      ∙ sym (flat_map-append read_of r.given (given_by heard));
}

-- it pauses as the wire says, after so many
pauses : (end : Pause) (most count : ℕ) (told : Said) → count ≤ most → PausesBy (Some end) told
    → IsPause end most count told
pauses pause.Idle most count told le h = (le, h)
pauses pause.More most count told le h = absurd h
pauses (pause.Ended why) most count told le h = (le, h)

-- no more is read, since the wire said so
pub reads_end : (most count : ℕ) (a b c : Option (List Heard))
    (had has : List (Result ServerMessage WireError))
    (heard : Heard) (end : Pause) (told : Said) → Reads count a b had → count ≤ most
    → Gives b c (given_by heard) → length (given_by heard) ≡ given_count (Some end)
    → PausesBy (Some end) (said_by heard) → told ≡ said_by heard
    → has ≡ had ++ read_of heard → ReadsMost end most told a c has
reads_end most count a b c had has heard end told r le g none h is grown = (
  count,
  subst (λ t. IsPause end most count t) (sym is) (pauses end most count (said_by heard) le h),
  reads_more count 0 count a b c had has heard r g none grown (add-zero count),
)

takes_more : {X : Type 0} (a b c : Option (List X)) (xs ys : List X) → Takes a b xs → Takes b c ys
    → Takes a c (xs ++ ys)
takes_more None b c xs ys h k = tt
takes_more (Some a) None c xs ys h k = absurd h
takes_more (Some a) (Some b) None xs ys h k = absurd k
takes_more (Some a) (Some b) (Some c) xs ys h k = k ∙ ap (λ l. l ++ ys) h ∙ append_assoc a xs ys

-- the text of the next message is taken too
pub takes_next : (a b c : Option (List (List ℕ))) (all : List ClientMessage) (i : ℕ) (m : ClientMessage)
    (text : List ℕ) → i < length all → m ≡ get_or all i m → text ≡ compact_text (client_data m)
    → Takes a b (texts_of (take i all)) → Takes b c (text ∷ []) → Takes a c (texts_of (take (i + 1) all))
takes_next a b c all i m text inside is said had has =
    let next : compact_text (client_data (get_or all i m)) ≡ text =
    ap (λ x. compact_text (client_data x)) (sym is) ∙ sym said in
    subst (λ xs. Takes a c xs)
    (sym (map_more (λ x. compact_text (client_data x)) all i m inside
    ∙ ap (λ t. texts_of (take i all) ++ t ∷ []) next))
    (takes_more a b c (texts_of (take i all)) (text ∷ []) had has)
