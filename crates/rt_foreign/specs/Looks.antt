-- What a client gives beside what its seats are told: its cover, push ids, and why it was refused.
use Rattle.std.specs.Prelude.{◌≡◌, ◌⊎◌, ◌<◌, ◌≤◌, ◌++◌, ℕ, List, length, codes, Option, Some, None}
use Rattle.rt_cover.specs.declared.listen.Kept.{Kept}
use Rattle.rt_push.specs.declared.error.PushError.{PushError}
use Rattle.rt_push.specs.Digits.{number}
use Rattle.rt_push.specs.PushIds.{push_fault, push_id, used}
use Rattle.rt_client.specs.declared.error.ClientError.{ClientError}
use Rattle.rt_client.specs.Settling.{RefusesCover, ShowsCover}
use Rattle.rt_lines.specs.declared.error.Refusal.{Refusal}
use Rattle.rt_lines.specs.declared.error.Refusal.TheVariants.{Push}
use Rattle.rt_lines.specs.Printing.{cover_text}
use Rattle.rt_lines.specs.Refusals.{code_of, layer_of, name_of}
use Rattle.rt_foreign.specs.Clients.{Client, unrefused}
use Rattle.rt_foreign.specs.Places.{GivesNothing}
use Rattle.rt_foreign.specs.Refusing.{refusal_of, status_of}
use Rattle.rt_foreign.specs.Status as status
use Rattle.rt_foreign.specs.Texts.{Gives}

-- ---- the listens that are kept, as the console prints them

pub record IsShown (old : Client) (had : List ℕ) (result : ℕ) (new : Client) (left : List ℕ) (len : ℕ)
    : Type 0 where
  pub kept : List Kept
  pub shows : ShowsCover old.shared kept
  pub text : Gives (cover_text kept) had result left len
  pub client : new ≡ unrefused old

pub record IsUnshown (old : Client) (had : List ℕ) (result : ℕ) (new : Client) (left : List ℕ) (len : ℕ)
    : Type 0 where
  pub why : ClientError
  pub refused : RefusesCover old.shared why
  pub nothing : GivesNothing (status_of why) had result left len
  pub client : new ≡ record old { refused = refusal_of why }

abbrev pub Shows : Client → List ℕ → ℕ → Client → List ℕ → ℕ → Type 0
Shows old had result new left len =
    IsShown old had result new left len ⊎ IsUnshown old had result new left len

-- ---- push ids

-- the room is too small for an id, and none is used up
pub record HasNoRoom (old : Client) (had : List ℕ) (result : ℕ) (new : Client) (left : List ℕ) (len : ℕ)
    : Type 0 where
  pub room : length had < 20
  pub too_small : result ≡ status.too_small
  pub same : left ≡ had
  pub length : len ≡ 20
  pub client : new ≡ unrefused old

-- the id of that moment and those digits is given, unless it is refused
abbrev pub GivesId : Option PushError → ℕ → List ℕ → Client → List ℕ → ℕ → Client → List ℕ → ℕ → Type 0
GivesId (Some e) now random old had result new left len =
    GivesNothing status.refused had result left len × (new ≡ record old { refused = Some (Push e) })
GivesId None now random old had result new left len =
    let stamp = used old.shared.ids now (number random) in
    Gives (push_id stamp) had result left len
    × (new ≡ record (unrefused old) { shared = record old.shared { ids = Some stamp } })

abbrev pub GivesKey : ℕ → List ℕ → Client → List ℕ → ℕ → Client → List ℕ → ℕ → Type 0
GivesKey now random old had result new left len =
    HasNoRoom old had result new left len
    ⊎ ((20 ≤ length had)
    × GivesId (push_fault old.shared.ids now random) now random old had result new left len)

-- ---- why a layer refused the last call

-- the layer and the name
abbrev pub refusal_words : Refusal → List ℕ
refusal_words r = layer_of r ++ codes " " ++ name_of r

-- they are given with the number, if a layer refused it; memory may lack for the words
abbrev pub GivesWhy : Option Refusal → ℕ → List ℕ → ℕ → List ℕ → ℕ → Type 0
GivesWhy None code had result left len =
    GivesNothing status.none had result left len × (code ≡ 0)
GivesWhy (Some r) code had result left len =
    (Gives (refusal_words r) had result left len × (code ≡ code_of r))
    ⊎ (GivesNothing status.no_memory had result left len × (code ≡ 0))
