-- A text that is made anew.
use Rattle.std.proofs.Common.{◌≡◌, ℕ, List, Bool, true, false, inl, inr, Result, Ok, Err, String, string_bytes, refl, sym, subst}
use Rattle.std.specs.Prelude.{OnOk}
use Rattle.std.specs.declared.alloc.Global.{Global}
use Rattle.rt_emulate.specs.declared.present.Present.{Present}
use Rattle.rt_emulate.specs.declared.roster.Roster.{Roster}
use Rattle.rt_emulate.specs.inside.Guests.{NotesEach}
use Rattle.rt_emulate.specs.inside.Rosters.{RenewsIf, renewed}

pub stays : (b : Bool) (text : List ℕ) (r : Roster) (p : Present) → RenewsIf b text r p r p
stays true text r p = inl (refl, refl)
stays false text r p = (refl, refl)

pub renews : {E : Type 0} (done : Result Unit E) (b : Bool) (made : String Global) (text : List ℕ) (old : Roster) (p q : Present)
    → b ≡ true → string_bytes made ≡ text → OnOk done (NotesEach old.askers.items p q)
    → OnOk done (RenewsIf b text old p (renewed made old) q)
renews (Ok done) b made text old p q e is notes =
    subst (λ z. RenewsIf z text old p (renewed made old) q) (sym e) (inr (made, is, refl, notes))
renews (Err why) b made text old p q e is notes = tt
