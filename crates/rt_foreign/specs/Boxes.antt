-- What a struct that C holds owns. Assumes nothing: this is a definition.
use Rattle.std.specs.Prelude.{Option, None, Some}
use base.Fml.{Fml, ftrue}
use denote.RattleType.{RattleType}
use denote.RawPtr.{Ptr}
use Rattle.std.specs.Box.Ownership.{box_owns}
use Rattle.std.specs.declared.alloc.Global.{Global}
use Rattle.std.specs.contracts.impls.GlobalAllocator.TheImpl.{ghosts}

-- a box of this value at this pointer, where there is one; else nothing
abbrev pub maybe_box_owns : Global → (R : RattleType) → Ptr → Option R.Denot → Fml
maybe_box_owns alloc R p None = ftrue
maybe_box_owns alloc R p (Some x) = box_owns (ghosts.dealloc_token alloc) R p x
