-- The members of `q`, and of a listen, are written in the order of the bytes of their names.
use Rattle.std.proofs.Common.{◌≡◌, Bool, true, false, [], ◌∷◌, ◌++◌, List, Option, Some, None, refl}
use Rattle.std.specs.Prelude.{codes, if◌then◌else◌}
use Rattle.serde_json.specs.Data.{Data, no_members}
use Rattle.rt_order.specs.declared.index.Index.{Index}
use Rattle.rt_order.specs.declared.cut.Cut.{Cut}
use Rattle.rt_query.specs.declared.query.Limit.{Limit}
use Rattle.rt_wire.specs.FieldData.{Field, members_of}
use Rattle.rt_wire.specs.QueryData.{index_data, cut_data, limit_data, field_if}
use Rattle.rt_wire.proofs.Putting.{put_all}

-- the members of `q`
abbrev pub fields_of : Option Limit → Option Cut → Index → Option Cut → List Field
fields_of limit lower index upper =
    field_if limit_data (codes "limit") limit
    ++ (field_if cut_data (codes "lower") lower ++ ((codes "order", index_data index) ∷ field_if cut_data (codes "upper") upper))

pub fields_in_order : (limit : Option Limit) (lower : Option Cut) (index : Index) (upper : Option Cut) → put_all no_members (fields_of limit lower index upper) ≡ members_of (fields_of limit lower index upper)
fields_in_order None None index None = refl
fields_in_order None None index (Some u) = refl
fields_in_order None (Some l) index None = refl
fields_in_order None (Some l) index (Some u) = refl
fields_in_order (Some n) None index None = refl
fields_in_order (Some n) None index (Some u) = refl
fields_in_order (Some n) (Some l) index None = refl
fields_in_order (Some n) (Some l) index (Some u) = refl

-- the members of a listen, with `q` or without it
abbrev pub listen_fields : Bool → Data → Data → Data → Data → List Field
listen_fields filtered name path q tag =
    (codes "k", name) ∷ (codes "path", path) ∷ ((if filtered then (codes "q", q) ∷ [] else []) ++ (codes "tag", tag) ∷ [])

pub listen_in_order : (filtered : Bool) (name path q tag : Data) → put_all no_members (listen_fields filtered name path q tag) ≡ members_of (listen_fields filtered name path q tag)
listen_in_order true name path q tag = refl
listen_in_order false name path q tag = refl
