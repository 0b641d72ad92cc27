-- Items and texts of calls that the prover computes.
use Rattle.std.specs.Prelude.{◌≡◌, pos, true, [], ◌∷◌, codes, Some, None, Ok, Err}
use Rattle.rt_tree.specs.Leaf.{number, text, truth}
use Rattle.rt_tree.specs.Path.{path_keys}
use Rattle.rt_tree.specs.PathTree.{null, of_leaf}
use Rattle.rt_order.specs.declared.index.Index.TheVariants as index
use Rattle.rt_query.specs.declared.query.Limit.TheVariants.{Last}
use Rattle.rt_view.specs.declared.change.Change.TheVariants.{Added, Removed, Value}
use Rattle.rt_wire.specs.declared.error.WireError.TheVariants.{BadField}
use Rattle.rt_wire.specs.declared.request.Action.TheVariants.{Put}
use Rattle.rt_lines.specs.declared.error.LineError.TheVariants.{Refused}
use Rattle.rt_lines.specs.declared.error.Refusal.TheVariants.{Wire}
use Rattle.rt_mail.specs.declared.item.Item.TheVariants as told
use Rattle.rt_mail.specs.declared.item.Receipt.TheVariants.{Wrote}
use Rattle.rt_foreign.specs.Items.{item_text}
use Rattle.rt_foreign.specs.Reading.{filtered_in, listen_words, query_in}

-- ---- items

abbrev pub ItemsAreWritten : Type 0
ItemsAreWritten =
    (item_text (told.Receipt (Wrote 1 (Put (path_keys (codes "/a")) null)))
    ≡ codes "{\"id\":1,\"k\":\"wrote\"}")
    × (item_text (told.Settled 12 (Some (codes "denied")))
    ≡ codes "{\"id\":12,\"k\":\"no\",\"why\":\"denied\"}")
    × (item_text (told.Cancelled 3 (codes "a \"b\""))
    ≡ codes "{\"k\":\"cancelled\",\"listener\":3,\"why\":\"a \\\"b\\\"\"}")
    × (item_text (told.Batch (record {
      listener = 1;
      changes = Added (codes "m1") (of_leaf (text (codes "hi"))) None
          ∷ Removed (codes "m0") (of_leaf (truth true)) ∷ Value (of_leaf (number (pos 5))) ∷ [];
    })) ≡ codes "{\"changes\":[{\"after\":null,\"k\":\"added\",\"key\":\"m1\",\"value\":\"hi\"},{\"k\":\"removed\",\"key\":\"m0\",\"old\":true},{\"k\":\"value\",\"value\":5}],\"k\":\"batch\",\"listener\":1}")

-- ---- queries

abbrev pub QueriesAreRead : Type 0
QueriesAreRead =
    (query_in (listen_words (codes "/a") (codes "{\"limit\":[\"last\",2],\"order\":\"value\"}"))
    ≡ Ok (record {
      path = path_keys (codes "/a");
      index = index.Value;
      range = record { lower = None; upper = None };
      limit = Some (Last 2);
    }))
    × (query_in (listen_words (codes "/a") (codes "{\"limit\":[\"last\",0],\"order\":\"value\"}"))
    ≡ Err (Refused (Wire BadField)))
    × (filtered_in (codes "/a") (codes "{\"order\":\"value\"}")
    ≡ Ok (record {
      path = path_keys (codes "/a");
      index = index.Value;
      range = record { lower = None; upper = None };
      limit = None;
    }))
    × (filtered_in (codes "/a") (codes "{\"order\":\"no order\"}") ≡ Err (Refused (Wire BadField)))
    × (filtered_in (codes "/a") (codes "{}") ≡ Err (Refused (Wire BadField)))
