-- Each table stands at a variable for such a table, and its class is a mode class.
use Rattle.scr_spec.specs.Data.{Data}
use Rattle.scr_spec.specs.declared.table.Table.{Table}
use Rattle.scr_spec.specs.Tables.{is_head_sound, is_class_sound}
use Rattle.scr_parse.specs.declared.place.Place.{Place}
use Rattle.scr_parse.specs.declared.place.Counts.{Counts}
use Rattle.scr_resolve.proofs.TableRules.{TableRule}

-- nothing more need be known
abbrev pub Nothing : Place → Counts → Data → Table → Type 0
Nothing place counts spec t = Unit {0}

pub heads_rule : TableRule is_head_sound Nothing
heads_rule = record {
  head = λ place counts known heading n class t b. tt;
  row = λ place counts known t heading modes cells i j l at o. tt;
  values = λ counts known t heading sides at o. tt;
  transition = λ counts known t source target e at o. tt;
  close = λ place counts known t i at o. at.here.head;
}

pub classes_rule : TableRule is_class_sound Nothing
classes_rule = record {
  head = λ place counts known heading n class t b. tt;
  row = λ place counts known t heading modes cells i j l at o. tt;
  values = λ counts known t heading sides at o. tt;
  transition = λ counts known t source target e at o. tt;
  close = λ place counts known t i at o. at.here.class;
}
