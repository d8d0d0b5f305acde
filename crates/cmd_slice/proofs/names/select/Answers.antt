use Rattle.std.proofs.Common.{◌≡◌, None, Global, sym, ap, ◌∙◌, get_or, string_bytes}
use Rattle.scr_spec.specs.Shown.{data_of}
use Rattle.scr_spec.specs.Names.{variable_named}
use Rattle.cmd_slice.specs.Names.{unknown_text}
use Rattle.cmd_slice.proofs.Naming.{first_at}
use Rattle.cmd_slice.proofs.names.select.Goals as goal

pub returns-in-None : goal.returns-in-None
returns-in-None c =
    let spec = data_of c.args.spec.now in
    let words = c.args.words.now in
    let i = c.loop-word.word-index in
    let word = c.word-item.result in
    let bytes : string_bytes {Z = Global} word ≡ string_bytes {Z = Global} (get_or words i word) = ap (string_bytes {Z = Global}) c.word-item.is in
    let unnamed : variable_named spec (string_bytes {Z = Global} (get_or words i word)) ≡ None = ap (variable_named spec) (sym (c.as_bytes.ensures.value ∙ bytes)) ∙ sym c.find.ensures ∙ c.in-None.is in
    record {
      word = string_bytes {Z = Global} (get_or words i word);
      first = first_at spec (string_bytes {Z = Global}) words i word c.loop-word.numbers c.loop-word-test.true c.loop-word.invariant unnamed;
      said = c.in_ok-unknown_line-in-None.ensures ∙ ap unknown_text (c.as_str.ensures.value ∙ bytes);
    }
