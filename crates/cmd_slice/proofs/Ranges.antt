-- The words before the last one.
use Rattle.std.proofs.Common.{◌≡◌, ◌-◌, List, String, Global, length, map, string_bytes, take, sym, ap, ◌∙◌}
use Rattle.std.proofs.lemmas.List.{take-map, length-map}

pub front_there : (words : List (String Global)) → map string_bytes (take (length words - 1) words) ≡ take (length (map string_bytes words) - 1) (map string_bytes words)
front_there words =
    sym (take-map string_bytes (length words - 1) words) ∙ ap (λ n. take (n - 1) (map string_bytes words)) (sym (length-map words string_bytes))
