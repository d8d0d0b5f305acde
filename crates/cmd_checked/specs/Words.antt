-- The words of a command that checks its first file within a limit.
use Rattle.std.specs.Prelude.{ℕ, List, [], ◌∷◌, Option, None, Some, option_map}
use Rattle.dd_store.specs.declared.store.TheConstants.{SPLIT_LIMIT}
use Rattle.cmd_work.specs.Words.{number_in}

-- the limit by the words behind the names: one word, or none
abbrev pub limit_of : List (List ℕ) → Option ℕ
limit_of [] = Some SPLIT_LIMIT
limit_of (word ∷ []) = number_in 1 SPLIT_LIMIT word
limit_of (word ∷ next ∷ words) = None

-- the name of a file, and the limit
abbrev pub name_and_limit : Option (List (List ℕ)) → Option (List ℕ × ℕ)
name_and_limit None = None
name_and_limit (Some []) = None
name_and_limit (Some (name ∷ words)) = option_map (λ limit. (name, limit)) (limit_of words)

-- the names of two files, and the limit
abbrev pub names_and_limit : Option (List (List ℕ)) → Option (List ℕ × List ℕ × ℕ)
names_and_limit None = None
names_and_limit (Some []) = None
names_and_limit (Some (name ∷ [])) = None
names_and_limit (Some (name ∷ second ∷ words)) = option_map (λ limit. (name, second, limit)) (limit_of words)
