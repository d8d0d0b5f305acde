-- The keywords of C, in parts.
use Rattle.std.proofs.Common.{◌≡◌, ℕ, Bool, true, false, ◌||◌, List, [], ◌∷◌, ◌++◌, refl, ap, ◌∙◌}
use Rattle.std.specs.Str.{bytes_eq}
use Rattle.c_subset.specs.Names.{is_among}
use Rattle.c_subset.specs.Names as c
use Rattle.c_reader.specs.Words.{first_keywords, second_keywords, third_keywords}

in_parts : c.keywords ≡ first_keywords ++ (second_keywords ++ third_keywords)
unfolding c.keywords first_keywords second_keywords third_keywords
in_parts = refl

or_assoc : (p q r : Bool) → (p || (q || r)) ≡ ((p || q) || r)
or_assoc true q r = refl
or_assoc false q r = refl

among_append : (xs ys : List (List ℕ)) (name : List ℕ) → is_among (xs ++ ys) name ≡ (is_among xs name || is_among ys name)
among_append [] ys name = refl
among_append (x ∷ xs) ys name = ap (λ b. bytes_eq name x || b) (among_append xs ys name) ∙ or_assoc (bytes_eq name x) (is_among xs name) (is_among ys name)

pub keyword_parts : (name : List ℕ) → is_among c.keywords name ≡ (is_among first_keywords name || (is_among second_keywords name || is_among third_keywords name))
keyword_parts name =
    ap (λ list. is_among list name) in_parts ∙ among_append first_keywords (second_keywords ++ third_keywords) name
    ∙ ap (λ b. is_among first_keywords name || b) (among_append second_keywords third_keywords name)
