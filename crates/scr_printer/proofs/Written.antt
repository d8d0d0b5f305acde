-- Words that are written one after another.
use Rattle.std.proofs.Common.{◌≡◌, ℕ, zero, suc, ◌+◌, ◌<◌, false, ◌==◌, List, [], ◌∷◌, ◌++◌, length, map, take, get_or, refl, sym, ap, ◌∙◌, append_assoc, arith, append-nil}
use Rattle.std.specs.Prelude.{Result, Ok, Err, OnOk, codes}
use Rattle.std.specs.List.{flat_map}
use Rattle.scr_tokens.specs.declared.word.Word.{Word}
use Rattle.scr_printer.specs.declared.line.Behind.TheVariants.{Opening}
use Rattle.scr_printer.specs.Spelling.{spelling, behind_word, is_joined, gap, spaced}
use Rattle.scr_printer.specs.Pages.{Page, blank, put, written}
use Rattle.scr_tokens.specs.declared.word.Word.TheVariants as w
use Rattle.scr_tokens.specs.declared.word.Sign.TheVariants as s
use Rattle.scr_printer.specs.Text.{line_text, lines_text}
use Rattle.scr_printer.specs.Declarations.{name_words, names_words}
use Rattle.scr_printer.specs.Conds.{joined, between}

pub written_append : (page : Page) (a b : List Word) → written page (a ++ b) ≡ written (written page a) b
written_append page [] b = refl
written_append page (word ∷ a) b = written_append (put page word) a b

-- the text of what is written
pub written_text : (page : Page) (ws : List Word) → (written page ws).text ≡ page.text ++ spaced page.behind ws
written_text page [] = sym (append-nil page.text)
written_text page (word ∷ ws) =
    written_text (put page word) ws
    ∙ append_assoc page.text (gap (is_joined page.behind word) ++ spelling word) (spaced (behind_word page.behind word) ws)
    ∙ ap (λ more. page.text ++ more) (append_assoc (gap (is_joined page.behind word)) (spelling word) (spaced (behind_word page.behind word) ws))

pub blank_text : (ws : List Word) → (written blank ws).text ≡ spaced Opening ws
blank_text ws = written_text blank ws

-- ---- parts one after another

flat_suc : {X Y : Type 0} (f : X → List Y) (xs : List X) (i : ℕ) (x : X) → i < length xs → x ≡ get_or xs i x → flat_map f (take (suc i) xs) ≡ flat_map f (take i xs) ++ f x
flat_suc f [] i x h e = absurd (omega arith)
flat_suc f (y ∷ xs) zero x h e = let same : y ≡ x = sym e in rw same (append-nil (f x))
flat_suc f (y ∷ xs) (suc i) x h e =
    ap (λ more. f y ++ more) (flat_suc f xs i x (omega arith) e) ∙ sym (append_assoc (f y) (flat_map f (take i xs)) (f x))

pub more_one : (i : ℕ) → i + 1 ≡ suc i
more_one i = omega arith

pub flat_more : {X Y : Type 0} (f : X → List Y) (xs : List X) (i : ℕ) (x : X) → i < length xs → x ≡ get_or xs i x → flat_map f (take (i + 1) xs) ≡ flat_map f (take i xs) ++ f x
flat_more f xs i x h e = ap (λ n. flat_map f (take n xs)) (more_one i) ∙ flat_suc f xs i x h e

flat_mapped : {X : Type 0} (word : Word) (f : X → List Word) (xs : List X) → flat_map (λ other. word ∷ other) (map f xs) ≡ flat_map (λ x. word ∷ f x) xs
flat_mapped word f [] = refl
flat_mapped word f (x ∷ xs) = ap (λ more. (word ∷ f x) ++ more) (flat_mapped word f xs)

later : (i : ℕ) → (suc i == 0) ≡ false
later i = grind arith

joined_suc : {X : Type 0} (word : Word) (f : X → List Word) (xs : List X) (i : ℕ) (x : X) → i < length xs → x ≡ get_or xs i x
    → joined word (map f (take (suc i) xs)) ≡ joined word (map f (take i xs)) ++ (between (i == 0) word ++ f x)
joined_suc word f [] i x h e = absurd (omega arith)
joined_suc word f (y ∷ xs) zero x h e = let same : y ≡ x = sym e in rw same (append-nil (f x))
joined_suc word f (y ∷ xs) (suc i) x h e =
    let not_first = later i in
    rw not_first (ap (λ more. f y ++ more) (flat_mapped word f (take (suc i) xs) ∙ flat_suc (λ x. word ∷ f x) xs i x (omega arith) e ∙ ap (λ more. more ++ (word ∷ f x)) (sym (flat_mapped word f (take i xs))))
    ∙ sym (append_assoc (f y) (flat_map (λ other. word ∷ other) (map f (take i xs))) (word ∷ f x)))

pub joined_more : {X : Type 0} (word : Word) (f : X → List Word) (xs : List X) (i : ℕ) (x : X) → i < length xs → x ≡ get_or xs i x
    → joined word (map f (take (i + 1) xs)) ≡ joined word (map f (take i xs)) ++ (between (i == 0) word ++ f x)
joined_more word f xs i x h e = ap (λ n. joined word (map f (take n xs))) (more_one i) ∙ joined_suc word f xs i x h e

pub ruleset written_laws = (written_append)

-- ---- the steps of loops

-- one part more
pub flat_step : {X : Type 0} (f : X → List Word) (xs : List X) (i : ℕ) (x : X) (a b c : Page) → i < length xs → x ≡ get_or xs i x → b ≡ written a (flat_map f (take i xs))
    → c ≡ written b (f x) → c ≡ written a (flat_map f (take (i + 1) xs))
flat_step f xs i x a b c h e before here =
    here ∙ ap (λ page. written page (f x)) before ∙ sym (written_append a (flat_map f (take i xs)) (f x)) ∙ ap (written a) (sym (flat_more f xs i x h e))

-- one part more, with the word before it
pub joined_step : {X : Type 0} (word : Word) (f : X → List Word) (xs : List X) (i : ℕ) (x : X) (a b c d : Page) → i < length xs → x ≡ get_or xs i x
    → b ≡ written a (joined word (map f (take i xs))) → c ≡ written b (between (i == 0) word) → d ≡ written c (f x) → d ≡ written a (joined word (map f (take (i + 1) xs)))
joined_step word f xs i x a b c d h e before gap here =
    here ∙ ap (λ page. written page (f x)) gap ∙ sym (written_append b (between (i == 0) word) (f x)) ∙ ap (λ page. written page (between (i == 0) word ++ f x)) before
    ∙ sym (written_append a (joined word (map f (take i xs))) (between (i == 0) word ++ f x)) ∙ ap (written a) (sym (joined_more word f xs i x h e))

-- a member that is read by its place, whatever stands behind the last
get_same : {X : Type 0} (xs : List X) (i : ℕ) (d e : X) → i < length xs → get_or xs i d ≡ get_or xs i e
get_same [] i d e h = absurd (omega arith)
get_same (x ∷ xs) zero d e h = refl
get_same (x ∷ xs) (suc i) d e h = get_same xs i d e (omega arith)

pub flat_step_at : {X : Type 0} (f : X → List Word) (xs : List X) (i : ℕ) (d : X) (a b c : Page) → i < length xs → b ≡ written a (flat_map f (take i xs))
    → c ≡ written b (f (get_or xs i d)) → c ≡ written a (flat_map f (take (i + 1) xs))
flat_step_at f xs i d a b c h before here = flat_step f xs i (get_or xs i d) a b c h (get_same xs i d (get_or xs i d) h) before here

-- behind a loop's first turn
pub no_first : (i : ℕ) → false ≡ (i + 1 == 0)
no_first i = grind arith

-- ---- what is written behind other words

pub onward : {T E : Type 0} (r : Result T E) (a b c : Page) (ws vs all : List Word) → OnOk r (c ≡ written b vs) → b ≡ written a ws → all ≡ ws ++ vs → OnOk r (c ≡ written a all)
onward (Ok x) a b c ws vs all h before e = h ∙ ap (λ page. written page vs) before ∙ sym (written_append a ws vs) ∙ ap (written a) (sym e)
onward (Err x) a b c ws vs all h before e = h

pub one_behind : (a b c : Page) (ws : List Word) (word : Word) → b ≡ written a ws → c ≡ put b word → c ≡ written a (ws ++ word ∷ [])
one_behind a b c ws word before here = here ∙ ap (λ page. put page word) before ∙ sym (written_append a ws (word ∷ []))

pub map_map : {X Y Z : Type 0} (f : Y → Z) (g : X → Y) (xs : List X) → map f (map g xs) ≡ map (λ x. f (g x)) xs
map_map f g [] = refl
map_map f g (x ∷ xs) = ap (λ more. f (g x) ∷ more) (map_map f g xs)

-- one more name of a list that is made from codes
pub names_step_at : {X : Type 0} (name : X → List ℕ) (xs : List X) (i : ℕ) (d : X) (a b c e : Page) → i < length xs → b ≡ written a (names_words (map name (take i xs)))
    → c ≡ written b (between (i == 0) (w.Sign s.Comma)) → e ≡ written c (w.Name (name (get_or xs i d)) ∷ []) → e ≡ written a (names_words (map name (take (i + 1) xs)))
names_step_at name xs i d a b c e h before gap here =
    joined_step (w.Sign s.Comma) (λ x. name_words (name x)) xs i (get_or xs i d) a b c e h (get_same xs i d (get_or xs i d) h)
    (before ∙ ap (λ parts. written a (joined (w.Sign s.Comma) parts)) (map_map name_words name (take i xs))) gap here
    ∙ ap (λ parts. written a (joined (w.Sign s.Comma) parts)) (sym (map_map name_words name (take (i + 1) xs)))

-- ---- texts of lines

pub lines_append : (a b : List (List Word)) → lines_text (a ++ b) ≡ lines_text a ++ lines_text b
lines_append [] b = refl
lines_append (ws ∷ a) b = ap (λ more. line_text ws ++ more) (lines_append a b) ∙ sym (append_assoc (line_text ws) (lines_text a) (lines_text b))

-- the lines of one part more
pub lines_step : {X : Type 0} (f : X → List (List Word)) (xs : List X) (i : ℕ) (x : X) (a b c : List ℕ) → i < length xs → x ≡ get_or xs i x → b ≡ a ++ lines_text (flat_map f (take i xs))
    → c ≡ b ++ lines_text (f x) → c ≡ a ++ lines_text (flat_map f (take (i + 1) xs))
lines_step f xs i x a b c h e before here =
    here ∙ ap (λ text. text ++ lines_text (f x)) before ∙ append_assoc a (lines_text (flat_map f (take i xs))) (lines_text (f x))
    ∙ ap (λ text. a ++ text) (sym (lines_append (flat_map f (take i xs)) (f x)) ∙ ap lines_text (sym (flat_more f xs i x h e)))

pub one_line : (ws : List Word) → line_text ws ≡ lines_text (ws ∷ [])
one_line ws = sym (append-nil (line_text ws))

as_flat : {X Y : Type 0} (f : X → Y) (xs : List X) → map f xs ≡ flat_map (λ x. f x ∷ []) xs
as_flat f [] = refl
as_flat f (x ∷ xs) = ap (λ more. f x ∷ more) (as_flat f xs)

-- one line more
pub line_step : {X : Type 0} (f : X → List Word) (xs : List X) (i : ℕ) (x : X) (a b c : List ℕ) → i < length xs → x ≡ get_or xs i x → b ≡ a ++ lines_text (map f (take i xs))
    → c ≡ b ++ line_text (f x) → c ≡ a ++ lines_text (map f (take (i + 1) xs))
line_step f xs i x a b c h e before here =
    lines_step (λ x. f x ∷ []) xs i x a b c h e (before ∙ ap (λ lines. a ++ lines_text lines) (as_flat f (take i xs))) (here ∙ ap (λ text. b ++ text) (one_line (f x)))
    ∙ ap (λ lines. a ++ lines_text lines) (sym (as_flat f (take (i + 1) xs)))

-- ---- the text of what is written

pub line_of : (page : Page) (ws : List Word) → page ≡ written blank ws → page.text ++ codes "\n" ≡ line_text ws
unfolding line_text
line_of page ws e = ap (λ text. text ++ codes "\n") (ap (λ (p : Page). p.text) e ∙ blank_text ws)

pub line_told : {T E : Type 0} (r : Result T E) (page : Page) (a b : List ℕ) → OnOk r (b ≡ a ++ (page.text ++ codes "\n")) → (ws : List Word) → page ≡ written blank ws → OnOk r (b ≡ a ++ line_text ws)
line_told (Ok x) page a b h ws e = h ∙ ap (λ text. a ++ text) (line_of page ws e)
line_told (Err x) page a b h ws e = h

pub text_onward : {T E : Type 0} (r : Result T E) (a b c x y z : List ℕ) → OnOk r (c ≡ b ++ y) → b ≡ a ++ x → z ≡ x ++ y → OnOk r (c ≡ a ++ z)
text_onward (Ok v) a b c x y z h before e = h ∙ ap (λ text. text ++ y) before ∙ append_assoc a x y ∙ ap (λ text. a ++ text) (sym e)
text_onward (Err v) a b c x y z h before e = h

pub begun : (page : Page) (first : Page) (ws : List Word) → first ≡ blank → page ≡ written first ws → page ≡ written blank ws
begun page first ws e h = h ∙ ap (λ p. written p ws) e
