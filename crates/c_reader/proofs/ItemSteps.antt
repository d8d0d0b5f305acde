-- Objects and functions, one step of reading at a time.
use Rattle.std.proofs.Common.{◌≡◌, ℕ, ℤ, List, ◌∷◌, Option, Some, None, refl, sym, subst}
use Rattle.c_subset.specs.declared.stmt.CStmt.{CStmt}
use Rattle.c_subset.specs.declared.unit.CItem.{CItem}
use Rattle.c_reader.specs.Word.{Word}
use Rattle.c_reader.specs.Word as w
use Rattle.c_reader.specs.declared.word.Sign.TheVariants as s
use Rattle.c_reader.specs.declared.word.Keyword.TheVariants as k
use Rattle.c_reader.specs.Grammar.{NotAt}
use Rattle.c_reader.specs.Units.{NotAtWord, NotAtName, Number, Block, Parameter, no_parameter, parameter, object_of, function_of, Item, object, function}
use Rattle.c_reader.proofs.OnceUnits.{number_once, block_from, parameter_once}
use Rattle.c_reader.proofs.StmtSteps.{number_to}

pub item_from : {a b rest : List Word} {x : CItem} → a ≡ b → Item b x rest → Item a x rest
item_from {rest = rest} {x} e d = subst (λ from. Item from x rest) (sym e) d

pub parameter_from : {a b rest : List Word} {p : Option (List ℕ)} → a ≡ b → Parameter b p rest → Parameter a p rest
parameter_from {rest = rest} {p} e d = subst (λ from. Parameter from p rest) (sym e) d

-- ---- objects

pub object_at : {a b c d rest : List Word} {n m : List ℕ} {v u : ℤ} → a ≡ w.Name n ∷ b → b ≡ w.Sign s.Assign ∷ c → Number c v d → d ≡ w.Sign s.Semicolon ∷ rest
    → m ≡ n → u ≡ v → Item (w.Reserved k.Long ∷ a) (object_of m u) rest
object_at p q d r e f = rw (p, q, e, f) (object (number_to d r))

pub object_name : {a rest : List Word} {x : CItem} → NotAtName a → Item (w.Reserved k.Long ∷ a) x rest → ⊥
object_name h (object d) = h _ _ refl

object_rest : {a rest : List Word} {n : List ℕ} {x : CItem} → NotAt s.Assign a → Item (w.Reserved k.Long ∷ w.Name n ∷ a) x rest → ⊥
object_rest h (object d) = h _ refl

pub object_assign : {a b rest : List Word} {n : List ℕ} {x : CItem} → a ≡ w.Name n ∷ b → NotAt s.Assign b → Item (w.Reserved k.Long ∷ a) x rest → ⊥
object_assign {rest = rest} {x = x} p h d = object_rest h (subst (λ from. Item (w.Reserved k.Long ∷ from) x rest) p d)

inner_object : {c rest : List Word} {n : List ℕ} {x : CItem} → Item (w.Reserved k.Long ∷ w.Name n ∷ w.Sign s.Assign ∷ c) x rest → (v : ℤ) × Number c v (w.Sign s.Semicolon ∷ rest)
inner_object (object d) = (_, d)

pub object_number : {a b c rest : List Word} {n : List ℕ} {x : CItem} → a ≡ w.Name n ∷ b → b ≡ w.Sign s.Assign ∷ c → Item (w.Reserved k.Long ∷ a) x rest
    → (v : ℤ) × Number c v (w.Sign s.Semicolon ∷ rest)
object_number {rest = rest} {n} {x} p q d =
    inner_object (subst (λ from. Item (w.Reserved k.Long ∷ w.Name n ∷ from) x rest) q (subst (λ from. Item (w.Reserved k.Long ∷ from) x rest) p d))

-- ---- parameters

pub parameter_at : {a b rest : List Word} {n m : List ℕ} → a ≡ w.Name n ∷ b → b ≡ w.Sign s.CloseParen ∷ rest → m ≡ n → Parameter (w.Reserved k.Long ∷ a) (Some m) rest
parameter_at p q e = rw (p, q, e) parameter

pub parameter_name : {a rest : List Word} {x : Option (List ℕ)} → NotAtName a → Parameter (w.Reserved k.Long ∷ a) x rest → ⊥
parameter_name h parameter = h _ _ refl

parameter_rest : {a rest : List Word} {n : List ℕ} {x : Option (List ℕ)} → NotAt s.CloseParen a → Parameter (w.Reserved k.Long ∷ w.Name n ∷ a) x rest → ⊥
parameter_rest h parameter = h _ refl

pub parameter_close : {a b rest : List Word} {n : List ℕ} {x : Option (List ℕ)} → a ≡ w.Name n ∷ b → NotAt s.CloseParen b → Parameter (w.Reserved k.Long ∷ a) x rest → ⊥
parameter_close {rest = rest} {x = x} p h d = parameter_rest h (subst (λ from. Parameter (w.Reserved k.Long ∷ from) x rest) p d)

pub no_parameter_at : {a b rest : List Word} → a ≡ w.Reserved k.Void ∷ b → b ≡ w.Sign s.CloseParen ∷ rest → Parameter a None rest
no_parameter_at p q = rw (p, q) no_parameter

void_rest : {a rest : List Word} {x : Option (List ℕ)} → NotAt s.CloseParen a → Parameter (w.Reserved k.Void ∷ a) x rest → ⊥
void_rest h no_parameter = h _ refl

pub void_close : {a b rest : List Word} {x : Option (List ℕ)} → a ≡ w.Reserved k.Void ∷ b → NotAt s.CloseParen b → Parameter a x rest → ⊥
void_close p h d = void_rest h (parameter_from (sym p) d)

pub neither : {a rest : List Word} {x : Option (List ℕ)} → NotAtWord k.Void a → NotAtWord k.Long a → Parameter a x rest → ⊥
neither h g no_parameter = h _ refl
neither h g parameter = g _ refl

-- ---- functions

pub function_at : {a b c d rest : List Word} {n m : List ℕ} {p : Option (List ℕ)} {body : List CStmt} → a ≡ w.Name n ∷ b → b ≡ w.Sign s.OpenParen ∷ c → Parameter c p d
    → Block 256 d body rest → m ≡ n → Item (w.Reserved k.Void ∷ a) (function_of m p body) rest
function_at p q d ds e = rw (p, q, e) (function d ds)

pub function_name : {a rest : List Word} {x : CItem} → NotAtName a → Item (w.Reserved k.Void ∷ a) x rest → ⊥
function_name h (function d ds) = h _ _ refl

function_rest : {a rest : List Word} {n : List ℕ} {x : CItem} → NotAt s.OpenParen a → Item (w.Reserved k.Void ∷ w.Name n ∷ a) x rest → ⊥
function_rest h (function d ds) = h _ refl

pub function_open : {a b rest : List Word} {n : List ℕ} {x : CItem} → a ≡ w.Name n ∷ b → NotAt s.OpenParen b → Item (w.Reserved k.Void ∷ a) x rest → ⊥
function_open {rest = rest} {x = x} p h d = function_rest h (subst (λ from. Item (w.Reserved k.Void ∷ from) x rest) p d)

inner_function : {c rest : List Word} {n : List ℕ} {x : CItem} → Item (w.Reserved k.Void ∷ w.Name n ∷ w.Sign s.OpenParen ∷ c) x rest
    → (p : Option (List ℕ)) × (mid : List Word) × (body : List CStmt) × Parameter c p mid × Block 256 mid body rest
inner_function (function d ds) = (_, _, _, d, ds)

pub function_parts : {a b c rest : List Word} {n : List ℕ} {x : CItem} → a ≡ w.Name n ∷ b → b ≡ w.Sign s.OpenParen ∷ c → Item (w.Reserved k.Void ∷ a) x rest
    → (p : Option (List ℕ)) × (mid : List Word) × (body : List CStmt) × Parameter c p mid × Block 256 mid body rest
function_parts {rest = rest} {n} {x} p q d =
    inner_function (subst (λ from. Item (w.Reserved k.Void ∷ w.Name n ∷ from) x rest) q (subst (λ from. Item (w.Reserved k.Void ∷ from) x rest) p d))

-- behind a parameter there is a block
pub function_block : {a b c mid rest : List Word} {n : List ℕ} {p : Option (List ℕ)} {x : CItem} → a ≡ w.Name n ∷ b → b ≡ w.Sign s.OpenParen ∷ c → Parameter c p mid
    → Item (w.Reserved k.Void ∷ a) x rest → (body : List CStmt) × Block 256 mid body rest
function_block p q m d = let f = function_parts p q d in let e = parameter_once m f.3 in (_, block_from e.1 f.4)

pub no_item_here : {a rest : List Word} {x : CItem} → NotAtWord k.Long a → NotAtWord k.Void a → Item a x rest → ⊥
no_item_here h g (object d) = h _ refl
no_item_here h g (function d ds) = g _ refl

pub object_init : {a b c d rest : List Word} {n : List ℕ} {v : ℤ} {x : CItem} → a ≡ w.Name n ∷ b → b ≡ w.Sign s.Assign ∷ c → Number c v d → NotAt s.Semicolon d
    → Item (w.Reserved k.Long ∷ a) x rest → ⊥
object_init {rest = rest} p q m h d = let f = object_number p q d in let e = number_once m f.1 in h rest e.1

pub object_none : {a b c rest : List Word} {n : List ℕ} {x : CItem} → a ≡ w.Name n ∷ b → b ≡ w.Sign s.Assign ∷ c → ((v : ℤ) (after : List Word) → Number c v after → ⊥)
    → Item (w.Reserved k.Long ∷ a) x rest → ⊥
object_none p q h d = let f = object_number p q d in h _ _ f.1

pub ruleset object_steps = (object_name, object_assign, object_none, object_init)

pub ruleset parameter_steps = (parameter_name, parameter_close, void_close, neither)
