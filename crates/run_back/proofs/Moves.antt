-- States move between the earlier ones and the spare ones.
use Rattle.std.proofs.Common.{◌≡◌, ℕ, ◌+◌, ◌-◌, ◌<◌, ◌≤◌, List, [], ◌∷◌, ◌++◌, length, take, drop, refl, sym, ap, subst, ◌∙◌, arith, inl, inr}
use Rattle.std.specs.Prelude.{Some, None, slice_get}
use Rattle.std.proofs.lemmas.List.{append_assoc, append-nil, length-append}
use Rattle.circular_buffer.specs.Buffer.{Buffer, buffer, keep_last, last_item}
use Rattle.scr_spec.specs.Data.{Data}
use Rattle.scr_spec.specs.Meaning.{Codes}
use Rattle.scr_spec.specs.Sound.{IsSound}
use Rattle.run_back.specs.Kept.{Kept, kept, states_of, IsOfRun, HaveLength}
use Rattle.run_back.specs.Room.{MakesRoom}
use Rattle.run_back.specs.Replays.{GoesBack}
use Rattle.run_back.proofs.Lists.{last_none, last_some, first_some, keep_next, length-keep, length-push, have_split, have_push, have_drop}
use Rattle.run_back.proofs.Cuts.{of_consistent}

abbrev items : Buffer Codes → List Codes
items b = b.items

-- ---- taking room

popped : (b c : Buffer Codes) (codes : Codes) → Some codes ≡ last_item b.items → c ≡ buffer (take (length b.items - 1) b.items) b.capacity → b.items ≡ c.items ++ codes ∷ []
popped b c codes h e = last_some b.items codes (sym h) ∙ ap (λ (xs : List Codes). xs ++ codes ∷ []) (sym (ap items e))

pub takes_spare : (earlier spares rest : Buffer Codes) (codes : Codes) → Some codes ≡ last_item spares.items → rest ≡ buffer (take (length spares.items - 1) spares.items) spares.capacity
    → MakesRoom earlier spares earlier rest codes
takes_spare earlier spares rest codes h e = inl (record { taken = popped spares rest codes h e; capacity = ap (λ (b : Buffer Codes). b.capacity) e; other = refl })

pub takes_oldest : (earlier spares left rest : Buffer Codes) (codes : Codes) → None ≡ last_item spares.items → rest ≡ buffer (take (length spares.items - 1) spares.items) spares.capacity
    → Some codes ≡ slice_get earlier.items 0 → left ≡ buffer (drop 1 earlier.items) earlier.capacity → MakesRoom earlier spares left rest codes
takes_oldest earlier spares left rest codes n f h e =
    let none : spares.items ≡ [] = last_none spares.items (sym n) in
    inr (record {
      none = none;
      other = f ∙ ap (λ (xs : List Codes). buffer (take (length xs - 1) xs) spares.capacity) none ∙ ap (λ (xs : List Codes). buffer xs spares.capacity) (sym none);
      taken = first_some earlier.items codes (sym h) ∙ ap (λ (xs : List Codes). codes ∷ xs) (sym (ap items e));
      capacity = ap (λ (b : Buffer Codes). b.capacity) e;
    })

pub record AllLong (n : ℕ) (codes : Codes) (left rest : Buffer Codes) : Type 0 where
  pub room : length codes ≡ n
  pub left_long : HaveLength n left.items
  pub rest_long : HaveLength n rest.items

pub room_long : (n : ℕ) (earlier spares left rest : Buffer Codes) (codes : Codes) → MakesRoom earlier spares left rest codes → HaveLength n earlier.items → HaveLength n spares.items → AllLong n codes left rest
room_long n earlier spares left rest codes (inl t) p q =
    let s = have_split n rest.items codes (subst (HaveLength n) t.taken q) in
    record { room = s.1; left_long = subst (λ (b : Buffer Codes). HaveLength n b.items) (sym t.other) p; rest_long = s.0 }
room_long n earlier spares left rest codes (inr t) p q =
    let s : HaveLength n (codes ∷ left.items) = subst (HaveLength n) t.taken p in
    record { room = s.0; left_long = s.1; rest_long = subst (λ (b : Buffer Codes). HaveLength n b.items) (sym t.other) q }

-- ---- the old state becomes the newest earlier one

pub record Pushed (earlier rest more : Buffer Codes) (at : Codes) : Type 0 where
  pub all : more.items ≡ keep_last 256 (earlier.items ++ at ∷ [])
  pub room : length more.items + length rest.items ≡ 256
  pub more_capacity : more.capacity ≡ 256
  pub rest_capacity : rest.capacity ≡ 256

push_all : (b c : Buffer Codes) (x : Codes) → b.capacity ≡ 256 → c ≡ buffer (keep_last b.capacity (b.items ++ x ∷ [])) b.capacity → (c.items ≡ keep_last 256 (b.items ++ x ∷ [])) × (c.capacity ≡ 256)
push_all b c x e h = (ap items h ∙ ap (λ (n : ℕ). keep_last n (b.items ++ x ∷ [])) e, ap (λ (k : Buffer Codes). k.capacity) h ∙ e)

long_push : (xs : List Codes) (x : Codes) (n : ℕ) (ys : List Codes) → ys ≡ keep_last 256 (xs ++ x ∷ []) → length xs ≡ n → n < 256 → length ys ≡ n + 1
long_push xs x n ys e h less =
    let many : length ys ≡ length (xs ++ x ∷ []) - (length (xs ++ x ∷ []) - 256) = ap (λ (zs : List Codes). length zs) e ∙ length-keep 256 (xs ++ x ∷ []) in
    omega (arith, many, length-push xs x, h, less)

pub pushed : (earlier spares left rest more : Buffer Codes) (codes at : Codes) → MakesRoom earlier spares left rest codes → length earlier.items + length spares.items ≡ 256 → earlier.capacity ≡ 256 → spares.capacity ≡ 256
    → more ≡ buffer (keep_last left.capacity (left.items ++ at ∷ [])) left.capacity → Pushed earlier rest more at
pushed earlier spares left rest more codes at (inl t) many e s h =
    let same : left.items ≡ earlier.items = ap items t.other in
    let p = push_all left more at (ap (λ (b : Buffer Codes). b.capacity) t.other ∙ e) h in
    let split : length spares.items ≡ length rest.items + 1 = ap (λ (xs : List Codes). length xs) t.taken ∙ length-push rest.items codes in
    let left_many : length left.items ≡ length earlier.items = ap (λ (xs : List Codes). length xs) same in
    let grown : length more.items ≡ length left.items + 1 = long_push left.items at (length left.items) more.items p.0 refl (omega (arith, split, left_many, many)) in
    record {
      all = p.0 ∙ ap (λ (xs : List Codes). keep_last 256 (xs ++ at ∷ [])) same;
      room = omega (arith, split, left_many, many, grown);
      more_capacity = p.1;
      rest_capacity = t.capacity ∙ s;
    }
pushed earlier spares left rest more codes at (inr t) many e s h =
    let p = push_all left more at (t.capacity ∙ e) h in
    let no_spare : length spares.items ≡ 0 = ap (λ (xs : List Codes). length xs) t.none in
    let no_rest : length rest.items ≡ length spares.items = ap (λ (b : Buffer Codes). length b.items) t.other in
    let first : length earlier.items ≡ length (codes ∷ left.items) = ap (λ (xs : List Codes). length xs) t.taken in
    let grown : length more.items ≡ length left.items + 1 = long_push left.items at (length left.items) more.items p.0 refl (omega (arith, first, no_spare, many)) in
    let full : length (left.items ++ at ∷ []) ≡ 256 = omega (arith, first, no_spare, many, length-push left.items at) in
    record {
      all = p.0 ∙ keep_next 256 codes (left.items ++ at ∷ []) full ∙ ap (λ (xs : List Codes). keep_last 256 (xs ++ at ∷ [])) (sym t.taken);
      room = omega (arith, first, no_spare, no_rest, many, grown);
      more_capacity = p.1;
      rest_capacity = ap (λ (b : Buffer Codes). b.capacity) t.other ∙ s;
    }

pub pushed_long : (n : ℕ) (b c : Buffer Codes) (x : Codes) → c ≡ buffer (keep_last b.capacity (b.items ++ x ∷ [])) b.capacity → HaveLength n b.items → length x ≡ n → HaveLength n c.items
pushed_long n b c x h p e = subst (HaveLength n) (sym (ap items h)) (have_drop n (length (b.items ++ x ∷ []) - b.capacity) (b.items ++ x ∷ []) (have_push n b.items x p e))

-- ---- and back

pub goes_back : (b c : Buffer Codes) (codes old new : Codes) (n m : ℕ) → Some codes ≡ last_item b.items → c ≡ buffer (take (length b.items - 1) b.items) b.capacity → new ≡ codes → n ≡ m + 1
    → GoesBack 1 (kept b.items old n) (kept c.items new m)
goes_back b c codes old new n m h e same number =
    record {
      taken = old ∷ [];
      many = refl;
      states = ap (λ (xs : List Codes). xs ++ old ∷ []) (popped b c codes h e ∙ ap (λ (x : Codes). c.items ++ x ∷ []) (sym same));
      number = number;
    }

pub record Returned (n : ℕ) (left more : Buffer Codes) : Type 0 where
  pub room : length left.items + length more.items ≡ 256
  pub left_capacity : left.capacity ≡ 256
  pub more_capacity : more.capacity ≡ 256
  pub left_long : HaveLength n left.items
  pub more_long : HaveLength n more.items

pub returned : (n : ℕ) (earlier spares left more : Buffer Codes) (codes at : Codes) → length earlier.items + length spares.items ≡ 256 → earlier.capacity ≡ 256 → spares.capacity ≡ 256
    → HaveLength n earlier.items → HaveLength n spares.items → Some codes ≡ last_item earlier.items → left ≡ buffer (take (length earlier.items - 1) earlier.items) earlier.capacity
    → more ≡ buffer (keep_last spares.capacity (spares.items ++ at ∷ [])) spares.capacity → length at ≡ n → Returned n left more
returned n earlier spares left more codes at many e s p q h f g long =
    let whole = popped earlier left codes h f in
    let split : length earlier.items ≡ length left.items + 1 = ap (λ (xs : List Codes). length xs) whole ∙ length-push left.items codes in
    let more_items = push_all spares more at s g in
    let grown : length more.items ≡ length spares.items + 1 = long_push spares.items at (length spares.items) more.items more_items.0 refl (omega (arith, split, many)) in
    record {
      room = omega (arith, split, many, grown);
      left_capacity = ap (λ (b : Buffer Codes). b.capacity) f ∙ e;
      more_capacity = more_items.1;
      left_long = (have_split n left.items codes (subst (HaveLength n) whole p)).0;
      more_long = pushed_long n spares more at g q long;
    }

pub back_none : (k : Kept) → GoesBack 0 k k
back_none k = record { taken = []; many = refl; states = sym (append-nil (states_of k)); number = omega arith }

pub back_more : (n : ℕ) (a b c : Kept) → GoesBack n a b → GoesBack 1 b c → GoesBack (n + 1) a c
back_more n a b c f g = record {
  taken = g.taken ++ f.taken;
  many = omega (arith, length-append g.taken f.taken, f.many, g.many);
  states = f.states ∙ ap (λ (xs : List Codes). xs ++ f.taken) g.states ∙ append_assoc (states_of c) g.taken f.taken;
  number = omega (arith, f.number, g.number);
}

pub back_left : (n count : ℕ) (a b : Kept) → GoesBack n a b → n < count → count ≤ length a.earlier → 0 < length b.earlier
back_left n count a b g less within =
    let long : length (states_of a) ≡ length (states_of b ++ g.taken) = ap (λ (xs : List Codes). length xs) g.states in
    omega (arith, long, g.many, length-append (states_of b) g.taken, length-push a.earlier a.at, length-push b.earlier b.at, less, within)

pub places : (spec : Data) (k : Kept) → IsSound spec → ∥ IsOfRun spec k ∥₁ → length k.at ≡ length spec.variables
places spec k sound r = (of_consistent spec k sound r).typed.one_each
